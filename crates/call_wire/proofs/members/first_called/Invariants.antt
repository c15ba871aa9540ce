-- What is found in the rows that are left is found in all.
use Rattle.std.proofs.Common.{◌≡◌, drop, map}
use Rattle.std.specs.List.{find}
use Rattle.call_wire.specs.Members.{seen, is_called}
use Rattle.call_wire.proofs.members.first_called.Given as goal

abbrev pub invariant-loop-row : goal.invariant-loop-row
invariant-loop-row l = find (is_called l.object l.interface l.member) (map seen (drop l.row-index l.rows)) ≡ find (is_called l.object l.interface l.member) (map seen l.rows)
