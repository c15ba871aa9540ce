-- What is found in the rows that are left is found in all.
use Rattle.std.proofs.Common.{◌≡◌, drop}
use Rattle.std.specs.List.{find}
use Rattle.call_wire.specs.Properties.{is_row_of}
use Rattle.call_wire.proofs.properties.first_of.Given as goal

abbrev pub invariant-loop-row : goal.invariant-loop-row
invariant-loop-row l = find (is_row_of l.name) (drop l.row-index l.rows) ≡ find (is_row_of l.name) l.rows
