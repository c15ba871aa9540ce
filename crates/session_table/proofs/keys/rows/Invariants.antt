use Rattle.std.proofs.Common.{◌≡◌, map}
use Rattle.std.specs.Map.Iter.{deref}
use Rattle.session_table.specs.Keys.{row_of}
use Rattle.session_table.proofs.keys.rows.Given as goal

-- the pairs so far are rows
abbrev pub invariant-loop-key : goal.invariant-loop-key
invariant-loop-key l = l.rows.items ≡ map row_of (map deref l.yielded)
