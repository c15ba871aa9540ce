use Rattle.std.proofs.Common.{◌≡◌, map}
use Rattle.std.specs.Map.Iter.{deref_pair}
use Rattle.signal_fanout.specs.Boxes.{row_of}
use Rattle.signal_fanout.proofs.boxes.rows.Given as goal

-- the entries so far are rows
abbrev pub invariant-loop-conn : goal.invariant-loop-conn
invariant-loop-conn l = l.rows.items ≡ map row_of (map deref_pair l.yielded)
