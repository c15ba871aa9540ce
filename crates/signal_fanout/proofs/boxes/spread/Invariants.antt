use Rattle.std.proofs.Common.{◌≡◌, ◌++◌, map}
use Rattle.std.specs.Map.Iter.{deref_pair}
use Rattle.secret_calls.specs.declared.out.Out.TheVariants as kinds
use Rattle.signal_fanout.specs.Outboxes.{for_each}
use Rattle.signal_fanout.specs.Boxes.{row_of}
use Rattle.signal_fanout.proofs.boxes.spread.Given as goal

-- each connection so far gets the signal
abbrev pub invariant-loop-conn : goal.invariant-loop-conn
invariant-loop-conn l = l.outs.items ≡ l.fn.outs.items ++ for_each (kinds.Signal l.signal) (map row_of (map deref_pair l.yielded))
