use Rattle.std.proofs.Common.{◌≡◌, take}
use Rattle.signal_fanout.proofs.outbox.copies.Given as goal

abbrev pub invariant-loop-out : goal.invariant-loop-out
invariant-loop-out l = l.copied.items ≡ take l.out-index l.outs
