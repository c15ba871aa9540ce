use Rattle.std.proofs.Common.{take}
use Rattle.connection_worker.specs.Sending.{Spells}
use Rattle.connection_worker.proofs.outs.messages_of.Given as goal

-- the first outputs are written as messages
abbrev pub invariant-loop-out : goal.invariant-loop-out
invariant-loop-out l = Spells (take l.out-index l.outs) l.fn.serials l.serials l.bytes.items
