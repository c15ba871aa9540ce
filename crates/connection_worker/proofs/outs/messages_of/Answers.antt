use Rattle.std.proofs.Common.{take}
use Rattle.std.proofs.lemmas.List.{take_more}
use Rattle.connection_worker.proofs.SendingLemmas.{spells-push}
use Rattle.connection_worker.proofs.outs.messages_of.Goals as goal

-- one more output is written as its message
pub loop-out-preserved : goal.loop-out-preserved
loop-out-preserved c =
    rw (c.in-Ok-joined.ensures, take_more c.args.outs.now c.loop-out.out-index c.out-item.result c.loop-out-test.true, ← c.out-item.is)
    (spells-push (take c.loop-out.out-index c.args.outs.now) c.out-item.result c.args.serials.now c.loop-out.serials c.next.new.self c.next.result c.loop-out.bytes.items _
    c.loop-out.invariant c.next.ensures.serial c.next.ensures.taken c.in-Ok.ensures)
