use Rattle.std.proofs.Common.{ap, arith, length}
use Rattle.daemon.specs.Jobs.{Serves}
use Rattle.daemon.proofs.FinishLemmas.{none-finished, one-finished}
use Rattle.daemon.proofs.accepting.finish_all.Goals as goal

pub loop-served-init : goal.loop-served-init
loop-served-init g c =
    let reader = g.U.Reader.Desk in
    let writer = g.U.Writer.Desk in
    let source = g.L.In.Source in
    let sink = g.L.Out.Sink in
    (none-finished (Serves reader.told reader.has_seen writer.told writer.has_seen g.U.Time.Clock.coming source.left source.faults source.is_steady source.is_closed sink.written sink.faults sink.is_steady sink.is_closed) c.args.spawner.now c.args.done.now.items, c.requires.room)

pub loop-served-preserved : goal.loop-served-preserved
loop-served-preserved g c =
    let reader = g.U.Reader.Desk in
    let writer = g.U.Writer.Desk in
    let source = g.L.In.Source in
    let sink = g.L.Out.Sink in
    let room = c.loop-served.invariant.1 in
    let fewer = ap (λ s. length s.started) c.in-Some.ensures.1 in
    let pushed = c.push_reserved.ensures in (
      rw pushed.items (one-finished (Serves reader.told reader.has_seen writer.told writer.has_seen g.U.Time.Clock.coming source.left source.faults source.is_steady source.is_closed sink.written sink.faults sink.is_steady sink.is_closed) c.args.spawner.now c.loop-served.spawner c.finish.new.self c.args.done.now.items c.loop-served.done.items c.in-Some.served
          c.loop-served.invariant.0 c.in-Some.ensures),
      (let len = pushed.len in let capacity = pushed.capacity in omega arith),
    )
