use Rattle.std.proofs.Common.{sym}
use Rattle.daemon.specs.Jobs.{Serves}
use Rattle.daemon.proofs.FinishLemmas.{finishes}
use Rattle.daemon.proofs.spawner.Spawner.finish.Goals as goal

-- the first of the jobs is the oldest one
pub returns : goal.returns
returns g c =
    let reader = g.A.Desk in
    let writer = g.B.Desk in
    let source = g.I.Source in
    let sink = g.O.Sink in
    finishes (Serves reader.told reader.has_seen writer.told writer.has_seen g.C.Clock.coming source.left source.faults source.is_steady source.is_closed sink.written sink.faults sink.is_steady sink.is_closed)
    c.args.self.now c.self.inside.started.items c.pop_front.new.self.items c.self.inside.faults c.self.inside.unstarted c.in_ok-started.started c.finish.result
    (sym c.self.view_is) c.in_ok-started.ensures.items c.finish.ensures
