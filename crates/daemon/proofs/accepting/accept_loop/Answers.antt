use Rattle.std.proofs.Common.{refl}
use Rattle.daemon.specs.Accepts.{standing, listening}
use Rattle.daemon.specs.Jobs.{Serves}
use Rattle.daemon.proofs.AcceptLemmas.{accepts, world-finished}
use Rattle.daemon.proofs.accepting.accept_loop.Goals as goal

-- the links were accepted, and then all jobs finished
pub returns-clause-accepts : goal.returns-clause-accepts
returns-clause-accepts g c =
    let reader = g.U.Reader.Desk in
    let writer = g.U.Writer.Desk in
    let source = g.L.In.Source in
    let sink = g.L.Out.Sink in
    let hub = g.U.Hub in
    let listener = g.L.Listener in
    let linked = c.accept_links-end in
    let finished = c.finish_all in
    accepts reader.told reader.has_seen writer.told writer.has_seen
    source.left source.faults source.is_steady source.is_closed sink.written sink.faults sink.is_steady sink.is_closed
    (hub.uid c.args.hub.now) (hub.guid c.args.hub.now) (hub.seed c.args.hub.now) (hub.home c.args.hub.now)
    (Serves reader.told reader.has_seen writer.told writer.has_seen g.U.Time.Clock.coming source.left source.faults source.is_steady source.is_closed sink.written sink.faults sink.is_steady sink.is_closed)
    c.args.most (record { standing = standing hub.view hub.lent hub.refused c.args.hub.now c.args.spawner.now; listening = listening listener.coming listener.given c.args.listener.now })
    (record { standing = standing hub.view hub.lent hub.refused linked.new.hub linked.new.spawner; listening = listening listener.coming listener.given linked.new.listener })
    (record { standing = standing hub.view hub.lent hub.refused linked.new.hub finished.new.spawner; listening = listening listener.coming listener.given linked.new.listener })
    (listener.faults c.args.listener.now) (listener.faults linked.new.listener) (listener.has_ended linked.new.listener) linked.result
    c.args.done.now.items linked.new.done.items finished.new.done.items linked.new.spawner finished.new.spawner
    linked.ensures.accepts c.requires.idle linked.ensures.done finished.ensures refl
    (world-finished (hub.view linked.new.hub) (hub.lent linked.new.hub) (hub.refused linked.new.hub) (listening listener.coming listener.given linked.new.listener) linked.new.spawner finished.new.spawner
    finished.ensures.finished)
