use Rattle.daemon.proofs.AcceptLemmas.{is-job}
use Rattle.daemon.proofs.accepting.join_link.Goals as goal

-- the job is of the connection that joined
pub returns-clause-made : goal.returns-clause-made
returns-clause-made g c =
    let reader = g.U.Reader.Desk in
    let writer = g.U.Writer.Desk in
    let hub = g.U.Hub in
    let old = c.args.hub.now in
    let joined = c.join.new.self in
    is-job reader.told reader.has_seen writer.told writer.has_seen (hub.uid old) (hub.uid joined) (hub.guid old) (hub.guid joined) (hub.seed old) (hub.seed joined) (hub.home old) (hub.home joined)
    c.in-Ok.joined.0 c.parts-auth.result.0 c.parts-auth.result.2 c.parts-auth.result.1 c.in-Ok.joined.1 c.in-Ok.joined.2 c.args.link.input c.args.link.output (hub.view old) (hub.view joined) (hub.view c.parts-auth.new.self)
    c.in-Ok.ensures.joined c.in-Ok.ensures.reader c.in-Ok.ensures.writer c.parts-auth.ensures.auth c.parts-auth.ensures.salts c.in-Ok.ensures.uid c.in-Ok.ensures.guid c.in-Ok.ensures.seed c.in-Ok.ensures.home c.parts-auth.ensures.view
