use Rattle.std.proofs.Common.{◌≡◌, ℕ, ◌+◌, sym, ◌∙◌, ap, subst}
use Rattle.rand_chacha.specs.ChaCha.{key_of}
use Rattle.kr_base.specs.declared.ids.ConnId.{ConnId}
use Rattle.dbus_auth.specs.Exchange.{Exchange}
use Rattle.lone_desk.specs.service_tables.specs.State.{State}
use Rattle.lone_desk.specs.service_events.specs.declared.event.Event.TheVariants as event
use Rattle.lone_desk.specs.service_tables.specs.Opened.{Contents, contents_of, opened_state}
use Rattle.lone_desk.specs.service_events.specs.Step.{step, Fits}
use Rattle.lone_desk.specs.service_history.specs.History.{History}
use Rattle.lone_desk.specs.service_history.specs.Windows.{total}
use Rattle.lone_desk.specs.Lone.{told, has_seen}
use Rattle.service_hub.specs.connection_worker.specs.OneThread.{IsServed}
use Rattle.service_hub.specs.connection_worker.specs.Salts.{Salting}
use Rattle.service_hub.specs.connection_worker.specs.Serving.{world}
use Rattle.service_hub.specs.connection_worker.specs.Streams.{input_of, output_of}
use Rattle.keyring_program.specs.Events.{the_connection, joined}
use Rattle.keyring_program.specs.ServerNumber.{guid}
use Rattle.keyring_program.proofs.ServeLemmas.{first-connection, serves, serves-none}
use Rattle.keyring_program.proofs.connection.serve_client.Goals as goal

-- the desk is over a new service, which its connection joined
pub returns : goal.returns
returns g c =
    let desk = c.in-Ok.desk in
    let from = input_of g.I.Source.left g.I.Source.faults g.I.Source.is_steady g.I.Source.is_closed c.args.input.now in
    let to = input_of g.I.Source.left g.I.Source.faults g.I.Source.is_steady g.I.Source.is_closed c.one_thread-end.new.input in
    let sink = output_of g.O.Sink.written g.O.Sink.faults g.O.Sink.is_steady g.O.Sink.is_closed c.args.output.now in
    let behind = output_of g.O.Sink.written g.O.Sink.faults g.O.Sink.is_steady g.O.Sink.is_closed c.one_thread-end.new.output in
    let known = told g.F.Folder.is_steady g.F.Cell.Slot.is_steady in
    let old = world known has_seen g.C.Clock.coming desk c.args.clock.now c.new-salts.result in
    let new = world known has_seen g.C.Clock.coming c.one_thread-end.new.desk c.one_thread-end.new.clock c.one_thread-end.new.salts in
    let contents : Contents = contents_of c.args.service.history.state in
    let fits : Fits (opened_state contents) (event.Connect desk.conn) = subst (λ (s : State). Fits s (event.Connect desk.conn)) c.requires.starts c.in-Ok.ensures.fits in
    let conn = first-connection contents desk.conn fits in
    let state : desk.service.history.state ≡ joined contents =
    c.in-Ok.ensures.joined ∙ ap (λ (s : State). step s (event.Connect desk.conn)) c.requires.starts ∙ ap (λ d. step (opened_state contents) (event.Connect d)) conn in
    let count : total desk.service.history.window ≡ 1 = c.in-Ok.ensures.count ∙ ap (λ (h : History). total h.window + 1) c.requires.history in
    let number : c.conn.result.0 ≡ the_connection.0 = ap (λ (d : ConnId). d.0) (c.conn.ensures ∙ conn) in
    let start : ℕ → Salting = λ stream. record { key = key_of c.args.seed; stream = stream; place = 0 } in
    let salting = c.new-salts.ensures ∙ ap start number in
    let uid = ap (λ (e : Exchange). e.uid) c.new-auth.ensures in
    let name = ap (λ (e : Exchange). e.guid) c.new-auth.ensures ∙ c.guid_of.ensures in
    let served = subst (λ u. IsServed u (guid c.args.seed) from to sink behind old new c.one_thread-end.result) uid
    (subst (λ n. IsServed c.new-auth.result.uid n from to sink behind old new c.one_thread-end.result) name c.one_thread-end.ensures) in
    rw (c.of_end.ensures, sym c.in-Ok.ensures.disk) (serves contents c.args.uid c.args.seed from to sink behind old new c.one_thread-end.result c.requires.sound conn state count salting served)

-- there was no memory for the joining
pub returns-in-Err-OutOfMemory : goal.returns-in-Err-OutOfMemory
returns-in-Err-OutOfMemory g c =
    serves-none (contents_of c.args.service.history.state) c.args.uid c.args.seed (g.C.Clock.coming c.args.clock.now) (input_of g.I.Source.left g.I.Source.faults g.I.Source.is_steady g.I.Source.is_closed c.args.input.now)
    (output_of g.O.Sink.written g.O.Sink.faults g.O.Sink.is_steady g.O.Sink.is_closed c.args.output.now) _ c.requires.sound
