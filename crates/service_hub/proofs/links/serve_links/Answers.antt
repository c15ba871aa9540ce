use Rattle.std.proofs.Common.{◌≡◌, ◌≤◌, refl, sym, ◌∙◌, ap, subst, arith}
use denote.Param.Send.{sendable}
use Rattle.kr_outside.specs.Faults.{last_count}
use Rattle.atomic_table.specs.Seated.{TableId}
use Rattle.shared_service.specs.service_desk.specs.Places.{Home}
use Rattle.shared_service.specs.shared_turn.specs.Shares.{one, without}
use Rattle.shared_service.specs.Passes.{Seen}
use Rattle.daemon.specs.Accepts.{risen, listening}
use Rattle.service_hub.specs.Links.{desk_told, desk_seen}
use Rattle.service_hub.specs.Lending.{of_desk, missing_in}
use Rattle.service_hub.proofs.GatherLemmas.{same-home, of-home}
use Rattle.service_hub.proofs.HomeLemmas.{results-home}
use Rattle.service_hub.proofs.LoopLemmas.{loop-cause}
use Rattle.service_hub.proofs.ServesLemmas.{serves-links}
use Rattle.service_hub.proofs.Sends.SharedService.{SharedDesk-send}
use Rattle.service_hub.proofs.links.serve_links.Goals as goal

-- the listener's count of links is that of the rounds
pub returns-clause-why : goal.returns-clause-why
returns-clause-why g c =
    let all = c.accept_loop-end.ensures.accepts in
    let few = subst (λ count. count ≤ last_count) (sym c.requires.fresh) (omega arith) in
    loop-cause c.accept_loop-end.result c.args.most _ _ _ _ _ all.why (all.given few ∙ ap (risen _) c.requires.fresh) c.has_64_bits.ensures

-- the note of the hub's pass is of the service that the hub handed out
pub gather-requires-clause-table : goal.gather-requires-clause-table
gather-requires-clause-table g c =
    let noted = ap (λ (s : Seen). s.home.table) c.note-last.ensures.noted in
    let kept = ap (λ (s : Seen). s.home.table) c.note-last.ensures.pass in
    let home : c.accept_loop-end.new.hub.pass.home.table ≡ c.note-last.new.self.pass.home.table = ap (λ (h : Home). h.table) (same-home _ _ c.accept_loop-end.ensures.hub.same_home) in
    let handed = ap (λ (s : Seen). s.home.table) c.into_parts-service.ensures.pass in
    let service = c.into_parts-service.ensures.service in
    let shared = c.deref.ensures in
    cc

pub gather-requires-clause-other_table : goal.gather-requires-clause-other_table
gather-requires-clause-other_table g c =
    let service = c.into_parts-service.ensures.service in
    let shared = c.deref.ensures in
    cc

pub gather_all-requires-clause-table : goal.gather_all-requires-clause-table
gather_all-requires-clause-table g c =
    let noted = ap (λ (s : Seen). s.home.table) c.note-last.ensures.noted in
    let kept = ap (λ (s : Seen). s.home.table) c.note-last.ensures.pass in
    let home : c.accept_loop-end.new.hub.pass.home.table ≡ c.note-last.new.self.pass.home.table = ap (λ (h : Home). h.table) (same-home _ _ c.accept_loop-end.ensures.hub.same_home) in
    let handed = ap (λ (s : Seen). s.home.table) c.into_parts-service.ensures.pass in
    let service = c.into_parts-service.ensures.service in
    let met = ap (λ (s : Seen). s.home.table) c.gather.ensures.is in
    let shared = c.deref-2.ensures in
    cc

-- and so are all desks
pub gather_all-requires-clause-of_it : goal.gather_all-requires-clause-of_it
gather_all-requires-clause-of_it g c =
    let source = g.L.In.Source in
    let sink = g.L.Out.Sink in
    let all = c.accept_loop-end.ensures.accepts in
    let home : c.accept_loop-end.new.hub.pass.home.table ≡ c.note-last.new.self.pass.home.table = ap (λ (h : Home). h.table) (same-home _ _ c.accept_loop-end.ensures.hub.same_home) in
    let handed = ap (λ (s : Seen). s.home.table) c.into_parts-service.ensures.pass in
    let noted = ap (λ (s : Seen). s.home.table) c.note-last.ensures.noted in
    let kept = ap (λ (s : Seen). s.home.table) c.note-last.ensures.pass in
    let met = ap (λ (s : Seen). s.home.table) c.gather.ensures.is in
    let table : c.note-last.new.self.pass.home.table ≡ c.gather.new.pass.home.table = cc in
    of-home (of_desk c.note-last.new.self.pass.home) (of_desk c.gather.new.pass.home) c.accept_loop-end.new.done.items
    (rw (all.appended, c.new-done.ensures.items) (results-home desk_told desk_seen desk_told desk_seen _ source.left source.faults source.is_steady source.is_closed sink.written sink.faults sink.is_steady sink.is_closed
    _ _ _ _ _ all.last all.rounds all.results all.run c.requires.idle all.served)) (ap (λ (t : TableId). record { table = t; share = one }) table)

pub close-requires : goal.close-requires
close-requires g c =
    let noted = ap (λ (s : Seen). s.home.table) c.note-last.ensures.noted in
    let kept = ap (λ (s : Seen). s.home.table) c.note-last.ensures.pass in
    let home : c.accept_loop-end.new.hub.pass.home.table ≡ c.note-last.new.self.pass.home.table = ap (λ (h : Home). h.table) (same-home _ _ c.accept_loop-end.ensures.hub.same_home) in
    let handed = ap (λ (s : Seen). s.home.table) c.into_parts-service.ensures.pass in
    let service = c.into_parts-service.ensures.service in
    let met = ap (λ (s : Seen). s.home.table) c.gather.ensures.is in
    let more = c.gather_all.ensures.began.table in
    let shared = c.deref-3.ensures in
    record { table = cc }

-- its disk is as steady as before
pub returns-clause-steady_disk : goal.returns-clause-steady_disk
returns-clause-steady_disk g c =
    c.close.ensures.steady ∙ (c.gather_all.ensures.began.steady ∙ (ap (λ (s : Seen). s.steady) c.gather.ensures.is ∙ ap (λ (s : Seen). s.steady) c.note-last.ensures.noted))

-- each link, and the history of all connections
pub returns-clause-served : goal.returns-clause-served
returns-clause-served g c =
    let source = g.L.In.Source in
    let sink = g.L.Out.Sink in
    let listener = g.L.Listener in
    let note = c.note-last in
    let parts = c.into_parts-service in
    let looped = c.accept_loop-end in
    let finished = looped.ensures.accepts.finished in
    let noted = ap (λ (s : Seen). s.home.table) note.ensures.noted in
    let kept = ap (λ (s : Seen). s.home.table) note.ensures.pass in
    let home : looped.new.hub.pass.home.table ≡ note.new.self.pass.home.table = ap (λ (h : Home). h.table) (same-home _ _ looped.ensures.hub.same_home) in
    let handed = ap (λ (s : Seen). s.home.table) parts.ensures.pass in
    let table : parts.result.1.home.table ≡ note.result.home.table = cc in
    let lent : missing_in note.new.self.pass.home.share ≡ 1 = ap (λ (s : Seen). missing_in s.home.share) note.ensures.pass ∙ ap (λ s. missing_in (without 1 s)) c.requires.whole in
    serves-links source.left source.faults source.is_steady source.is_closed sink.written sink.faults sink.is_steady sink.is_closed c.args.most c.args.spawner.now.started c.args.spawner.now.unstarted looped.new.spawner.unstarted
    (listening listener.coming listener.given c.args.listener.now) (listening listener.coming listener.given looped.new.listener) (listener.faults c.args.listener.now) (listener.faults looped.new.listener) (listener.has_ended looped.new.listener)
    looped.result looped.new.done.items c.args.hub.pass
    (record { uid = note.new.self.uid; guid = note.new.self.guid; seed = note.new.self.seed; view = note.new.self.pass.view; home = of_desk note.new.self.pass.home; lent = missing_in note.new.self.pass.home.share; refused = note.new.self.refused; hub = looped.new.hub.pass; unjoined = looped.new.hub.refused; started = looped.new.spawner.started; done = c.new-done.result.items })
    (record { uid = c.args.hub.uid; guid = c.args.hub.guid; seed = c.args.hub.seed; view = c.args.hub.pass.view; home = of_desk c.args.hub.pass.home; lent = 1; refused = c.args.hub.refused; hub = parts.result.1; unjoined = parts.result.2; started = looped.new.spawner.started; done = c.new-done.result.items })
    note.result c.gather.new.pass c.gather_all.new.pass c.close.result.history
    looped.ensures.accepts
    (λ i. record { uid = note.ensures.uid i; guid = note.ensures.guid i; seed = note.ensures.seed i; view = (note.ensures.pass i).view; home = of_desk (note.ensures.pass i).home; lent = lent i; refused = note.ensures.count i; hub = sym parts.ensures.pass i; unjoined = sym parts.ensures.refused i; started = looped.new.spawner.started; done = c.new-done.result.items })
    refl refl refl c.requires.idle (ap (λ w. w.standing.started) finished) c.new-done.ensures.items
    (note.ensures.noted) table parts.ensures.first c.gather.ensures c.gather_all.ensures c.has_seen_a_history.ensures c.close.ensures.whole

-- a desk may go to another thread
pub accept_loop-end-requires-send-U-Reader : goal.accept_loop-end-requires-send-U-Reader
accept_loop-end-requires-send-U-Reader g c κs within = search (SharedDesk-send, c.type_bounds, sendable) depth 40 fits 20000

pub accept_loop-end-requires-send-U-Writer : goal.accept_loop-end-requires-send-U-Writer
accept_loop-end-requires-send-U-Writer g c κs within = search (SharedDesk-send, c.type_bounds, sendable) depth 40 fits 20000
