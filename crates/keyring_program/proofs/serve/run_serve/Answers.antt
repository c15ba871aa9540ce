use Rattle.std.proofs.Common.{Err, inl, inr, refl, sym, ◌∙◌, ap, subst}
use Rattle.kr_outside.specs.Faults.{Rose}
use Rattle.keyring_program.proofs.DoorLemmas.{never-rises, loop-complete, loop-done, loop-fault, loop-folder, loop-status}
use Rattle.lone_desk.specs.service_tables.specs.Opened.{contents_of}
use Rattle.keyring_program.proofs.FolderLemmas.{is-opened}
use Rattle.keyring_program.proofs.LinksLemmas.{first-pass, serves-door}
use Rattle.keyring_program.proofs.serve.run_serve.Goals as goal

-- the socket couldn't be made
pub returns-in-Err-Failed-clause-listen_fault : goal.returns-in-Err-Failed-clause-listen_fault
returns-in-Err-Failed-clause-listen_fault g c same =
    inl (subst (λ count. Rose count (g.H.Host.faults c.listen.new.self)) (c.clock-clock.ensures.count ∙ c.in-Ok.ensures.still) (c.in-Err-Failed.ensures.cause.failed (ap Err c.in-Err-Failed.field-0-is)))

pub returns-in-Err-Failed-clause-opened : goal.returns-in-Err-Failed-clause-opened
returns-in-Err-Failed-clause-opened g c images honest told had = is-opened images _ _ (c.in-Ok.ensures.opened images honest told).opened

-- the loop over its links ended: over a steady host its door is steady, and its count doesn't rise
pub returns-clause-listen_fault : goal.returns-clause-listen_fault
returns-clause-listen_fault g c same =
    inr (λ steady.
    let here = c.clock-clock.ensures.steady ∙ c.in-Ok.ensures.steady.same ∙ steady in
    never-rises _ _ _ _ c.serve_links-served.ensures.steady (g.met.H.Door.Listener.steady_below c.in-Ok-listen.door) (c.in-Ok-listen.ensures.steady_door here)
    (loop-fault c.serve_links-served.result.end _ _ _ _ _ c.serve_links-served.ensures.why (sym c.of_loop.ensures ∙ same)))

pub returns-clause-status : goal.returns-clause-status
returns-clause-status g c = rw c.of_loop.ensures (loop-status c.serve_links-served.result.end)

pub returns-clause-done : goal.returns-clause-done
returns-clause-done g c done =
    record {
      given = g.H.Door.Listener.given c.serve_links-served.new.listener;
      has_ended = g.H.Door.Listener.has_ended c.serve_links-served.new.listener;
      back = rw (sym (c.in-Ok-listen.ensures.shut_doors ∙ (c.clock-clock.ensures.shut_doors ∙ c.open_service.ensures.doors)), sym (c.serve_links-served.ensures.address ∙ c.in-Ok-listen.ensures.address)) c.shut.ensures.shut_doors;
      served = loop-done c.serve_links-served.result.end _ _ _ _ _ c.serve_links-served.ensures.why (sym c.of_loop.ensures ∙ done);
    }

pub returns-clause-one_door : goal.returns-clause-one_door
returns-clause-one_door g c =
    let listener = g.H.Door.Listener in
    let door = c.serve_links-served.new.listener in
    inr (listener.address door, listener.given door, listener.has_ended door, rw (sym (c.in-Ok-listen.ensures.shut_doors ∙ (c.clock-clock.ensures.shut_doors ∙ c.open_service.ensures.doors))) c.shut.ensures.shut_doors)

pub returns-clause-folder_fault : goal.returns-clause-folder_fault
returns-clause-folder_fault g c same = absurd (loop-folder c.serve_links-served.result.end (sym c.of_loop.ensures ∙ same))

pub returns-clause-unserved : goal.returns-clause-unserved
returns-clause-unserved g c same = absurd (loop-folder c.serve_links-served.result.end (sym c.of_loop.ensures ∙ same))

pub returns-clause-complete : goal.returns-clause-complete
returns-clause-complete g c steady =
    let here = c.clock-clock.ensures.steady ∙ c.in-Ok.ensures.steady.same ∙ steady in
    rw c.of_loop.ensures (loop-complete c.serve_links-served.result.end _ _ _ _ _ c.serve_links-served.ensures.why
    (never-rises _ _ _ _ c.serve_links-served.ensures.steady (g.met.H.Door.Listener.steady_below c.in-Ok-listen.door) (c.in-Ok-listen.ensures.steady_door here)))

pub returns-clause-opened : goal.returns-clause-opened
returns-clause-opened g c images honest told had = is-opened images _ _ (c.in-Ok.ensures.opened images honest told).opened

-- it ended before the door was open
pub returns-in-Err-Folder-clause-served : goal.returns-in-Err-Folder-clause-served
returns-in-Err-Folder-clause-served g c = inl (record { unserved = tt; doors = c.open_service.ensures.doors; jobs = refl })

pub returns-in-Err-OutOfMemory-clause-served : goal.returns-in-Err-OutOfMemory-clause-served
returns-in-Err-OutOfMemory-clause-served g c = inl (record { unserved = tt; doors = c.open_service.ensures.doors; jobs = refl })

pub returns-in_default-clause-served : goal.returns-in_default-clause-served
returns-in_default-clause-served g c = inl (record { unserved = tt; doors = c.clock-clock.ensures.shut_doors ∙ c.open_service.ensures.doors; jobs = refl })

pub returns-in-Err-Failed-clause-served : goal.returns-in-Err-Failed-clause-served
returns-in-Err-Failed-clause-served g c =
    inl (record { unserved = tt; doors = c.listen.ensures.shut_doors ∙ (c.clock-clock.ensures.shut_doors ∙ c.open_service.ensures.doors); jobs = refl })

pub returns-in-Err-OutOfMemory-listen-clause-served : goal.returns-in-Err-OutOfMemory-listen-clause-served
returns-in-Err-OutOfMemory-listen-clause-served g c =
    inl (record { unserved = tt; doors = c.listen.ensures.shut_doors ∙ (c.clock-clock.ensures.shut_doors ∙ c.open_service.ensures.doors); jobs = refl })

-- the links of the door were served
pub returns-clause-served : goal.returns-clause-served
returns-clause-served g c =
    let source = g.H.Door.In.Source in
    let sink = g.H.Door.Out.Sink in
    let listener = g.H.Door.Listener in
    let start = c.in-Ok.service.history in
    let hub = c.in-Ok-hub_over.hub in
    let made = c.in-Ok-hub_over.ensures in
    let served = c.serve_links-served in
    inr (
      contents_of start.state,
      λ images honest told. c.in-Ok.ensures.opened images honest told,
      serves-door source.left source.faults source.is_steady source.is_closed sink.written sink.faults sink.is_steady sink.is_closed
          c.args.uid hub.uid hub.guid c.args.seed hub.seed c.args.socket.now hub.pass hub.refused (listener.given c.in-Ok-listen.door) (g.H.Host.is_steady c.args.host.now) (contents_of start.state) c.args.connections
          c.args.spawner.now served.new.spawner (listener.coming c.in-Ok-listen.door) (listener.coming served.new.listener) served.result.refused (listener.given served.new.listener)
          (listener.faults c.in-Ok-listen.door) (listener.faults served.new.listener) (listener.has_ended served.new.listener) served.result.end served.result.service.history
          (g.H.Host.shut_doors c.args.host.now) (g.H.Host.shut_doors c.shut.new.self) _
          c.in-Ok.ensures.sound served.ensures.served made.uid made.guid made.seed
          (first-pass hub.pass _ start (g.H.Host.is_steady c.args.host.now) made.pass c.in-Ok.ensures.history c.in-Ok.ensures.starts c.in-Ok.ensures.steady_disk)
          made.refused c.in-Ok-listen.ensures.none_given
          (rw (sym (c.in-Ok-listen.ensures.shut_doors ∙ (c.clock-clock.ensures.shut_doors ∙ c.open_service.ensures.doors)), sym (served.ensures.address ∙ c.in-Ok-listen.ensures.address)) c.shut.ensures.shut_doors)
          c.of_loop.ensures,
    )
