use Rattle.std.proofs.Common.{subst}
use Rattle.service_desk.specs.service_events.specs.declared.event.Arrival.{Arrival}
use Rattle.service_desk.specs.Calls.{Arrives, Finishes}
use Rattle.service_desk.specs.Places.{place}
use Rattle.connection_worker.specs.Serving.{world}
use Rattle.connection_worker.proofs.ReaderLemmas.{hands-one, hands-key, hands-refused, hands-late}
use Rattle.connection_worker.proofs.reading.hand_in.Goals as goal

-- the desk refused the request
pub returns-in-Err : goal.returns-in-Err
returns-in-Err g c =
    let told = g.D.Desk.told in
    let old = world told g.D.Desk.has_seen g.C.Clock.coming c.args.desk.now c.args.clock.now c.args.salts.now in
    let new = world told g.D.Desk.has_seen g.C.Clock.coming c.arrive.new.self c.now-now.new.self c.next.new.self in
    rw c.end_of.ensures
    (hands-refused c.args.request c.now-now.result c.next.result c.in-Err.refused old new c.in-Err.ensures.looked c.in-Err.ensures.cause c.now-now.ensures.first c.next.ensures.salt
    (λ i. record { key = c.next.ensures.key i; stream = c.next.ensures.stream i; place = c.next.ensures.place i }))

-- it gave no work
pub returns-in_default : goal.returns-in_default
returns-in_default g c =
    let told = g.D.Desk.told in
    let old = world told g.D.Desk.has_seen g.C.Clock.coming c.args.desk.now c.args.clock.now c.args.salts.now in
    let new = world told g.D.Desk.has_seen g.C.Clock.coming c.arrive.new.self c.now-now.new.self c.next.new.self in
    let arrival : Arrival = record { conn = old.told.conn; request = c.args.request; now = c.now-now.result; salt = c.next.result } in
    hands-one c.args.request c.now-now.result c.next.result old new
    (subst (λ work. Arrives (place told g.D.Desk.has_seen c.args.desk.now) (place told g.D.Desk.has_seen c.arrive.new.self) arrival work) c.in_default.is c.in-Ok.ensures.recorded)
    c.now-now.ensures.first c.next.ensures.salt (λ i. record { key = c.next.ensures.key i; stream = c.next.ensures.stream i; place = c.next.ensures.place i })

-- its key was recorded
pub returns-in-Ok-derived : goal.returns-in-Ok-derived
returns-in-Ok-derived g c =
    let told = g.D.Desk.told in
    let old = world told g.D.Desk.has_seen g.C.Clock.coming c.args.desk.now c.args.clock.now c.args.salts.now in
    let mid = place told g.D.Desk.has_seen c.arrive.new.self in
    let new = world told g.D.Desk.has_seen g.C.Clock.coming c.derived.new.self c.now-later.new.self c.next.new.self in
    let arrival : Arrival = record { conn = old.told.conn; request = c.args.request; now = c.now-now.result; salt = c.next.result } in
    hands-key c.args.request c.now-now.result c.now-later.result c.next.result c.in-Some.work (g.C.Clock.coming c.now-now.new.self) old mid new
    (subst (λ work. Arrives (place told g.D.Desk.has_seen c.args.desk.now) mid arrival work) c.in-Some.is c.in-Ok.ensures.recorded)
    (subst (λ done. Finishes mid (place told g.D.Desk.has_seen c.derived.new.self) (record { conn = mid.told.conn; done = done; now = c.now-later.result })) c.finish-done.ensures
    c.in-Ok-derived.ensures.recorded)
    c.now-now.ensures.first c.now-later.ensures.first c.next.ensures.salt (λ i. record { key = c.next.ensures.key i; stream = c.next.ensures.stream i; place = c.next.ensures.place i })

-- the desk refused its key
pub returns-in-Err-derived : goal.returns-in-Err-derived
returns-in-Err-derived g c =
    let told = g.D.Desk.told in
    let old = world told g.D.Desk.has_seen g.C.Clock.coming c.args.desk.now c.args.clock.now c.args.salts.now in
    let mid = place told g.D.Desk.has_seen c.arrive.new.self in
    let new = world told g.D.Desk.has_seen g.C.Clock.coming c.derived.new.self c.now-later.new.self c.next.new.self in
    let arrival : Arrival = record { conn = old.told.conn; request = c.args.request; now = c.now-now.result; salt = c.next.result } in
    rw c.end_of-in-Err-derived.ensures
    (hands-late c.args.request c.now-now.result c.now-later.result c.next.result c.in-Some.work c.in-Err-derived.refused (g.C.Clock.coming c.now-now.new.self) old mid new
    (subst (λ work. Arrives (place told g.D.Desk.has_seen c.args.desk.now) mid arrival work) c.in-Some.is c.in-Ok.ensures.recorded)
    c.in-Err-derived.ensures.looked c.in-Err-derived.ensures.cause
    c.now-now.ensures.first c.now-later.ensures.first c.next.ensures.salt (λ i. record { key = c.next.ensures.key i; stream = c.next.ensures.stream i; place = c.next.ensures.place i }))
