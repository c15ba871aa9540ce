use Rattle.std.proofs.Common.{[], None, refl}
use Rattle.service_desk.specs.Places.{place}
use Rattle.service_desk.specs.service_events.specs.Single.{TimedRequest}
use Rattle.connection_worker.proofs.ServingLemmas.{has-arrived, has-asked, has-work, spent-before}
use Rattle.connection_worker.proofs.serving.ask.Goals as goal

-- the request was recorded
pub returns-in-Ok : goal.returns-in-Ok
returns-in-Ok g c =
    let desk = g.D.Desk in
    let old = place desk.told desk.has_seen c.args.desk.now in
    let new = place desk.told desk.has_seen c.arrive.new.self in
    let asked : TimedRequest = record { request = c.args.request; now = c.now-now.result; salt = c.next.result; fates = c.in-Ok.ensures.recorded.fates; key = None } in (
      asked,
      record { same = refl; keyless = refl },
      has-arrived old new _ _ _ c.next.new.self asked c.in-Ok.work c.requires.alone c.in-Ok.ensures.recorded.recorded c.now-now.ensures.first c.next.ensures.salt
          (λ i. record { key = c.next.ensures.key i; stream = c.next.ensures.stream i; place = c.next.ensures.place i }),
      has-work old new asked c.in-Ok.work c.requires.alone c.in-Ok.ensures.recorded.recorded,
    )

-- all events that can be counted were recorded
pub returns-in-Err-EventsSpent : goal.returns-in-Err-EventsSpent
returns-in-Err-EventsSpent g c =
    let desk = g.D.Desk in
    let old = place desk.told desk.has_seen c.args.desk.now in
    let new = place desk.told desk.has_seen c.arrive.new.self in (
      record { request = c.args.request; now = c.now-now.result; salt = c.next.result; fates = []; key = None },
      record { same = refl; keyless = refl },
      has-asked old new _ _ _ c.next.new.self _ c.requires.alone c.in-Err-EventsSpent.ensures.looked c.now-now.ensures.first c.next.ensures.salt
          (λ i. record { key = c.next.ensures.key i; stream = c.next.ensures.stream i; place = c.next.ensures.place i }),
      spent-before old new c.requires.alone c.in-Err-EventsSpent.ensures.looked (rw c.in-Err-EventsSpent.field-0-is at c.in-Err-EventsSpent.ensures.cause),
    )

-- there was no memory for it
pub returns-in-Err-OutOfMemory : goal.returns-in-Err-OutOfMemory
returns-in-Err-OutOfMemory g c =
    let desk = g.D.Desk in
    let old = place desk.told desk.has_seen c.args.desk.now in
    let new = place desk.told desk.has_seen c.arrive.new.self in (
      record { request = c.args.request; now = c.now-now.result; salt = c.next.result; fates = []; key = None },
      record { same = refl; keyless = refl },
      has-asked old new _ _ _ c.next.new.self _ c.requires.alone c.in-Err-OutOfMemory.ensures.looked c.now-now.ensures.first c.next.ensures.salt
          (λ i. record { key = c.next.ensures.key i; stream = c.next.ensures.stream i; place = c.next.ensures.place i }),
    )
