use Rattle.std.proofs.Common.{subst}
use Rattle.service_desk.specs.secret_calls.specs.Works.{finished}
use Rattle.service_desk.specs.Calls.{Finishes}
use Rattle.service_desk.specs.Places.{place}
use Rattle.connection_worker.proofs.ServingLemmas.{has-brought, has-lost, key_in, spent-before}
use Rattle.connection_worker.proofs.serving.bring.Goals as goal

-- the key was recorded
pub returns-in-Ok : goal.returns-in-Ok
returns-in-Ok g c salting =
    let desk = g.D.Desk in
    let old = place desk.told desk.has_seen c.args.desk.now in
    let new = place desk.told desk.has_seen c.derived.new.self in
    let so : Finishes old new (record { conn = old.told.conn; done = finished c.args.work; now = c.now-now.result }) =
    subst (λ done. Finishes old new (record { conn = old.told.conn; done = done; now = c.now-now.result })) c.finish-done.ensures c.in-Ok.ensures.recorded in
    (key_in so.came, has-brought old new _ _ salting c.args.work c.now-now.result c.requires.alone so c.now-now.ensures.first)

-- all events that can be counted were recorded
pub returns-in-Err-EventsSpent : goal.returns-in-Err-EventsSpent
returns-in-Err-EventsSpent g c salting =
    let desk = g.D.Desk in
    let old = place desk.told desk.has_seen c.args.desk.now in
    let new = place desk.told desk.has_seen c.derived.new.self in (
      c.now-now.result,
      has-lost old new _ _ salting c.now-now.result c.requires.alone c.in-Err-EventsSpent.ensures.looked c.now-now.ensures.first,
      spent-before old new c.requires.alone c.in-Err-EventsSpent.ensures.looked (rw c.in-Err-EventsSpent.field-0-is at c.in-Err-EventsSpent.ensures.cause),
    )

-- there was no memory for it
pub returns-in-Err-OutOfMemory : goal.returns-in-Err-OutOfMemory
returns-in-Err-OutOfMemory g c salting =
    let desk = g.D.Desk in
    let old = place desk.told desk.has_seen c.args.desk.now in
    let new = place desk.told desk.has_seen c.derived.new.self in
    (c.now-now.result, has-lost old new _ _ salting c.now-now.result c.requires.alone c.in-Err-OutOfMemory.ensures.looked c.now-now.ensures.first)
