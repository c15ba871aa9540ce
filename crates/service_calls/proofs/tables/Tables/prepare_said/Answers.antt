use Rattle.std.proofs.Common.{refl}
use Rattle.service_events.specs.service_tables.specs.declared.fate.StoreFate.TheVariants as fate
use Rattle.service_calls.proofs.LeadsLemmas.{room-alone, room-keeps, room-sent}
use Rattle.service_calls.proofs.tables.Tables.prepare_said.Goals as goal

-- there is room for each of the two, and for none
pub returns-clause-room : goal.returns-clause-room
returns-clause-room g c =
    let conn = c.args.conn in
    let stored = c.in_ok-stored.stored.items in
    let unsure = c.in_ok-unsure.unsure.items in
    let first = c.reserve_for.new.self.rooms in
    let rooms = c.reserve_for-2.new.self.rooms in
    let one = room-keeps conn stored first rooms c.reserve_for-2.ensures.kept (room-sent conn c.deref.result.now stored stored first c.deref.ensures.value refl c.in_ok-reserve_for.ensures.room) in
    let other = room-sent conn c.deref-2.result.now unsure unsure rooms c.deref-2.ensures.value refl c.in_ok-reserve_for-2.ensures.room in
    elim [ fate.Stored ↦ one | fate.Before ↦ room-alone conn unsure rooms other | fate.Unsure ↦ other ]
