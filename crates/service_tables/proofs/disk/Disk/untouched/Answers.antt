use Rattle.std.proofs.Common.{refl}
use Rattle.service_tables.specs.Disk.{disk_state}
use Rattle.service_tables.specs.Slots.{LeavesKnown}
use Rattle.service_tables.proofs.KeepingLemmas.{kept-there, kept-missing}
use Rattle.service_tables.proofs.disk.Disk.untouched.Goals as goal

-- what the collection says of its own file
pub returns-in-Some : goal.returns-in-Some
returns-in-Some g c =
    let slot = g.F.Cell.Slot in
    kept-there c.args.stem.now c.args.self.now.collections.entries (LeavesKnown slot.is_honest slot.moment slot.left_since) (disk_state c.args.self.now) c.in-Some.collection.now refl c.in-Some.ensures c.untouched.ensures.any_moment

-- and what each slot says that is kept
pub returns-in-None : goal.returns-in-None
returns-in-None g c =
    let slot = g.F.Cell.Slot in
    kept-missing c.args.stem.now c.args.self.now.collections.entries (LeavesKnown slot.is_honest slot.moment slot.left_since) (disk_state c.args.self.now) refl c.in-None.ensures c.untouched_kept.ensures
