use Rattle.std.proofs.Common.{◌≡◌, false, sym, Ok, Err, ◌∙◌}
use Rattle.service_tables.proofs.SlotLemmas.{answered-is, answered-locked, answered-none, is-locked}
use Rattle.service_tables.proofs.disk.Disk.answer_to.Goals as goal

-- no collection, or a locked one, answers nothing
pub returns-in_default : goal.returns-in_default
returns-in_default g c = λ now. answered-none c.args.stem.now c.args.change.now now c.args.self.now.collections.entries c.in_default.ensures

pub returns-then-not-is_open : goal.returns-then-not-is_open
returns-then-not-is_open g c =
    let collection = c.in-Some.collection.now in
    let locked : c.is_open.result ≡ false = c.if-not-is_open.true in
    λ now. answered-locked c.args.stem.now c.args.change.now now c.args.self.now.collections.entries collection (sym c.in-Some.ensures)
    (is-locked c.is_open.result collection.held c.is_open.ensures.value locked)

-- an unlocked one answers what it would make
pub returns-in-Ok : goal.returns-in-Ok
returns-in-Ok g c =
    let collection = c.in-Some.collection.now in
    λ now. c.placed.ensures
    ∙ answered-is c.args.stem.now c.args.change.now now c.args.self.now.collections.entries collection (sym c.in-Some.ensures) (Ok c.in-Ok.answer)
    (c.is_open.ensures.value.0 c.if-not-is_open.false) (c.in-Ok.ensures now)

pub returns-in-Err : goal.returns-in-Err
returns-in-Err g c =
    let collection = c.in-Some.collection.now in
    λ now. answered-is c.args.stem.now c.args.change.now now c.args.self.now.collections.entries collection (sym c.in-Some.ensures) (Err c.in-Err.field-0)
    (c.is_open.ensures.value.0 c.if-not-is_open.false) (c.in-Err.ensures now)
