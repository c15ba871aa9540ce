use Rattle.key_derivation.specs.Kdf.{key_of, vector_of}
use Rattle.replace_slot.specs.Cell.{HasFile}
use Rattle.collection_store.proofs.StateLemmas.{there_image, kept_unlocked, known_so, opens_so, state_unlocked, told_sorted}
use Rattle.collection_store.proofs.collection.Collection.unlock.Goals as goal

pub unreachable-requires : goal.unreachable-requires
unreachable-requires g c =
    let there : HasFile c.self.inside.cell.file = rw (← c.self.view_is) at c.requires.there in
    there_image c.self.inside.cell.file there c.in-None.ensures

-- the file is the one that is shown
pub opened_parts-opened-requires : goal.opened_parts-opened-requires
opened_parts-opened-requires g c =
    let there : HasFile c.self.inside.cell.file = rw (← c.self.view_is) at c.requires.there in
    let locked = rw (← c.self.view_is) at c.requires.locked in
    rw c.bytes.ensures (told_sorted c.self.inside.cell.file c.self.inside.told c.self.inside.newer _ c.in-Some.image.now c.self.invariant locked there c.in-Some.ensures)

-- after a refusal the clear part is as before
pub invariant_of-self : goal.invariant_of-self
invariant_of-self g c = rw c.in_err-items.ensures.unchanged c.self.invariant

pub invariant_of-self-2 : goal.invariant_of-self-2
invariant_of-self-2 g c =
    let there : HasFile c.self.inside.cell.file = rw (← c.self.view_is) at c.requires.there in
    let locked = rw (← c.self.view_is) at c.requires.locked in
    let found = c.in_ok-items.ensures in
    let opens = rw (c.bytes.ensures, ← c.key-2.ensures, ← c.vector.ensures) at found.parts.opens in
    let parts = found.parts.parts in
    kept_unlocked c.a_file_that_is_spelled_so_is_read.ensures c.self.inside.cell.file c.self.inside.told c.self.inside.newer _ c.in-Some.image.now c.key-2.result c.vector.result found.parts.content c.opened_parts-opened.new.told c.in_ok-items.items c.in_ok-items.written c.self.invariant locked there c.in-Some.ensures opens parts.rows parts.ids parts.hashed parts.same found.apart found.same

pub returns-clause-unlocked : goal.returns-clause-unlocked
returns-clause-unlocked g c =
    let there : HasFile c.self.inside.cell.file = rw (← c.self.view_is) at c.requires.there in
    let locked = rw (← c.self.view_is) at c.requires.locked in
    let found = c.in_ok-items.ensures in
    let opens = rw c.bytes.ensures at found.parts.opens in
    let parts = found.parts.parts in
    rw (← c.self.view_is) (known_so _ c.self.inside.cell.file c.in-Some.image.now there c.in-Some.ensures (opens_so _ c.in-Some.image.now (key_of c.args.key) (vector_of c.args.key) found.parts.content opens (rw (c.key-2.ensures, c.vector.ensures) (state_unlocked c.a_file_that_is_spelled_so_is_read.ensures c.self.inside.cell.slot c.self.inside.cell.file c.self.inside.told c.self.inside.newer _ c.in-Some.image.now (key_of c.args.key) (vector_of c.args.key) found.parts.content c.opened_parts-opened.new.told c.in_ok-items.items c.in_ok-items.written c.self.invariant locked there c.in-Some.ensures opens parts.rows parts.same found.apart found.same))))

pub returns-clause-refused : goal.returns-clause-refused
returns-clause-refused g c = λ refused is. absurd cc
