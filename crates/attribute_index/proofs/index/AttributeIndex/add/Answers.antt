use Rattle.std.proofs.Common.{[], ap, ◌∙◌}
use Rattle.kr_base.specs.IdLists.{has_id}
use Rattle.attribute_index.specs.Index.{Index, IsAtJust, ids_in_names, is_own}
use Rattle.attribute_index.proofs.PairLemmas.{rise-put, rise-taken, back-whole}
use Rattle.attribute_index.proofs.index.AttributeIndex.add.Goals as goal

pub put_all-requires-clause-there : goal.put_all-requires-clause-there
put_all-requires-clause-there c = λ n t. rw c.new-none.ensures (ap (λ (i : Index). has_id (ids_in_names i.names n t) c.args.id.0) c.self.view_is ∙ c.requires n t)

pub invariant_of-self-in-Err-insert : goal.invariant_of-self-in-Err-insert
invariant_of-self-in-Err-insert c =
    let put = rise-put (is_own c.as_slice.result.now c.new-none.result) c.args.id.0 c.self.inside.names c.put_all.new.names c.fits.ensures c.self.invariant.0 c.in_default.ensures.put in
    (rise-taken (is_own c.as_slice-in-Err-insert.result.now c.new-none.result) c.args.id.0 c.put_all.new.names c.take_all.new.names put c.take_all.ensures.taken, c.take_all.ensures.lean (c.put_all.ensures.lean c.self.invariant.1), c.self.invariant.2)

pub returns-in-Err-insert-clause-unchanged : goal.returns-in-Err-insert-clause-unchanged
returns-in-Err-insert-clause-unchanged c =
    let put = rw (c.as_slice.ensures.value, c.new-none.ensures) at c.in_default.ensures.put in
    let taken = rw (c.as_slice-in-Err-insert.ensures.value, c.new-none.ensures) at c.take_all.ensures.taken in
    let there : IsAtJust [] c.args.id.0 c.self.inside.names = λ n t. ap (λ (i : Index). has_id (ids_in_names i.names n t) c.args.id.0) c.self.view_is ∙ c.requires n t in
    λ n t. back-whole c.args.id.0 c.args.attributes.now [] c.self.inside.names c.put_all.new.names c.take_all.new.names c.self.invariant.0 there put taken n t
    ∙ ap (λ (i : Index). ids_in_names i.names n t) c.self.view_is

pub invariant_of-self-in_default-insert : goal.invariant_of-self-in_default-insert
invariant_of-self-in_default-insert c =
    (rise-put (is_own c.as_slice.result.now c.new-none.result) c.args.id.0 c.self.inside.names c.put_all.new.names c.fits.ensures c.self.invariant.0 c.in_default.ensures.put, c.put_all.ensures.lean c.self.invariant.1, c.self.invariant.2)
