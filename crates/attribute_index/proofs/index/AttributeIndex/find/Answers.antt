use Rattle.std.proofs.Common.{map, subst}
use Rattle.std.proofs.lemmas.Result.{IfOk-weaker}
use Rattle.attribute_index.specs.Index.{AllRise, Index}
use Rattle.attribute_index.proofs.FindLemmas.{is-found-lent}
use Rattle.attribute_index.proofs.index.AttributeIndex.find.Goals as goal

pub returns-clause-found : goal.returns-clause-found
returns-clause-found g c =
    let rising = subst (λ (i : Index). AllRise i.names) c.self.view_is c.self.invariant.0 in
    let are = rw c.as_slice.ensures.value at c.in_ok-lists.ensures in
    let ids = rw c.as_slice-2.ensures.value at c.in_all.ensures.ids in
    IfOk-weaker c.in_all.result _ _ (λ found h. is-found-lent (λ l. l.now) c.in_ok-lists.lists.items c.args.self.now rising c.args.wanted.now (map (λ id. id.0) found.items) are h) ids
