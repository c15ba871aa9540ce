use Rattle.std.proofs.Common.{◌≡◌, sym, subst, ◌∙◌, rules}
use Rattle.std.specs.List.Sorted.{IsStrictlyIncreasing}
use Rattle.collection_store.specs.State.{ids_of}
use Rattle.collection_store.proofs.arranged.is_in_place.Goals as goal

pub returns-else-is_rising : goal.returns-else-is_rising
returns-else-is_rising c =
    let clear : c.as_slice-clear.result.now ≡ c.args.content.now.clear.items = search rules in (
      λ yes. let never = sym c.if-is_rising.false ∙ yes in absurd cc,
      λ is. c.is_rising.ensures.1 (subst (λ items. IsStrictlyIncreasing (ids_of items)) (sym clear) is.rising),
    )
