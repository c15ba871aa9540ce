use Rattle.std.proofs.Common.{sym, subst}
use Rattle.stem_choice.specs.UsedStems.{AreInOrder}
use Rattle.stem_choice.proofs.UsedLemmas.{nothing_in_order}
use Rattle.stem_choice.proofs.used_stems.UsedStems.new.Goals as goal

pub invariant_of-result : goal.invariant_of-result
invariant_of-result c = subst (λ l. AreInOrder l) (sym c.new.ensures.items) nothing_in_order
