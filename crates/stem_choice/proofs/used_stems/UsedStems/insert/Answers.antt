use Rattle.std.proofs.Common.{sym, subst}
use Rattle.stem_choice.specs.UsedStems.{AreInOrder}
use Rattle.stem_choice.proofs.UsedLemmas.{with_stem-in_order}
use Rattle.stem_choice.proofs.used_stems.UsedStems.insert.Goals as goal

pub invariant_of-self : goal.invariant_of-self
invariant_of-self c =
    subst (λ l. AreInOrder l) (sym c.put_in.ensures.stems) (with_stem-in_order c.args.stem c.self.inside.stems.items c.self.invariant)
