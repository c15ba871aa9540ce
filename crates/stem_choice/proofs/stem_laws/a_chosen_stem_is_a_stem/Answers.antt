use Rattle.stem_choice.proofs.ChoiceLemmas.{IsStem-chosen}
use Rattle.stem_choice.proofs.stem_laws.a_chosen_stem_is_a_stem.Goals as goal

pub returns : goal.returns
returns c = λ label used. IsStem-chosen label used
