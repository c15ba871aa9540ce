use Rattle.stem_choice.proofs.ChoiceLemmas.{is_chosen, chosen_back}
use Rattle.stem_choice.proofs.stem_laws.the_chosen_stem_is_the_first_free_one.Goals as goal

pub returns : goal.returns
returns c = λ label stem used few. (is_chosen label stem used few, chosen_back label stem used few)
