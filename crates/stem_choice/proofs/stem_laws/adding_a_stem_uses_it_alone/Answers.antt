use Rattle.stem_choice.proofs.UsedLemmas.{is_used-with_stem}
use Rattle.stem_choice.proofs.stem_laws.adding_a_stem_uses_it_alone.Goals as goal

pub returns : goal.returns
returns c = λ stem other used. is_used-with_stem stem other used
