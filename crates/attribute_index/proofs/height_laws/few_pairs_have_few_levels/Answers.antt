use Rattle.attribute_index.proofs.HeightLemmas.{few-levels}
use Rattle.attribute_index.proofs.height_laws.few_pairs_have_few_levels.Goals as goal

pub returns : goal.returns
returns c = few-levels
