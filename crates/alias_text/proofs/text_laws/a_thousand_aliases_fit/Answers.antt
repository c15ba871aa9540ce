use Rattle.alias_text.proofs.LawLemmas.{few_fit}
use Rattle.alias_text.proofs.text_laws.a_thousand_aliases_fit.Goals as goal

pub returns : goal.returns
returns c = few_fit
