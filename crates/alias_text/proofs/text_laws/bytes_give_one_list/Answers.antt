use Rattle.alias_text.proofs.LawLemmas.{one_reading}
use Rattle.alias_text.proofs.text_laws.bytes_give_one_list.Goals as goal

pub returns : goal.returns
returns c = one_reading
