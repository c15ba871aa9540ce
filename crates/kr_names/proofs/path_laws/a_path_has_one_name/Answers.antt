use Rattle.kr_names.proofs.NameLemmas.{one_name}
use Rattle.kr_names.proofs.path_laws.a_path_has_one_name.Goals as goal

pub returns : goal.returns
returns c one other path p q = one_name one other path p q
