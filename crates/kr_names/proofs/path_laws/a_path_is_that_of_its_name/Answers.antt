use Rattle.kr_names.proofs.NamingLemmas.{named, is_named}
use Rattle.kr_names.proofs.path_laws.a_path_is_that_of_its_name.Goals as goal

pub returns : goal.returns
returns c path name = (named path name, is_named path name)
