use Rattle.std.proofs.lemmas.Map.Made.{is_member-Decides}
use Rattle.stem_choice.proofs.UsedLemmas.{is_name-decides}
use Rattle.stem_choice.proofs.stem_laws.a_used_stem_is_in_the_list.Goals as goal

pub returns : goal.returns
returns c = λ stem used. is_member-Decides is_name-decides used stem
