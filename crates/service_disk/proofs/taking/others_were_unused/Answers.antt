use Rattle.service_disk.proofs.FreeLemmas.{were-unused}
use Rattle.service_disk.proofs.taking.others_were_unused.Goals as goal

pub returns : goal.returns
returns c = λ stem other used off. were-unused c.a_used_stem_is_in_the_list.ensures c.adding_a_stem_uses_it_alone.ensures stem other used off
