use Rattle.std.proofs.Common.{subst, sym}
use Rattle.kr_base.specs.Attributes.{Gathers}
use Rattle.kr_base.proofs.GatheredLemmas.{gathers, is_gathered}
use Rattle.kr_base.proofs.attribute_laws.pairs_gather_what_is_gathered.Goals as goal

pub returns : goal.returns
returns c pairs attributes = (is_gathered pairs attributes, λ is. subst (λ a. Gathers pairs a) (sym is) (gathers pairs))
