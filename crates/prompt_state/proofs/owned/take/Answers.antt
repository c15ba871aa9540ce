use Rattle.std.proofs.Common.{◌∙◌, ap}
use Rattle.prompt_state.specs.Kept.{numbers_at}
use Rattle.prompt_state.proofs.PairLemmas.{numbers-removed}
use Rattle.prompt_state.proofs.owned.take.Goals as goal

-- a pair occurs once
pub returns-clause-others : goal.returns-clause-others
returns-clause-others c = λ other. ap (numbers_at other) c.remove.ensures.keys ∙ numbers-removed c.args.owner c.args.number other c.args.pairs.now.keys c.requires
