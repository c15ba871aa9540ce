use Rattle.std.proofs.Common.{◌∙◌, ap}
use Rattle.prompt_state.specs.Kept.{numbers_at}
use Rattle.prompt_state.proofs.PairLemmas.{numbers-added}
use Rattle.prompt_state.proofs.owned.add.Goals as goal

-- a new pair is the last of its owner's
pub returns-clause-added : goal.returns-clause-added
returns-clause-added c = λ other. ap (numbers_at other) c.in_ok-insert.ensures.keys ∙ numbers-added c.args.owner c.args.next other c.args.pairs.now.keys c.requires.ordered c.requires.given
