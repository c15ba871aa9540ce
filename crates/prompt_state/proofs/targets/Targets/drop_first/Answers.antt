use Rattle.std.proofs.Common.{refl}
use Rattle.prompt_state.proofs.TargetLemmas.{rest_of-drop}
use Rattle.prompt_state.proofs.targets.Targets.drop_first.Goals as goal

-- what is left after one more
pub returns-then-self-len : goal.returns-then-self-len
returns-then-self-len c = rw (← c.self.view_is, rest_of-drop c.self.inside.next c.self.inside.list.items) refl
