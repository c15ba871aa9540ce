use Rattle.std.proofs.Common.{sym}
use Rattle.prompt_state.proofs.TableLemmas.{taken-there}
use Rattle.prompt_state.proofs.table.PromptState.refuse.Goals as goal

-- a prompt that the agent may refuse is there
pub end-requires : goal.end-requires
end-requires c = taken-there c.args.prompt c.args.round c.args.from c.args.self.now (sym c.in_default.ensures.refusal)
