use Rattle.std.proofs.Common.{Some}
use Rattle.prompt_state.proofs.IndexLemmas.{agent-kept}
use Rattle.prompt_state.proofs.table.PromptState.register.Goals as goal

pub invariant_of-self : goal.invariant_of-self
invariant_of-self c = agent-kept c.self.inside.rows.entries c.self.inside.agent (Some c.args.conn) c.self.inside.next c.self.inside.owned.keys c.self.invariant
