use Rattle.std.specs.Map.{values_of}
use Rattle.prompt_state.proofs.IndexLemmas.{given-wide}
use Rattle.prompt_state.proofs.table.PromptState.next_ask.Goals as goal

pub ask_above-requires-clause-given : goal.ask_above-requires-clause-given
ask_above-requires-clause-given c = given-wide c.self.inside.next (values_of c.self.inside.rows.entries) c.self.invariant.sound.numbered c.self.invariant.sound.given
