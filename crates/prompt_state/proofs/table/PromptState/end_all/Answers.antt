use Rattle.std.specs.Map.{values_of}
use Rattle.prompt_state.proofs.IndexLemmas.{given-wide, kept-without, state-without}
use Rattle.prompt_state.proofs.table.PromptState.end_all.Goals as goal

pub take_rows-requires-clause-given : goal.take_rows-requires-clause-given
take_rows-requires-clause-given c = given-wide c.self.inside.next (values_of c.self.inside.rows.entries) c.self.invariant.sound.numbered c.self.invariant.sound.given

pub invariant_of-self : goal.invariant_of-self
invariant_of-self c =
    kept-without c.self.inside.rows.entries c.take_rows.new.rows.entries c.self.inside.agent c.self.inside.next c.args.owner c.take_rows.ensures.others c.self.inside.owned.keys c.take_rows.new.pairs.keys
    c.take_rows.ensures.numbered c.take_rows.ensures.indexed c.self.invariant

pub returns : goal.returns
returns c = rw (← c.self.view_is) (state-without c.self.inside.rows.entries c.take_rows.new.rows.entries c.self.inside.agent c.self.inside.next c.args.owner c.take_rows.ensures.others)
