use Rattle.std.proofs.Common.{◌^◌, arith}
use Rattle.std.specs.Map.{values_of}
use Rattle.std.proofs.lemmas.Bool.Decides.{nat_tests}
use Rattle.prompt_state.proofs.IndexLemmas.{given-wide, pairs-below}
use Rattle.prompt_state.proofs.TableLemmas.{own-count}
use Rattle.prompt_state.proofs.table.PromptState.is_full.Goals as goal

pub count_of-requires : goal.count_of-requires
count_of-requires c =
    let kept = c.self.invariant in
    pairs-below (2 ^ 64) (values_of c.self.inside.rows.entries) c.self.inside.owned.keys (given-wide c.self.inside.next (values_of c.self.inside.rows.entries) kept.sound.numbered kept.sound.given) kept.indexed

-- a count of pairs is a count of rows
pub returns-else-self : goal.returns-else-self
returns-else-self c = rw (← c.self.view_is, ← own-count c.args.owner (values_of c.self.inside.rows.entries) c.self.inside.owned.keys c.self.invariant.indexed, ← c.count_of.ensures) (grind (arith, nat_tests))
