use Rattle.std.proofs.Common.{rules}
use Rattle.std.proofs.lemmas.Map.Made.{map_same_pairs}
use Rattle.prompt_state.specs.declared.row.PromptRow.{PromptRow}
use Rattle.prompt_state.specs.Kept.{unanswered_within}
use Rattle.prompt_state.proofs.rows.wait_again.Goals as goal

pub returns : goal.returns
returns c = map_same_pairs _ (λ (row : PromptRow). record row { stage = unanswered_within row.stage }) _ (λ k v b w f' t. search rules) _ _ c.retain.ensures.filtered
