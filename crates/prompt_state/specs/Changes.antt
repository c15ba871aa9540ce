-- The changes of the prompts, one by one, and which prompts each of them ends. Completed is sent for a prompt that
-- ends, and for no other one, so what is true of the ends is true of Completed.
use Rattle.std.specs.Prelude.{ℕ, ◌+◌, if◌then◌else◌, nat_eq, List, [], ◌∷◌, length, filter, map}
use Rattle.kr_base.specs.declared.ids.ConnId.{ConnId}
use Rattle.kr_base.specs.declared.ids.PromptId.{PromptId}
use Rattle.prompt_state.specs.declared.row.Ended.{Ended}
use Rattle.prompt_state.specs.declared.row.PromptKind.{PromptKind}
use Rattle.prompt_state.specs.declared.row.Prompts.{Prompts}
use Rattle.prompt_state.specs.Targets.{first_done, first_dropped}
use Rattle.prompt_state.specs.Prompts.{abandoned, answered, asked, asked_again, begun, cleared, ended, ended_row, is_prompt, last_round, registered, targeted, unregistered, wronged}

-- what a call of the table may change
pub data Change : Type 0 where
  -- a prompt of this owner is begun
  Begin : (owner : ConnId) → (kind : PromptKind) → Change
  -- Prompt is called
  Ask : (prompt : PromptId) → Change
  -- the agent's answer is accepted
  Answer : (prompt : PromptId) → (round : ℕ) → Change
  -- the prompt is asked in its next round
  Again : (prompt : PromptId) → Change
  -- its first target that is left is done
  Finish : (prompt : PromptId) → Change
  -- its first target that is left is dropped
  Drop : (prompt : PromptId) → Change
  -- a wrong answer is counted
  Wrong : (prompt : PromptId) → Change
  -- the number of its wrong answers is set to 0
  Clear : (prompt : PromptId) → Change
  -- it ends
  End : (prompt : PromptId) → Change
  -- the connection is the agent
  Register : (conn : ConnId) → Change
  -- there is no agent
  Unregister : Change
  -- the connection is gone
  Gone : (conn : ConnId) → Change

-- a change of the prompts
abbrev pub performed : Change → Prompts → Prompts
performed (Change.Begin owner kind) prompts = begun owner kind prompts
performed (Change.Ask prompt) prompts = asked prompt prompts
performed (Change.Answer prompt round) prompts = answered prompt round prompts
performed (Change.Again prompt) prompts = asked_again prompt prompts
performed (Change.Finish prompt) prompts = targeted prompt first_done prompts
performed (Change.Drop prompt) prompts = targeted prompt first_dropped prompts
performed (Change.Wrong prompt) prompts = wronged prompt prompts
performed (Change.Clear prompt) prompts = cleared prompt prompts
performed (Change.End prompt) prompts = ended prompt prompts
performed (Change.Register conn) prompts = registered conn prompts
performed Change.Unregister prompts = unregistered prompts
performed (Change.Gone conn) prompts = abandoned conn prompts

-- the prompts for which Completed is sent: those that the change ends; nothing else sends it
abbrev pub completed : Change → Prompts → List Ended
completed (Change.End prompt) prompts = map ended_row (filter (is_prompt prompt) prompts.rows)
completed (Change.Answer prompt round) prompts = if nat_eq round last_round then map ended_row (filter (is_prompt prompt) prompts.rows) else []
completed change prompts = []

-- how often Completed is sent for a prompt, over changes in order
abbrev pub completions : ℕ → List Change → Prompts → ℕ
completions number [] prompts = 0
completions number (change ∷ changes) prompts =
    length (filter (λ left. nat_eq left.prompt.0 number) (completed change prompts)) + completions number changes (performed change prompts)
