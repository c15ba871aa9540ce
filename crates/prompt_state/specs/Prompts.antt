-- Secret Service API draft 0.2, interface Prompt, and the agent of our profile (docs/SERVICE.md): the prompts, who owns
-- them, how far each has come, and to whom the agent's signal Ask and the owner's signal Completed go.
use Rattle.std.specs.Prelude.{ℕ, ◌+◌, ◌<◌, ◌≤◌, Bool, true, false, ◌||◌, not, nat_eq, nat_le, nat_lt, if◌then◌else◌, List, [], ◌∷◌, ◌++◌, length, filter, map, Option, Some, None, find, filter_map, min}
use Rattle.std.specs.List.{AllByRecursion}
use Rattle.kr_base.specs.declared.ids.ConnId.{ConnId}
use Rattle.kr_base.specs.declared.ids.PromptId.{PromptId}
use Rattle.prompt_state.specs.declared.row.Ask.{Ask}
use Rattle.prompt_state.specs.declared.row.Ended.{Ended}
use Rattle.prompt_state.specs.declared.row.PromptKind.{PromptKind}
use Rattle.prompt_state.specs.declared.row.PromptKind.TheVariants.{Unlock, Create, Change}
use Rattle.prompt_state.specs.declared.row.PromptRow.{PromptRow}
use Rattle.prompt_state.specs.declared.row.Prompts.{Prompts}
use Rattle.prompt_state.specs.declared.row.Stage.{Stage}
use Rattle.prompt_state.specs.declared.row.Stage.TheVariants.{Made, Asked, Deriving}
use Rattle.prompt_state.specs.declared.table.PromptRefused.{PromptRefused}
use Rattle.prompt_state.specs.declared.table.PromptRefused.TheVariants as refused
use Rattle.prompt_state.specs.declared.targets.Target.{Target}
use Rattle.prompt_state.specs.Targets.{TargetLists, first_left}

-- ---- numbers

-- the most prompts that a connection may have at once
abbrev pub most_prompts : ℕ
most_prompts = 64

-- no prompt gets this number or a greater one
abbrev pub last_prompt : ℕ
last_prompt = 18446744073709551615

-- the greatest round: an answer in it ends the prompt
abbrev pub last_round : ℕ
last_round = 18446744073709551615

-- wrong answers are counted up to this number
abbrev pub most_wrong : ℕ
most_wrong = 4294967295

-- the round of a stage, 0 before the first
abbrev pub round_of : Stage → ℕ
round_of Made = 0
round_of (Asked round) = round
round_of (Deriving round) = round

-- ---- what is there

-- no prompt, and no agent
abbrev pub no_prompts : Prompts
no_prompts = record { rows = []; agent = None; next = 1 }

-- whether the row is this prompt
abbrev pub is_prompt : PromptId → PromptRow → Bool
is_prompt prompt row = nat_eq row.prompt.0 prompt.0

-- whether the row is one of this owner
abbrev pub is_of : ConnId → PromptRow → Bool
is_of owner row = nat_eq row.owner.0 owner.0

-- the prompt's row, if the prompt is there
abbrev pub row_at : PromptId → Prompts → Option PromptRow
row_at prompt prompts = find (is_prompt prompt) prompts.rows

-- whether there is a row, and it is one of this owner
abbrev pub is_owned : ConnId → Option PromptRow → Bool
is_owned owner None = false
is_owned owner (Some row) = is_of owner row

-- whether the prompt is there and is this owner's
abbrev pub owns : ConnId → PromptId → Prompts → Bool
owns owner prompt prompts = is_owned owner (row_at prompt prompts)

-- whether a connection is the agent
abbrev pub is_conn : ConnId → Option ConnId → Bool
is_conn conn None = false
is_conn conn (Some agent) = nat_eq agent.0 conn.0

-- whether the connection is the agent
abbrev pub is_agent : ConnId → Prompts → Bool
is_agent conn prompts = is_conn conn prompts.agent

-- whether another connection is the agent
abbrev pub is_taken : ConnId → Option ConnId → Bool
is_taken conn None = false
is_taken conn (Some agent) = not (nat_eq agent.0 conn.0)

-- the prompts of one owner
abbrev pub rows_of : ConnId → List PromptRow → List PromptRow
rows_of owner rows = filter (is_of owner) rows

-- whether the owner can't begin another prompt: it has as many as it may have, or no number is left
abbrev pub is_full : ConnId → Prompts → Bool
is_full owner prompts = nat_le most_prompts (length (rows_of owner prompts.rows)) || nat_le last_prompt prompts.next

-- ---- what becomes of one prompt

-- the prompts with one more, which has the next number; Prompt hasn't been called on it
abbrev pub begun : ConnId → PromptKind → Prompts → Prompts
begun owner kind prompts = record prompts {
  rows =
      prompts.rows
      ++ record { prompt = record { 0 = prompts.next }; owner = owner; kind = kind; stage = Made; wrong = 0 }
      ∷ [];
  next = prompts.next + 1;
}

-- the prompts with this one changed
abbrev pub changed : PromptId → (PromptRow → PromptRow) → Prompts → Prompts
changed prompt change prompts = record prompts { rows = map (λ row. if is_prompt prompt row then change row else row) prompts.rows }

-- the prompts with this one at a stage
abbrev pub staged : PromptId → Stage → Prompts → Prompts
staged prompt stage prompts = changed prompt (λ row. record row { stage = stage }) prompts

-- whether Prompt hasn't been called on the prompt yet
abbrev pub is_made : Stage → Bool
is_made Made = true
is_made (Asked round) = false
is_made (Deriving round) = false

-- a prompt is asked for the first time if Prompt hasn't been called on it yet
abbrev pub asked_from : Option PromptRow → PromptId → Prompts → Prompts
asked_from None prompt prompts = prompts
asked_from (Some row) prompt prompts = if is_made row.stage then staged prompt (Asked 1) prompts else prompts

-- Prompt: a prompt on which it hasn't been called yet is asked in round 1; otherwise nothing changes
abbrev pub asked : PromptId → Prompts → Prompts
asked prompt prompts = asked_from (row_at prompt prompts) prompt prompts

-- the round in which a prompt is asked next: the one after that of its stage
abbrev pub next_round : Option PromptRow → ℕ
next_round None = 1
next_round (Some row) = round_of row.stage + 1

-- the prompt is asked in its next round
abbrev pub asked_again : PromptId → Prompts → Prompts
asked_again prompt prompts = staged prompt (Asked (next_round (row_at prompt prompts))) prompts

-- the prompt is gone
abbrev pub ended : PromptId → Prompts → Prompts
ended prompt prompts = record prompts { rows = filter (λ row. not (is_prompt prompt row)) prompts.rows }

-- an answer in a round: the key is derived in that round, but in the greatest one the prompt ends, since there is
-- no later round
abbrev pub answered : PromptId → ℕ → Prompts → Prompts
answered prompt round prompts = if nat_eq round last_round then ended prompt prompts else staged prompt (Deriving round) prompts

-- the targets of a kind of prompt, changed
abbrev pub kind_with : (TargetLists → TargetLists) → PromptKind → PromptKind
kind_with change (Unlock targets) = Unlock (change targets)
kind_with change (Create label alias salt) = Create label alias salt
kind_with change (Change stem salt) = Change stem salt

-- the prompts with the targets of this one changed
abbrev pub targeted : PromptId → (TargetLists → TargetLists) → Prompts → Prompts
targeted prompt change prompts = changed prompt (λ row. record row { kind = kind_with change row.kind }) prompts

-- the first target that is left, of a kind of prompt
abbrev pub first_of_kind : PromptKind → Option Target
first_of_kind (Unlock targets) = first_left targets
first_of_kind (Create label alias salt) = None
first_of_kind (Change stem salt) = None

-- the first target that is left, of a prompt
abbrev pub first_of_row : Option PromptRow → Option Target
first_of_row None = None
first_of_row (Some row) = first_of_kind row.kind

-- one more wrong answer
abbrev pub one_more : ℕ → ℕ
one_more wrong = min (wrong + 1) most_wrong

-- the prompts with one more wrong answer for this one
abbrev pub wronged : PromptId → Prompts → Prompts
wronged prompt prompts = changed prompt (λ row. record row { wrong = one_more row.wrong }) prompts

-- the prompts with no wrong answers for this one
abbrev pub cleared : PromptId → Prompts → Prompts
cleared prompt prompts = changed prompt (λ row. record row { wrong = 0 }) prompts

-- ---- the agent

-- whether a stage is that of a prompt that is asked in this round
abbrev pub is_asked_in : ℕ → Stage → Bool
is_asked_in round Made = false
is_asked_in round (Asked other) = nat_eq other round
is_asked_in round (Deriving other) = false

-- whether a stage is that of a prompt whose key is derived in this round
abbrev pub is_deriving_in : ℕ → Stage → Bool
is_deriving_in round Made = false
is_deriving_in round (Asked other) = false
is_deriving_in round (Deriving other) = nat_eq other round

-- whether there is a row, and its key is derived in this round
abbrev pub derives_in : ℕ → Option PromptRow → Bool
derives_in round None = false
derives_in round (Some row) = is_deriving_in round row.stage

-- why the agent's answer about a prompt is refused, if it is: there is no such prompt, or it isn't asked in that round
abbrev pub refusal_of : ℕ → Option PromptRow → Option PromptRefused
refusal_of round None = Some refused.NoPrompt
refusal_of round (Some row) = if is_asked_in round row.stage then None else Some refused.OldRound

-- why an answer about a prompt is refused, if it is: first, its sender isn't the agent
abbrev pub refusal : PromptId → ℕ → ConnId → Prompts → Option PromptRefused
refusal prompt round from prompts =
    if is_agent from prompts then refusal_of round (row_at prompt prompts) else Some refused.NotAgent

-- the refusal is one of those of an answer, and of nothing else
abbrev pub IsOfAnswer : PromptRefused → Type 0
IsOfAnswer refused.NoPrompt = Unit {0}
IsOfAnswer refused.NotAgent = Unit {0}
IsOfAnswer refused.OldRound = Unit {0}
IsOfAnswer refused.TooMany = ⊥
IsOfAnswer refused.AgentTaken = ⊥
IsOfAnswer refused.OutOfMemory = ⊥

-- the connection is the agent
abbrev pub registered : ConnId → Prompts → Prompts
registered conn prompts = record prompts { agent = Some conn }

-- what a stage becomes once the agent is gone: a prompt whose key is being derived is asked in the next round
abbrev pub unanswered : Stage → Stage
unanswered Made = Made
unanswered (Asked round) = Asked round
unanswered (Deriving round) = Asked (round + 1)

-- a row once the agent is gone
abbrev pub unanswered_row : PromptRow → PromptRow
unanswered_row row = record row { stage = unanswered row.stage }

-- there is no agent, and no prompt's key is being derived
abbrev pub unregistered : Prompts → Prompts
unregistered prompts = record prompts { agent = None; rows = map unanswered_row prompts.rows }

-- the prompts of all other owners
abbrev pub without : ConnId → Prompts → Prompts
without owner prompts = record prompts { rows = filter (λ row. not (is_of owner row)) prompts.rows }

-- a connection is gone: so are its prompts, and if it was the agent, so is the agent
abbrev pub abandoned : ConnId → Prompts → Prompts
abandoned conn prompts = if is_agent conn prompts then unregistered (without conn prompts) else without conn prompts

-- ---- what is sent

-- what an agent is sent for a row in a stage: Ask, if the prompt is asked
abbrev pub ask_in : Stage → ConnId → PromptRow → Option Ask
ask_in Made agent row = None
ask_in (Asked round) agent row = Some (record { agent = agent; prompt = row.prompt; round = round; wrong = row.wrong })
ask_in (Deriving round) agent row = None

-- what an agent is sent for a row
abbrev pub ask_to : ConnId → PromptRow → Option Ask
ask_to agent row = ask_in row.stage agent row

-- what is sent for a row, if there is one: nothing without an agent, otherwise Ask to the agent alone
abbrev pub ask_of : Option ConnId → Option PromptRow → Option Ask
ask_of None row = None
ask_of (Some agent) None = None
ask_of (Some agent) (Some row) = ask_to agent row

-- what is sent when a prompt is asked
abbrev pub ask_at : PromptId → Prompts → Option Ask
ask_at prompt prompts = ask_of prompts.agent (row_at prompt prompts)

-- what is sent for these rows, to an agent if there is one
abbrev pub asks_of : Option ConnId → List PromptRow → List Ask
asks_of None rows = []
asks_of (Some agent) rows = filter_map (ask_to agent) rows

-- what is sent when every prompt is asked again: Ask for each prompt that is asked, in order of their numbers
abbrev pub asks : Prompts → List Ask
asks prompts = asks_of prompts.agent prompts.rows

-- the first Ask of a prompt after the given one
abbrev pub ask_after : PromptId → Prompts → Option Ask
ask_after prompt prompts = find (λ ask. nat_lt prompt.0 ask.prompt.0) (asks prompts)

-- what is left of a row that ends: Completed goes to its owner
abbrev pub ended_row : PromptRow → Ended
ended_row row = record { prompt = row.prompt; owner = row.owner; kind = row.kind }

-- ---- what is true of each state

-- rounds begin at 1, and a key is derived below the greatest one
abbrev pub IsStage : Stage → Type 0
IsStage Made = Unit {0}
IsStage (Asked round) = (1 ≤ round) × (round ≤ last_round)
IsStage (Deriving round) = (1 ≤ round) × (round < last_round)

-- no prompt has the number 0
abbrev pub AreNumbers : List PromptRow → Type 0
AreNumbers rows = AllByRecursion (λ row. 0 < row.prompt.0) rows

-- each prompt's number is below the next one
abbrev pub AreGiven : ℕ → List PromptRow → Type 0
AreGiven next rows = AllByRecursion (λ row. row.prompt.0 < next) rows

-- the prompts' numbers rise, so no two are equal
abbrev pub AreRising : List PromptRow → Type 0
AreRising [] = Unit {0}
AreRising (row ∷ rows) = AllByRecursion (λ other. row.prompt.0 < other.prompt.0) rows × AreRising rows

-- no connection has more prompts than it may
abbrev pub AreFew : List PromptRow → Type 0
AreFew rows = (owner : ConnId) → length (rows_of owner rows) ≤ most_prompts

-- what is true of the prompts at every moment
pub record AreSound (prompts : Prompts) : Type 0 where
  pub first : 0 < prompts.next
  pub numbers : AreNumbers prompts.rows
  pub given : AreGiven prompts.next prompts.rows
  pub rising : AreRising prompts.rows
  pub rounds : AllByRecursion (λ row. IsStage row.stage) prompts.rows
  pub few : AreFew prompts.rows
  pub numbered : prompts.next ≤ last_prompt
