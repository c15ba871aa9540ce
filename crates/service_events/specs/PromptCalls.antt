-- The rows of the table of calls for the interface Prompt (Secret Service API draft 0.2, "org.freedesktop.Secret.Prompt"), and how a prompt
-- advances. The refusals are in their order.
use Rattle.std.specs.Prelude.{◌+◌, Bool, false, true, not, if◌then◌else◌, List, [], ◌∷◌, ◌++◌, Option, Some, None}
use Rattle.std.specs.Option.{option_map_or}
use Rattle.kr_base.specs.declared.ids.ConnId.{ConnId}
use Rattle.kr_base.specs.declared.ids.PromptId.{PromptId}
use Rattle.service_prompts.specs.collection_table.specs.Rows.{Rows}
use Rattle.prompt_state.specs.declared.row.PromptKind.{PromptKind}
use Rattle.prompt_state.specs.declared.row.PromptKind.TheVariants as kind
use Rattle.prompt_state.specs.declared.row.PromptRow.{PromptRow}
use Rattle.prompt_state.specs.declared.row.Prompts.{Prompts}
use Rattle.prompt_state.specs.declared.targets.Target.{Target}
use Rattle.prompt_state.specs.Prompts.{asked_again, changed, ended, is_made, round_of, row_at}
use Rattle.prompt_state.specs.Targets.{TargetLists}
use Rattle.service_events.specs.PublicBody as public
use Rattle.service_prompts.specs.secret_calls.specs.declared.out.ErrorName.TheVariants as name
use Rattle.service_prompts.specs.Prompting.{ask_signal, completed_signal}
use Rattle.service_prompts.specs.service_tables.specs.Questions.{CollectionQuestions}
use Rattle.service_prompts.specs.service_tables.specs.Sent.{Sent}
use Rattle.service_events.specs.Plan.{Questions, Change, Plan, End_prompt, Go_on, refused, answered}

-- A prompt that unlocks advances by the targets that are left: each whose collection is gone is dropped, and each whose collection is unlocked
-- is done, up to the first one whose collection is locked, for which the prompt is asked. If there is none, the prompt ends completed. One that
-- creates a collection is asked. One that changes the password of a collection is asked if the collection is unlocked, and ends dismissed otherwise.

-- the targets of a prompt once those were passed over that are gone or done
abbrev pub passed : CollectionQuestions → List Target → List Target → TargetLists
passed asked done [] = record { done = done; left = [] }
passed asked done (target ∷ left) =
    if asked.has target.stem
    then (if asked.is_open target.stem then passed asked (done ++ target ∷ []) left else record { done = done; left = target ∷ left })
    else passed asked done left

-- the same for what a prompt is for
abbrev pub passed_kind : CollectionQuestions → PromptKind → PromptKind
passed_kind asked (kind.Unlock targets) = kind.Unlock (passed asked targets.done targets.left)
passed_kind asked (kind.Create label alias salt) = kind.Create label alias salt
passed_kind asked (kind.Change stem salt) = kind.Change stem salt

-- whether no target is left
abbrev pub are_none : List Target → Bool
are_none [] = true
are_none (target ∷ left) = false

-- whether there is nothing more to ask for
abbrev pub is_over : CollectionQuestions → PromptKind → Bool
is_over asked (kind.Unlock targets) = are_none targets.left
is_over asked (kind.Create label alias salt) = false
is_over asked (kind.Change stem salt) = not (asked.is_open stem)

-- whether a prompt of this kind is dismissed once there is nothing more to ask for
abbrev pub is_given_up : PromptKind → Bool
is_given_up (kind.Unlock targets) = false
is_given_up (kind.Create label alias salt) = false
is_given_up (kind.Change stem salt) = true

-- the same for a prompt, if it is there
abbrev pub is_over_row : CollectionQuestions → Option PromptRow → Bool
is_over_row asked None = false
is_over_row asked (Some row) = is_over asked row.kind

-- whether there is a prompt on which Prompt hasn't been called yet
abbrev pub is_made_row : Option PromptRow → Bool
is_made_row None = false
is_made_row (Some row) = is_made row.stage

-- a prompt on which Prompt hasn't been called yet advances; otherwise nothing changes
abbrev pub first_advance : PromptId → Option PromptRow → List Change
first_advance prompt row = if is_made_row row then Go_on prompt ∷ [] else []

-- what is done with a prompt: NoSuchObject unless it is one of the caller's
abbrev pub with_prompt : PromptId → Questions → Plan → Plan
with_prompt prompt asked next = if asked.prompts.owns prompt then next else refused name.NoSuchObject

-- Prompt: the prompt advances, unless Prompt was called on it before
abbrev pub call_prompt : PromptId → Questions → Plan
call_prompt prompt asked = with_prompt prompt asked (answered public.Empty (first_advance prompt (asked.prompts.row prompt)))

-- Dismiss: the prompt ends dismissed
abbrev pub dismiss : PromptId → Questions → Plan
dismiss prompt asked = with_prompt prompt asked (answered public.Empty (End_prompt prompt true None ∷ []))

-- ---- what an advance sends

-- the signal Ask for a row that is asked in its next round, for what is left of a kind of prompt
abbrev pub ask_for : Rows → PromptRow → PromptKind → ConnId → List Sent
ask_for collections row kind agent = ask_signal collections kind (record { agent = agent; prompt = row.prompt; round = round_of row.stage + 1; wrong = row.wrong }) ∷ []

-- the same if there is an agent
abbrev pub asks_for : Rows → PromptRow → PromptKind → Option ConnId → List Sent
asks_for collections row kind agent = option_map_or (ask_for collections row kind) agent []

-- the signal Completed for a row with nothing left to ask for
abbrev pub completes : PromptRow → PromptKind → List Sent
completes row kind = completed_signal (is_given_up kind) None (record { prompt = row.prompt; owner = row.owner; kind = kind }) ∷ []

-- what is sent when the prompt of a row advances: Ask for the kind of prompt that is left, or Completed if nothing is
abbrev pub advance_sent : CollectionQuestions → Rows → PromptRow → PromptKind → Option ConnId → List Sent
advance_sent asked collections row kind agent = if is_over asked kind then completes row kind else asks_for collections row kind agent

-- ---- an advance as a change of the prompts

-- a row once those of its targets were passed over that are gone or done
abbrev pub passed_row : CollectionQuestions → PromptRow → PromptRow
passed_row asked row = record row { kind = passed_kind asked row.kind }

-- the prompts once this one passed over its first targets
abbrev pub passed_over : PromptId → CollectionQuestions → Prompts → Prompts
passed_over prompt asked prompts = changed prompt (passed_row asked) prompts

-- the prompts once this one, whose first targets were passed over, ended or was asked
abbrev pub over_or_asked : PromptId → CollectionQuestions → Prompts → Prompts
over_or_asked prompt asked prompts = if is_over_row asked (row_at prompt prompts) then ended prompt prompts else asked_again prompt prompts

-- the prompts once this one advanced
abbrev pub gone_on : PromptId → CollectionQuestions → Prompts → Prompts
gone_on prompt asked prompts = over_or_asked prompt asked (passed_over prompt asked prompts)

-- what is sent then, if the prompt is there
abbrev pub go_on_sent : CollectionQuestions → Rows → Option ConnId → Option PromptRow → List Sent
go_on_sent asked collections agent None = []
go_on_sent asked collections agent (Some row) = advance_sent asked collections row (passed_kind asked row.kind) agent
