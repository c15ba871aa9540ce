-- The row of the table of calls for the agent's answer (docs/SERVICE.md, "Interfaces" and "Prompts"). The refusals are in their order. No row
-- sees the password: the event gives it to its caller, with what its key is derived with.
use Rattle.std.specs.Prelude.{ℕ, Bool, false, true, if◌then◌else◌, nat_eq, List, [], ◌∷◌, Option, Some, None}
use Rattle.kr_base.specs.declared.ids.PromptId.{PromptId}
use Rattle.prompt_state.specs.declared.row.PromptKind.{PromptKind}
use Rattle.prompt_state.specs.declared.row.PromptKind.TheVariants as kind
use Rattle.prompt_state.specs.declared.row.PromptRow.{PromptRow}
use Rattle.prompt_state.specs.declared.targets.Target.{Target}
use Rattle.prompt_state.specs.Prompts.{last_round}
use Rattle.service_events.specs.PublicBody as public
use Rattle.service_prompts.specs.secret_calls.specs.declared.out.ErrorName.TheVariants as name
use Rattle.service_prompts.specs.service_tables.specs.Questions.{CollectionQuestions}
use Rattle.service_events.specs.AgentCalls.{in_round}
use Rattle.service_events.specs.Plan.{Questions, Plan, Resolves, Derive_key, End_prompt, Go_on, Collection_file, refused, answered}

-- whether the key for a prompt of this kind is derived, whatever its targets are: it creates a collection, or changes the password of one that is
-- unlocked
abbrev pub makes_key : CollectionQuestions → PromptKind → Bool
makes_key asked (kind.Unlock targets) = false
makes_key asked (kind.Create label alias salt) = true
makes_key asked (kind.Change stem salt) = asked.is_open stem

-- the same for a prompt, if it is there
abbrev pub makes_key_row : CollectionQuestions → Option PromptRow → Bool
makes_key_row asked None = false
makes_key_row asked (Some row) = makes_key asked row.kind

-- the prompt advances
abbrev pub going_on : PromptId → Plan
going_on prompt = answered public.Empty (Go_on prompt ∷ [])

-- the key for the prompt is derived in this round
abbrev pub deriving_key : PromptId → ℕ → Plan
deriving_key prompt round = answered public.Empty (Derive_key prompt round ∷ [])

-- the key of a target is derived, unless its collection is gone or unlocked by now: then the prompt advances
abbrev pub target_answered : PromptId → ℕ → List ℕ → Questions → Plan
target_answered prompt round stem asked =
    if asked.collections.has stem
    then (if asked.collections.is_open stem then going_on prompt else deriving_key prompt round)
    else going_on prompt

-- the same, after the file of the collection was read again if it is in doubt: IOError if it couldn't be read, and all stays
abbrev pub target_settled : PromptId → ℕ → List ℕ → Plan
target_settled prompt round stem = Resolves (Collection_file stem) (refused name.IOError) (target_answered prompt round stem)

-- the same for the first target that is left
abbrev pub left_answered : PromptId → ℕ → List Target → Plan
left_answered prompt round [] = going_on prompt
left_answered prompt round (target ∷ left) = target_settled prompt round target.stem

-- The same by what the prompt is for. Nothing is asked of the disk for one that creates a collection, or changes the password of one, which
-- advances if the collection isn't unlocked by now.
abbrev pub kind_answered : PromptId → ℕ → PromptKind → CollectionQuestions → Plan
kind_answered prompt round (kind.Unlock targets) asked = left_answered prompt round targets.left
kind_answered prompt round (kind.Create label alias salt) asked = deriving_key prompt round
kind_answered prompt round (kind.Change stem salt) asked = if asked.is_open stem then deriving_key prompt round else going_on prompt

-- the same for a prompt that is there; in the greatest round it ends dismissed, since it can't be asked again
abbrev pub row_answered : PromptId → ℕ → Option PromptRow → CollectionQuestions → Plan
row_answered prompt round None asked = refused name.NoSuchObject
row_answered prompt round (Some row) asked =
    if nat_eq round last_round
    then answered public.Empty (End_prompt prompt true None ∷ [])
    else kind_answered prompt round row.kind asked

-- Answer: the key for what the prompt is asked for is derived, outside the service
abbrev pub answer_prompt : Option PromptId → ℕ → Questions → Plan
answer_prompt prompt round asked = in_round prompt round asked (λ it. row_answered it round (asked.prompts.row it) asked.collections)
