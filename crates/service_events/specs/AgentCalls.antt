-- The rows of the table of calls for the agent's interface (docs/SERVICE.md, "Interfaces"). The refusals are in their order.
use Rattle.std.specs.Prelude.{ℕ, true, if◌then◌else◌, [], ◌∷◌, Option, Some, None}
use Rattle.kr_base.specs.declared.ids.PromptId.{PromptId}
use Rattle.prompt_state.specs.declared.table.PromptRefused.{PromptRefused}
use Rattle.prompt_state.specs.declared.table.PromptRefused.TheVariants as refusal
use Rattle.service_events.specs.PublicBody as public
use Rattle.service_prompts.specs.secret_calls.specs.declared.out.ErrorName.{ErrorName}
use Rattle.service_prompts.specs.secret_calls.specs.declared.out.ErrorName.TheVariants as name
use Rattle.service_events.specs.Plan.{Questions, Plan, End_prompt, Become_agent, Leave_agent, refused, answered}

-- Register: the caller is the agent; AgentTaken if another connection is
abbrev pub register : Questions → Plan
register asked = if asked.prompts.is_taken then refused name.AgentTaken else answered public.Empty (Become_agent ∷ [])

-- what is done for the agent: AccessDenied unless the caller is the agent
abbrev pub for_agent : Questions → Plan → Plan
for_agent asked next = if asked.prompts.is_agent then next else refused name.AccessDenied

-- Unregister: there is no agent
abbrev pub unregister : Questions → Plan
unregister asked = for_agent asked (answered public.Empty (Leave_agent ∷ []))

-- the error for what the agent says about a prompt that doesn't wait for it, which is one of the first three
abbrev pub error_for : PromptRefused → ErrorName
error_for refusal.NoPrompt = name.NoSuchObject
error_for refusal.NotAgent = name.AccessDenied
error_for refusal.OldRound = name.OldRound
error_for refusal.TooMany = name.LimitsExceeded
error_for refusal.AgentTaken = name.AgentTaken
error_for refusal.OutOfMemory = name.LimitsExceeded

-- what is done unless it is refused
abbrev pub unless_refused : Option PromptRefused → Plan → Plan
unless_refused None next = next
unless_refused (Some why) next = refused (error_for why)

-- what is done with a prompt that is asked in this round: AccessDenied unless the caller is the agent, NoSuchObject unless there is such a
-- prompt, OldRound unless it is asked in the round
abbrev pub in_round : Option PromptId → ℕ → Questions → (PromptId → Plan) → Plan
in_round None round asked next = for_agent asked (refused name.NoSuchObject)
in_round (Some prompt) round asked next = unless_refused (asked.prompts.refusal prompt round) (next prompt)

-- Refuse: the prompt ends dismissed
abbrev pub refuse : Option PromptId → ℕ → Questions → Plan
refuse prompt round asked = in_round prompt round asked (λ prompt. answered public.Empty (End_prompt prompt true None ∷ []))
