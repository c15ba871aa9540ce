-- Secret Service API draft 0.2, interface Prompt: how often the signal Completed is put out for a prompt over a list of events, and when a
-- prompt is over.
use Rattle.std.specs.Prelude.{◌≡◌, ℕ, ◌+◌, ◌<◌, Bool, false, nat_eq, IsTrue, List, [], ◌∷◌, filter, length, None}
use Rattle.std.specs.List.{AllByRecursion}
use Rattle.kr_base.specs.declared.ids.ConnId.{ConnId}
use Rattle.kr_base.specs.declared.ids.PromptId.{PromptId}
use Rattle.prompt_state.specs.Prompts.{row_at}
use Rattle.prompt_state.specs.declared.row.Prompts.{Prompts}
use Rattle.service_events.specs.secret_calls.specs.declared.out.Out.{Out}
use Rattle.service_events.specs.secret_calls.specs.declared.out.Out.TheVariants as out
use Rattle.service_events.specs.secret_calls.specs.declared.signal.Signal.{Signal}
use Rattle.service_events.specs.secret_calls.specs.declared.signal.Signal.TheVariants as signal
use Rattle.service_events.specs.Step.{puts_out, step}
use Rattle.service_events.specs.declared.event.Event.{Event}
use Rattle.service_events.specs.service_tables.specs.State.{State}
use Rattle.service_events.specs.service_tables.specs.Sent.{Recipient, One, Everyone, Sent}

-- whether a signal is Completed of the prompt
abbrev pub is_completed : PromptId → Signal → Bool
is_completed prompt (signal.Completed ended dismissed completion) = nat_eq ended.0 prompt.0
is_completed prompt _ = false

-- whether an output is this signal
abbrev pub completes : PromptId → Out → Bool
completes prompt (out.Return serial body) = false
completes prompt (out.Error serial name) = false
completes prompt (out.Signal signal) = is_completed prompt signal

-- how many of these outputs are Completed of the prompt, whomever they are for
abbrev pub completions_in : PromptId → List Sent → ℕ
completions_in prompt sent = length (filter (λ one. completes prompt one.out) sent)

-- how often the events put out Completed for the prompt, one after the other, from a state on
abbrev pub completions : PromptId → State → List Event → ℕ
completions prompt state [] = 0
completions prompt state (event ∷ events) = completions_in prompt (puts_out state event) + completions prompt (step state event) events

-- the prompt is over: its number was given, since it is below the next one, and no prompt that is there has it
pub record IsOver (prompt : PromptId) (prompts : Prompts) : Type 0 where
  pub given : prompt.0 < prompts.next
  pub gone : row_at prompt prompts ≡ None

-- the recipient is one connection
abbrev pub IsOne : Recipient → Type 0
IsOne (One conn) = Unit {0}
IsOne Everyone = ⊥

-- each Completed of the prompt among these outputs is for one connection
abbrev pub AreForOne : PromptId → List Sent → Type 0
AreForOne prompt sent = AllByRecursion (λ (one : Sent). IsTrue (completes prompt one.out) → IsOne one.to) sent

-- each Completed of the prompt among these outputs is for this connection alone
abbrev pub AreFor : PromptId → ConnId → List Sent → Type 0
AreFor prompt conn sent = AllByRecursion (λ (one : Sent). IsTrue (completes prompt one.out) → one.to ≡ One conn) sent

-- the same for all that the events put out, one after the other, from a state on
abbrev pub AreAllFor : PromptId → ConnId → State → List Event → Type 0
AreAllFor prompt conn state [] = Unit {0}
AreAllFor prompt conn state (event ∷ events) = AreFor prompt conn (puts_out state event) × AreAllFor prompt conn (step state event) events
