-- The agent of our profile (docs/SERVICE.md, "Signals"): to whom the signal Ask goes, and when it is put out.
use Rattle.std.specs.Prelude.{◌≡◌, ℕ, Bool, false, true, ◌&&◌, nat_eq, IsTrue, List, filter, length, Option, None, Some}
use Rattle.std.specs.List.{AllByRecursion}
use Rattle.kr_base.specs.declared.ids.ConnId.{ConnId}
use Rattle.kr_base.specs.declared.ids.PromptId.{PromptId}
use Rattle.prompt_state.specs.Prompts.{is_asked_in, row_at}
use Rattle.prompt_state.specs.declared.row.PromptRow.{PromptRow}
use Rattle.prompt_state.specs.declared.row.Prompts.{Prompts}
use Rattle.service_events.specs.secret_calls.specs.declared.out.Out.{Out}
use Rattle.service_events.specs.secret_calls.specs.declared.out.Out.TheVariants as out
use Rattle.service_events.specs.secret_calls.specs.declared.signal.Signal.{Signal}
use Rattle.service_events.specs.secret_calls.specs.declared.signal.Signal.TheVariants as signal
use Rattle.service_events.specs.service_tables.specs.Sent.{Recipient, One, Sent}

-- whether a signal is Ask
abbrev pub is_ask_signal : Signal → Bool
is_ask_signal (signal.Ask prompt round kind label wrong) = true
is_ask_signal _ = false

-- whether an output is this signal
abbrev pub is_ask : Out → Bool
is_ask (out.Return serial body) = false
is_ask (out.Error serial name) = false
is_ask (out.Signal signal) = is_ask_signal signal

-- the recipient is the agent alone, which is there
abbrev pub IsAgent : Option ConnId → Recipient → Type 0
IsAgent None to = ⊥
IsAgent (Some agent) to = to ≡ One agent

-- each Ask among these outputs is for the agent alone, and there is none without one
abbrev pub AreForAgent : Option ConnId → List Sent → Type 0
AreForAgent agent sent = AllByRecursion (λ (one : Sent). IsTrue (is_ask one.out) → IsAgent agent one.to) sent

-- whether a signal is Ask of the prompt in this round
abbrev pub is_ask_of : PromptId → ℕ → Signal → Bool
is_ask_of prompt round (signal.Ask asked number kind label wrong) = nat_eq asked.0 prompt.0 && nat_eq number round
is_ask_of prompt round _ = false

-- whether an output is this signal
abbrev pub asks_of : PromptId → ℕ → Out → Bool
asks_of prompt round (out.Return serial body) = false
asks_of prompt round (out.Error serial name) = false
asks_of prompt round (out.Signal signal) = is_ask_of prompt round signal

-- how many of these outputs are Ask of the prompt in this round
abbrev pub asks_in : PromptId → ℕ → List Sent → ℕ
asks_in prompt round sent = length (filter (λ one. asks_of prompt round one.out) sent)

-- whether there is a row, and it is asked in this round
abbrev pub is_asked_row : ℕ → Option PromptRow → Bool
is_asked_row round None = false
is_asked_row round (Some row) = is_asked_in round row.stage

-- whether the prompt is there and is asked in this round
abbrev pub is_asked : PromptId → ℕ → Prompts → Bool
is_asked prompt round prompts = is_asked_row round (row_at prompt prompts)
