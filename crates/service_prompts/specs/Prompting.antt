-- The signals of prompts (Secret Service API draft 0.2, interface Prompt; docs/SERVICE.md, "Signals"): Ask goes to the agent alone, and
-- Completed to the owner alone.
use Rattle.std.specs.Prelude.{ℕ, Bool, List, [], Option, Some, None, codes}
use Rattle.std.specs.List.{cons_option, filter_map}
use Rattle.std.specs.Option.{option_and_then, option_map, option_map_or}
use Rattle.kr_base.specs.declared.ids.PromptId.{PromptId}
use Rattle.kr_names.specs.declared.object_name.ObjectName.TheVariants as name
use Rattle.kr_names.specs.Path.{path_text}
use Rattle.service_tables.specs.collection_table.specs.Rows.{Rows}
use Rattle.prompt_state.specs.Prompts.{ask_at, asks, ended_row, row_at}
use Rattle.prompt_state.specs.Targets.{first_left}
use Rattle.prompt_state.specs.declared.row.Ask.{Ask}
use Rattle.prompt_state.specs.declared.row.Ended.{Ended}
use Rattle.prompt_state.specs.declared.row.PromptKind.{PromptKind}
use Rattle.prompt_state.specs.declared.row.PromptKind.TheVariants.{Unlock, Create, Change}
use Rattle.prompt_state.specs.declared.row.PromptRow.{PromptRow}
use Rattle.prompt_state.specs.declared.row.Prompts.{Prompts}
use Rattle.prompt_state.specs.declared.targets.Target.{Target}
use Rattle.service_tables.specs.secret_calls.specs.Outs.{shown_label}
use Rattle.service_tables.specs.secret_calls.specs.declared.out.Out.TheVariants as out
use Rattle.service_tables.specs.secret_calls.specs.declared.signal.AskKind.{AskKind}
use Rattle.service_tables.specs.secret_calls.specs.declared.signal.AskKind.TheVariants as kind
use Rattle.service_tables.specs.secret_calls.specs.declared.signal.Completion.{Completion}
use Rattle.service_tables.specs.secret_calls.specs.declared.signal.Completion.TheVariants as completion
use Rattle.service_tables.specs.secret_calls.specs.declared.signal.Signal.TheVariants as signal
use Rattle.service_tables.specs.TablesReading.{label_of}
use Rattle.service_tables.specs.Sent.{One, Sent}
use Rattle.service_prompts.specs.Unlocking.{given_of}

-- ---- Ask

-- what the password is for
abbrev pub purpose_of : PromptKind → AskKind
purpose_of (Unlock targets) = kind.Unlock
purpose_of (Create label alias salt) = kind.Create
purpose_of (Change stem salt) = kind.Change

-- the label of the collection that the password is for: that of the first target that is left, that of the new one, or that of the one whose
-- password is changed
abbrev pub label_asked : Rows → PromptKind → List ℕ
label_asked collections (Unlock targets) = option_map_or (λ (target : Target). label_of target.stem collections) (first_left targets) []
label_asked collections (Create label alias salt) = label
label_asked collections (Change stem salt) = label_of stem collections

-- the signal Ask for a prompt of this kind
abbrev pub ask_signal : Rows → PromptKind → Ask → Sent
ask_signal collections kind ask = record {
  to = One ask.agent;
  out = out.Signal (signal.Ask ask.prompt ask.round (purpose_of kind) (shown_label (label_asked collections kind)) ask.wrong);
}

-- the same, if the prompt is there
abbrev pub ask_signal_in : Rows → Prompts → Ask → Option Sent
ask_signal_in collections prompts ask = option_map (λ (row : PromptRow). ask_signal collections row.kind ask) (row_at ask.prompt prompts)

-- what is sent when a prompt is asked: Ask, if there is an agent and the prompt is at a stage in which it is asked
abbrev pub ask_sent : PromptId → Prompts → Rows → List Sent
ask_sent prompt prompts collections = cons_option (option_and_then (ask_signal_in collections prompts) (ask_at prompt prompts)) []

-- what is sent when every prompt is asked again: Ask for each prompt that is asked, by rising number
abbrev pub asks_sent : Prompts → Rows → List Sent
asks_sent prompts collections = filter_map (ask_signal_in collections prompts) (asks prompts)

-- ---- Completed

-- the path of a collection that was created, or whose password was changed, or `/`
abbrev pub created_path : Option (List ℕ) → List ℕ
created_path None = codes "/"
created_path (Some stem) = path_text (name.Collection stem)

-- what a prompt completes with: the given paths of the targets that are done, or the collection that was created or whose password was changed
abbrev pub completion_of : PromptKind → Option (List ℕ) → Completion
completion_of (Unlock targets) created = completion.Objects (given_of targets.done)
completion_of (Create label alias salt) created = completion.Object (created_path created)
completion_of (Change stem salt) created = completion.Object (created_path created)

-- the signal Completed for a prompt that ended
abbrev pub completed_signal : Bool → Option (List ℕ) → Ended → Sent
completed_signal dismissed created ended = record {
  to = One ended.owner;
  out = out.Signal (signal.Completed ended.prompt dismissed (completion_of ended.kind created));
}

-- what is sent when a prompt ends, if it is there
abbrev pub completed_sent : PromptId → Bool → Option (List ℕ) → Prompts → List Sent
completed_sent prompt dismissed created prompts =
    cons_option (option_map (λ (row : PromptRow). completed_signal dismissed created (ended_row row)) (row_at prompt prompts)) []
