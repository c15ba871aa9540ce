-- What a derived key led to, and that it is what its plan leads to.
use Rattle.std.specs.Prelude.{◌≡◌, ℕ, Bool, true, false, if◌then◌else◌, List, [], ◌++◌, Option, Some, None}
use Rattle.std.specs.Option.{option_map_or}
use Rattle.kr_base.specs.Attributes.{is_name, value_at}
use Rattle.kr_base.specs.declared.ids.ConnId.{ConnId}
use Rattle.kr_base.specs.declared.ids.PromptId.{PromptId}
use Rattle.kr_outside.specs.RenameDisk.{Image}
use Rattle.service_calls.specs.service_tables.specs.declared.fate.Fate.{Fate}
use Rattle.prompt_state.specs.declared.row.Prompts.{Prompts}
use Rattle.service_calls.specs.service_prompts.specs.Announcing.{label_signals}
use Rattle.service_calls.specs.service_prompts.specs.Prompting.{completed_sent}
use Rattle.service_calls.specs.service_tables.specs.Connections.{spread}
use Rattle.service_calls.specs.service_tables.specs.Sent.{Sent}
use Rattle.service_calls.specs.service_tables.specs.declared.fate.StoreFate.{StoreFate}
use Rattle.service_calls.specs.service_tables.specs.signal_fanout.specs.declared.rows.Delivery.{Delivery}
use Rattle.service_calls.specs.service_tables.specs.declared.fate.StoreFate.TheVariants as fate
use Rattle.service_calls.specs.service_tables.specs.Disk.{DiskState}
use Rattle.service_calls.specs.service_tables.specs.State.{State}
use Rattle.service_calls.specs.service_tables.specs.Storing.{Brought}
use Rattle.service_answers.specs.declared.derived_key.Settled.{Settled}
use Rattle.service_calls.specs.collection_store.specs.State.{told_after}
use Rattle.service_calls.specs.collection_table.specs.Rows.{CollectionRow, Rows}
use Rattle.replace_slot.specs.declared.images.Found.TheVariants as image
use Rattle.service_calls.specs.secret_calls.specs.declared.signal.Signal.{Signal}
use Rattle.service_calls.specs.service_tables.specs.declared.fate.ReadFate.{ReadFate}
use Rattle.service_calls.specs.service_tables.specs.declared.fate.ReadFate.TheVariants as read
use Rattle.service_calls.specs.service_events.specs.Announced.{shown_signals}
use Rattle.service_calls.specs.service_events.specs.Fates.{stores_of}
use Rattle.service_calls.specs.service_events.specs.Plan.{Go_on, Plan}
use Rattle.service_calls.specs.service_events.specs.Run.{AreFates, run, sent_by}
use Rattle.service_calls.specs.service_events.specs.Stored.{StoresOf}
use Rattle.service_calls.specs.Done.{fates_in}

-- what is sent when the prompt of a collection ends that was to be made under the stem, by how that ended
abbrev pub ended_sent : PromptId → List ℕ → StoreFate → Prompts → List Sent
ended_sent prompt stem fate.Stored prompts = completed_sent prompt false (Some stem) prompts
ended_sent prompt stem fate.Before prompts = completed_sent prompt true None prompts
ended_sent prompt stem fate.Unsure prompts = completed_sent prompt true None prompts

-- what is sent then, of what was made for each way in which it may end
abbrev pub ends_by : List Delivery → List Delivery → List Delivery → StoreFate → List Delivery
ends_by done none perhaps fate.Stored = done
ends_by done none perhaps fate.Before = none
ends_by done none perhaps fate.Unsure = perhaps

-- what is sent once a file in doubt was read again, of what was made for what may be found
abbrev pub found_by : List Delivery → List Delivery → ReadFate → Bool → List Delivery
found_by gone newer read.Old left = if left then [] else gone
found_by gone newer read.New left = if left then newer else gone
found_by gone newer read.Other left = if left then [] else gone
found_by gone newer read.ReadFailed left = if left then [] else gone

-- what is sent as a prompt advances, unless there is a collection for which it waits
abbrev pub advance_unless : Bool → ConnId → PromptId → State → List Sent
advance_unless there conn prompt state = if there then [] else sent_by conn (Go_on prompt) state

-- the signals of a label, unless it is the one that is shown
abbrev pub label_unless_shown : List ℕ → List ℕ → List ℕ → List Signal
label_unless_shown stem shown label = if is_name shown label then [] else label_signals stem label

-- the same for a label, if there is one
abbrev pub relabelled : List ℕ → List ℕ → Option (List ℕ) → List Signal
relabelled stem shown None = []
relabelled stem shown (Some label) = label_unless_shown stem shown label

-- the signals of the newer image of a file in doubt, if it is found and is a file
abbrev pub newer_signals : List ℕ → Rows → List Signal
newer_signals stem rows = option_map_or (λ (row : CollectionRow). shown_signals stem row.clear (told_after image.New row.clear row.other)) (value_at stem rows) []

-- how what a derived key led to ended, in order: making a collection, then a resolve of the file of the aliases, then storing it
abbrev pub settled_fates : Settled → List Fate
settled_fates settled = stores_of settled.made ++ fates_in settled.done

module _ {F S : Type 0} (folder_honest folder_steady : F → Bool) (folder_faults : F → ℕ) (images : F → List ℕ → Image)
    (folder_leaves : F → List ℕ → Image → Type 0) (names_made : F → List (List ℕ)) (is_honest is_steady : S → Bool) (faults moment : S → ℕ)
    (left_since : S → ℕ → Image → Type 0) (may_leave : S → Image → Type 0) where
  -- What a derived key leads to. The caller gets no answer: its plan ends with an empty return, which no one is sent. What it sends is delivered.
  pub record Settles (caller : ConnId) (brought : Brought) (plan : Plan) (before after : State) (old new : DiskState F S) (settled : Settled) : Type 0 where
    pub state : after ≡ (run caller brought plan (settled_fates settled) before).state
    pub sends : settled.done.sends ≡ spread before.connections.rows (run caller brought plan (settled_fates settled) before).sends
    pub fates : AreFates caller brought plan (settled_fates settled) before
    pub disk : StoresOf folder_honest folder_steady folder_faults images folder_leaves names_made is_honest is_steady faults moment left_since may_leave caller brought plan (settled_fates settled) before old new
