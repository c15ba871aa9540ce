use Rattle.std.proofs.Common.{◌≡◌, length, true}
use Rattle.std.specs.Option.{is_some}
use Rattle.prompt_state.specs.Prompts.{next_round, row_at}
use Rattle.service_events.specs.service_tables.specs.Opened.{contents_of}
use Rattle.service_events.specs.service_tables.specs.TablesReading.{asked_collections}
use Rattle.service_events.specs.PromptCalls.{passed_over}
use Rattle.service_events.proofs.AdvanceLemmas.{left_in_row}
use Rattle.service_calls.specs.Rows.{disk_of, rows_of}
use Rattle.service_calls.proofs.tables.Tables.pass_targets.Given as goal

-- what is left to pass over leads to what all of it leads to; nothing else changes
abbrev pub invariant-loop-target : goal.invariant-loop-target
invariant-loop-target g l =
    (is_some (row_at l.prompt l.self.prompts) ≡ true) × (next_round (row_at l.prompt l.self.prompts) ≡ next_round (row_at l.prompt l.initial.self.prompts))
    × (l.self.connections ≡ l.initial.self.connections) × (disk_of l.self ≡ disk_of l.initial.self) × (contents_of (rows_of l.self) ≡ contents_of (rows_of l.initial.self))
    × (passed_over l.prompt (asked_collections (contents_of (rows_of l.self))) l.self.prompts ≡ passed_over l.prompt (asked_collections (contents_of (rows_of l.initial.self))) l.initial.self.prompts)
    × (l.self.sessions ≡ l.initial.self.sessions)

abbrev pub decreases-loop-target : goal.decreases-loop-target
decreases-loop-target g l = length (left_in_row (row_at l.prompt l.self.prompts))
