use Rattle.std.proofs.Common.{◌≡◌, length}
use Rattle.service_events.specs.service_tables.specs.Disk.{contents_in}
use Rattle.service_events.specs.service_tables.specs.TablesReading.{asked_collections}
use Rattle.service_events.specs.PromptCalls.{passed}
use Rattle.service_calls.specs.Rows.{contents_left}
use Rattle.service_calls.proofs.prompt.pass_over.Given as goal

-- what is left leads to what all targets lead to
abbrev pub invariant-loop-target : goal.invariant-loop-target
invariant-loop-target g l =
    passed (asked_collections (contents_left l.gone (contents_in l.disk))) l.targets.done l.targets.left
    ≡ passed (asked_collections (contents_left l.initial.gone (contents_in l.initial.disk))) l.initial.targets.done l.initial.targets.left

abbrev pub decreases-loop-target : goal.decreases-loop-target
decreases-loop-target g l = length l.targets.left
