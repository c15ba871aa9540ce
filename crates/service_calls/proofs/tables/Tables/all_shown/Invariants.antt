-- What is shown so far, followed by what the properties that are left are shown as, is what all are shown as.
use Rattle.std.proofs.Common.{◌≡◌, ◌++◌, drop}
use Rattle.std.specs.List.{filter_map}
use Rattle.service_events.specs.PropertyCalls.{shown_by}
use Rattle.service_events.specs.service_tables.specs.Opened.{contents_of}
use Rattle.service_events.specs.service_tables.specs.TablesReading.{asked_collections}
use Rattle.service_calls.specs.Rows.{rows_of}
use Rattle.service_calls.proofs.tables.Tables.all_shown.Given as goal

abbrev pub invariant-loop-property : goal.invariant-loop-property
invariant-loop-property g l =
    let given = shown_by (asked_collections (contents_of (rows_of l.self))) l.holder in
    l.shown.items ++ filter_map given (drop l.property-index l.properties) ≡ filter_map given l.properties
