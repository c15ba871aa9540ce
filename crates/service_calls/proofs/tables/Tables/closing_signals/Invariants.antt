use Rattle.std.proofs.Common.{◌≡◌, ◌++◌, drop}
use Rattle.service_calls.specs.Rows.{rows_of}
use Rattle.service_events.specs.service_prompts.specs.Announcing.{all_closing_signals}
use Rattle.service_calls.proofs.tables.Tables.closing_signals.Given as goal

-- the signals so far, and those of the stems that are left
abbrev pub invariant-loop-stem : goal.invariant-loop-stem
invariant-loop-stem g l =
    l.signals.items ++ all_closing_signals (drop l.stem-index l.stems) (rows_of l.self).collections ≡ all_closing_signals l.stems (rows_of l.self).collections
