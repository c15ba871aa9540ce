use Rattle.std.proofs.Common.{take}
use Rattle.std.specs.List.{AllByRecursion}
use Rattle.service_answers.specs.service_events.specs.Step.{AreByteImages}
use Rattle.service_machine.proofs.known.known_entries.Given as goal

-- the files of the collections so far
abbrev pub invariant-loop-entry : goal.invariant-loop-entry
invariant-loop-entry g l = AllByRecursion (λ entry. AreByteImages entry.1.file) (take l.entry-index l.entries)
