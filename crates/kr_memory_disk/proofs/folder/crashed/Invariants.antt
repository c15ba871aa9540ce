use Rattle.std.proofs.Common.{◌≡◌}
use Rattle.kr_memory_disk.specs.Folder.{IsCrashed, IsPicked}
use Rattle.kr_memory_disk.proofs.CrashLemmas.{number_behind}
use Rattle.kr_memory_disk.proofs.folder.crashed.Given as goal

-- the files after the crash of the slots so far, and what is left of the number
abbrev pub invariant-loop-name : goal.invariant-loop-name
invariant-loop-name l =
    IsPicked l.fn.files l.yielded l.fn.choice l.files × IsCrashed l.fn.files l.yielded l.files
    × (l.choice ≡ number_behind l.yielded l.fn.choice)
