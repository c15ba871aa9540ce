use Rattle.std.proofs.Common.{◌≡◌, []}
use Rattle.tests_outside.proofs.memory_disk.folder_of.Given as goal

-- no slot was made
abbrev pub invariant-loop-name : goal.invariant-loop-name
invariant-loop-name l = l.folder.made ≡ []
