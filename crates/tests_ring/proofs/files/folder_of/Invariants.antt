use Rattle.std.proofs.Common.{◌≡◌, []}
use Rattle.tests_ring.proofs.files.folder_of.Given as goal

-- no slot was made
abbrev pub invariant-loop-file : goal.invariant-loop-file
invariant-loop-file l = l.folder.made ≡ []
