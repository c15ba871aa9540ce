use Rattle.std.proofs.Common.{◌≡◌, length}
use Rattle.kr_memory_disk.specs.Files.{image_in}
use Rattle.kr_memory_disk.proofs.files.image_of.Given as goal

-- the files so far don't have this name
abbrev pub invariant-loop-rest : goal.invariant-loop-rest
invariant-loop-rest l = image_in l.rest l.name ≡ image_in l.files l.name

abbrev pub decreases-loop-rest : goal.decreases-loop-rest
decreases-loop-rest l = length l.rest
