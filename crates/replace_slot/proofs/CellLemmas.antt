-- What a crash leaves of a cell's file.
use Rattle.std.proofs.Common.{None, Some}
use Rattle.kr_outside.specs.RenameDisk.{Image, Only}
use Rattle.replace_slot.specs.Cell.{File, Known, Doubt, IsKnown, HasFile, old_image, LeavesFile}

-- a file that has an image is known
pub known_file : (file : File) → HasFile file → IsKnown file
known_file (Known None) has = absurd has
known_file (Known (Some bytes)) has = tt
known_file (Doubt old new) has = absurd has

-- a crash leaves the one image of a known file
pub known_only : (file : File) (outcomes : Image → Type 0) → IsKnown file → LeavesFile file outcomes → Only (old_image file) outcomes
known_only (Known image) outcomes known leaves = leaves
known_only (Doubt old new) outcomes known leaves = absurd known
