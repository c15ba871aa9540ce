-- What a read says of a file that is in doubt.
use Rattle.std.specs.Prelude.{◌≡◌, ◌≢◌, ℕ, List, take, length, Option, None, Some}
use Rattle.kr_outside.specs.RenameDisk.{Image, FitsIn}
use Rattle.kr_outside.specs.declared.slot.Seen.{Seen}
use Rattle.kr_outside.specs.declared.slot.Seen.TheVariants.{Missing, Whole, Longer}
use Rattle.replace_slot.specs.Cell.{File, Known, Doubt}
use Rattle.replace_slot.specs.declared.images.Found.{Found}
use Rattle.replace_slot.specs.declared.images.Found.TheVariants.{Old, New, Other}

-- a read with this result left the image in this buffer
abbrev pub Gave : Seen → List ℕ → Image → Type 0
Gave Missing buffer image = image ≡ None
Gave (Whole count) buffer image = image ≡ Some (take count buffer)
Gave Longer buffer image = ⊥

-- the file after this was found: the newer image, or otherwise the older one
abbrev pub found_file : Found → File → File
found_file found (Known image) = Known image
found_file Old (Doubt old new) = Known old
found_file New (Doubt old new) = Known new
found_file Other (Doubt old new) = Known old

-- the buffer begins with the file's bytes, if there is a file
abbrev pub BeginsWith : List ℕ → Image → Type 0
BeginsWith buffer None = Unit {0}
BeginsWith buffer (Some bytes) = take (length bytes) buffer ≡ bytes

-- the buffer shows the image that was found; nothing is said if it was neither
abbrev pub Shows : Found → File → List ℕ → Type 0
Shows found (Known image) buffer = Unit {0}
Shows Old (Doubt old new) buffer = BeginsWith buffer old
Shows New (Doubt old new) buffer = BeginsWith buffer new
Shows Other (Doubt old new) buffer = Unit {0}

-- what a read with this result and this buffer found: the older image if the read shows it, otherwise the newer one
-- if the read shows that
abbrev pub IsFound : Seen → List ℕ → Found → File → Type 0
IsFound seen buffer found (Known image) = Unit {0}
IsFound seen buffer Old (Doubt old new) = Gave seen buffer old
IsFound seen buffer New (Doubt old new) = ¬ (Gave seen buffer old) × Gave seen buffer new
IsFound seen buffer Other (Doubt old new) = ¬ (Gave seen buffer old) × ¬ (Gave seen buffer new)

-- what is found of a file in doubt if its name stands for this image: the older image if it is that one, otherwise the
-- newer one if it is that one, and nothing else
abbrev pub IsFoundOf : Image → Found → File → Type 0
IsFoundOf seen found (Known image) = Unit {0}
IsFoundOf seen Old (Doubt old new) = seen ≡ old
IsFoundOf seen New (Doubt old new) = (seen ≢ old) × (seen ≡ new)
IsFoundOf seen Other (Doubt old new) = ⊥

-- this was found by the last read, from its result and this buffer
pub record IsFoundBy (answered : Option Seen) (buffer : List ℕ) (found : Found) (file : File) : Type 0 where
  pub answer : Seen
  pub told : answered ≡ Some answer
  pub fits : FitsIn (length buffer) answer
  pub decided : IsFound answer buffer found file
