-- What was loaded from a folder is what a start makes of the images that the host reported.
use Rattle.std.proofs.Common.{◌≡◌, ℕ, List, Option, Some, None, ◌∙◌, ap}
use Rattle.kr_outside.specs.Folder.{AreTold}
use Rattle.kr_outside.specs.RenameDisk.{Image}
use Rattle.lone_desk.specs.folder_store.specs.Limits.{the_limits}
use Rattle.lone_desk.specs.folder_store.specs.Opened.{Opening, Opened}
use Rattle.lone_desk.specs.folder_store.proofs.OpenedLemmas.{opened_same}
use Rattle.keyring_program.specs.Folder.{IsOpened}

-- the images that were reported are these
told-of : (told : Option (List ℕ → Image)) (images found : List ℕ → Image) → told ≡ Some images → AreTold told found → (name : List ℕ) → found name ≡ images name
told-of None images found e are = absurd (let f : None ≡ Some images = e in cc)
told-of (Some other) images found e are = λ name. let same : other ≡ images = cc in are name ∙ ap (λ f. f name) same

-- so what was loaded from the folder is what a start makes of them
pub has-opened : (told : Option (List ℕ → Image)) (images found : List ℕ → Image) (opening : Opening) (pairs : List (List ℕ × List ℕ)) → told ≡ Some images → AreTold told found
    → Opened the_limits found opening pairs → Opened the_limits images opening pairs
has-opened told images found opening pairs e are so = opened_same the_limits found images opening pairs (told-of told images found e are) so

-- and a start makes something of them
pub is-opened : (images : List ℕ → Image) (opening : Opening) (pairs : List (List ℕ × List ℕ)) → Opened the_limits images opening pairs → IsOpened images
is-opened images opening pairs so = record { opening = opening; pairs = pairs; opened = so }
