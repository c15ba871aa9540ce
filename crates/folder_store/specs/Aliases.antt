-- What is found of the file of the aliases at startup, as contracts see it.
use Rattle.std.specs.Prelude.{◌≡◌, ℕ, List, [], Bool, IsTrue}
use Rattle.kr_outside.specs.RenameDisk.{Image}
use Rattle.alias_text.specs.Pairs.{longest, GivesAliases}
use Rattle.replace_slot.specs.Cell.{Known, IsKnownImage}
use Rattle.folder_store.specs.Ring.{IsLonger}
use Rattle.folder_store.specs.declared.found_aliases.FoundAliases.{FoundAliases}
use Rattle.folder_store.specs.declared.found_aliases.FoundAliases.TheVariants as found

-- the aliases that were found; a file that was left alone counts as none
abbrev pub pairs_in : {S : Type 0} → FoundAliases S → List (List ℕ × List ℕ)
pairs_in (found.Read file) = file.pairs
pairs_in (found.LeftAlone slot) = []

-- the slot of the file of the aliases
abbrev pub alias_slot : {S : Type 0} → FoundAliases S → S
alias_slot (found.Read file) = file.cell.slot
alias_slot (found.LeftAlone slot) = slot

-- What was found if the file of the aliases has this image. In an honest folder, an image that isn't too long was
-- read, so it is known, and one that is too long was left alone. In any folder, the aliases are those of the known
-- image.
abbrev pub AreFound : {S : Type 0} → Bool → Image → FoundAliases S → Type 0
AreFound honest image (found.Read file) = IsKnownImage (λ known. GivesAliases known file.pairs) file.cell.file × (IsTrue honest → (file.cell.file ≡ Known image) × ¬ (IsLonger longest image))
AreFound honest image (found.LeftAlone slot) = IsTrue honest → IsLonger longest image
