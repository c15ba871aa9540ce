-- What is kept of the items' numbers while the items are read.
use Rattle.std.specs.Prelude.{◌≡◌, ℕ, ◌<◌, Bool, true, false, List, nat_eq}
use Rattle.std.specs.List.{AllByRecursion, list_any}
use Rattle.keyring_text.specs.Seen.{stood_in}
use Rattle.keyring_file.specs.declared.clear.ClearItem.{ClearItem}
use Rattle.keyring_file.specs.declared.numbers.Numbers.{Numbers}

-- whether one of the items has this number
abbrev pub has_number : List ClearItem → ℕ → Bool
has_number items id = list_any (λ item. nat_eq id item.id.0) items

-- the keys are the numbers of the items
abbrev pub IsGathered : List ClearItem → List ℕ → Type 0
IsGathered items keys = (id : ℕ) → stood_in nat_eq (λ k. k) keys id ≡ has_number items id

-- while the numbers rise, a bound above all of them; after that, their set
pub record Keeps (items : List ClearItem) (numbers : Numbers) : Type 0 where
  pub bounded : numbers.rising ≡ true → AllByRecursion (λ item. item.id.0 < numbers.below) items
  pub gathered : numbers.rising ≡ false → IsGathered items numbers.ids.keys
