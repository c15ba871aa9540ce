-- The names read so far in one list.
use Rattle.std.specs.Prelude.{◌≡◌, Bool, ◌||◌, ℕ, List, take, min}
use Rattle.std.specs.List.{list_any}
use Rattle.kr_base.specs.Attributes.{is_name}
use Rattle.keyring_text.specs.Seen.{stood_in}
use Rattle.keyring_file.specs.declared.names.Names.{Names}

-- whether the name is in the row
abbrev pub has_in_row : Names → List ℕ → Bool
has_in_row names q = list_any (λ k. is_name q k.now) (take (min names.count 8) names.few)

-- whether the name is in the row or in the set
abbrev pub has_name : Names → List ℕ → Bool
has_name names q = has_in_row names q || stood_in is_name (λ k. k.now) names.many.keys q

-- the new names are the old ones and this one
abbrev pub AddsName : Names → Names → List ℕ → Type 0
AddsName old new name = (q : List ℕ) → has_name new q ≡ (is_name q name || has_name old q)
