-- A file whose clear part is known, except for the order of its items.
use Rattle.std.specs.Prelude.{◌≡◌, ℕ, List}
use Rattle.keyring_file.specs.Clear.{ClearPart}
use Rattle.keyring_file.specs.ClearText.{HasClear}
use Rattle.keyring_file.specs.declared.clear.ClearItem.{ClearItem}
use Rattle.keyring_seal.specs.Order.{by_number}

-- the file has this clear part, once the items are sorted by number
abbrev pub HasSorted : List ℕ → ClearPart → Type 0
HasSorted file clear = (part : ClearPart) × HasClear file part × (clear ≡ record part { items = by_number (λ (item : ClearItem). item.id.0) part.items })
