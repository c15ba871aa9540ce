-- How many bytes a content takes as a file, and the room for them.
use Rattle.std.specs.Prelude.{◌≡◌, ℕ, ◌+◌, ◌<◌, ◌≤◌, List, length, Option, Some, None, Result, Ok, Err, Vec}
use Rattle.std.specs.declared.alloc.Global.{Global}
use Rattle.std.specs.List.{flat_map}
use Rattle.keyring_file.specs.Canonical.{clear_item_text, front_text, item_text, padding}
use Rattle.keyring_seal.specs.declared.content.Content.{Content}
use Rattle.keyring_seal.specs.declared.sealing.SealRefused.{SealRefused}
use Rattle.keyring_seal.specs.declared.sealing.SealRefused.TheVariants as refused
use Rattle.keyring_seal.specs.Arranged.{Row, hashed_row, rows}

-- the result is what this many bytes leave of the room, or None if there isn't enough room
abbrev pub Takes : ℕ → ℕ → Option ℕ → Type 0
Takes room bytes None = room < bytes
Takes room bytes (Some left) = left + bytes ≡ room

-- an item in the clear part, with the hashes of its attributes
abbrev pub row_text : ℕ → Row → List ℕ
row_text minor row = clear_item_text minor (hashed_row row).0

-- the bytes of the items in the area
abbrev pub items_measure : Content → ℕ
items_measure content = length (flat_map item_text content.items)

-- the bytes of the area: the items, its check and its padding
abbrev pub area_measure : Content → ℕ
area_measure content = items_measure content + (16 + padding (items_measure content))

-- The bytes of the whole file: the front and two numbers, the items in the clear part, the items in the area, and its check and padding.
-- They don't depend on the order of the items.
abbrev pub measure : Content → ℕ
measure content =
    (length (front_text content.clear) + 8)
    + length (flat_map (row_text content.clear.minor) (rows content))
    + items_measure content
    + (16 + padding (items_measure content))

-- The bytes of the area and those of the whole file, if these are within the room, otherwise None. The arguments
-- are the room, the bytes of the clear part and those of the items in the area.
abbrev pub AreSizesOf : ℕ → ℕ → ℕ → Option (ℕ × ℕ) → Type 0
AreSizesOf clear items room None = room < clear + items + (16 + padding items)
AreSizesOf clear items room (Some (area, whole)) = (area ≡ items + (16 + padding items)) × (whole ≡ clear + items + (16 + padding items)) × (clear + items + (16 + padding items) ≤ room)

-- the same, for a content
abbrev pub AreSizes : Content → ℕ → Option (ℕ × ℕ) → Type 0
AreSizes content = AreSizesOf ((length (front_text content.clear) + 8) + length (flat_map (row_text content.clear.minor) (rows content))) (items_measure content)

-- What sealing returns: the text if there is room for it, and `TooLarge` otherwise. Memory runs out only if
-- there is room.
abbrev pub Seals : ℕ → List ℕ → Result (Vec ℕ Global) SealRefused → Type 0
Seals room text (Ok file) = (file.items ≡ text) × (length text ≤ room)
Seals room text (Err refused.TooLarge) = room < length text
Seals room text (Err refused.OutOfMemory) = length text ≤ room
