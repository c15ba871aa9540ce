-- A collection as the service's state has it (Secret Service API, interface Collection): its file, the clear part that is shown, and
-- what it keeps while it is unlocked.
use Rattle.std.specs.Prelude.{◌≡◌, ℕ, Bool, ◌||◌, if◌then◌else◌, List, [], length, map, max, Option, None, Some, Ok}
use Rattle.std.specs.List.{zip, AllByRecursion}
use Rattle.std.specs.List.Sorted.{IsStrictlyIncreasing}
use Rattle.std.specs.Map.{keys_of}
use Rattle.std.specs.Option.{is_some, option_map_or}
use Rattle.attribute_hash.specs.Hash.{hashes}
use Rattle.kr_outside.specs.RenameDisk.{Image}
use Rattle.replace_slot.specs.Cell.{File, Known, Doubt, IsKnownFile, new_image, old_image}
use Rattle.replace_slot.specs.declared.images.Found.{Found}
use Rattle.replace_slot.specs.declared.images.Found.TheVariants.{Old, New, Other}
use Rattle.keyring_file.specs.Clear.{ClearPart}
use Rattle.keyring_file.specs.ClearText.{HasClear}
use Rattle.keyring_file.specs.declared.clear.ClearItem.{ClearItem}
use Rattle.item_store.specs.Rows.{Rows}
use Rattle.keyring_seal.specs.Arranged.{Row, arranged_rows, rows}
use Rattle.keyring_seal.specs.Order.{by_number}
use Rattle.keyring_seal.specs.Whole.{opened}
use Rattle.keyring_seal.specs.declared.content.Content.{Content}

-- what an unlocked collection keeps: the key and the vector of its file, and its items in order of their ids, each as in both parts
-- of the file
pub record Held : Type 0 where
  pub key : List ℕ
  pub vector : List ℕ
  pub rows : List Row

-- a collection as contracts see it: its slot, what is known of its file, the clear part that is shown, with its items in order of
-- their ids, the other clear part of a doubt between two files, which is that of the newer one, and what it keeps while it is unlocked
pub record CollectionState (S : Type 0) : Type 0 where
  pub slot : S
  pub file : File
  pub clear : ClearPart
  pub other : Option ClearPart
  pub held : Option Held

-- ---- what is shown

-- the ids of the items
abbrev pub ids_of : List ClearItem → List ℕ
ids_of items = map (λ item. item.id.0) items

-- the clear part with its items in order of their ids
abbrev pub by_id : ClearPart → ClearPart
by_id clear = record clear { items = by_number (λ (item : ClearItem). item.id.0) clear.items }

-- the items of a clear part are in order of their ids
abbrev pub IsById : ClearPart → Type 0
IsById clear = IsStrictlyIncreasing (ids_of clear.items)

-- the image that is shown: the known one, or the older one of a doubt, or the newer one if the older is no file
abbrev pub shown_image : File → Image
shown_image (Known image) = image
shown_image (Doubt None new) = new
shown_image (Doubt (Some bytes) new) = Some bytes

-- the image is a file with this clear part, except for the order of its items; if there is no file, anything may be shown
abbrev pub Shows : Image → ClearPart → Type 0
Shows None clear = Unit {0}
Shows (Some bytes) clear = (part : ClearPart) × HasClear bytes part × (clear ≡ by_id part)

-- the image has this number of items; no file has 0
abbrev pub HasItems : Image → ℕ → Type 0
HasItems None count = count ≡ 0
HasItems (Some bytes) count = (part : ClearPart) × HasClear bytes part × (count ≡ length (by_id part).items)

-- one of the images is a file
abbrev pub has_image : File → Bool
has_image file = is_some (old_image file) || is_some (new_image file)

-- the number of items in a clear part; none has 0
abbrev pub items_of : Option ClearPart → ℕ
items_of part = option_map_or (λ clear. length clear.items) part 0

-- how many items a collection counts with: in doubt, the greater number of the two images
abbrev pub most_items : File → ClearPart → Option ClearPart → ℕ
most_items file clear other = if has_image file then max (length clear.items) (items_of other) else 0

-- the larger number of items in the two images
abbrev pub HasMostItems : File → ℕ → Type 0
HasMostItems (Known image) count = HasItems image count
HasMostItems (Doubt old new) count = (one : ℕ) × (other : ℕ) × HasItems old one × HasItems new other × (count ≡ max one other)

-- ---- what an unlocked collection keeps

-- the bytes decrypt under the key and the vector to the items that are kept
pub record OpensTo (bytes : List ℕ) (held : Held) : Type 0 where
  pub content : Content
  pub opens : opened bytes held.key held.vector ≡ Ok content
  pub arranged : held.rows ≡ arranged_rows content

-- an unlocked collection's file is known, and decrypts to the items that are kept
abbrev pub IsHeld : File → Option Held → Type 0
IsHeld file None = Unit {0}
IsHeld file (Some held) = IsKnownFile (λ bytes. OpensTo bytes held) file

-- ---- the invariant of the type: while the collection is unlocked, `told` is the clear part with the hashes of the items' own
-- attributes, and `written` the one in the file, if its hashes differ

-- what an unlocked collection keeps in addition to its file and the clear part: the key, the vector, the items, and perhaps the clear
-- part as it is in the file
abbrev pub Parts : Type 0
Parts = List ℕ × List ℕ × Rows × Option ClearPart

-- the clear part that is shown
abbrev pub shown_of : ClearPart → Option Parts → ClearPart
shown_of told None = told
shown_of told (Some (key, vector, items, None)) = told
shown_of told (Some (key, vector, items, Some written)) = written

-- the items as in both parts of the file
abbrev pub rows_with : ClearPart → Rows → List Row
rows_with told items = zip told.items (map (λ row. row.1.item) items)

-- what is kept
abbrev pub held_of : ClearPart → Option Parts → Option Held
held_of told None = None
held_of told (Some (key, vector, items, written)) = Some (record { key = key; vector = vector; rows = rows_with told items })

-- an item of the clear part without its hashes
abbrev pub unhashed : ClearItem → ClearItem
unhashed item = record item { hashed = [] }

-- the clear part without its hashes
abbrev pub without_hashes : ClearPart → ClearPart
without_hashes clear = record clear { items = map unhashed clear.items }

-- the content is as a collection keeps it: the ids rise, and each item has the hashes of its own attributes
pub record IsInPlace (content : Content) : Type 0 where
  pub rising : IsById content.clear
  pub hashed : AllByRecursion (λ (row : Row). row.0.hashed ≡ hashes row.1.attributes) (rows content)

-- the clear part and the items are those of the content, in order of their ids and with the hashes of their own attributes
pub record AreParts (content : Content) (told : ClearPart) (items : Rows) : Type 0 where
  pub rows : rows_with told items ≡ arranged_rows content
  pub ids : ids_of told.items ≡ keys_of items
  pub hashed : AllByRecursion (λ (row : Row). row.0.hashed ≡ hashes row.1.attributes) (rows_with told items)
  pub same : without_hashes told ≡ without_hashes (by_id content.clear)

-- the file decrypts to the items; the clear part has the same ids and the hashes of their own attributes, and except for these is the
-- one that is shown
pub record IsOpened (bytes : List ℕ) (told : ClearPart) (key vector : List ℕ) (items : Rows) (shown : ClearPart) : Type 0 where
  pub opens : OpensTo bytes (record { key = key; vector = vector; rows = rows_with told items })
  pub ids : ids_of told.items ≡ keys_of items
  pub hashed : AllByRecursion (λ (row : Row). row.0.hashed ≡ hashes row.1.attributes) (rows_with told items)
  pub same : without_hashes told ≡ without_hashes shown

-- an unlocked collection's file is known, and decrypts to the items
abbrev pub IsOpenedFile : File → ClearPart → Option Parts → Type 0
IsOpenedFile file told None = Unit {0}
IsOpenedFile file told (Some (key, vector, items, written)) =
    IsKnownFile (λ bytes. IsOpened bytes told key vector items (shown_of told (Some (key, vector, items, written)))) file

-- the clear part of the newer image, if the older one is shown and the newer one is a file
abbrev pub IsNewer : File → Option ClearPart → Type 0
IsNewer (Known image) newer = newer ≡ None
IsNewer (Doubt None new) newer = newer ≡ None
IsNewer (Doubt (Some bytes) None) newer = newer ≡ None
IsNewer (Doubt (Some bytes) (Some image)) newer = (part : ClearPart) × Shows (Some image) part × (newer ≡ Some part)

-- the invariant of a collection
pub record IsKept (file : File) (told : ClearPart) (newer : Option ClearPart) (parts : Option Parts) : Type 0 where
  pub shows : Shows (shown_image file) (shown_of told parts)
  pub shown_next : IsNewer file newer
  pub opens : IsOpenedFile file told parts

-- the clear part after a doubt ended: that of the newer image, if that was found and is a file
abbrev pub told_after : Found → ClearPart → Option ClearPart → ClearPart
told_after Old told newer = told
told_after New told None = told
told_after New told (Some part) = part
told_after Other told newer = told
