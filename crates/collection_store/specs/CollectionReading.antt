-- What is read of a collection: its items while it is unlocked, and the clear part that is shown while it is locked (Secret Service API,
-- "Lookup Attributes").
use Rattle.std.specs.Prelude.{◌≡◌, ℕ, List, Option, None, Some, Result, Ok, Err, IfOk, IsOk, filter, map, nat_eq}
use Rattle.std.specs.List.{find}
use Rattle.std.specs.Option.{option_map}
use Rattle.kr_base.specs.declared.attributes.AttrValue.{AttrValue}
use Rattle.replace_slot.specs.Cell.{File, HasFile}
use Rattle.attribute_match.specs.Match.{hashed_matches, matches}
use Rattle.key_derivation.specs.Kdf.{Inputs}
use Rattle.keyring_file.specs.Clear.{ClearPart}
use Rattle.keyring_file.specs.declared.area.FullItem.{FullItem}
use Rattle.keyring_file.specs.declared.clear.ClearItem.{ClearItem}
use Rattle.keyring_file.specs.declared.fault.AreaFault.TheVariants as area
use Rattle.keyring_seal.specs.Arranged.{Row, row_number}
use Rattle.keyring_seal.specs.declared.content.Content.{Content}
use Rattle.keyring_seal.specs.declared.opening.OpenFault.{OpenFault}
use Rattle.keyring_seal.specs.declared.opening.OpenFault.TheVariants as open_fault
use Rattle.keyring_seal.specs.Whole.{opened}
use Rattle.collection_store.specs.State.{Held}
use Rattle.collection_store.specs.declared.refused.UnlockRefused.{UnlockRefused}
use Rattle.collection_store.specs.declared.refused.UnlockRefused.TheVariants as unlock_refused

-- the row with an id
abbrev pub row_at : ℕ → List Row → Option Row
row_at id rows = find (λ row. nat_eq (row_number row) id) rows

-- the item with an id, which only an unlocked collection shows
abbrev pub item_at : ℕ → Option Held → Option FullItem
item_at id None = None
item_at id (Some held) = option_map (λ row. row.1) (row_at id held.rows)

-- the content type of an item, which is always shown
abbrev pub content_at : ℕ → List ClearItem → Option (List ℕ)
content_at id items = option_map (λ item. item.content) (find (λ item. nat_eq item.id.0 id) items)

-- the ids of the items that match the wanted attributes, in rising order: by the attributes while it is unlocked, by their hashes
-- while it is locked
abbrev pub found : List (List ℕ × AttrValue) → ClearPart → Option Held → List ℕ
found wanted clear None = map (λ item. item.id.0) (filter (λ item. hashed_matches wanted item.hashed) clear.items)
found wanted clear (Some held) = map row_number (filter (λ row. matches wanted row.1.attributes) held.rows)

-- a key that was derived from these may open the file: the collection is locked, its file is known and there, and salt and iterations
-- are the file's
pub record Fits (file : File) (clear : ClearPart) (held : Option Held) (from : Inputs) : Type 0 where
  pub locked : held ≡ None
  pub there : HasFile file
  pub salt : from.salt ≡ clear.salt
  pub iterations : from.iterations ≡ clear.iterations

-- the bytes open under the key and the vector, to a content that has this property
abbrev pub Opens : List ℕ → List ℕ → List ℕ → (Content → Type 0) → Type 0
Opens bytes key vector Holds = IfOk (opened bytes key vector) Holds × IsOk (opened bytes key vector)

-- how an attempt to unlock ends, by what opening the file returns; a file whose clear part is known has no fault there
abbrev pub Unlocks : Result Content OpenFault → UnlockRefused → Type 0
Unlocks (Ok content) refused = ⊥
Unlocks (Err (open_fault.Clear fault)) refused = ⊥
Unlocks (Err (open_fault.Area area.CheckDiffers)) refused = refused ≡ unlock_refused.WrongPassword
Unlocks (Err (open_fault.Area area.Short)) refused = refused ≡ unlock_refused.Damaged area.Short
Unlocks (Err (open_fault.Area area.BadText)) refused = refused ≡ unlock_refused.Damaged area.BadText
Unlocks (Err (open_fault.Area area.BadKind)) refused = refused ≡ unlock_refused.Damaged area.BadKind
Unlocks (Err (open_fault.Area area.DuplicateName)) refused = refused ≡ unlock_refused.Damaged area.DuplicateName
