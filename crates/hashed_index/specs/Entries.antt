-- The entries of an index: for each hashed attribute its key, with the place of its item.
use Rattle.std.specs.Prelude.{ℕ, ◌+◌, List, [], ◌∷◌, ◌++◌, Option, None, Some, filter, map, nat_eq}
use Rattle.std.specs.List.Sorted.{IsNonDecreasingBy, IsPermutation}
use Rattle.keyring_file.specs.declared.clear.ClearItem.{ClearItem}
use Rattle.kr_base.specs.declared.hashed.HashedPair.{HashedPair}
use Rattle.hashed_index.specs.declared.entries.Entry.{Entry}
use Rattle.hashed_index.specs.Keys.{key_of}

-- the entry of a hashed attribute of the item at a place
abbrev pub entry_of : ℕ → HashedPair → Entry
entry_of place pair = record { key = key_of pair.name pair.value; place = place }

-- the entries of all hashed attributes of the items, the first of which is at a place
abbrev pub entries_from : ℕ → List ClearItem → List Entry
entries_from place [] = []
entries_from place (item ∷ items) = map (entry_of place) item.hashed ++ entries_from (place + 1) items

-- the keys don't fall
abbrev pub AreByKey : List Entry → Type 0
AreByKey entries = IsNonDecreasingBy (λ (entry : Entry). entry.key) entries

-- the entries of all hashed attributes of the items, in order of their keys
pub record IsIndexOf (items : List ClearItem) (entries : List Entry) : Type 0 where
  pub same : IsPermutation (entries_from 0 items) entries
  pub by_key : AreByKey entries

-- the entries with a key
abbrev pub with_key : ℕ → List Entry → List Entry
with_key key entries = filter (λ entry. nat_eq entry.key key) entries

-- the entries with the key of a number; if there is none, no entries
abbrev pub with_number : Option ℕ → List Entry → List Entry
with_number None entries = []
with_number (Some key) entries = with_key key entries

-- the places of the entries with one of the keys, those of the text first
abbrev pub places_with : ℕ → Option ℕ → List Entry → List ℕ
places_with text number entries = map (λ entry. entry.place) (with_key text entries) ++ map (λ entry. entry.place) (with_number number entries)
