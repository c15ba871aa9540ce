-- The entries of an index that is made at once: each is a pair of a name and a text, and the id of an item that has it.
use denote.Ref.{Bor}
use Rattle.std.specs.Prelude.{◌≡◌, ℕ, ◌&&◌, ◌||◌, ◌<◌, ◌≤◌, ◌+◌, ◌*◌, ◌^◌, ◌++◌, Bool, List, [], ◌∷◌, map, nat_eq}
use Rattle.std.specs.List.{list_any}
use Rattle.std.specs.declared.alloc.Global.{Global}
use Rattle.std.proofs.Common.{Box}
use Rattle.kr_base.specs.Attributes.{is_name}
use Rattle.kr_base.specs.IdLists.{IsIdList, has_id}
use Rattle.kr_base.specs.declared.attributes.AttrValue.{AttrValue}
use Rattle.kr_base.specs.declared.ids.ItemId.{ItemId}
use Rattle.attribute_match.specs.Match.{has_pair, text_of}
use Rattle.attribute_index.specs.Index.{AllRise, Index, IsLean, IsPut, IsSorted, Names, ids_at, ids_in_names, is_this}
use Rattle.attribute_index.specs.declared.branch.Branch.{Branch}

-- items that are given with their ids
abbrev pub Items : Type 0
Items = List (ItemId × Bor (List (List ℕ × AttrValue)))

-- whether one of the items has the id and the pair
abbrev pub some_has : Items → List ℕ → List ℕ → ℕ → Bool
some_has items name text id = list_any (λ item. nat_eq item.0.0 id && has_pair name text item.1.now) items

-- whether one of the items has the id
abbrev pub some_is : Items → ℕ → Bool
some_is items id = list_any (λ item. nat_eq item.0.0 id) items

-- the index has, at each name and text, the ids of the items that have the pair, in rising order, and all ids
pub record IsIndexOf (items : Items) (index : Index) : Type 0 where
  pub rise : (name text : List ℕ) → IsIdList (ids_at index name text)
  pub each : (name text : List ℕ) (id : ℕ) → has_id (ids_at index name text) id ≡ some_has items name text id
  pub all_rise : IsIdList index.all
  pub all : (id : ℕ) → has_id index.all id ≡ some_is items id

-- a pair of a name and a text, and an id
abbrev pub Noted : Type 0
Noted = (List ℕ × List ℕ) × ℕ

-- a pair of an item's attributes, with the item's id
abbrev pub entry_of : ℕ → List ℕ × AttrValue → Noted
entry_of id pair = ((pair.0, text_of pair.1), id)

-- the pairs of all items
abbrev pub entries_of : Items → List Noted
entries_of [] = []
entries_of (item ∷ items) = map (entry_of item.0.0) item.1.now ++ entries_of items

-- whether an entry is this one
abbrev pub is_entry : List ℕ → List ℕ → ℕ → Noted → Bool
is_entry name text id entry = (is_name name entry.0.0 && is_name text entry.0.1) && nat_eq entry.1 id

-- whether this one is among the entries
abbrev pub is_noted : List Noted → List ℕ → List ℕ → ℕ → Bool
is_noted entries name text id = list_any (is_entry name text id) entries

-- the entries note the pairs of the items
abbrev pub NotesAll : Items → List Noted → Type 0
NotesAll items entries = (name text : List ℕ) (id : ℕ) → is_noted entries name text id ≡ some_has items name text id

-- the pairs are those of the entries, each with its ids
pub record IsMadeOf (entries : List Noted) (names : Names) : Type 0 where
  pub rise : AllRise names
  pub lean : IsLean names
  pub each : (name text : List ℕ) (id : ℕ) → has_id (ids_in_names names name text) id ≡ is_noted entries name text id

-- each id is at a pair or among the entries that are left just if it was before
abbrev pub HasSame : Names → List Noted → Names → List Noted → Type 0
HasSame new left old entries = (name text : List ℕ) (id : ℕ) → (has_id (ids_in_names new name text) id || is_noted left name text id) ≡ (has_id (ids_in_names old name text) id || is_noted entries name text id)

-- the id was put at the pair, and what is true of the pairs of an index stays true
pub record IsPutAt (name text : List ℕ) (id : ℕ) (old new : Names) : Type 0 where
  pub sorted : IsSorted new
  pub put : IsPut (is_this name text) id old new
  pub rise : AllRise old → AllRise new
  pub lean : IsLean old → IsLean new

-- what is true of the pairs of an index
pub record IsKept (names : Names) : Type 0 where
  pub sorted : IsSorted names
  pub rise : AllRise names
  pub lean : IsLean names

-- the pairs of branches, without those before and after them
abbrev pub own_pairs : List (Box Branch Global) → Names
own_pairs branches = map (λ b. ((b.value.name, b.value.text), b.value.ids)) branches

-- the pairs of these branches, and of the last one
abbrev pub chained : List (Box Branch Global) → Box Branch Global → Names
chained done last = own_pairs done ++ ((last.value.name, last.value.text), last.value.ids) ∷ []

-- as many pairs as this fill a tree of the height, except for its lowest level
abbrev pub Fill : ℕ → ℕ → Type 0
Fill count height = (count < 2 ^ height) × (2 ^ height ≤ 2 * count + 1)
