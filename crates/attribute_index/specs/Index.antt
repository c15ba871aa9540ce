-- Which items have which attributes (Secret Service API, "Lookup Attributes"): for each pair of a name and a text the ids of the items
-- that have it, in rising order.
use Rattle.std.specs.Prelude.{◌≡◌, ℕ, ◌%◌, ◌&&◌, Bool, if◌then◌else◌, List, [], ◌∷◌, Option, Some, None, Result, OnOk, OnErr, true, false, map, not}
use Rattle.std.specs.List.{list_all}
use Rattle.std.specs.List.Sorted.{IsStrictlySortedBy}
use Rattle.std.specs.Cmp.Lexicographic.{slice_cmp}
use Rattle.std.specs.Map.{keys_of, lookup, set_value}
use Rattle.std.specs.Ordering.{nat_cmp, is_eq, ordering_then}
use Rattle.std.specs.declared.cmp.Ordering.{Ordering}
use Rattle.kr_base.specs.Attributes.{is_name}
use Rattle.kr_base.specs.IdLists.{IsIdList, has_id, with_id, without_id}
use Rattle.kr_base.specs.declared.attributes.AttrValue.{AttrValue}
use Rattle.attribute_match.specs.Keys.{mixed}
use Rattle.attribute_match.specs.Match.{has_pair, text_of}

-- the list that was found, or the empty one
abbrev pub or_none : {X : Type 0} → Option (List X) → List X
or_none None = []
or_none (Some xs) = xs

-- the key of a pair of a name and a text: 32 bits, so that few pairs have the same key by chance
unfoldable pub pair_key : List ℕ × List ℕ → ℕ
pair_key pair = mixed (mixed 1 pair.0) pair.1 % 4294967296

-- which pair of a name and a text comes first: by the name, and by the text if the names are the same
abbrev pub text_cmp : List ℕ × List ℕ → List ℕ × List ℕ → Ordering
text_cmp one other = ordering_then (slice_cmp nat_cmp one.0 other.0) (slice_cmp nat_cmp one.1 other.1)

-- which pair comes first: by the key, whose comparison takes one step, and by the texts if the keys are the same
abbrev pub pair_cmp : List ℕ × List ℕ → List ℕ × List ℕ → Ordering
pair_cmp one other = ordering_then (nat_cmp (pair_key one) (pair_key other)) (text_cmp one other)

-- a list is there, and it has no id
abbrev pub is_none_left : Option (List ℕ) → Bool
is_none_left None = false
is_none_left (Some []) = true
is_none_left (Some (id ∷ more)) = false

-- whether two pairs have the same name and the same text
abbrev pub is_pair : List ℕ × List ℕ → List ℕ × List ℕ → Bool
is_pair one other = is_eq (pair_cmp one other)

-- the ids at all pairs of a name and a text
abbrev pub Names : Type 0
Names = List ((List ℕ × List ℕ) × List ℕ)

-- the ids at a pair
abbrev pub ids_in_names : Names → List ℕ → List ℕ → List ℕ
ids_in_names names name text = or_none (lookup (is_pair (name, text)) names)

-- the pairs are in order, and none is there twice
abbrev pub IsSorted : Names → Type 0
IsSorted names = IsStrictlySortedBy pair_cmp (keys_of names)

-- one of the pairs has the name and the text, and none of the others has
abbrev pub is_own : List (List ℕ × AttrValue) → List (List ℕ × AttrValue) → List ℕ → List ℕ → Bool
is_own pairs but name text = has_pair name text pairs && not (has_pair name text but)

-- the id was put at each of these names and texts
abbrev pub IsPut : (List ℕ → List ℕ → Bool) → ℕ → Names → Names → Type 0
IsPut at id old new = (name text : List ℕ) → ids_in_names new name text ≡ (if at name text then with_id id (ids_in_names old name text) else ids_in_names old name text)

-- the id was taken out of each of these names and texts
abbrev pub IsTaken : (List ℕ → List ℕ → Bool) → ℕ → Names → Names → Type 0
IsTaken at id old new = (name text : List ℕ) → ids_in_names new name text ≡ (if at name text then without_id id (ids_in_names old name text) else ids_in_names old name text)

-- the id was put at the pairs of the attributes after, and taken out of those of the attributes before
abbrev pub IsMoved : List (List ℕ × AttrValue) → List (List ℕ × AttrValue) → ℕ → Names → Names → Type 0
IsMoved before after id old new = (name text : List ℕ) → ids_in_names new name text
    ≡ (if is_own after before name text then with_id id (ids_in_names old name text)
    else (if is_own before after name text then without_id id (ids_in_names old name text) else ids_in_names old name text))

-- the name and the text are these
abbrev pub is_this : List ℕ → List ℕ → List ℕ → List ℕ → Bool
is_this name text n t = is_name name n && is_name text t

-- they are those of the pair, and none of these attributes has the pair
abbrev pub is_own_pair : List ℕ × AttrValue → List (List ℕ × AttrValue) → List ℕ → List ℕ → Bool
is_own_pair pair but n t = is_this pair.0 (text_of pair.1) n t && not (has_pair n t but)

-- the ids at each name and text are the same
abbrev pub IsSame : Names → Names → Type 0
IsSame old new = (name text : List ℕ) → ids_in_names new name text ≡ ids_in_names old name text

-- the ids at each name and text rise
abbrev pub AllRise : Names → Type 0
AllRise names = (name text : List ℕ) → IsIdList (ids_in_names names name text)

-- no pair is kept without ids
abbrev pub IsLean : Names → Type 0
IsLean names = (name text : List ℕ) → ¬ (lookup (is_pair (name, text)) names ≡ Some [])

-- the id was put at the pair, if the pair is there; after a refusal, and if it isn't there, everything is as before
abbrev pub IsPutThere : {E : Type 0} → Option (Result Unit E) → List ℕ × List ℕ → ℕ → Names → Names → Type 0
IsPutThere None pair id old new = (new ≡ old) × (lookup (is_pair pair) old ≡ None)
IsPutThere (Some result) pair id old new = (ids : List ℕ) × (lookup (is_pair pair) old ≡ Some ids) × OnOk result (new ≡ set_value (is_pair pair) old (with_id id ids)) × OnErr result (new ≡ old)

-- the id was taken out of the pair, if the pair is there, and the result is whether the pair has none left
abbrev pub IsTakenThere : Bool → List ℕ × List ℕ → ℕ → Names → Names → Type 0
IsTakenThere left pair id old new = (new ≡ set_value (is_pair pair) old (without_id id (or_none (lookup (is_pair pair) old)))) × (left ≡ is_none_left (lookup (is_pair pair) new))

-- the id is at exactly the names and texts of the pairs
abbrev pub IsAtJust : List (List ℕ × AttrValue) → ℕ → Names → Type 0
IsAtJust pairs id names = (name text : List ℕ) → has_id (ids_in_names names name text) id ≡ has_pair name text pairs

-- how contracts see an index: the ids at each name and text, and all ids
pub record Index : Type 0 where
  pub names : Names
  pub all : List ℕ

-- the ids at a pair
abbrev pub ids_at : Index → List ℕ → List ℕ → List ℕ
ids_at index name text = ids_in_names index.names name text

-- the ids at each wanted pair
abbrev pub wanted_lists : Index → List (List ℕ × AttrValue) → List (List ℕ)
wanted_lists index wanted = map (λ pair. ids_at index pair.0 (text_of pair.1)) wanted

-- each list has the id
abbrev pub in_every : List (List ℕ) → ℕ → Bool
in_every lists id = list_all (λ ids. has_id ids id) lists

-- each wanted pair has the id
abbrev pub in_each : Index → List (List ℕ × AttrValue) → ℕ → Bool
in_each index wanted id = in_every (wanted_lists index wanted) id

-- the ids that all wanted pairs have, in rising order; if none is wanted, all ids
abbrev pub IsFound : Index → List (List ℕ × AttrValue) → List ℕ → Type 0
IsFound index [] found = found ≡ index.all
IsFound index (pair ∷ more) found = IsStrictlySortedBy nat_cmp found × ((id : ℕ) → has_id found id ≡ in_each index (pair ∷ more) id)
