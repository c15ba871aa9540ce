-- The items of a locked collection that match.
use Rattle.std.specs.Prelude.{ℕ, List, [], ◌∷◌, if◌then◌else◌, drop, filter, map}
use Rattle.attribute_match.specs.Match.{hashed_matches}
use Rattle.kr_base.specs.declared.attributes.AttrValue.{AttrValue}
use Rattle.keyring_file.specs.declared.clear.ClearItem.{ClearItem}

-- the id of an item, if its hashes match
abbrev pub id_if_matches : List (List ℕ × AttrValue) → ClearItem → List ℕ
id_if_matches wanted item = if hashed_matches wanted item.hashed then item.id.0 ∷ [] else []

-- the id of the first item, if there is one and its hashes match
abbrev pub id_of_first : List (List ℕ × AttrValue) → List ClearItem → List ℕ
id_of_first wanted [] = []
id_of_first wanted (item ∷ items) = id_if_matches wanted item

-- the id of the item at a place, if its hashes match
abbrev pub id_at : List (List ℕ × AttrValue) → List ClearItem → ℕ → List ℕ
id_at wanted items place = id_of_first wanted (drop place items)

-- the ids of the items that match, in their order
abbrev pub matching_ids : List (List ℕ × AttrValue) → List ClearItem → List ℕ
matching_ids wanted items = map (λ item. item.id.0) (filter (λ item. hashed_matches wanted item.hashed) items)
