-- What a search lists: the paths of the items that match, each of which leads back to its item.
use Rattle.std.proofs.Common.{◌≡◌, ℕ, List, [], ◌∷◌, ◌++◌, filter, map, IfSome, Option, Some, None, refl, sym, ap, ◌∙◌}
use Rattle.std.specs.List.{AllByRecursion}
use Rattle.std.proofs.lemmas.List.{map-append}
use Rattle.kr_base.specs.declared.attributes.AttrValue.{AttrValue}
use Rattle.kr_base.specs.declared.ids.ItemId.{ItemId}
use Rattle.kr_base.specs.Stem.{IsStem}
use Rattle.kr_names.specs.declared.object_name.ObjectName.{ObjectName}
use Rattle.kr_names.specs.declared.object_name.ObjectName.TheVariants as object
use Rattle.kr_names.specs.Naming.{name_of_path}
use Rattle.kr_names.specs.Path.{IsName, IsPathOf, path_text}
use Rattle.attribute_match.specs.Match.{hashed_matches, matches}
use Rattle.keyring_file.specs.declared.clear.ClearItem.{ClearItem}
use Rattle.keyring_seal.specs.Arranged.{Row}
use Rattle.service_events.specs.collection_store.specs.State.{Held}
use Rattle.service_events.specs.collection_table.specs.Rows.{Rows, found_in_all}
use Rattle.service_events.specs.service_tables.specs.Objects.{item_paths, locked_paths, unlocked_paths}
use Rattle.service_events.specs.service_tables.specs.Sound.{IsSoundCollection, IsSoundItem, AreSoundItems}
use Rattle.service_events.specs.service_tables.proofs.EachLemmas.{each-append, each-filter, each-mapped}
use Rattle.tool_script.specs.Replies.{item_at, parts_of_name}
use Rattle.tool_laws.specs.Matches.{Item, locked_in, locked_items, open_in, open_items}

-- the path of an item
abbrev pub path-of : Item → List ℕ
path-of item = path_text (object.Item item.0 item.1)

-- the paths of rows in a collection
row-paths : {A : Type 0} (id : A → ItemId) (stem : List ℕ) (xs : List A)
    → item_paths stem (map (λ n. record { 0 = n }) (map (λ x. (id x).0) xs)) ≡ map path-of (map (λ x. (stem, id x)) xs)
row-paths id stem [] = refl
row-paths id stem (x ∷ xs) = ap (λ (l : List (List ℕ)). path_text (object.Item stem (id x)) ∷ l) (row-paths id stem xs)

-- the paths in unlocked collections are those of the items that match
pub open-listed : (wanted : List (List ℕ × AttrValue)) (rows : Rows) → unlocked_paths (found_in_all wanted rows) ≡ map path-of (open_items wanted rows)
open-listed wanted [] = refl
open-listed wanted (row ∷ rows) = pass row.1.held (open-listed wanted rows)
  where
    pass : (held : Option Held) → unlocked_paths (found_in_all wanted rows) ≡ map path-of (open_items wanted rows)
        → unlocked_paths (found_in_all wanted ((row.0, record row.1 { held = held }) ∷ rows)) ≡ map path-of (open_in wanted row.0 held ++ open_items wanted rows)
    pass None rest = rest
    pass (Some held) rest =
        let its = filter (λ (r : Row). matches wanted r.1.attributes) held.rows in
        ap (λ (l : List (List ℕ)). l ++ unlocked_paths (found_in_all wanted rows)) (row-paths (λ (r : Row). r.0.id) row.0 its)
        ∙ ap (λ (l : List (List ℕ)). map path-of (open_in wanted row.0 (Some held)) ++ l) rest ∙ sym (map-append path-of (open_in wanted row.0 (Some held)) (open_items wanted rows))

-- the same in locked collections
pub locked-listed : (wanted : List (List ℕ × AttrValue)) (rows : Rows) → locked_paths (found_in_all wanted rows) ≡ map path-of (locked_items wanted rows)
locked-listed wanted [] = refl
locked-listed wanted (row ∷ rows) = pass row.1.held (locked-listed wanted rows)
  where
    items : List ClearItem
    items = row.1.clear.items

    pass : (held : Option Held) → locked_paths (found_in_all wanted rows) ≡ map path-of (locked_items wanted rows)
        → locked_paths (found_in_all wanted ((row.0, record row.1 { held = held }) ∷ rows)) ≡ map path-of (locked_in wanted row.0 items held ++ locked_items wanted rows)
    pass (Some held) rest = rest
    pass None rest =
        let its = filter (λ (item : ClearItem). hashed_matches wanted item.hashed) items in
        ap (λ (l : List (List ℕ)). l ++ locked_paths (found_in_all wanted rows)) (row-paths (λ (item : ClearItem). item.id) row.0 its)
        ∙ ap (λ (l : List (List ℕ)). map path-of (locked_in wanted row.0 items None) ++ l) rest ∙ sym (map-append path-of (locked_in wanted row.0 items None) (locked_items wanted rows))

-- the item has a path
abbrev pub IsNamed : Item → Type 0
IsNamed item = IsName (object.Item item.0 item.1)

-- what is known of a sound row gives it a path
rows-named : (stem : List ℕ) → IsStem stem → (rows : List Row) → AllByRecursion IsSoundItem rows → AllByRecursion (λ (row : Row). IsNamed (stem, row.0.id)) rows
rows-named stem is [] are = tt
rows-named stem is (row ∷ rows) are = ((is, are.0.clear.id), rows-named stem is rows are.1)

-- each match in an unlocked collection of a sound state has a path
pub open-named : (wanted : List (List ℕ × AttrValue)) (rows : Rows) → AllByRecursion IsSoundCollection rows → AllByRecursion IsNamed (open_items wanted rows)
open-named wanted [] are = tt
open-named wanted (row ∷ rows) are =
    each-append IsNamed (open_in wanted row.0 row.1.held) (open_items wanted rows) (pass row.1.held are.0.held) (open-named wanted rows are.1)
  where
    pass : (held : Option Held) → IfSome held AreSoundItems → AllByRecursion IsNamed (open_in wanted row.0 held)
    pass None is = tt
    pass (Some held) is =
        let match = λ (r : Row). matches wanted r.1.attributes in
        let Named : Row → Type 0 = λ r. IsNamed (row.0, r.0.id) in
        each-mapped (λ (r : Row). (row.0, r.0.id)) IsNamed (filter match held.rows) (each-filter Named match held.rows (rows-named row.0 are.0.stem held.rows is))

-- a path leads to its name
abbrev pub AreRead : Type 0
AreRead = (path : List ℕ) (name : ObjectName) → IsPathOf name path → name_of_path path ≡ Some name

-- the path of an item leads back to it
pub item-back : AreRead → (item : Item) → IsNamed item → item_at (path-of item) ≡ Some item
item-back reads item is = ap parts_of_name (reads (path-of item) (object.Item item.0 item.1) (record { named = is; spelled = refl }))
