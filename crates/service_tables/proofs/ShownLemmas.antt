-- What is shown of sound collections and of their items has its types.
use Rattle.std.proofs.Common.{◌≡◌, ℕ, ◌^◌, ◌<◌, List, [], ◌∷◌, map, Option, Some, None, decimal, refl, arith}
use Rattle.std.specs.List.{All, AllByRecursion}
use Rattle.std.specs.Map.{keys_of}
use Rattle.std.specs.Option.{option_map_or}
use Rattle.std.proofs.lemmas.Fmt.{decimal_is_IsNumeral}
use Rattle.std.proofs.lemmas.List.Elements.{All-from_get_or, All-from_recursion}
use Rattle.std.proofs.lemmas.Str.Parse.{digit_at}
use Rattle.attribute_match.specs.Match.{text_of}
use Rattle.kr_base.specs.Attributes.{value_at}
use Rattle.kr_base.specs.Text.{HasZero, IsText}
use Rattle.kr_base.specs.declared.attributes.AttrValue.{AttrValue}
use Rattle.kr_base.specs.declared.attributes.AttrValue.TheVariants as value
use Rattle.kr_base.specs.declared.ids.ItemId.{ItemId}
use Rattle.kr_names.specs.declared.object_name.ObjectName.TheVariants as name
use Rattle.kr_names.proofs.TextLemmas.{IsPlain, IsText-plain}
use Rattle.keyring_file.specs.Known.{IsKnownPair, IsKnownValue}
use Rattle.keyring_file.specs.declared.area.FullItem.{FullItem}
use Rattle.collection_table.specs.Rows.{CollectionRow, Rows, item_of}
use Rattle.signal_fanout.specs.secret_calls.specs.Outs.{ArePaths, AreAttributes}
use Rattle.service_tables.specs.Objects.{collection_paths}
use Rattle.service_tables.specs.TablesReading.{clear_times, full_times, item_attributes, item_label, item_times, no_times, shown_attribute, times_of}
use Rattle.service_tables.specs.Sound.{AreSoundCollections, IsSoundCollection}
use Rattle.service_tables.specs.declared.times.Times.{Times}
use Rattle.service_tables.proofs.CollectionLemmas.{at-stem, item-known, path-of}

-- the empty text is one
empty-text : IsText []
empty-text = IsText-plain [] (All-from_recursion IsPlain [] tt)

-- digits are one
digits-plain : (n : ℕ) → n < 2 ^ 64 → All IsPlain (decimal n)
digits-plain n fits =
    All-from_get_or IsPlain (decimal n) 0 (λ i lt. (let digit = digit_at (decimal n) i (decimal_is_IsNumeral n fits).0.1 lt in (omega (arith, digit.0), omega (arith, digit.1))))

decimal-text : (n : ℕ) → n < 2 ^ 32 → IsText (decimal n)
decimal-text n small = IsText-plain (decimal n) (digits-plain n (omega (arith, small)))

-- so they contain no zero byte
pub decimal-whole : (n : ℕ) → n < 2 ^ 32 → HasZero (decimal n) → ⊥
decimal-whole n small = (decimal-text n small).no_zero

-- ---- the value of an attribute

value-text : (v : AttrValue) → IsKnownValue v → IsText (text_of v)
value-text (value.Text text) known = known
value-text (value.Number n) known = decimal-text n known

pub attributes-typed : (pairs : List (List ℕ × AttrValue)) → AllByRecursion IsKnownPair pairs → AreAttributes (map shown_attribute pairs)
attributes-typed [] all = tt
attributes-typed (pair ∷ pairs) all = (all.0.name, value-text pair.1 all.0.value, attributes-typed pairs all.1)

-- ---- items

module _ (stem : List ℕ) (item : ItemId) (rows : Rows) (sound : AreSoundCollections rows) where
  pub item-label-typed : IsText (item_label stem item rows)
  item-label-typed =
      let pass : (o : Option FullItem) → item_of stem item.0 rows ≡ o → IsText (option_map_or (λ (full : FullItem). full.label) o []) =
      elim [ None ↦ λ is. empty-text | Some full ↦ λ is. (item-known stem item.0 rows full sound.each is).label ] in
      pass (item_of stem item.0 rows) refl

  pub item-attributes-typed : AreAttributes (item_attributes stem item rows)
  item-attributes-typed =
      let pass : (o : Option FullItem) → item_of stem item.0 rows ≡ o → AreAttributes (option_map_or (λ (full : FullItem). map shown_attribute full.attributes) o []) =
      elim [ None ↦ λ is. tt | Some full ↦ λ is. attributes-typed full.attributes (item-known stem item.0 rows full sound.each is).attributes ] in
      pass (item_of stem item.0 rows) refl

  -- times are numbers of 64 bits
  abbrev AreMoments : Times → Type 0
  AreMoments times = (times.created < 2 ^ 64) × (times.modified < 2 ^ 64)

  pub item-times-typed : AreMoments (item_times stem item rows)
  item-times-typed =
      let pass : (o : Option FullItem) → item_of stem item.0 rows ≡ o → AreMoments (option_map_or full_times o no_times) =
      elim [
        | None ↦ λ is. (omega arith, omega arith)
        | Some full ↦ λ is. (let known = item-known stem item.0 rows full sound.each is in (known.created, known.modified))
      ] in
      pass (item_of stem item.0 rows) refl

-- ---- collections

pub times-typed : (stem : List ℕ) (rows : Rows) → AreSoundCollections rows → ((times_of stem rows).created < 2 ^ 64) × ((times_of stem rows).modified < 2 ^ 64)
times-typed stem rows sound =
    let pass : (o : Option CollectionRow) → value_at stem rows ≡ o
    → ((option_map_or clear_times o no_times).created < 2 ^ 64) × ((option_map_or clear_times o no_times).modified < 2 ^ 64) =
    elim [
      | None ↦ λ is. (omega arith, omega arith)
      | Some row ↦ λ is. (let here = at-stem IsSoundCollection stem row rows sound.each is in (here.shown.created, here.shown.modified))
    ] in
    pass (value_at stem rows) refl

each-path : (rows : Rows) → AllByRecursion IsSoundCollection rows → ArePaths (collection_paths (keys_of rows))
each-path [] all = tt
each-path (row ∷ rows) all = (path-of (name.Collection row.0) all.0.stem, each-path rows all.1)

-- the paths of all collections
pub stems-typed : (rows : Rows) → AreSoundCollections rows → ArePaths (collection_paths (keys_of rows))
stems-typed rows sound = each-path rows sound.each
