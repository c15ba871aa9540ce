-- What a change that is stored leaves of sound collections: they are sound, whether or not the file was replaced or removed.
use Rattle.std.proofs.Common.{◌≡◌, ◌≤◌, ℕ, ◌+◌, ◌^◌, ◌<◌, nat_eq, nat_le, nat_lt, Bool, true, false, cond, IfSome, IsSome, List, [], ◌∷◌, ◌++◌, length, map, Option, Some, None, Result, Ok, Err, refl, sym, ap, subst, ◌∙◌, arith, inl, inr}
use Rattle.std.specs.Cmp.Lexicographic.{slice_cmp}
use Rattle.std.specs.List.{AllByRecursion, list_all, zip}
use Rattle.std.specs.Option.{option_and_then, option_map_or}
use Rattle.std.specs.Ordering.{nat_cmp}
use Rattle.std.proofs.lemmas.Bool.{eqb-true, leb-true, or_cases}
use Rattle.std.proofs.lemmas.Bool.Decides.{nat_tests}
use Rattle.std.proofs.lemmas.Map.Lookups.{exact_bytes}
use Rattle.std.proofs.lemmas.Option.{none-some}
use Rattle.kr_base.specs.Attributes.{is_name, value_at}
use Rattle.kr_base.specs.Stem.{IsStem}
use Rattle.kr_base.specs.Text.{IsText}
use Rattle.kr_base.specs.declared.attributes.AttrValue.{AttrValue}
use Rattle.kr_base.specs.declared.ids.ItemId.{ItemId}
use Rattle.kr_base.proofs.OrderedLemmas.{is_equal}
use Rattle.kr_names.specs.declared.object_name.ObjectName.TheVariants as name
use Rattle.kr_names.specs.Path.{IsName}
use Rattle.keyring_file.specs.Clear.{ClearPart, IsOfVersion, IsPlain, plain_content}
use Rattle.keyring_file.specs.ClearText.{most_iterations}
use Rattle.keyring_file.specs.Known.{IsKnownClearItem}
use Rattle.keyring_file.specs.declared.clear.ClearItem.{ClearItem}
use Rattle.keyring_seal.specs.Arranged.{Row, of_rows, row_number, rows}
use Rattle.keyring_seal.specs.Whole.{most_bytes, sealed}
use Rattle.keyring_seal.specs.declared.content.Content.{Content}
use Rattle.kr_outside.specs.RenameDisk.{Image}
use Rattle.item_store.specs.Rows.{Row as Kept, first_id, greatest_id, has_just, ids_where, last_id, most_attributes, next_id}
use Rattle.item_store.specs.declared.fault.ItemFault.{ItemFault}
use Rattle.item_store.specs.declared.fault.ItemFault.TheVariants as item_fault
use Rattle.collection_store.specs.Changes.{as_content, at_item, content_changed, content_stored, equal_id, has_row, made_added, made_new, minor_made, name_made, new_row, replaced, rows_changed, rows_made, rows_without, store_rows, with_secret, within_most, with_label, with_attributes}
use Rattle.collection_store.specs.Outcomes.{most_for}
use Rattle.collection_store.specs.State.{Held, ids_of, shown_image}
use Rattle.collection_store.specs.Storable.{answer_of, sized, storable}
use Rattle.collection_store.specs.declared.change.Changed.{Changed}
use Rattle.collection_store.specs.declared.change.Changed.TheVariants as changes
use Rattle.collection_store.specs.declared.refused.ChangeRefused.TheVariants as refused
use Rattle.collection_table.specs.Entries.{changed}
use Rattle.replace_slot.specs.Cell.{File, Known, Doubt, HasFile, old_image}
use Rattle.collection_table.specs.Rows.{CollectionRow, Rows, perhaps_removed, perhaps_stored, room_in, stored}
use Rattle.collection_table.proofs.EntryLemmas.{changed_in_order, order_kept}
use Rattle.service_tables.specs.declared.fate.StoreFate.{StoreFate}
use Rattle.service_tables.specs.declared.fate.StoreFate.TheVariants as fate
use Rattle.service_tables.specs.Sound.{AreAttributeTypes, AreItemTypes, AreSecretTypes, AreShown, AreSoundCollections, AreSoundItems, HoldsShown, IsSoundCollection, IsSoundItem, IsTypedText, ShowsItems, ShowsNewerItems}
use Rattle.service_tables.specs.Storing.{AreEditTypes, Edit, Add_item, Set_secret, Remove_item, Set_label, Set_attributes, Set_name, answered_at, change_of, has_place, item_in, placed, placed_answer, row_after, row_changed, rows_erased, rows_stored, storable_at}
use Rattle.service_tables.proofs.CollectionLemmas.{at-stem, each-changed}
use Rattle.service_tables.proofs.EachLemmas.{each-append, each-filter, each-mapped, each-weaker}
use Rattle.service_tables.proofs.HeldLemmas.{AreUp, MadeUp, held-up, ids-rows, ids-up, older-shows, rows-up, sealed-shows}
use Rattle.service_tables.proofs.TypedLemmas.{pairs-known, text-known}

-- ---- rows of items

abbrev AreSound : List Row → Type 0
AreSound these = AllByRecursion IsSoundItem these

-- one row is changed into another sound one
changed-sound : (id : ℕ) (f : Row → Row) → ((row : Row) → IsSoundItem row → IsSoundItem (f row)) → (these : List Row) → AreSound these → AreSound (rows_changed id f these)
changed-sound id f keeps [] all = tt
changed-sound id f keeps (row ∷ these) all =
    let pass : (b : Bool) → IsSoundItem (cond b (f row) row) = elim [ true ↦ keeps row all.0 | false ↦ all.0 ] in
    (pass (nat_eq (row_number row) id), changed-sound id f keeps these all.1)

-- the last id has its type
last-small : (these : List Row) → AreSound these → last_id (store_rows these) < 2 ^ 32
last-small [] all = omega arith
last-small (row ∷ []) all = all.0.clear.id
last-small (row ∷ next ∷ more) all = last-small (next ∷ more) all.1

next-small : (these : List Row) (id : ℕ) → AreSound these → next_id (store_rows these) ≡ Some id → id < 2 ^ 32
next-small these id all is =
    let last = last_id (store_rows these) in
    let small : last < 2 ^ 32 = last-small these all in
    let pass : (b : Bool) → nat_eq last greatest_id ≡ b → cond b None (Some (last + 1)) ≡ Some id → id < 2 ^ 32 =
    elim [
      | true ↦ λ at has. absurd (none-some id has)
      | false ↦ λ at has. let same : last + 1 ≡ id = cc in let off : last ≡ 4294967295 → ⊥ = grind (arith, nat_tests, at) in omega (arith, small, same, off)
    ] in
    pass (nat_eq last greatest_id) refl is

-- the first item that passes has its type
first-small : (p : Kept → Bool) (these : List Row) (id : ℕ) → AreSound these → first_id (ids_where p (store_rows these)) ≡ Some id → id < 2 ^ 32
first-small p [] id all is = absurd (none-some id is)
first-small p (row ∷ these) id all is =
    let kept : Kept = record { kind = row.0.kind; item = row.1 } in
    let pass : (b : Bool) → p kept ≡ b → id < 2 ^ 32 =
    elim [
      | true ↦ λ at. let here : Some (row_number row) ≡ Some id = rw at at is in let same : row_number row ≡ id = cc in subst (λ n. n < 2 ^ 32) same all.0.clear.id
      | false ↦ λ at. first-small p these id all.1 (rw at at is)
    ] in
    pass (p kept) refl

equal-small : (replace : Bool) (attributes : List (List ℕ × AttrValue)) (these : List Row) (id : ℕ) → AreSound these → equal_id replace attributes these ≡ Some id → id < 2 ^ 32
equal-small true attributes these id all is = first-small (has_just attributes) these id all is
equal-small false attributes these id all is = absurd (none-some id is)

has-small : (id : ℕ) (these : List Row) → AreSound these → has_row id these ≡ true → id < 2 ^ 32
has-small id [] all there = absurd (let no : false ≡ true = there in cc)
has-small id (row ∷ these) all there =
    elim (or_cases (nat_eq (row_number row) id) (has_row id these) there) [
      | inl here ↦ subst (λ n. n < 2 ^ 32) (eqb-true (row_number row) id here) all.0.clear.id
      | inr later ↦ has-small id these all.1 later
    ]

-- an item of an answer has its type
abbrev IsSmall : ItemId → Type 0
IsSmall item = item.0 < 2 ^ 32

-- the rows that a change makes and the item that it answers, if it can be made
abbrev MadeSound : Result (List Row × Changed) ItemFault → Type 0
MadeSound (Ok made) = AreSound made.0 × IfSome (item_in made.1) IsSmall
MadeSound (Err fault) = Unit {0}

within-sound : (attributes : List (List ℕ × AttrValue)) (made : List Row × Changed) → MadeSound (Ok made) → MadeSound (within_most attributes made)
within-sound attributes made all =
    let pass : (b : Bool) → MadeSound (cond b (Err item_fault.TooManyAttributes) (Ok made)) = elim [ true ↦ tt | false ↦ all ] in
    pass (nat_lt most_attributes (length attributes))

at-sound : (id : ℕ) (these : List Row) (made : Result (List Row × Changed) ItemFault) → (has_row id these ≡ true → MadeSound made) → MadeSound (at_item id these made)
at-sound id these made all =
    let pass : (b : Bool) → has_row id these ≡ b → MadeSound (cond b made (Err item_fault.NoItem)) = elim [ true ↦ λ is. all is | false ↦ λ is. tt ] in
    pass (has_row id these) refl

module _ (now : ℕ) (small : now < 2 ^ 64) where
  new-sound : (id : ℕ) (label : List ℕ) (attributes : List (List ℕ × AttrValue)) (value content : List ℕ) → id < 2 ^ 32 → AreItemTypes label attributes → AreSecretTypes value content
      → IsSoundItem (new_row id now label attributes value content)
  new-sound id label attributes value content is item secret = record {
    clear = record { id = is; kind = omega arith; content = text-known content secret.content };
    full = record {
      label = text-known label item.label;
      value = secret.value;
      created = small;
      modified = small;
      ordered = item.ordered;
      attributes = pairs-known attributes item.attributes;
      access = tt;
    };
  }

  replaced-sound : (label : List ℕ) (attributes : List (List ℕ × AttrValue)) (value content : List ℕ) → AreItemTypes label attributes → AreSecretTypes value content → (row : Row) → IsSoundItem row
      → IsSoundItem (replaced now label value content row)
  replaced-sound label attributes value content item secret row sound = record {
    clear = record { id = sound.clear.id; kind = sound.clear.kind; content = text-known content secret.content };
    full = record {
      label = text-known label item.label;
      value = secret.value;
      created = sound.full.created;
      modified = small;
      ordered = sound.full.ordered;
      attributes = sound.full.attributes;
      access = sound.full.access;
    };
  }

  secret-sound : (value content : List ℕ) → AreSecretTypes value content → (row : Row) → IsSoundItem row → IsSoundItem (with_secret now value content row)
  secret-sound value content secret row sound = record {
    clear = record { id = sound.clear.id; kind = sound.clear.kind; content = text-known content secret.content };
    full = record {
      label = sound.full.label;
      value = secret.value;
      created = sound.full.created;
      modified = small;
      ordered = sound.full.ordered;
      attributes = sound.full.attributes;
      access = sound.full.access;
    };
  }

  label-sound : (label : List ℕ) → IsTypedText label → (row : Row) → IsSoundItem row → IsSoundItem (with_label now label row)
  label-sound label typed row sound = record {
    clear = sound.clear;
    full = record {
      label = text-known label typed;
      value = sound.full.value;
      created = sound.full.created;
      modified = small;
      ordered = sound.full.ordered;
      attributes = sound.full.attributes;
      access = sound.full.access;
    };
  }

  attributes-sound : (attributes : List (List ℕ × AttrValue)) → AreAttributeTypes attributes → (row : Row) → IsSoundItem row → IsSoundItem (with_attributes now attributes row)
  attributes-sound attributes types row sound = record {
    clear = record { id = sound.clear.id; kind = sound.clear.kind; content = sound.clear.content };
    full = record {
      label = sound.full.label;
      value = sound.full.value;
      created = sound.full.created;
      modified = small;
      ordered = types.ordered;
      attributes = pairs-known attributes types.attributes;
      access = sound.full.access;
    };
  }

  made-sound : (id : Option ℕ) (label : List ℕ) (attributes : List (List ℕ × AttrValue)) (value content : List ℕ) (these : List Row) → ((n : ℕ) → id ≡ Some n → n < 2 ^ 32)
      → AreItemTypes label attributes → AreSecretTypes value content → AreSound these → MadeSound (made_new id now label attributes value content these)
  made-sound None label attributes value content these is item secret all = tt
  made-sound (Some id) label attributes value content these is item secret all =
      within-sound attributes (these ++ new_row id now label attributes value content ∷ [], changes.Made (record { 0 = id }))
      (each-append IsSoundItem these (new_row id now label attributes value content ∷ []) all (new-sound id label attributes value content (is id refl) item secret, tt), is id refl)

  added-sound : (id : Option ℕ) (label : List ℕ) (attributes : List (List ℕ × AttrValue)) (value content : List ℕ) (these : List Row) → ((n : ℕ) → id ≡ Some n → n < 2 ^ 32)
      → AreItemTypes label attributes → AreSecretTypes value content → AreSound these → MadeSound (made_added id now label attributes value content these)
  added-sound None label attributes value content these is item secret all =
      made-sound (next_id (store_rows these)) label attributes value content these (λ n. next-small these n all) item secret all
  added-sound (Some id) label attributes value content these is item secret all =
      within-sound attributes (rows_changed id (replaced now label value content) these, changes.Changed (record { 0 = id }))
      (changed-sound id (replaced now label value content) (replaced-sound label attributes value content item secret) these all, is id refl)

  rows-sound : (edit : Edit) (value : List ℕ) (these : List Row) → AreEditTypes value edit → AreSound these → MadeSound (rows_made (change_of value edit) now these)
  rows-sound (Add_item label attributes content replace) value these types all =
      added-sound (equal_id replace attributes these) label attributes value content these (λ n. equal-small replace attributes these n all) types.0 types.1 all
  rows-sound (Set_secret item content) value these types all =
      at-sound item.0 these (Ok (rows_changed item.0 (with_secret now value content) these, changes.Changed item))
      (λ there. (changed-sound item.0 (with_secret now value content) (secret-sound value content types) these all, has-small item.0 these all there))
  rows-sound (Remove_item item) value these types all =
      at-sound item.0 these (Ok (rows_without item.0 these, changes.Removed item)) (λ there. (each-filter IsSoundItem _ these all, has-small item.0 these all there))
  rows-sound (Set_label item label) value these types all =
      at-sound item.0 these (Ok (rows_changed item.0 (with_label now label) these, changes.Changed item))
      (λ there. (changed-sound item.0 (with_label now label) (label-sound label types) these all, has-small item.0 these all there))
  rows-sound (Set_attributes item attributes) value these types all =
      at-sound item.0 these (within_most attributes (rows_changed item.0 (with_attributes now attributes) these, changes.Changed item))
      (λ there. within-sound attributes (rows_changed item.0 (with_attributes now attributes) these, changes.Changed item)
      (changed-sound item.0 (with_attributes now attributes) (attributes-sound attributes types) these all, has-small item.0 these all there))
  rows-sound (Set_name label) value these types all = (all, tt)

-- ---- the content that is stored

zip-rows : (these : List Row) → zip (map (λ (row : Row). row.0) these) (map (λ (row : Row). row.1) these) ≡ these
zip-rows [] = refl
zip-rows (row ∷ these) = ap (λ more. row ∷ more) (zip-rows these)

-- The label and the items of a content are sound. Its file shows them, unless it is too long, and what is held of it is what is shown.
pub record IsSoundContent (content : Content) : Type 0 where
  pub shown : AreShown content.clear
  pub held : AreSound (rows content)
  pub image : (key vector : List ℕ) → length (sealed content key vector) ≤ most_bytes → ShowsItems (Some (sealed content key vector)) content.clear
  pub holds : ids_of content.clear.items ≡ map row_number (rows content)

plain-items : (items : List ClearItem) → list_all (λ (item : ClearItem). is_name plain_content item.content) items ≡ true → AllByRecursion IsPlain items
plain-items [] all = tt
plain-items (item ∷ items) all =
    let pass : (b : Bool) → is_name plain_content item.content ≡ b → AllByRecursion IsPlain (item ∷ items) =
    elim [
      | true ↦ λ is. (sym (exact_bytes plain_content item.content (is_equal (slice_cmp nat_cmp plain_content item.content) is)), plain-items items (rw is at all))
      | false ↦ λ off. absurd (let no : false ≡ true = rw off at all in cc)
    ] in
    pass (is_name plain_content item.content) refl

-- the version of a content that is stored has room for its content types
version-made : (minor : ℕ) (items : List ClearItem) → minor ≤ 1 → IsOfVersion (minor_made minor items) items
version-made minor items few =
    let all = list_all (λ (item : ClearItem). is_name plain_content item.content) items in
    let pass : (b : Bool) → all ≡ b → IsOfVersion (cond b minor 1) items =
    elim [
      | true ↦ λ is. record { known = few; plain = λ zero. plain-items items is }
      | false ↦ λ off. record { known = omega arith; plain = λ never. absurd (omega (arith, never)) }
    ] in
    pass all refl

-- what a clear part has besides its items can be written to a file, whenever that is
pub record IsFront (front : ClearPart) : Type 0 where
  pub label : IsText front.name
  pub created : front.created < 2 ^ 64
  pub flags : front.flags < 2 ^ 32
  pub timeout : front.timeout < 2 ^ 32
  pub iterations : front.iterations ≤ most_iterations
  pub salt : length front.salt ≡ 8
  pub minor : front.minor ≤ 1

-- that of a clear part that is shown, under another label
front-named : (label : List ℕ) (clear : ClearPart) → IsText label → AreShown clear → IsFront (record clear { name = label })
front-named label clear is shown = record {
  label = is;
  created = shown.created;
  flags = shown.flags;
  timeout = shown.timeout;
  iterations = shown.iterations;
  salt = shown.salt;
  minor = shown.version.known;
}

-- the same with the salt and the iterations of another key
pub front-under : (salt : List ℕ) (iterations : ℕ) (clear : ClearPart) → length salt ≡ 8 → iterations ≤ most_iterations → AreShown clear → IsFront (record clear { salt = salt; iterations = iterations })
front-under salt iterations clear eight few shown = record {
  label = shown.label;
  created = shown.created;
  flags = shown.flags;
  timeout = shown.timeout;
  iterations = few;
  salt = eight;
  minor = shown.version.known;
}

-- a content whose clear part is shown and whose rows are sound
pub rows-content : (front : ClearPart) (these : List Row) → AreShown (of_rows front these).clear → AreSound these → IsSoundContent (of_rows front these)
rows-content front these shown all = record {
  shown = shown;
  held = subst AreSound (sym (zip-rows these)) all;
  image = sealed-shows front these shown all;
  holds = ids-rows these ∙ ap (λ (t : List Row). map row_number t) (sym (zip-rows these));
}

pub stored-sound : (now : ℕ) (front : ClearPart) (these : List Row) → now < 2 ^ 64 → IsFront front → AreSound these → AreUp these → IsSoundContent (content_stored now front these)
stored-sound now front these small is all up =
    let items = map (λ (row : Row). row.0) these in
    let shown : AreShown (content_stored now front these).clear = record {
      label = is.label;
      created = is.created;
      modified = small;
      flags = is.flags;
      timeout = is.timeout;
      iterations = is.iterations;
      salt = is.salt;
      version = version-made front.minor items is.minor;
      items = each-mapped (λ (row : Row). row.0) IsKnownClearItem these (each-weaker IsSoundItem _ (λ row sound. sound.clear) these all);
      ordered = ids-up these up;
    } in
    rows-content (record front { modified = now; minor = minor_made front.minor items }) these shown all

abbrev ContentSound : Result (Content × Changed) ItemFault → Type 0
ContentSound (Ok made) = IsSoundContent made.0 × IfSome (item_in made.1) IsSmall
ContentSound (Err fault) = Unit {0}

as-sound : (now : ℕ) (front : ClearPart) (made : Result (List Row × Changed) ItemFault) → now < 2 ^ 64 → IsFront front → MadeSound made → MadeUp made
    → ContentSound (as_content now front made)
as-sound now front (Ok made) small is all up = (stored-sound now front made.0 small is all.0 up, all.1)
as-sound now front (Err fault) small is all up = tt

-- the label of the collection after an edit is a text
label-kept : (value : List ℕ) (edit : Edit) (label : List ℕ) → AreEditTypes value edit → IsText label → IsText (name_made (change_of value edit) label)
label-kept value (Set_name name) label types is = text-known name types
label-kept value (Add_item name attributes content replace) label types is = is
label-kept value (Set_secret item content) label types is = is
label-kept value (Remove_item item) label types is = is
label-kept value (Set_label item name) label types is = is
label-kept value (Set_attributes item attributes) label types is = is

-- ---- collections

-- both of what is held
both-held : (P Q : Held → Type 0) (held : Option Held) → IfSome held P → IfSome held Q → IfSome held (λ h. P h × Q h)
both-held P Q None first second = tt
both-held P Q (Some held) first second = (first, second)

-- a content that is stored
pub stored-row : (stem : List ℕ) (content : Content) (key vector : List ℕ) → IsStem stem → IsSoundContent content → length (sealed content key vector) ≤ most_bytes
    → IsSoundCollection (stem, stored content key vector)
stored-row stem content key vector is sound within = record {
  stem = is;
  shown = sound.shown;
  other = tt;
  held = sound.held;
  image = sound.image key vector within;
  newer = refl;
  holds = record { known = tt; items = sound.holds };
}

unsure-shows : (file : File) (clear next : ClearPart) (new : List ℕ) → HasFile file → ShowsItems (shown_image file) clear → ShowsItems (Some new) next
    → ShowsItems (shown_image (Doubt (old_image file) (Some new))) clear × ShowsNewerItems (Doubt (old_image file) (Some new)) (Some next)
unsure-shows (Known None) clear next new known old shows = absurd known
unsure-shows (Known (Some bytes)) clear next new known old shows = (old, shows)
unsure-shows (Doubt one other) clear next new known old shows = absurd known

-- a content of which that isn't known, instead of a file that was
pub unsure-row : (stem : List ℕ) (content : Content) (key vector : List ℕ) (row : CollectionRow) → IsSoundCollection (stem, row) → HasFile row.file → IsSoundContent content
    → length (sealed content key vector) ≤ most_bytes → IsSoundCollection (stem, perhaps_stored content key vector row)
unsure-row stem content key vector row sound known made within =
    let both = unsure-shows row.file row.clear content.clear (sealed content key vector) known sound.image (made.image key vector within) in
    record { stem = sound.stem; shown = sound.shown; other = made.shown; held = tt; image = both.0; newer = both.1; holds = tt }

-- the file of what a change makes isn't too long, if it can be made
abbrev IsWithin : List ℕ → List ℕ → Result (Content × Changed) ItemFault → Type 0
IsWithin key vector (Ok made) = length (sealed made.0 key vector) ≤ most_bytes
IsWithin key vector (Err fault) = Unit {0}

sized-within : (these : Rows) (most : ℕ) (held : Held) (made : Result (Content × Changed) ItemFault) → most ≤ most_bytes → IsSome (placed these (sized most held made)) → IsWithin held.key held.vector made
sized-within these most held (Ok made) under is =
    let long = length (sealed made.0 held.key held.vector) in
    let pass : (b : Bool) → nat_le long most ≡ b → IsSome (placed these (cond b (Ok made.1) (Err refused.TooLarge))) → long ≤ most_bytes =
    elim [
      | true ↦ λ small can. (let fits : long ≤ most = leb-true long most small in omega (arith, fits, under))
      | false ↦ λ large can. absurd (let no : false ≡ true = can in cc)
    ] in
    pass (nat_le long most) refl is
sized-within these most held (Err fault) under is = tt

module _ (now : ℕ) (small : now < 2 ^ 64) (edit : Edit) (value : List ℕ) (types : AreEditTypes value edit) where
  -- what the edit makes of the rows of a sound collection
  content-sound : (row : CollectionRow) (held : Held) → AreShown row.clear → AreSound held.rows → HoldsShown row.file row.clear held → ContentSound (content_changed (change_of value edit) now row.clear held.rows)
  content-sound row held shown all holds =
      let label = name_made (change_of value edit) row.clear.name in
      as-sound now (record row.clear { name = label }) (rows_made (change_of value edit) now held.rows) small
      (front-named label row.clear (label-kept value edit row.clear.name types shown.label) shown)
      (rows-sound now small edit value held.rows types all) (rows-up now (change_of value edit) held.rows (held-up row.clear held shown holds.items))

  after-sound : (stem : List ℕ) (row : CollectionRow) (held : Held) (some : StoreFate) (made : Result (Content × Changed) ItemFault) → IsSoundCollection (stem, row) → HasFile row.file → ContentSound made
      → IsWithin held.key held.vector made → IsSoundCollection (stem, row_after some held row made)
  after-sound stem row held fate.Stored (Ok made) sound known content within = stored-row stem made.0 held.key held.vector sound.stem content.0 within
  after-sound stem row held fate.Unsure (Ok made) sound known content within = unsure-row stem made.0 held.key held.vector row sound known content.0 within
  after-sound stem row held fate.Before (Ok made) sound known content within = sound
  after-sound stem row held some (Err fault) sound known content within = sound

  row-sound : (stem : List ℕ) (some : StoreFate) (row : CollectionRow) → IsSoundCollection (stem, row)
      → IfSome row.held (λ held. IsWithin held.key held.vector (content_changed (change_of value edit) now row.clear held.rows)) → IsSoundCollection (stem, row_changed (change_of value edit) now some row)
  row-sound stem some row sound within =
      let made : Held → Result (Content × Changed) ItemFault = λ held. content_changed (change_of value edit) now row.clear held.rows in
      let becomes : Option Held → CollectionRow = λ o. option_map_or (λ (held : Held). row_after some held row (made held)) o row in
      let pass : (o : Option Held) → row.held ≡ o → IsSoundCollection (stem, becomes row.held) =
      elim [
        | None ↦ λ is. subst (λ (r : CollectionRow). IsSoundCollection (stem, r)) (sym (ap becomes is)) sound
        | Some held ↦ λ is.
            let all : AreSound held.rows = subst (λ o. IfSome o AreSoundItems) is sound.held in
            let holds : HoldsShown row.file row.clear held = subst (λ o. IfSome o (HoldsShown row.file row.clear)) is sound.holds in
            let fits : IsWithin held.key held.vector (made held) = subst (λ o. IfSome o (λ (held : Held). IsWithin held.key held.vector (made held))) is within in
            subst (λ (r : CollectionRow). IsSoundCollection (stem, r)) (sym (ap becomes is))
            (after-sound stem row held some (made held) sound holds.known (content-sound row held sound.shown all holds) fits)
      ] in
      pass row.held refl

  -- an edit that can be stored has a file that isn't too long
  fits-row : (stem : List ℕ) (these : Rows) → IsSome (storable_at stem (change_of value edit) now these) → (row : CollectionRow) → value_at stem these ≡ Some row
      → IfSome row.held (λ held. IsWithin held.key held.vector (content_changed (change_of value edit) now row.clear held.rows))
  fits-row stem these can row at =
      let given = change_of value edit in
      let in_held : Held → Option Changed = λ held. placed these (storable given now (room_in these) row.file row.clear held) in
      let here : IsSome (option_and_then in_held row.held) =
      subst IsSome (ap (option_and_then (λ (row : CollectionRow). option_and_then (λ (held : Held). placed these (storable given now (room_in these) row.file row.clear held)) row.held)) at) can in
      let inner : (h : Option Held) → IsSome (option_and_then in_held h) → IfSome h (λ held. IsWithin held.key held.vector (content_changed given now row.clear held.rows)) =
      elim [
        | None ↦ λ is. tt
        | Some held ↦ λ is. sized-within these (most_for (room_in these) row.file) held (content_changed given now row.clear held.rows) (omega arith) is
      ] in
      inner row.held here

  -- an edit of a collection that can be stored, however its storing ended
  pub sound-stored : (stem : List ℕ) (some : StoreFate) (these : Rows) → IsSome (storable_at stem (change_of value edit) now these) → AreSoundCollections these
      → AreSoundCollections (rows_stored stem (change_of value edit) now some these)
  sound-stored stem some these can sound = record {
    ordered = changed_in_order stem (row_changed (change_of value edit) now some) these sound.ordered;
    each = each-changed IsSoundCollection stem (row_changed (change_of value edit) now some) these sound.ordered sound.each
        (λ row at. row-sound stem some row (at-stem IsSoundCollection stem row these sound.each at) (fits-row stem these can row at));
  }

  -- ---- the item of an edit that can be stored

  -- the item of what an edit does, if there is one, has its type
  abbrev HasSmall : Changed → Type 0
  HasSmall answer = IfSome (item_in answer) IsSmall

  placed-small : (these : Rows) (answer other : Changed) → HasSmall answer → placed_answer answer these ≡ Some other → HasSmall other
  placed-small these answer other small is =
      let pass : (b : Bool) → cond b (Some answer) None ≡ Some other → HasSmall other =
      elim [
        | true ↦ λ has. subst (λ (o : Option Changed). IfSome o HasSmall) has small
        | false ↦ λ has. absurd (none-some other has)
      ] in
      pass (has_place answer these) is

  sized-small : (these : Rows) (most : ℕ) (held : Held) (made : Result (Content × Changed) ItemFault) (answer : Changed) → ContentSound made → placed these (sized most held made) ≡ Some answer → HasSmall answer
  sized-small these most held (Ok made) answer sound is =
      let pass : (b : Bool) → placed these (cond b (Ok made.1) (Err refused.TooLarge)) ≡ Some answer → HasSmall answer =
      elim [
        | true ↦ λ has. placed-small these made.1 answer sound.1 has
        | false ↦ λ has. absurd (none-some answer has)
      ] in
      pass (nat_le (length (sealed made.0 held.key held.vector)) most) is
  sized-small these most held (Err fault) answer sound is = absurd (none-some answer is)

  named-item : (stem : List ℕ) (item : Option ItemId) → IsStem stem → IfSome item IsSmall → IfSome item (λ it. IsName (name.Item stem it))
  named-item stem None is small = tt
  named-item stem (Some item) is small = (is, small)

  pub storable-named : (stem : List ℕ) (these : Rows) (answer : Changed) → AreSoundCollections these → storable_at stem (change_of value edit) now these ≡ Some answer
      → IfSome (item_in answer) (λ item. IsName (name.Item stem item))
  storable-named stem these answer sound is =
      let given = change_of value edit in
      let in_row : CollectionRow → Option Changed =
      λ row. option_and_then (λ (held : Held). placed these (storable given now (room_in these) row.file row.clear held)) row.held in
      let pass : (o : Option CollectionRow) → value_at stem these ≡ o → option_and_then in_row o ≡ Some answer → IfSome (item_in answer) (λ item. IsName (name.Item stem item)) =
      elim [
        | None ↦ λ at has. absurd (none-some answer has)
        | Some row ↦ λ at has.
            let here = at-stem IsSoundCollection stem row these sound.each at in
            let inner : (h : Option Held) → IfSome h (λ held. AreSoundItems held × HoldsShown row.file row.clear held) → option_and_then (λ (held : Held). placed these (storable given now (room_in these) row.file row.clear held)) h ≡ Some answer → HasSmall answer =
            elim [
              | None ↦ λ all got. absurd (none-some answer got)
              | Some held ↦ λ all got. sized-small these (most_for (room_in these) row.file) held (content_changed given now row.clear held.rows) answer (content-sound row held here.shown all.0 all.1) got
            ] in
            named-item stem (item_in answer) here.stem (inner row.held (both-held AreSoundItems (HoldsShown row.file row.clear) row.held here.held here.holds) has)
      ] in
      pass (value_at stem these) refl is

  -- the same of an edit that can be made, whatever the length of its file is
  made-small : (these : Rows) (made : Result (Content × Changed) ItemFault) (answer : Changed) → ContentSound made → placed these (answer_of made) ≡ Some answer → HasSmall answer
  made-small these (Ok made) answer sound is = placed-small these made.1 answer sound.1 is
  made-small these (Err fault) answer sound is = absurd (none-some answer is)

  pub answered-named : (stem : List ℕ) (these : Rows) (answer : Changed) → AreSoundCollections these → answered_at stem (change_of value edit) now these ≡ Some answer
      → IsStem stem × IfSome (item_in answer) (λ item. IsName (name.Item stem item))
  answered-named stem these answer sound is =
      let given = change_of value edit in
      let in_row : CollectionRow → Option Changed =
      λ row. option_and_then (λ (held : Held). placed these (answer_of (content_changed given now row.clear held.rows))) row.held in
      let pass : (o : Option CollectionRow) → value_at stem these ≡ o → option_and_then in_row o ≡ Some answer → IsStem stem × IfSome (item_in answer) (λ item. IsName (name.Item stem item)) =
      elim [
        | None ↦ λ at has. absurd (none-some answer has)
        | Some row ↦ λ at has.
            let here = at-stem IsSoundCollection stem row these sound.each at in
            let inner : (h : Option Held) → IfSome h (λ held. AreSoundItems held × HoldsShown row.file row.clear held) → option_and_then (λ (held : Held). placed these (answer_of (content_changed given now row.clear held.rows))) h ≡ Some answer → HasSmall answer =
            elim [
              | None ↦ λ all got. absurd (none-some answer got)
              | Some held ↦ λ all got. made-small these (content_changed given now row.clear held.rows) answer (content-sound row held here.shown all.0 all.1) got
            ] in
            (here.stem, named-item stem (item_in answer) here.stem (inner row.held (both-held AreSoundItems (HoldsShown row.file row.clear) row.held here.held here.holds) has))
      ] in
      pass (value_at stem these) refl is

-- a file that may be removed
faded-shows : (file : File) (clear : ClearPart) → ShowsItems (shown_image file) clear → ShowsItems (shown_image (Doubt (old_image file) None)) clear
faded-shows file clear shows =
    let pass : (image : Image) → ShowsItems image clear → ShowsItems (shown_image (Doubt image None)) clear = elim [ None ↦ λ was. tt | Some bytes ↦ λ was. was ] in
    pass (old_image file) (older-shows file clear shows)

faded-newer : (file : File) → ShowsNewerItems (Doubt (old_image file) None) None
faded-newer file =
    let pass : (image : Image) → ShowsNewerItems (Doubt image None) None = elim [ None ↦ refl | Some bytes ↦ refl ] in
    pass (old_image file)

each-faded : (stem : List ℕ) (these : Rows) → AllByRecursion IsSoundCollection these → AllByRecursion IsSoundCollection (changed stem perhaps_removed these)
each-faded stem [] all = tt
each-faded stem (row ∷ these) all =
    let pass : (b : Bool) → IsSoundCollection (cond b (row.0, perhaps_removed row.1) row) =
    elim [
      | true ↦ record {
        stem = all.0.stem;
        shown = all.0.shown;
        other = tt;
        held = tt;
        image = faded-shows row.1.file row.1.clear all.0.image;
        newer = faded-newer row.1.file;
        holds = tt;
      }
      | false ↦ all.0
    ] in
    (pass (is_name stem row.0), each-faded stem these all.1)

-- the removal of a file, however it ended
pub sound-erased : (stem : List ℕ) (some : StoreFate) (these : Rows) → AreSoundCollections these → AreSoundCollections (rows_erased stem some these)
sound-erased stem fate.Stored these sound = record { ordered = order_kept _ these sound.ordered; each = each-filter IsSoundCollection _ these sound.each }
sound-erased stem fate.Before these sound = sound
sound-erased stem fate.Unsure these sound = record { ordered = changed_in_order stem perhaps_removed these sound.ordered; each = each-faded stem these sound.each }
