-- What a start lists has its types: a stem is that of a file's name, and the label and the items of a clear part are those that a file
-- spells, whose items are shown.
use Rattle.std.proofs.Common.{◌≡◌, ◌≤◌, ℕ, ◌^◌, ◌<◌, List, [], ◌∷◌, ◌++◌, length, map, codes, None, Some, refl, sym, ap, subst, ◌∙◌, arith}
use Rattle.std.specs.Cmp.Lexicographic.{slice_cmp}
use Rattle.std.specs.List.{AllByRecursion}
use Rattle.std.specs.List.Sorted.{IsStrictlySortedBy}
use Rattle.std.specs.Map.{keys_of}
use Rattle.std.specs.Ordering.{nat_cmp}
use Rattle.std.proofs.lemmas.List.Elements.{All-from_recursion, recursion_from_All}
use Rattle.std.proofs.lemmas.List.Sorted.{All-permutation}
use Rattle.kr_base.specs.Stem.{IsStem}
use Rattle.kr_base.specs.Text.{IsText}
use Rattle.kr_names.proofs.TextLemmas.{IsPlain, IsText-plain}
use Rattle.keyring_text.specs.Forms.{SpellsAll}
use Rattle.keyring_file.specs.Clear.{ClearPart, IsOfVersion, plain_content}
use Rattle.keyring_file.specs.Clear as clears
use Rattle.keyring_file.specs.ClearText.{HasClear, SpellsClearItem, SpellsContent, left_out, magic, most_iterations, told}
use Rattle.keyring_file.specs.Known.{IsKnownClearItem}
use Rattle.keyring_file.specs.declared.clear.ClearItem.{ClearItem}
use Rattle.keyring_seal.proofs.ArrangeLemmas.{all_by_number}
use Rattle.folder_store.specs.declared.limits.Limits.{Limits}
use Rattle.folder_store.specs.declared.loading.Loaded.{Loaded}
use Rattle.folder_store.specs.Limits.{the_limits}
use Rattle.folder_store.specs.Loads.{StartsOfSome, opening_of}
use Rattle.folder_store.specs.Opened.{RingRow, Opening, Takes, Opens, Starts, none, more, other, left_alone, listed}
use Rattle.folder_store.specs.Ring as rings
use Rattle.folder_store.specs.Ring.{RingState}
use Rattle.replace_slot.specs.Cell.{File, Known, Doubt}
use Rattle.collection_store.specs.State.{by_id, shown_image}
use Rattle.collection_table.specs.Entries.{loaded_from, rows_of}
use Rattle.service_tables.specs.Sound.{AreShown, IsSoundCollection, AreSoundCollections, ShowsItems, ShowsNewerItems}
use Rattle.service_tables.proofs.EachLemmas.{each-append}
use Rattle.service_tables.proofs.HeldLemmas.{by-id-rises}

-- ---- a clear part

plain-text : IsText plain_content
plain-text = IsText-plain (codes "text/plain") (All-from_recursion IsPlain (codes "text/plain")
    ((omega arith, omega arith), ((omega arith, omega arith), ((omega arith, omega arith), ((omega arith, omega arith), ((omega arith, omega arith), ((omega arith, omega arith), ((omega arith, omega arith), ((omega arith, omega arith), ((omega arith, omega arith), ((omega arith, omega arith), tt)))))))))))

content-known : (minor : ℕ) (content bytes : List ℕ) → SpellsContent minor content bytes → IsText content
content-known minor content bytes (left_out first plain empty) = subst (λ text. IsText text) (sym plain) plain-text
content-known minor content bytes (told later text) = text.text

item-known : (minor : ℕ) (item : ClearItem) (bytes : List ℕ) → SpellsClearItem minor item bytes → IsKnownClearItem item
item-known minor item bytes is = record {
  id = is.is_first.fits;
  kind = is.is_second.is_first.fits;
  content = content-known minor item.content is.is_second.is_second.back is.is_second.is_second.is_second;
}

items-known : (minor : ℕ) (items : List ClearItem) (bytes : List ℕ) → SpellsAll (SpellsClearItem minor) items bytes → AllByRecursion IsKnownClearItem items
items-known minor [] bytes is = tt
items-known minor (item ∷ items) bytes is = (item-known minor item is.front is.is_first, items-known minor items is.back is.is_second)

clear-known : (image : List ℕ) (clear : ClearPart) → HasClear image clear → AllByRecursion IsKnownClearItem clear.items
clear-known image clear (area, text) =
    let these = text.text.is_first.is_second.is_second.is_second.is_second.list in
    items-known clear.minor clear.items these.back these.is_second

label-known : (image : List ℕ) (clear : ClearPart) → HasClear image clear → IsText clear.name
label-known image clear (area, text) = text.text.is_first.is_second.is_second.is_first.is_first.text

times-known : (image : List ℕ) (clear : ClearPart) → HasClear image clear → (clear.created < 2 ^ 64) × (clear.modified < 2 ^ 64)
times-known image clear (area, text) =
    let front = text.text.is_first.is_second.is_second.is_first in
    (front.is_second.is_first.fits, front.is_second.is_second.is_first.fits)

-- in version 0.0 each content type is the plain one
content-plain : (minor : ℕ) (content bytes : List ℕ) → SpellsContent minor content bytes → minor ≡ 0 → content ≡ plain_content
content-plain minor content bytes (left_out first plain empty) zero = plain
content-plain minor content bytes (told later text) zero = absurd (omega (arith, later, zero))

items-plain : (minor : ℕ) (items : List ClearItem) (bytes : List ℕ) → minor ≡ 0 → SpellsAll (SpellsClearItem minor) items bytes → AllByRecursion clears.IsPlain items
items-plain minor [] bytes zero is = tt
items-plain minor (item ∷ items) bytes zero is =
    (content-plain minor item.content is.is_first.is_second.is_second.back is.is_first.is_second.is_second.is_second zero, items-plain minor items is.back zero is.is_second)

version-known : (image : List ℕ) (clear : ClearPart) → HasClear image clear → IsOfVersion clear.minor clear.items
version-known image clear (area, text) =
    let after = text.text.is_first.is_second in
    let these = after.is_second.is_second.is_second.list in
    record { known = after.is_first.known; plain = λ zero. items-plain clear.minor clear.items these.back zero these.is_second }

numbers-known : (image : List ℕ) (clear : ClearPart) → HasClear image clear → (clear.flags < 2 ^ 32) × (clear.timeout < 2 ^ 32)
numbers-known image clear (area, text) =
    let front = text.text.is_first.is_second.is_second.is_first in
    (front.is_second.is_second.is_second.is_first.fits, front.is_second.is_second.is_second.is_second.is_first.fits)

salt-known : (image : List ℕ) (clear : ClearPart) → HasClear image clear → length clear.salt ≡ 8
salt-known image clear (area, text) = text.text.is_first.is_second.is_second.is_second.is_first.is_first.len

iterations-known : (image : List ℕ) (clear : ClearPart) → HasClear image clear → clear.iterations ≤ most_iterations
iterations-known image clear (area, text) = text.text.is_first.is_second.is_second.is_first.is_second.is_second.is_second.is_second.is_second.few

version-ordered : (clear : ClearPart) → IsOfVersion clear.minor clear.items → IsOfVersion clear.minor (by_id clear).items
version-ordered clear is = record { known = is.known; plain = λ zero. all_by_number (λ (item : ClearItem). item.id.0) clears.IsPlain clear.items (is.plain zero) }

-- what is shown of a file, in order of the ids
shown-known : (image : List ℕ) (clear : ClearPart) → HasClear image clear → AreShown (by_id clear)
shown-known image clear has =
    let times = times-known image clear has in
    let numbers = numbers-known image clear has in
    record {
      label = label-known image clear has;
      created = times.0;
      modified = times.1;
      flags = numbers.0;
      timeout = numbers.1;
      iterations = iterations-known image clear has;
      salt = salt-known image clear has;
      version = version-ordered clear (version-known image clear has);
      items = all_by_number (λ (item : ClearItem). item.id.0) IsKnownClearItem clear.items (clear-known image clear has);
      ordered = by-id-rises clear;
    }

-- no file is empty
none-empty : (clear : ClearPart) → HasClear [] clear → ⊥
none-empty clear (area, text) =
    let parts : [] ≡ magic ++ text.text.is_first.back ++ text.text.back =
    text.text.parts ∙ ap (λ front. front ++ text.text.back) (text.text.is_first.parts ∙ ap (λ front. front ++ text.text.is_first.back) text.text.is_first.is_first) in
    let long : 0 ≡ length (magic ++ text.text.is_first.back ++ text.text.back) = ap (λ l. length l) parts in
    omega (arith, long)

-- ---- what is listed

-- the stem of a collection is one, and its clear part is that of a file
record IsSoundRing (ring : RingRow) : Type 0 where
  stem : IsStem ring.stem
  has : HasClear ring.image ring.clear

file-shows : (file : File) (clear : ClearPart) → HasClear (rings.bytes_of file) clear → ShowsItems (shown_image file) (by_id clear)
file-shows (Known None) clear has = tt
file-shows (Known (Some bytes)) clear has = (clear, has, refl)
file-shows (Doubt old new) clear has = absurd (none-empty clear has)

file-newer : (file : File) (clear : ClearPart) → HasClear (rings.bytes_of file) clear → ShowsNewerItems file None
file-newer (Known image) clear has = refl
file-newer (Doubt old new) clear has = absurd (none-empty clear has)

taken-sound : (limits : Limits) (name image : List ℕ) (opening next : Opening) → Takes limits name image opening next → AllByRecursion IsSoundRing opening.rings
    → AllByRecursion IsSoundRing next.rings
taken-sound limits name image opening _ (other off) all = all
taken-sound limits name image opening _ (left_alone stem named off) all = all
taken-sound limits name image opening _ (listed stem clear named reads fits) all =
    each-append IsSoundRing opening.rings ((record { stem = stem; clear = clear; image = image }) ∷ []) all
    (record { stem = named.is_stem; has = reads }, tt)

opens-sound : (limits : Limits) (files : List (List ℕ × List ℕ)) (opening : Opening) → Opens limits files opening → AllByRecursion IsSoundRing opening.rings
opens-sound limits _ _ none = tt
opens-sound limits _ _ (more files opening next last image opens takes) = taken-sound limits last image opening next takes (opens-sound limits files opening opens)

starts-sound : (limits : Limits) (files : List (List ℕ × List ℕ)) (opening : Opening) → Starts limits files opening → AllByRecursion IsSoundRing opening.rings
starts-sound limits files opening starts =
    let taken = opens-sound limits files (record { rings = starts.taken; used = opening.used }) starts.opens in
    recursion_from_All IsSoundRing opening.rings
    (All-permutation IsSoundRing starts.taken opening.rings starts.by_stem.same (All-from_recursion IsSoundRing starts.taken taken))

module _ {S : Type 0} where
  rows-sound : (these : List (RingState S)) → AllByRecursion IsSoundRing (map rings.row_of these) → AllByRecursion IsSoundCollection (rows_of (map loaded_from these))
  rows-sound [] all = tt
  rows-sound (ring ∷ these) all = (
    record {
      stem = all.0.stem;
      shown = shown-known (rings.bytes_of ring.cell.file) ring.clear all.0.has;
      other = tt;
      held = tt;
      image = file-shows ring.cell.file ring.clear all.0.has;
      newer = file-newer ring.cell.file ring.clear all.0.has;
      holds = tt;
    },
    rows-sound these all.1,
  )

  stems-same : (these : List (RingState S)) → keys_of (rows_of (map loaded_from these)) ≡ map (λ (ring : RingRow). ring.stem) (map rings.row_of these)
  stems-same [] = refl
  stems-same (ring ∷ these) = ap (λ stems. ring.stem ∷ stems) (stems-same these)

  ring-stems : (these : List (RingState S)) → map (λ (ring : RingRow). ring.stem) (map rings.row_of these) ≡ map (λ (ring : RingState S). ring.stem) these
  ring-stems [] = refl
  ring-stems (ring ∷ these) = ap (λ stems. ring.stem ∷ stems) (ring-stems these)

  -- the stems of what a start lists rise
  pub stems-rise : (loaded : Loaded S) → StartsOfSome the_limits (opening_of loaded) → IsStrictlySortedBy (slice_cmp nat_cmp) (map (λ (ring : RingState S). ring.stem) loaded.rings.items)
  stems-rise loaded some = subst (λ stems. IsStrictlySortedBy (slice_cmp nat_cmp) stems) (ring-stems loaded.rings.items) some.starts.by_stem.rising

  -- the collections of what a start lists are sound
  pub loaded-sound : (loaded : Loaded S) → StartsOfSome the_limits (opening_of loaded) → AreSoundCollections (rows_of (map loaded_from loaded.rings.items))
  loaded-sound loaded some = record {
    ordered = subst (λ stems. IsStrictlySortedBy (slice_cmp nat_cmp) stems) (sym (stems-same loaded.rings.items)) some.starts.by_stem.rising;
    each = rows-sound loaded.rings.items (starts-sound the_limits some.files (opening_of loaded) some.starts);
  }
