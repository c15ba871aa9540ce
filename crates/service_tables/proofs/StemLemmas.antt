-- The stems that are used: once a folder was loaded, those of what a start lists are among them; and the stems of the collections with
-- one more.
use Rattle.std.proofs.Common.{◌≡◌, ◌≤◌, ◌<◌, ℕ, zero, suc, Bool, true, false, ◌||◌, IsTrue, List, [], ◌∷◌, ◌++◌, get_or, map, insert, length, None, refl, sym, ap, ◌∙◌, arith}
use Rattle.std.specs.Cmp.Lexicographic.{slice_cmp, nat_list_cmp_total}
use Rattle.std.specs.List.{AllByRecursion}
use Rattle.std.specs.List.Sorted.{IsNonDecreasingBy, IsPartitionPoint}
use Rattle.std.specs.Map.{keys_of}
use Rattle.std.specs.Ordering.{nat_cmp, is_eq, ordering_index}
use Rattle.std.specs.declared.cmp.Ordering.{Ordering}
use Rattle.std.specs.declared.cmp.Ordering.TheVariants.{Less, Equal, Greater}
use Rattle.std.proofs.lemmas.Cmp.{tied_itself}
use Rattle.std.proofs.Math.ListN.{get_or-map}
use Rattle.std.proofs.lemmas.List.Elements.{All-from_recursion, recursion_from_All}
use Rattle.std.proofs.lemmas.List.Sorted.{All-permutation}
use Rattle.std.proofs.lemmas.Map.Entries.{length-keys_of}
use Rattle.kr_base.specs.Attributes.{IsInOrder, is_name, value_at}
use Rattle.replace_slot.specs.Cell.{IsKnown}
use Rattle.folder_store.specs.Aliases.{pairs_in}
use Rattle.folder_store.specs.declared.limits.Limits.{Limits}
use Rattle.folder_store.specs.declared.loading.Loaded.{Loaded}
use Rattle.folder_store.specs.Limits.{the_limits}
use Rattle.folder_store.specs.Loads.{StartsOfSome, opening_of}
use Rattle.folder_store.specs.Opened as opened
use Rattle.folder_store.specs.Opened.{RingRow, Opening, Takes, Opens, Starts}
use Rattle.folder_store.specs.Ring as rings
use Rattle.folder_store.specs.Ring.{RingState}
use Rattle.collection_table.specs.Entries.{inserted, loaded_from, rows_of}
use Rattle.collection_table.proofs.EntryLemmas.{insert_parted, missed, placed}
use Rattle.stem_choice.specs.UsedStems.{AreInOrder, is_used, with_stem}
use Rattle.service_tables.specs.Disk.{used_from, with_stems}
use Rattle.service_tables.specs.Sound.{AreKnown, AreSoundStems}
use Rattle.service_tables.proofs.EachLemmas.{each-append, each-weaker}

abbrev by_bytes : List ℕ → List ℕ → Ordering
by_bytes = slice_cmp nat_cmp

-- ---- stems that are put in

itself : (stem : List ℕ) → is_name stem stem ≡ true
itself stem = ap is_eq (tied_itself nat_list_cmp_total stem)

either : (a b : Bool) → b ≡ true → (a || b) ≡ true
either true b is = refl
either false b is = is

-- once a stem is added it is used, and so are those that were used before
abbrev pub AddsIt : Type 0
AddsIt = (stem other : List ℕ) (used : List (List ℕ)) → is_used other (with_stem stem used) ≡ (is_name other stem || is_used other used)

still-used : AddsIt → (other : List ℕ) (stems used : List (List ℕ)) → is_used other used ≡ true → is_used other (with_stems stems used) ≡ true
still-used adds other [] used is = is
still-used adds other (stem ∷ stems) used is =
    still-used adds other stems (with_stem stem used) (adds stem other used ∙ either (is_name other stem) (is_used other used) is)

all-used : AddsIt → (stems used : List (List ℕ)) → AllByRecursion (λ stem. IsTrue (is_used stem (with_stems stems used))) stems
all-used adds [] used = tt
all-used adds (stem ∷ stems) used =
    let here : is_used stem (with_stem stem used) ≡ true = adds stem stem used ∙ rw (itself stem) refl in
    (still-used adds stem stems (with_stem stem used) here, all-used adds stems (with_stem stem used))

-- ---- what a start lists

module _ (P : List ℕ → Type 0) where
  front : (used also : List (List ℕ)) → AllByRecursion P (used ++ also) → AllByRecursion P used
  front [] also all = tt
  front (stem ∷ used) also all = (all.0, front used also all.1)

  last : (used : List (List ℕ)) (stem : List ℕ) → AllByRecursion P (used ++ stem ∷ []) → P stem
  last [] stem all = all.0
  last (first ∷ used) stem all = last used stem all.1

  abbrev AllHave : List RingRow → Type 0
  AllHave these = AllByRecursion (λ (ring : RingRow). P ring.stem) these

  taken-used : (limits : Limits) (name image : List ℕ) (opening next : Opening) → Takes limits name image opening next
      → (AllByRecursion P opening.used → AllHave opening.rings) → AllByRecursion P next.used → AllHave next.rings
  taken-used limits name image opening _ (opened.other off) before all = before all
  taken-used limits name image opening _ (opened.left_alone stem named off) before all = before (front opening.used (stem ∷ []) all)
  taken-used limits name image opening _ (opened.listed stem clear named reads fits) before all =
      each-append (λ (ring : RingRow). P ring.stem) opening.rings ((record { stem = stem; clear = clear; image = image }) ∷ [])
      (before (front opening.used (stem ∷ []) all)) (last opening.used stem all, tt)

  opens-used : (limits : Limits) (files : List (List ℕ × List ℕ)) (opening : Opening) → Opens limits files opening → AllByRecursion P opening.used → AllHave opening.rings
  opens-used limits _ _ opened.none all = tt
  opens-used limits _ _ (opened.more files opening next name image opens takes) all =
      taken-used limits name image opening next takes (λ before. opens-used limits files opening opens before) all

  starts-used : (limits : Limits) (files : List (List ℕ × List ℕ)) (opening : Opening) → Starts limits files opening → AllByRecursion P opening.used → AllHave opening.rings
  starts-used limits files opening starts all =
      let has : RingRow → Type 0 = λ ring. P ring.stem in
      let taken : AllHave starts.taken = opens-used limits files (record { rings = starts.taken; used = opening.used }) starts.opens all in
      recursion_from_All has opening.rings (All-permutation has starts.taken opening.rings starts.by_stem.same (All-from_recursion has starts.taken taken))

module _ {S : Type 0} where
  rows-used : (P : List ℕ → Type 0) (these : List (RingState S)) → AllHave P (map rings.row_of these) → AllByRecursion (λ (row : List ℕ × _). P row.0) (rows_of (map loaded_from these))
  rows-used P [] all = tt
  rows-used P (ring ∷ these) all = (all.0, rows-used P these all.1)

  -- the stems of the collections are used once this was loaded
  pub loaded-stems : AddsIt → (loaded : Loaded S) → StartsOfSome the_limits (opening_of loaded) → AreInOrder (used_from loaded)
      → AreSoundStems (rows_of (map loaded_from loaded.rings.items)) (used_from loaded)
  loaded-stems adds loaded some ordered =
      let aliases = map (λ (pair : List ℕ × List ℕ). pair.1) (pairs_in loaded.aliases) in
      let files = with_stems loaded.used.items [] in
      let each : AllByRecursion (λ stem. IsTrue (is_used stem (used_from loaded))) loaded.used.items =
      each-weaker (λ stem. IsTrue (is_used stem files)) (λ stem. IsTrue (is_used stem (used_from loaded))) (λ stem is. still-used adds stem aliases files is) loaded.used.items
      (all-used adds loaded.used.items []) in
      record {
        ordered = ordered;
        taken = rows-used (λ stem. IsTrue (is_used stem (used_from loaded))) loaded.rings.items
            (starts-used (λ stem. IsTrue (is_used stem (used_from loaded))) the_limits some.files (opening_of loaded) some.starts each);
      }

  -- collections whose files are known
  pub loaded-known : (these : List (RingState S)) → AllByRecursion (λ (ring : RingState S). IsKnown ring.cell.file) these → AreKnown (rows_of (map loaded_from these))
  loaded-known [] all = tt
  loaded-known (ring ∷ these) all = (all.0, loaded-known these all.1)

-- ---- one more collection

module _ {V : Type 0} (stem : List ℕ) (value : V) (entries : List (List ℕ × V)) (ordered : IsInOrder entries) where
  key-at : (place : ℕ) (d : List ℕ × V) → get_or (keys_of entries) place d.0 ≡ (get_or entries place d).0
  key-at place d = get_or-map (λ (p : List ℕ × V). p.0) entries place d

  -- a search doesn't hit if the stem isn't there
  pub key-missed : (place : ℕ) → value_at stem entries ≡ None → place < length (keys_of entries) → ((d : List ℕ) → by_bytes (get_or (keys_of entries) place d) stem ≡ Equal) → ⊥
  key-missed place none bound equal =
      missed stem entries place ordered none
      (placed entries stem place (omega (arith, length-keys_of entries)) (λ d. ap (λ key. by_bytes key stem) (sym (key-at place d)) ∙ equal d.0))

  -- where it misses, the stem is put in its place
  pub key-inserted : (place : ℕ) → place ≤ length (keys_of entries)
      → (IsNonDecreasingBy (λ other. ordering_index (by_bytes other stem)) (keys_of entries)
      → IsPartitionPoint (λ other. by_bytes other stem ≡ Less) (λ other. by_bytes other stem ≡ Greater) (keys_of entries) place)
      → insert (keys_of entries) place stem ≡ keys_of (inserted stem value entries)
  key-inserted place within gap =
      keys-insert entries place (stem, value) (omega (arith, length-keys_of entries))
      ∙ ap keys_of (insert_parted stem value entries place ordered (omega (arith, length-keys_of entries)) (λ rises.
      let parts = gap (λ i j d le in_range. rw (key-at i (d, value), key-at j (d, value)) (rises i j (d, value) le (omega (arith, length-keys_of entries)))) in (
        λ k d low lt. ap (λ key. by_bytes key stem) (sym (key-at k d)) ∙ parts.0 k d.0 low lt,
        λ k d le lt. ap (λ key. by_bytes key stem) (sym (key-at k d)) ∙ parts.1 k d.0 le (omega (arith, length-keys_of entries)),
      )))
    where
      keys-insert : (entries : List (List ℕ × V)) (place : ℕ) (entry : List ℕ × V) → place ≤ length entries → insert (keys_of entries) place entry.0 ≡ keys_of (insert entries place entry)
      keys-insert [] zero entry within = refl
      keys-insert [] (suc place) entry within = absurd (omega (arith, within))
      keys-insert (first ∷ more) zero entry within = refl
      keys-insert (first ∷ more) (suc place) entry within = ap (λ keys. first.0 ∷ keys) (keys-insert more place entry (omega (arith, within)))
