-- What becomes of the collections leaves their stems among those that are used.
use Rattle.std.proofs.Common.{◌≡◌, ℕ, ◌||◌, ⊎_elim, Bool, true, false, cond, IsTrue, List, [], ◌∷◌, ◌++◌, filter, refl, ap, ◌∙◌}
use Rattle.std.specs.Cmp.Lexicographic.{slice_cmp, nat_list_cmp_total}
use Rattle.std.specs.List.{AllByRecursion}
use Rattle.std.specs.declared.cmp.Ordering.{Ordering}
use Rattle.std.specs.declared.cmp.Ordering.TheVariants.{Less, Equal, Greater}
use Rattle.std.specs.List.Sorted.{IsStrictlySortedBy}
use Rattle.std.specs.Ordering.{is_eq, is_lt, nat_cmp, ordering_reverse}
use Rattle.std.proofs.lemmas.Bool.{cases_Bool}
use Rattle.std.proofs.lemmas.Cmp.{tied_itself}
use Rattle.std.proofs.lemmas.List.Folds.{list_any-append}
use Rattle.std.proofs.lemmas.List.Kept.{IsStrictlySortedBy-filter}
use Rattle.std.proofs.lemmas.Map.Lookups.{exact_bytes}
use Rattle.kr_base.specs.Attributes.{is_name}
use Rattle.kr_base.proofs.OrderedLemmas.{is_less}
use Rattle.service_prompts.specs.collection_table.specs.Entries.{changed, inserted, without}
use Rattle.service_prompts.specs.collection_table.specs.Rows.{CollectionRow, Rows, perhaps_removed}
use Rattle.replace_slot.specs.declared.images.Found.{Found}
use Rattle.replace_slot.specs.declared.images.Found.TheVariants as image
use Rattle.stem_choice.specs.UsedStems.{AreInOrder, is_used, with_stem}
use Rattle.service_disk.specs.Making.{Plan, perhaps_made, rows_made}
use Rattle.service_disk.specs.Resolving.{is_file, row_found, rows_found, rows_resolved}
use Rattle.service_prompts.specs.service_tables.specs.Slots.{file_at}
use Rattle.service_prompts.specs.service_tables.specs.Sound.{AreSoundStems}
use Rattle.service_prompts.specs.service_tables.specs.Storing.{rows_erased}
use Rattle.service_prompts.specs.service_tables.specs.declared.fate.ReadFate.{ReadFate}
use Rattle.service_prompts.specs.service_tables.specs.declared.fate.ReadFate.TheVariants as read
use Rattle.service_prompts.specs.service_tables.specs.declared.fate.StoreFate.{StoreFate}
use Rattle.service_prompts.specs.service_tables.specs.declared.fate.StoreFate.TheVariants as fate
use Rattle.service_prompts.specs.service_tables.proofs.EachLemmas.{each-append, each-filter, each-weaker}

-- ---- the stems of the collections are used

abbrev IsTaken : List (List ℕ) → List ℕ × CollectionRow → Type 0
IsTaken used row = IsTrue (is_used row.0 used)

taken-changed : (stem : List ℕ) (f : CollectionRow → CollectionRow) (rows : Rows) (used : List (List ℕ)) → AllByRecursion (IsTaken used) rows → AllByRecursion (IsTaken used) (changed stem f rows)
taken-changed stem f [] used all = tt
taken-changed stem f (row ∷ rows) used all =
    let pass : (b : Bool) → IsTaken used (cond b (row.0, f row.1) row) = elim [ true ↦ all.0 | false ↦ all.0 ] in
    (pass (is_name stem row.0), taken-changed stem f rows used all.1)

pub stems-changed : (stem : List ℕ) (f : CollectionRow → CollectionRow) (rows : Rows) (used : List (List ℕ)) → AreSoundStems rows used → AreSoundStems (changed stem f rows) used
stems-changed stem f rows used sound = record { ordered = sound.ordered; taken = taken-changed stem f rows used sound.taken }

stems-without : (stem : List ℕ) (rows : Rows) (used : List (List ℕ)) → AreSoundStems rows used → AreSoundStems (without stem rows) used
stems-without stem rows used sound = record { ordered = sound.ordered; taken = each-filter (IsTaken used) _ rows sound.taken }

pub stems-erased : (stem : List ℕ) (some : StoreFate) (rows : Rows) (used : List (List ℕ)) → AreSoundStems rows used → AreSoundStems (rows_erased stem some rows) used
stems-erased stem fate.Stored rows used sound = stems-without stem rows used sound
stems-erased stem fate.Before rows used sound = sound
stems-erased stem fate.Unsure rows used sound = stems-changed stem perhaps_removed rows used sound

stems-found : (stem : List ℕ) (found : Found) (rows : Rows) (used : List (List ℕ)) → AreSoundStems rows used → AreSoundStems (rows_found stem found rows) used
stems-found stem found rows used sound =
    let pass : (b : Bool) → AreSoundStems (cond b (changed stem (row_found found) rows) (without stem rows)) used =
    elim [ true ↦ stems-changed stem (row_found found) rows used sound | false ↦ stems-without stem rows used sound ] in
    pass (is_file found (file_at stem rows))

pub stems-resolved : (stem : List ℕ) (some : ReadFate) (rows : Rows) (used : List (List ℕ)) → AreSoundStems rows used → AreSoundStems (rows_resolved stem some rows) used
stems-resolved stem read.Old rows used sound = stems-found stem image.Old rows used sound
stems-resolved stem read.New rows used sound = stems-found stem image.New rows used sound
stems-resolved stem read.Other rows used sound = stems-without stem rows used sound
stems-resolved stem read.ReadFailed rows used sound = sound

-- ---- a stem that is used from now on

abbrev by_bytes : List ℕ → List ℕ → Ordering
by_bytes = slice_cmp nat_cmp

turned : (a b : List ℕ) (o : Ordering) → by_bytes a b ≡ o → by_bytes b a ≡ ordering_reverse o
turned a b o is = nat_list_cmp_total.antisymm b a ∙ ap ordering_reverse is

abbrev AllAfter : List ℕ → List (List ℕ) → Type 0
AllAfter stem used = AllByRecursion (λ other. by_bytes stem other ≡ Less) used

abbrev AllBefore : List ℕ → List (List ℕ) → Type 0
AllBefore stem used = AllByRecursion (λ other. by_bytes other stem ≡ Less) used

further : (first stem : List ℕ) (used : List (List ℕ)) → by_bytes first stem ≡ Less → AllAfter stem used → AllAfter first used
further first stem [] less all = tt
further first stem (other ∷ more) less (is, all) = (nat_list_cmp_total.trans first stem other less is, further first stem more less all)

all_before : (stem : List ℕ) (used : List (List ℕ)) → AllBefore stem (filter (λ other. is_lt (by_bytes other stem)) used)
all_before stem [] = tt
all_before stem (first ∷ more) = ⊎_elim
    (λ less. rw less (is_less (by_bytes first stem) less, all_before stem more))
    (λ other. rw other (all_before stem more))
    (cases_Bool (is_lt (by_bytes first stem)))

all_after : (stem : List ℕ) (used : List (List ℕ)) → AllAfter stem (filter (λ other. is_lt (by_bytes stem other)) used)
all_after stem [] = tt
all_after stem (first ∷ more) = ⊎_elim
    (λ less. rw less (is_less (by_bytes stem first) less, all_after stem more))
    (λ other. rw other (all_after stem more))
    (cases_Bool (is_lt (by_bytes stem first)))

joined : (P : List ℕ → Type 0) (used more : List (List ℕ)) → AllByRecursion P used → AllByRecursion P more → AllByRecursion P (used ++ more)
joined P [] more all also = also
joined P (first ∷ used) more (is, all) also = (is, joined P used more all also)

in_order_at : (stem : List ℕ) (used more : List (List ℕ)) → AreInOrder used → AllBefore stem used → AreInOrder more → AllAfter stem more → AreInOrder (used ++ stem ∷ more)
unfolding IsStrictlySortedBy
in_order_at stem [] more ordered before ordered_more after = (after, ordered_more)
in_order_at stem (first ∷ used) more (is, ordered) (less, before) ordered_more after =
    (joined (λ other. by_bytes first other ≡ Less) used (stem ∷ more) is (less, further first stem more less after), in_order_at stem used more ordered before ordered_more after)

with_stem-in_order : (stem : List ℕ) (used : List (List ℕ)) → AreInOrder used → AreInOrder (with_stem stem used)
with_stem-in_order stem used ordered =
    in_order_at stem (filter (λ other. is_lt (by_bytes other stem)) used) (filter (λ other. is_lt (by_bytes stem other)) used)
    (IsStrictlySortedBy-filter by_bytes (λ other. is_lt (by_bytes other stem)) used ordered) (all_before stem used)
    (IsStrictlySortedBy-filter by_bytes (λ other. is_lt (by_bytes stem other)) used ordered) (all_after stem used)

module _ (stem other : List ℕ) where
  less_step : (t a n b u : Bool) → (a || (n || b)) ≡ (n || u) → ((t || a) || (n || b)) ≡ (n || (t || u))
  less_step true a true b u h = refl
  less_step true a false b u h = refl
  less_step false a n b u h = h

  greater_step : (t a n b u : Bool) → (a || (n || b)) ≡ (n || u) → (a || (n || (t || b))) ≡ (n || (t || u))
  greater_step true true true b u h = refl
  greater_step true true false b u h = refl
  greater_step true false true b u h = refl
  greater_step true false false b u h = refl
  greater_step false a n b u h = h

  equal_step : (a n b u : Bool) → (a || (n || b)) ≡ (n || u) → (a || (n || b)) ≡ (n || (n || u))
  equal_step a true b u h = h
  equal_step a false b u h = h

  abbrev before : List (List ℕ) → Bool
  before used = is_used other (filter (λ x. is_lt (by_bytes x stem)) used)

  abbrev after : List (List ℕ) → Bool
  after used = is_used other (filter (λ x. is_lt (by_bytes stem x)) used)

  in_parts : (used : List (List ℕ)) → (before used || (is_name other stem || after used)) ≡ (is_name other stem || is_used other used)
  in_parts [] = refl
  in_parts (first ∷ more) =
      let step : (o : Ordering) → by_bytes first stem ≡ o → (before (first ∷ more) || (is_name other stem || after (first ∷ more))) ≡ (is_name other stem || is_used other (first ∷ more)) =
      elim [
        | Less ↦ λ tie.
            let on : is_lt (by_bytes first stem) ≡ true = ap is_lt tie in
            let off : is_lt (by_bytes stem first) ≡ false = ap is_lt (turned first stem Less tie) in
            rw (on, off) (less_step (is_name other first) (before more) (is_name other stem) (after more) (is_used other more) (in_parts more))
        | Equal ↦ λ tie.
            let on : is_lt (by_bytes first stem) ≡ false = ap is_lt tie in
            let off : is_lt (by_bytes stem first) ≡ false = ap is_lt (turned first stem Equal tie) in
            let same : is_name other first ≡ is_name other stem = ap (is_name other) (exact_bytes first stem tie) in
            rw (on, off, same) (equal_step (before more) (is_name other stem) (after more) (is_used other more) (in_parts more))
        | Greater ↦ λ tie.
            let on : is_lt (by_bytes first stem) ≡ false = ap is_lt tie in
            let off : is_lt (by_bytes stem first) ≡ true = ap is_lt (turned first stem Greater tie) in
            rw (on, off) (greater_step (is_name other first) (before more) (is_name other stem) (after more) (is_used other more) (in_parts more))
      ] in
      step (by_bytes first stem) refl

  is_used-with_stem : (used : List (List ℕ)) → is_used other (with_stem stem used) ≡ (is_name other stem || is_used other used)
  is_used-with_stem used =
      list_any-append (is_name other) (filter (λ x. is_lt (by_bytes x stem)) used) (stem ∷ filter (λ x. is_lt (by_bytes stem x)) used) ∙ in_parts used

or-first : (a b : Bool) → a ≡ true → (a || b) ≡ true
or-first true b is = refl
or-first false b is = absurd (let no : false ≡ true = is in cc)

or-second : (a b : Bool) → b ≡ true → (a || b) ≡ true
or-second true b is = refl
or-second false b is = is

still-used : (stem other : List ℕ) (used : List (List ℕ)) → is_used other used ≡ true → is_used other (with_stem stem used) ≡ true
still-used stem other used is = is_used-with_stem stem other used ∙ or-second (is_name other stem) (is_used other used) is

now-used : (stem : List ℕ) (used : List (List ℕ)) → is_used stem (with_stem stem used) ≡ true
now-used stem used = is_used-with_stem stem stem used ∙ or-first (is_name stem stem) (is_used stem used) (ap is_eq (tied_itself nat_list_cmp_total stem))

stems-used : (stem : List ℕ) (rows : Rows) (used : List (List ℕ)) → AreSoundStems rows used → AreSoundStems rows (with_stem stem used)
stems-used stem rows used sound = record {
  ordered = with_stem-in_order stem used sound.ordered;
  taken = each-weaker (IsTaken used) (IsTaken (with_stem stem used)) (λ row is. still-used stem row.0 used is) rows sound.taken;
}

stems-inserted : (stem : List ℕ) (value : CollectionRow) (rows : Rows) (used : List (List ℕ)) → AreSoundStems rows used → AreSoundStems (inserted stem value rows) (with_stem stem used)
stems-inserted stem value rows used sound =
    let after = stems-used stem rows used sound in
    let P = IsTaken (with_stem stem used) in
    record {
      ordered = after.ordered;
      taken = each-append P (filter (λ entry. is_lt (slice_cmp nat_cmp entry.0 stem)) rows) _ (each-filter P _ rows after.taken) (now-used stem used, each-filter P _ rows after.taken);
    }

pub stems-made : (stem : List ℕ) (plan : Plan) (some : StoreFate) (rows : Rows) (used : List (List ℕ)) → AreSoundStems rows used → AreSoundStems (rows_made stem plan some rows) (with_stem stem used)
stems-made stem plan fate.Stored rows used sound = stems-inserted stem _ rows used sound
stems-made stem plan fate.Before rows used sound = stems-used stem rows used sound
stems-made stem plan fate.Unsure rows used sound = stems-inserted stem (perhaps_made plan) rows used sound
