-- The slots of a disk after one collection of it was changed, or taken away.
use Rattle.std.proofs.Common.{◌≡◌, ℕ, Bool, true, false, ◌&&◌, cond, List, [], ◌∷◌, Some, None, refl, sym, ap, subst, ◌∙◌}
use Rattle.std.specs.Cmp.Lexicographic.{slice_cmp, nat_list_cmp_total}
use Rattle.std.specs.List.{AllByRecursion, list_all}
use Rattle.std.specs.List.Sorted.{IsStrictlySortedBy}
use Rattle.std.specs.Map.{keys_of}
use Rattle.std.specs.Option.{option_map, option_map_or, option_or}
use Rattle.std.specs.Ordering.{nat_cmp, is_eq}
use Rattle.std.specs.declared.cmp.Ordering.TheVariants.{Less}
use Rattle.std.proofs.lemmas.Cmp.{tied_itself}
use Rattle.std.proofs.lemmas.Map.Lookups.{exact_bytes}
use Rattle.std.proofs.lemmas.Map.Made.{lookup-map_values}
use Rattle.std.proofs.lemmas.Option.{none-some}
use Rattle.kr_base.specs.Attributes.{IsInOrder, is_name, value_at}
use Rattle.kr_base.proofs.OrderedLemmas.{is_equal, name-test}
use Rattle.kr_outside.specs.RenameDisk.{Image}
use Rattle.replace_slot.specs.Cell.{File, Known}
use Rattle.collection_store.specs.State.{CollectionState}
use Rattle.collection_table.specs.Entries.{Entries, changed, row_of, rows_of, slots_of, without}
use Rattle.collection_table.specs.Rows.{CollectionRow, Rows}
use Rattle.collection_table.proofs.RowLemmas.{keys-rows, rows-changed, slots-changed, value-rows}
use Rattle.service_tables.specs.declared.fate.Fate.{Fate}
use Rattle.service_tables.specs.Disk.{DiskState}
use Rattle.service_tables.specs.Slots.{StoresAt, StoresIn, are_steady, file_at, slot_at}

itself : (stem : List ℕ) → is_name stem stem ≡ true
itself stem = ap is_eq (tied_itself nat_list_cmp_total stem)

and-turned : (a b c : Bool) → (a && (b && c)) ≡ (b && (a && c))
and-turned true true c = refl
and-turned true false c = refl
and-turned false true c = refl
and-turned false false c = refl

and-moved : (a b c : Bool) → (b && (a && c)) ≡ ((a && b) && c)
and-moved true true c = refl
and-moved true false c = refl
and-moved false true c = refl
and-moved false false c = refl

-- ---- a value that takes the place of another one

module _ {V : Type 0} (stem : List ℕ) where
  pub changed-here : (value : V) (entries : List (List ℕ × V)) → value_at stem (changed stem (λ _. value) entries) ≡ option_map (λ _. value) (value_at stem entries)
  changed-here value [] = refl
  changed-here value (e ∷ more) =
      let pass : (b : Bool) → is_name stem e.0 ≡ b → value_at stem (changed stem (λ _. value) (e ∷ more)) ≡ option_map (λ _. value) (value_at stem (e ∷ more)) =
      elim [ true ↦ λ is. rw is (rw is refl) | false ↦ λ off. rw off (rw off (changed-here value more)) ] in
      pass (is_name stem e.0) refl

  pub changed-apart : (value : V) (other : List ℕ) (entries : List (List ℕ × V)) → is_name stem other ≡ false → value_at other (changed stem (λ _. value) entries) ≡ value_at other entries
  changed-apart value other [] off = refl
  changed-apart value other (e ∷ more) off =
      let pass : (b : Bool) → is_name stem e.0 ≡ b → value_at other (changed stem (λ _. value) (e ∷ more)) ≡ value_at other (e ∷ more) =
      elim [
        | true ↦ λ is.
            let here : stem ≡ e.0 = exact_bytes stem e.0 (is_equal (slice_cmp nat_cmp stem e.0) is) in
            let apart : is_name other e.0 ≡ false = name-test other e.0 ∙ ap (λ s. is_name s other) (sym here) ∙ off in
            rw is (rw apart (changed-apart value other more off))
        | false ↦ λ differs. rw differs (ap (λ o. cond (is_name other e.0) (Some e.1) o) (changed-apart value other more off))
      ] in
      pass (is_name stem e.0) refl

  pub without-here : (entries : List (List ℕ × V)) → value_at stem (without stem entries) ≡ None
  without-here [] = refl
  without-here (e ∷ more) =
      let pass : (b : Bool) → is_name stem e.0 ≡ b → value_at stem (without stem (e ∷ more)) ≡ None =
      elim [ true ↦ λ is. rw is (without-here more) | false ↦ λ off. rw off (rw off (without-here more)) ] in
      pass (is_name stem e.0) refl

  pub without-apart : (other : List ℕ) (entries : List (List ℕ × V)) → is_name stem other ≡ false → value_at other (without stem entries) ≡ value_at other entries
  without-apart other [] off = refl
  without-apart other (e ∷ more) off =
      let pass : (b : Bool) → is_name stem e.0 ≡ b → value_at other (without stem (e ∷ more)) ≡ value_at other (e ∷ more) =
      elim [
        | true ↦ λ is.
            let here : stem ≡ e.0 = exact_bytes stem e.0 (is_equal (slice_cmp nat_cmp stem e.0) is) in
            let apart : is_name other e.0 ≡ false = name-test other e.0 ∙ ap (λ s. is_name s other) (sym here) ∙ off in
            rw is (rw apart (without-apart other more off))
        | false ↦ λ differs. rw differs (ap (λ o. cond (is_name other e.0) (Some e.1) o) (without-apart other more off))
      ] in
      pass (is_name stem e.0) refl

  -- ---- a value that is changed by a function of it

  above-same : (f g : V → V) (entries : List (List ℕ × V)) → AllByRecursion (λ y. slice_cmp nat_cmp stem y ≡ Less) (keys_of entries) → changed stem f entries ≡ changed stem g entries
  above-same f g [] above = refl
  above-same f g (e ∷ more) above =
      let off : is_name stem e.0 ≡ false = ap is_eq above.0 in
      rw off (ap (λ t. e ∷ t) (above-same f g more above.1))

  pub changed-as : (f : V → V) (value : V) (entries : List (List ℕ × V)) → IsInOrder entries → value_at stem entries ≡ Some value → changed stem (λ _. f value) entries ≡ changed stem f entries
  unfolding IsStrictlySortedBy
  changed-as f value [] ordered at = refl
  changed-as f value (e ∷ more) (below, rest) at =
      let pass : (b : Bool) → is_name stem e.0 ≡ b → changed stem (λ _. f value) (e ∷ more) ≡ changed stem f (e ∷ more) =
      elim [
        | true ↦ λ is.
            let here : stem ≡ e.0 = exact_bytes stem e.0 (is_equal (slice_cmp nat_cmp stem e.0) is) in
            let found : Some e.1 ≡ Some value = rw is at at in
            let same : e.1 ≡ value = cc in
            let above : AllByRecursion (λ y. slice_cmp nat_cmp stem y ≡ Less) (keys_of more) = subst (λ s. AllByRecursion (λ y. slice_cmp nat_cmp s y ≡ Less) (keys_of more)) (sym here) below in
            rw is (λ i. (e.0, f (sym same i)) ∷ above-same (λ _. f value) f more above i)
        | false ↦ λ off. rw off (ap (λ t. e ∷ t) (changed-as f value more rest (rw off at at)))
      ] in
      pass (is_name stem e.0) refl

  above-unchanged : (f : V → V) (entries : List (List ℕ × V)) → AllByRecursion (λ y. slice_cmp nat_cmp stem y ≡ Less) (keys_of entries) → changed stem f entries ≡ entries
  above-unchanged f [] above = refl
  above-unchanged f (e ∷ more) above =
      let off : is_name stem e.0 ≡ false = ap is_eq above.0 in
      rw off (ap (λ t. e ∷ t) (above-unchanged f more above.1))

  same-values : (entries : List (List ℕ × V)) → changed stem (λ value. value) entries ≡ entries
  same-values [] = refl
  same-values (e ∷ more) =
      let pass : (b : Bool) → cond b (e.0, e.1) e ≡ e = elim [ true ↦ refl | false ↦ refl ] in
      λ i. pass (is_name stem e.0) i ∷ same-values more i

  -- the same value again
  pub changed-back : (value : V) (entries : List (List ℕ × V)) → IsInOrder entries → value_at stem entries ≡ Some value → changed stem (λ _. value) entries ≡ entries
  changed-back value entries ordered at = changed-as (λ v. v) value entries ordered at ∙ same-values entries

  above-kept : (entries : List (List ℕ × V)) → AllByRecursion (λ y. slice_cmp nat_cmp stem y ≡ Less) (keys_of entries) → without stem entries ≡ entries
  above-kept [] above = refl
  above-kept (e ∷ more) above =
      let off : is_name stem e.0 ≡ false = ap is_eq above.0 in
      rw off (ap (λ t. e ∷ t) (above-kept more above.1))

  -- ---- what is true of each value

  module _ (test : V → Bool) where
    abbrev all : List (List ℕ × V) → Bool
    all entries = list_all (λ (e : List ℕ × V). test e.1) entries

    pub all-changed : (was is : V) (entries : List (List ℕ × V)) → IsInOrder entries → value_at stem entries ≡ Some was → test is ≡ test was → all (changed stem (λ _. is) entries) ≡ all entries
    unfolding IsStrictlySortedBy
    all-changed was is [] ordered at same = refl
    all-changed was is (e ∷ more) (below, rest) at same =
        let pass : (b : Bool) → is_name stem e.0 ≡ b → all (changed stem (λ _. is) (e ∷ more)) ≡ all (e ∷ more) =
        elim [
          | true ↦ λ here.
              let stems : stem ≡ e.0 = exact_bytes stem e.0 (is_equal (slice_cmp nat_cmp stem e.0) here) in
              let found : Some e.1 ≡ Some was = rw here at at in
              let one : e.1 ≡ was = cc in
              let above : AllByRecursion (λ y. slice_cmp nat_cmp stem y ≡ Less) (keys_of more) = subst (λ s. AllByRecursion (λ y. slice_cmp nat_cmp s y ≡ Less) (keys_of more)) (sym stems) below in
              let tests : test is ≡ test e.1 = same ∙ ap test (sym one) in
              rw here (λ i. tests i && all (above-unchanged (λ _. is) more above i))
          | false ↦ λ off. rw off (ap (λ b. test e.1 && b) (all-changed was is more rest (rw off at at) same))
        ] in
        pass (is_name stem e.0) refl

    pub all-without : (was : V) (entries : List (List ℕ × V)) → IsInOrder entries → value_at stem entries ≡ Some was → (test was && all (without stem entries)) ≡ all entries
    unfolding IsStrictlySortedBy
    all-without was [] ordered at = absurd (none-some was at)
    all-without was (e ∷ more) (below, rest) at =
        let pass : (b : Bool) → is_name stem e.0 ≡ b → (test was && all (without stem (e ∷ more))) ≡ all (e ∷ more) =
        elim [
          | true ↦ λ here.
              let stems : stem ≡ e.0 = exact_bytes stem e.0 (is_equal (slice_cmp nat_cmp stem e.0) here) in
              let found : Some e.1 ≡ Some was = rw here at at in
              let one : was ≡ e.1 = cc in
              let above : AllByRecursion (λ y. slice_cmp nat_cmp stem y ≡ Less) (keys_of more) = subst (λ s. AllByRecursion (λ y. slice_cmp nat_cmp s y ≡ Less) (keys_of more)) (sym stems) below in
              rw here (λ i. test (one i) && all (above-kept more above i))
          | false ↦ λ off. rw off (and-turned (test was) (test e.1) (all (without stem more)) ∙ ap (λ b. test e.1 && b) (all-without was more rest (rw off at at)))
        ] in
        pass (is_name stem e.0) refl

-- ---- a disk

module _ {S : Type 0} (stem : List ℕ) where
  pub value-slots : (entries : Entries S) → value_at stem (slots_of entries) ≡ option_map (λ (c : CollectionState S). c.slot) (value_at stem entries)
  value-slots entries = lookup-map_values (λ (c : CollectionState S). c.slot) (is_name stem) entries

  pub file-there : (entries : Entries S) (c : CollectionState S) → value_at stem entries ≡ Some c → file_at stem (rows_of entries) ≡ c.file
  file-there entries c at = ap (λ o. option_map_or (λ (row : CollectionRow). row.file) o (Known None)) (value-rows stem entries ∙ ap (option_map row_of) at)

  module _ (is_honest is_steady : S → Bool) (faults moment : S → ℕ) (left_since : S → ℕ → Image → Type 0) (may_leave : S → Image → Type 0) where
    abbrev pub In : Fate → File → File → S → S → Type 0
    In some before after was is = StoresIn is_honest is_steady faults moment left_since may_leave some before after was is

    abbrev pub At : {F : Type 0} → Fate → Rows → Rows → DiskState F S → DiskState F S → Type 0
    At some before after old new = StoresAt is_honest is_steady faults moment left_since may_leave stem some before after old new

    -- a collection that another one takes the place of
    pub at-changed : {F : Type 0} (some : Fate) (entries : Entries S) (was is : CollectionState S) (old new : DiskState F S) → IsInOrder (slots_of entries) → value_at stem entries ≡ Some was → old.slots ≡ slots_of entries
        → new ≡ record old { slots = changed stem (λ _. is.slot) (slots_of entries) } → In some was.file is.file was.slot is.slot
        → (after : Rows) → after ≡ rows_of (changed stem (λ _. is) entries) → At some (rows_of entries) after old new
    at-changed some entries was is old new ordered there slots made stores after rows =
        let found : value_at stem (slots_of entries) ≡ Some was.slot = value-slots entries ∙ ap (option_map (λ (c : CollectionState S). c.slot)) there in
        let next : value_at stem (changed stem (λ _. is.slot) (slots_of entries)) ≡ Some is.slot = changed-here stem is.slot (slots_of entries) ∙ ap (option_map (λ _. is.slot)) found in
        let entry : value_at stem (changed stem (λ _. is) entries) ≡ Some is = changed-here stem is entries ∙ ap (option_map (λ _. is)) there in
        let before_is : file_at stem (rows_of entries) ≡ was.file = file-there entries was there in
        let after_is : file_at stem after ≡ is.file = ap (file_at stem) rows ∙ file-there (changed stem (λ _. is) entries) is entry in
        record {
          was = was.slot;
          is = is.slot;
          slot = ap (λ s. option_or (value_at stem s) (value_at stem old.spare)) slots ∙ ap (λ o. option_or o (value_at stem old.spare)) found;
          kept = ap (slot_at stem) made ∙ ap (λ o. option_or o (value_at stem old.spare)) next;
          stores = subst (λ (f : File). In some f (file_at stem after) was.slot is.slot) (sym before_is) (subst (λ (f : File). In some was.file f was.slot is.slot) (sym after_is) stores);
          others = λ other off. ap (slot_at other) made
              ∙ ap (λ o. option_or o (value_at other old.spare)) (changed-apart stem is.slot other (slots_of entries) off ∙ ap (value_at other) (sym slots));
          all_steady = ap (are_steady is_steady) made ∙ ap (λ b. b && list_all (λ (slot : List ℕ × S). is_steady slot.1) old.spare)
              (all-changed stem is_steady was.slot is.slot (slots_of entries) ordered found stores.steady.same ∙ ap (list_all (λ (slot : List ℕ × S). is_steady slot.1)) (sym slots));
          rest = made ∙ (λ i. record old { slots = (sym made i).slots; spare = (sym made i).spare });
        }

    -- one that is taken away, and whose slot is put aside
    pub at-erased : {F : Type 0} (some : Fate) (entries : Entries S) (was is : CollectionState S) (old new : DiskState F S) → IsInOrder (slots_of entries) → value_at stem entries ≡ Some was → old.slots ≡ slots_of entries
        → new.slots ≡ without stem (slots_of entries) → new.spare ≡ (stem, is.slot) ∷ old.spare → new ≡ record old { slots = new.slots; spare = new.spare }
        → In some was.file (Known None) was.slot is.slot → (after : Rows) → value_at stem after ≡ None → At some (rows_of entries) after old new
    at-erased some entries was is old new ordered there slots left spare rest stores after none =
        let found : value_at stem (slots_of entries) ≡ Some was.slot = value-slots entries ∙ ap (option_map (λ (c : CollectionState S). c.slot)) there in
        let before_is : file_at stem (rows_of entries) ≡ was.file = file-there entries was there in
        let after_is : file_at stem after ≡ Known None = ap (λ o. option_map_or (λ (row : CollectionRow). row.file) o (Known None)) none in
        let aside : value_at stem ((stem, is.slot) ∷ old.spare) ≡ Some is.slot = rw (itself stem) refl in
        record {
          was = was.slot;
          is = is.slot;
          slot = ap (λ s. option_or (value_at stem s) (value_at stem old.spare)) slots ∙ ap (λ o. option_or o (value_at stem old.spare)) found;
          kept = ap (λ o. option_or o (value_at stem new.spare)) (ap (value_at stem) left ∙ without-here stem (slots_of entries)) ∙ ap (value_at stem) spare ∙ aside;
          stores = subst (λ (f : File). In some f (file_at stem after) was.slot is.slot) (sym before_is) (subst (λ (f : File). In some was.file f was.slot is.slot) (sym after_is) stores);
          others = λ other off.
              let apart : value_at other new.slots ≡ value_at other old.slots =
              ap (value_at other) left ∙ without-apart stem other (slots_of entries) off ∙ ap (value_at other) (sym slots) in
              let off_too : is_name other stem ≡ false = name-test other stem ∙ off in
              let behind : value_at other ((stem, is.slot) ∷ old.spare) ≡ value_at other old.spare = rw off_too refl in
              (λ i. option_or (apart i) ((ap (value_at other) spare ∙ behind) i));
          all_steady =
              let one : (slots : List (List ℕ × S)) → Bool = list_all (λ (slot : List ℕ × S). is_steady slot.1) in
              (λ i. one (left i) && one (spare i))
              ∙ ap (λ b. one (without stem (slots_of entries)) && (b && one old.spare)) stores.steady.same
              ∙ and-moved (is_steady was.slot) (one (without stem (slots_of entries))) (one old.spare)
              ∙ ap (λ b. b && one old.spare) (all-without stem is_steady was.slot (slots_of entries) ordered found ∙ ap one (sym slots));
          rest = rest;
        }

-- ---- what is needed of the entries

keys-slots : {S : Type 0} (entries : Entries S) → keys_of (slots_of entries) ≡ keys_of entries
keys-slots [] = refl
keys-slots (e ∷ more) = ap (λ t. e.0 ∷ t) (keys-slots more)

pub slots-ordered : {S : Type 0} (entries : Entries S) → IsInOrder entries → IsInOrder (slots_of entries)
slots-ordered entries ordered = subst (λ l. IsStrictlySortedBy (slice_cmp nat_cmp) l) (sym (keys-slots entries)) ordered

-- one that was changed and is taken away leaves the others
pub without-changed : {V : Type 0} (stem : List ℕ) (value : V) (entries : List (List ℕ × V)) → without stem (changed stem (λ _. value) entries) ≡ without stem entries
without-changed stem value [] = refl
without-changed stem value (e ∷ more) =
    let pass : (b : Bool) → is_name stem e.0 ≡ b → without stem (changed stem (λ _. value) (e ∷ more)) ≡ without stem (e ∷ more) =
    elim [ true ↦ λ is. rw is (rw is (without-changed stem value more)) | false ↦ λ off. rw off (rw off (ap (λ t. e ∷ t) (without-changed stem value more))) ] in
    pass (is_name stem e.0) refl

-- the rows of entries of which one was changed, by what became of its row
pub rows-become : {S : Type 0} (stem : List ℕ) (f : CollectionRow → CollectionRow) (entries : Entries S) (was is : CollectionState S) → IsInOrder entries → value_at stem entries ≡ Some was
    → row_of is ≡ f (row_of was) → rows_of (changed stem (λ _. is) entries) ≡ changed stem f (rows_of entries)
rows-become stem f entries was is ordered there row =
    let rows_ordered : IsInOrder (rows_of entries) = subst (λ l. IsStrictlySortedBy (slice_cmp nat_cmp) l) (keys-rows entries) ordered in
    rows-changed stem (λ _. is) (λ _. row_of is) (λ c. refl) entries
    ∙ ap (λ (r : CollectionRow). changed stem (λ _. r) (rows_of entries)) row
    ∙ changed-as stem f (row_of was) (rows_of entries) rows_ordered (value-rows stem entries ∙ ap (option_map row_of) there)

-- the rows without one that was changed
pub rows-left : {S : Type 0} (stem : List ℕ) (entries : Entries S) (is : CollectionState S) → without stem (rows_of (changed stem (λ _. is) entries)) ≡ without stem (rows_of entries)
rows-left stem entries is = ap (without stem) (rows-changed stem (λ _. is) (λ _. row_of is) (λ c. refl) entries) ∙ without-changed stem (row_of is) (rows_of entries)

pub slots-left : {S : Type 0} (stem : List ℕ) (entries : Entries S) (is : CollectionState S) → without stem (slots_of (changed stem (λ _. is) entries)) ≡ without stem (slots_of entries)
slots-left stem entries is = ap (without stem) (slots-changed stem is entries) ∙ without-changed stem is.slot (slots_of entries)
