-- The collections by rising stems: the place of a stem, and a change of what is there.
use Rattle.std.proofs.Common.{◌≡◌, ◌≤◌, ℕ, zero, suc, ◌<◌, ⊎_elim, inl, inr, Bool, true, false, cond, List, [], ◌∷◌, ◌++◌, filter, length, get_or, None, Some, Result, Ok, Err, IsOk, refl, sym, ◌∙◌, ap, subst, arith}
use Rattle.std.specs.declared.cmp.Ordering.{Ordering}
use Rattle.std.specs.declared.cmp.Ordering.TheVariants.{Less, Equal, Greater}
use Rattle.std.specs.Cmp.Lexicographic.{slice_cmp, nat_list_cmp_total}
use Rattle.std.specs.List.{AllByRecursion, insert, remove, slice_get, slice_set}
use Rattle.std.specs.List.Sorted.{IsStrictlySortedBy, IsNonDecreasingBy, IsPartitionPoint}
use Rattle.std.specs.Map.{keys_of, values_of}
use Rattle.std.specs.Option.{option_map}
use Rattle.std.specs.Result.{is_ok}
use Rattle.std.specs.Ordering.{nat_cmp, is_eq, is_lt, ordering_index, ordering_reverse}
use Rattle.std.proofs.Math.ListN.{get_or-map}
use Rattle.std.proofs.lemmas.Bool.{cases_Bool, cases_lt}
use Rattle.std.proofs.lemmas.Cmp.{alike_right, eq_by_cmp_equiv, tied_itself}
use Rattle.std.proofs.lemmas.Map.Entries.{length-keys_of, lookup_from_place}
use Rattle.std.proofs.lemmas.Map.Keys.{IsDistinct-from_sorted, Less-from_sorted}
use Rattle.std.proofs.lemmas.Map.Lookups.{exact_bytes}
use Rattle.std.proofs.lemmas.Option.{slice_get-get_or, slice_get-map, slice_get_within, get_or_from_slice_get}
use Rattle.kr_base.specs.Attributes.{is_name, IsInOrder, value_at}
use Rattle.kr_base.proofs.OrderedLemmas.{is_equal, is_less, name-test}
use Rattle.collection_table.specs.Entries.{IsPlaceOf, changed, inserted, set_place, without}

-- the order of stems
abbrev by_bytes : List ℕ → List ℕ → Ordering
by_bytes = slice_cmp nat_cmp

-- along names in order the comparison with a name rises
rises : (x y q : List ℕ) → by_bytes x y ≡ Less → (a b : Ordering) → by_bytes x q ≡ a → by_bytes y q ≡ b → ordering_index a ≤ ordering_index b
rises x y q less Less b p s = omega arith
rises x y q less Equal Less p s = let k = nat_list_cmp_total.trans x y q less s in absurd cc
rises x y q less Equal Equal p s = omega arith
rises x y q less Equal Greater p s = omega arith
rises x y q less Greater Less p s = let k = nat_list_cmp_total.trans x y q less s in absurd cc
rises x y q less Greater Equal p s = let k = alike_right nat_list_cmp_total y q x s in absurd cc
rises x y q less Greater Greater p s = omega arith

is_itself : (stem : List ℕ) → is_name stem stem ≡ true
is_itself stem = ap is_eq (tied_itself nat_list_cmp_total stem)

module _ {V : Type 0} where
  -- a search that hits is at the place
  pub placed : (entries : List (List ℕ × V)) (stem : List ℕ) (place : ℕ) → place < length entries → ((d : List ℕ × V) → by_bytes (get_or entries place d).0 stem ≡ Equal) → IsPlaceOf stem entries place
  placed [] stem place bound equal = absurd (omega (arith, bound))
  placed (e ∷ more) stem place bound equal =
      let same : (get_or (e ∷ more) place e).0 ≡ stem = exact_bytes _ _ (equal e) in
      record {
        value = (get_or (e ∷ more) place e).1;
        at = slice_get-get_or (e ∷ more) place e bound ∙ (λ i. Some (same i, (get_or (e ∷ more) place e).1));
      }

  -- what is at the place of a stem is what the stem finds
  pub found_there : (entries : List (List ℕ × V)) (stem : List ℕ) (place : ℕ) (value : V) → IsInOrder entries → slice_get entries place ≡ Some (stem, value) → value_at stem entries ≡ Some value
  found_there entries stem place value ordered at =
      lookup_from_place (eq_by_cmp_equiv nat_list_cmp_total) entries place stem value (IsDistinct-from_sorted by_bytes (keys_of entries) ordered) at

  pub found_read : (entries : List (List ℕ × V)) (stem : List ℕ) (place : ℕ) (d : List ℕ × V) → IsInOrder entries → IsPlaceOf stem entries place → Some (get_or entries place d).1 ≡ value_at stem entries
  found_read entries stem place d ordered is =
      ap (λ (e : List ℕ × V). Some e.1) (get_or_from_slice_get entries place (stem, is.value) d is.at) ∙ sym (found_there entries stem place is.value ordered is.at)

  -- ---- a change of what is at a stem

  module _ (stem : List ℕ) (f : V → V) where
    -- of no collection that comes after it
    unchanged_above : (entries : List (List ℕ × V)) → AllByRecursion (λ y. by_bytes stem y ≡ Less) (keys_of entries) → changed stem f entries ≡ entries
    unchanged_above [] above = refl
    unchanged_above (e ∷ more) above =
        let off : is_name stem e.0 ≡ false = ap is_eq above.0 in
        rw off (ap (λ t. e ∷ t) (unchanged_above more above.1))

    at_place : (P : List ℕ → Type 0) (entries : List (List ℕ × V)) (place : ℕ) (value : V) → AllByRecursion P (keys_of entries) → slice_get entries place ≡ Some (stem, value) → P stem
    at_place P [] place value all at = let no : None ≡ Some (stem, value) = at in absurd cc
    at_place P (e ∷ more) zero value all at = let same : Some e ≡ Some (stem, value) = at in let is : e ≡ (stem, value) = cc in subst (λ (x : List ℕ × V). P x.0) is all.0
    at_place P (e ∷ more) (suc place) value all at = at_place P more place value all.1 at

    -- the value at its place alone is another one
    pub set_at : (entries : List (List ℕ × V)) (place : ℕ) (value new : V) → IsInOrder entries → slice_get entries place ≡ Some (stem, value) → new ≡ f value
        → slice_set entries place (stem, new) ≡ changed stem f entries
    unfolding IsStrictlySortedBy
    set_at [] place value new ordered at is = let no : None ≡ Some (stem, value) = at in absurd cc
    set_at (e ∷ more) zero value new (below, rest) at is =
        let there : Some e ≡ Some (stem, value) = at in
        let same : e ≡ (stem, value) = cc in
        let test : is_name stem e.0 ≡ true = subst (λ (x : List ℕ × V). is_name stem x.0 ≡ true) (sym same) (is_itself stem) in
        let above : AllByRecursion (λ y. by_bytes stem y ≡ Less) (keys_of more) = subst (λ (x : List ℕ × V). AllByRecursion (λ y. by_bytes x.0 y ≡ Less) (keys_of more)) same below in
        let head : (stem, new) ≡ (e.0, f e.1) = (λ i. (stem, is i)) ∙ sym (ap (λ (x : List ℕ × V). (x.0, f x.1)) same) in
        rw test (λ i. head i ∷ sym (unchanged_above more above) i)
    set_at (e ∷ more) (suc place) value new (below, rest) at is =
        let less : by_bytes e.0 stem ≡ Less = at_place (λ y. by_bytes e.0 y ≡ Less) more place value below at in
        let off : is_name stem e.0 ≡ false = name-test stem e.0 ∙ ap is_eq less in
        rw off (ap (λ t. e ∷ t) (set_at more place value new rest at is))

    pub set_read : (entries : List (List ℕ × V)) (place : ℕ) (x : List ℕ × V) (new : V) → IsInOrder entries → IsPlaceOf stem entries place → x ≡ get_or entries place x → new ≡ f x.1
        → slice_set entries place (x.0, new) ≡ changed stem f entries
    set_read entries place x new ordered is read made =
        let same : x ≡ (stem, is.value) = read ∙ get_or_from_slice_get entries place (stem, is.value) x is.at in
        (λ i. slice_set entries place ((same i).0, new)) ∙ set_at entries place is.value new ordered is.at (made ∙ ap (λ (y : List ℕ × V). f y.1) same)

    -- nothing changes if the stem isn't there
    pub unchanged_none : (entries : List (List ℕ × V)) → value_at stem entries ≡ None → entries ≡ changed stem f entries
    unchanged_none [] none = refl
    unchanged_none (e ∷ more) none =
        let step : (b : Bool) → is_name stem e.0 ≡ b → e ∷ more ≡ changed stem f (e ∷ more) =
        elim [
          | true ↦ λ is. let found : Some e.1 ≡ None = rw is at none in absurd cc
          | false ↦ λ off.
              let later : value_at stem more ≡ None = rw off at none in
              rw off (ap (λ t. e ∷ t) (unchanged_none more later))
        ] in
        step (is_name stem e.0) refl

  -- what is at another stem stays
  pub others_stay : (stem other : List ℕ) (f : V → V) (entries : List (List ℕ × V)) → (other ≡ stem → ⊥) → value_at other (changed stem f entries) ≡ value_at other entries
  others_stay stem other f [] apart = refl
  others_stay stem other f (e ∷ more) apart =
      let step : (b : Bool) → is_name stem e.0 ≡ b → value_at other (changed stem f (e ∷ more)) ≡ value_at other (e ∷ more) =
      elim [
        | true ↦ λ is.
            let here : stem ≡ e.0 = exact_bytes stem e.0 (is_equal (by_bytes stem e.0) is) in
            let off : is_name other e.0 ≡ false = ⊎_elim (λ at. absurd (apart (exact_bytes other e.0 (is_equal (by_bytes other e.0) at) ∙ sym here))) (λ no. no) (cases_Bool (is_name other e.0)) in
            rw is (rw off (others_stay stem other f more apart))
        | false ↦ λ off. rw off (ap (cond (is_name other e.0) (Some e.1)) (others_stay stem other f more apart))
      ] in
      step (is_name stem e.0) refl

  -- ---- keys and places

  keys_changed : (stem : List ℕ) (f : V → V) (entries : List (List ℕ × V)) → keys_of (changed stem f entries) ≡ keys_of entries
  keys_changed stem f [] = refl
  keys_changed stem f (e ∷ more) =
      let step : (b : Bool) → is_name stem e.0 ≡ b → keys_of (changed stem f (e ∷ more)) ≡ keys_of (e ∷ more) =
      elim [
        | true ↦ λ is. rw is (ap (λ t. e.0 ∷ t) (keys_changed stem f more))
        | false ↦ λ off. rw off (ap (λ t. e.0 ∷ t) (keys_changed stem f more))
      ] in
      step (is_name stem e.0) refl

  -- a change keeps the order
  pub changed_in_order : (stem : List ℕ) (f : V → V) (entries : List (List ℕ × V)) → IsInOrder entries → IsInOrder (changed stem f entries)
  changed_in_order stem f entries ordered = subst (λ l. IsStrictlySortedBy by_bytes l) (sym (keys_changed stem f entries)) ordered

  -- what is at a place is another value, under the same stem
  pub set-place : (entries : List (List ℕ × V)) (place : ℕ) (x : List ℕ × V) (new : V) → x ≡ get_or entries place x → slice_set entries place (x.0, new) ≡ set_place entries place new
  set-place [] place x new read = refl
  set-place (e ∷ more) zero x new read = let same : x ≡ e = read in λ i. ((same i).0, new) ∷ more
  set-place (e ∷ more) (suc place) x new read = ap (λ t. e ∷ t) (set-place more place x new read)

  keys_placed : (entries : List (List ℕ × V)) (place : ℕ) (new : V) → keys_of (set_place entries place new) ≡ keys_of entries
  keys_placed [] place new = refl
  keys_placed (e ∷ more) zero new = refl
  keys_placed (e ∷ more) (suc place) new = ap (λ t. e.0 ∷ t) (keys_placed more place new)

  pub placed_in_order : (entries : List (List ℕ × V)) (place : ℕ) (x : List ℕ × V) (new : V) → x ≡ get_or entries place x → IsInOrder entries → IsInOrder (slice_set entries place (x.0, new))
  placed_in_order entries place x new read ordered =
      subst (λ l. IsStrictlySortedBy by_bytes l) (sym (ap keys_of (set-place entries place x new read) ∙ keys_placed entries place new)) ordered

  -- a place of a stem is its only one
  pub place-changed : (stem : List ℕ) (entries : List (List ℕ × V)) (place : ℕ) (new : V) → IsInOrder entries → IsPlaceOf stem entries place → set_place entries place new ≡ changed stem (λ _. new) entries
  place-changed stem entries place new ordered is =
      let x : List ℕ × V = (stem, is.value) in
      sym (set-place entries place x new (sym (get_or_from_slice_get entries place x x is.at))) ∙ set_at stem (λ _. new) entries place is.value new ordered is.at refl

  pub bound : (stem : List ℕ) (entries : List (List ℕ × V)) (place : ℕ) → IsPlaceOf stem entries place → place < length entries
  bound stem entries place is = slice_get_within entries place (stem, is.value) is.at

  pub value_there : (entries : List (List ℕ × V)) (place : ℕ) (x : List ℕ × V) → place < length entries → x ≡ get_or entries place x → slice_get (values_of entries) place ≡ Some x.1
  value_there entries place x in_range read = slice_get-map (λ (e : List ℕ × V). e.1) entries place ∙ ap (λ o. option_map (λ (e : List ℕ × V). e.1) o) (slice_get-get_or entries place x in_range ∙ ap Some (sym read))

  pub value_found : (stem : List ℕ) (entries : List (List ℕ × V)) (place : ℕ) (value : V) → IsInOrder entries → IsPlaceOf stem entries place → slice_get (values_of entries) place ≡ Some value → Some value ≡ value_at stem entries
  value_found stem entries place value ordered is at =
      let there : slice_get (values_of entries) place ≡ Some is.value = slice_get-map (λ (e : List ℕ × V). e.1) entries place ∙ ap (λ o. option_map (λ (e : List ℕ × V). e.1) o) is.at in
      sym at ∙ there ∙ sym (found_there entries stem place is.value ordered is.at)

  -- ---- a collection that is taken out

  -- what comes after a stem is another one
  others_above : (stem : List ℕ) (entries : List (List ℕ × V)) → AllByRecursion (λ y. by_bytes stem y ≡ Less) (keys_of entries) → without stem entries ≡ entries
  others_above stem [] above = refl
  others_above stem (e ∷ more) above =
      let off : is_name stem e.0 ≡ false = ap is_eq above.0 in
      rw off (ap (λ t. e ∷ t) (others_above stem more above.1))

  pub remove_at : (stem : List ℕ) (entries : List (List ℕ × V)) (place : ℕ) (value : V) → IsInOrder entries → slice_get entries place ≡ Some (stem, value) → remove entries place ≡ without stem entries
  unfolding IsStrictlySortedBy
  remove_at stem [] place value ordered at = let no : None ≡ Some (stem, value) = at in absurd cc
  remove_at stem (e ∷ more) zero value (below, rest) at =
      let there : Some e ≡ Some (stem, value) = at in
      let same : e ≡ (stem, value) = cc in
      let test : is_name stem e.0 ≡ true = subst (λ (x : List ℕ × V). is_name stem x.0 ≡ true) (sym same) (is_itself stem) in
      let above : AllByRecursion (λ y. by_bytes stem y ≡ Less) (keys_of more) = subst (λ (x : List ℕ × V). AllByRecursion (λ y. by_bytes x.0 y ≡ Less) (keys_of more)) same below in
      rw test (sym (others_above stem more above))
  remove_at stem (e ∷ more) (suc place) value (below, rest) at =
      let less : by_bytes e.0 stem ≡ Less = at_place stem (λ v. v) (λ y. by_bytes e.0 y ≡ Less) more place value below at in
      let off : is_name stem e.0 ≡ false = name-test stem e.0 ∙ ap is_eq less in
      rw off (ap (λ t. e ∷ t) (remove_at stem more place value rest at))

  pub others_none : (stem : List ℕ) (entries : List (List ℕ × V)) → value_at stem entries ≡ None → entries ≡ without stem entries
  others_none stem [] none = refl
  others_none stem (e ∷ more) none =
      let step : (b : Bool) → is_name stem e.0 ≡ b → e ∷ more ≡ without stem (e ∷ more) =
      elim [
        | true ↦ λ is. let found : Some e.1 ≡ None = rw is at none in absurd cc
        | false ↦ λ off.
            let later : value_at stem more ≡ None = rw off at none in
            rw off (ap (λ t. e ∷ t) (others_none stem more later))
      ] in
      step (is_name stem e.0) refl

  pub removed_read : (stem : List ℕ) (entries : List (List ℕ × V)) (place : ℕ) (x : List ℕ × V) → IsInOrder entries → IsPlaceOf stem entries place → x ≡ get_or entries place x → Some x.1 ≡ value_at stem entries
  removed_read stem entries place x ordered is read = ap (λ (y : List ℕ × V). Some y.1) read ∙ found_read entries stem place x ordered is

  -- ---- a filter keeps the order

  module _ (p : List ℕ × V → Bool) where
    all_kept : (P : List ℕ → Type 0) (entries : List (List ℕ × V)) → AllByRecursion P (keys_of entries) → AllByRecursion P (keys_of (filter p entries))
    all_kept P [] all = tt
    all_kept P (e ∷ more) (is, all) = ⊎_elim
        (λ passes. rw passes (is, all_kept P more all))
        (λ fails. rw fails (all_kept P more all))
        (cases_Bool (p e))

    pub order_kept : (entries : List (List ℕ × V)) → IsInOrder entries → IsInOrder (filter p entries)
    unfolding IsStrictlySortedBy
    order_kept [] ordered = tt
    order_kept (e ∷ more) (is, ordered) = ⊎_elim
        (λ passes. rw passes (all_kept (λ other. by_bytes e.0 other ≡ Less) more is, order_kept more ordered))
        (λ fails. rw fails (order_kept more ordered))
        (cases_Bool (p e))

  -- ---- a collection that is put in

  abbrev AllAfter : List ℕ → List (List ℕ × V) → Type 0
  AllAfter stem entries = AllByRecursion (λ other. by_bytes stem other ≡ Less) (keys_of entries)

  abbrev AllBefore : List ℕ → List (List ℕ × V) → Type 0
  AllBefore stem entries = AllByRecursion (λ other. by_bytes other stem ≡ Less) (keys_of entries)

  all_before : (stem : List ℕ) (entries : List (List ℕ × V)) → AllBefore stem (filter (λ e. is_lt (by_bytes e.0 stem)) entries)
  all_before stem [] = tt
  all_before stem (e ∷ more) = ⊎_elim
      (λ less. rw less (is_less (by_bytes e.0 stem) less, all_before stem more))
      (λ other. rw other (all_before stem more))
      (cases_Bool (is_lt (by_bytes e.0 stem)))

  all_after : (stem : List ℕ) (entries : List (List ℕ × V)) → AllAfter stem (filter (λ e. is_lt (by_bytes stem e.0)) entries)
  all_after stem [] = tt
  all_after stem (e ∷ more) = ⊎_elim
      (λ less. rw less (is_less (by_bytes stem e.0) less, all_after stem more))
      (λ other. rw other (all_after stem more))
      (cases_Bool (is_lt (by_bytes stem e.0)))

  further : (first stem : List ℕ) (entries : List (List ℕ × V)) → by_bytes first stem ≡ Less → AllAfter stem entries → AllAfter first entries
  further first stem [] less all = tt
  further first stem (e ∷ more) less (is, all) = (nat_list_cmp_total.trans first stem e.0 less is, further first stem more less all)

  joined : (P : List ℕ → Type 0) (entries more : List (List ℕ × V)) → AllByRecursion P (keys_of entries) → AllByRecursion P (keys_of more) → AllByRecursion P (keys_of (entries ++ more))
  joined P [] more all also = also
  joined P (e ∷ entries) more (is, all) also = (is, joined P entries more all also)

  in_order_at : (stem : List ℕ) (value : V) (entries more : List (List ℕ × V)) → IsInOrder entries → AllBefore stem entries → IsInOrder more → AllAfter stem more → IsInOrder (entries ++ (stem, value) ∷ more)
  unfolding IsStrictlySortedBy
  in_order_at stem value [] more ordered before ordered_more after = (after, ordered_more)
  in_order_at stem value (e ∷ entries) more (is, ordered) (less, before) ordered_more after =
      (joined (λ other. by_bytes e.0 other ≡ Less) entries ((stem, value) ∷ more) is (less, further e.0 stem more less after), in_order_at stem value entries more ordered before ordered_more after)

  pub inserted_in_order : (stem : List ℕ) (value : V) (entries : List (List ℕ × V)) → IsInOrder entries → IsInOrder (inserted stem value entries)
  inserted_in_order stem value entries ordered =
      in_order_at stem value (filter (λ e. is_lt (by_bytes e.0 stem)) entries) (filter (λ e. is_lt (by_bytes stem e.0)) entries)
      (order_kept (λ e. is_lt (by_bytes e.0 stem)) entries ordered) (all_before stem entries)
      (order_kept (λ e. is_lt (by_bytes stem e.0)) entries ordered) (all_after stem entries)

  module _ (entries : List (List ℕ × V)) (ordered : IsInOrder entries) (stem : List ℕ) where
    stems_rise : (i j : ℕ) (d : List ℕ × V) → i < j → j < length entries → by_bytes (get_or entries i d).0 (get_or entries j d).0 ≡ Less
    stems_rise i j d lt in_range =
        let rising = Less-from_sorted by_bytes (keys_of entries) i j d.0 ordered lt (omega (arith, length-keys_of entries)) in
        let one : get_or (keys_of entries) i d.0 ≡ (get_or entries i d).0 = get_or-map (λ (p : List ℕ × V). p.0) entries i d in
        let other : get_or (keys_of entries) j d.0 ≡ (get_or entries j d).0 = get_or-map (λ (p : List ℕ × V). p.0) entries j d in
        rw (one, other) at rising

    comparisons_rise : IsNonDecreasingBy (λ p. ordering_index (by_bytes p.0 stem)) entries
    comparisons_rise i j d le in_range =
        elim (cases_lt i j) [
          | inl lt ↦ rises _ _ stem (stems_rise i j d lt in_range) _ _ refl refl
          | inr least ↦
              let same : i ≡ j = omega arith in
              omega (arith, ap (λ k. ordering_index (by_bytes (get_or entries k d).0 stem)) same)
        ]

  -- where all are greater
  module _ (stem : List ℕ) (value : V) where
    none_before : (entries : List (List ℕ × V)) → ((k : ℕ) (d : List ℕ × V) → k < length entries → by_bytes (get_or entries k d).0 stem ≡ Greater) → filter (λ e. is_lt (by_bytes e.0 stem)) entries ≡ []
    none_before [] all = refl
    none_before (e ∷ more) all =
        let here : by_bytes e.0 stem ≡ Greater = all zero e (omega arith) in
        let off : is_lt (by_bytes e.0 stem) ≡ false = ap is_lt here in
        rw off (none_before more (λ k d lt. all (suc k) d (omega (arith, lt))))

    whole_after : (entries : List (List ℕ × V)) → ((k : ℕ) (d : List ℕ × V) → k < length entries → by_bytes (get_or entries k d).0 stem ≡ Greater) → filter (λ e. is_lt (by_bytes stem e.0)) entries ≡ entries
    whole_after [] all = refl
    whole_after (e ∷ more) all =
        let here : by_bytes e.0 stem ≡ Greater = all zero e (omega arith) in
        let on : is_lt (by_bytes stem e.0) ≡ true = ap is_lt (nat_list_cmp_total.antisymm stem e.0 ∙ ap ordering_reverse here) in
        rw on (ap (λ t. e ∷ t) (whole_after more (λ k d lt. all (suc k) d (omega (arith, lt)))))

    insert_at : (entries : List (List ℕ × V)) (place : ℕ) → ((k : ℕ) (d : List ℕ × V) → k < place → by_bytes (get_or entries k d).0 stem ≡ Less)
        → ((k : ℕ) (d : List ℕ × V) → place ≤ k → k < length entries → by_bytes (get_or entries k d).0 stem ≡ Greater) → place ≤ length entries
        → insert entries place (stem, value) ≡ inserted stem value entries
    insert_at [] zero less greater within = refl
    insert_at [] (suc place) less greater within = absurd (omega (arith, within))
    insert_at (e ∷ more) zero less greater within =
        let all : (k : ℕ) (d : List ℕ × V) → k < length (e ∷ more) → by_bytes (get_or (e ∷ more) k d).0 stem ≡ Greater = λ k d lt. greater k d (omega arith) lt in
        λ i. sym (none_before (e ∷ more) all) i ++ (stem, value) ∷ sym (whole_after (e ∷ more) all) i
    insert_at (e ∷ more) (suc place) less greater within =
        let here : by_bytes e.0 stem ≡ Less = less zero e (omega arith) in
        let on : is_lt (by_bytes e.0 stem) ≡ true = ap is_lt here in
        let off : is_lt (by_bytes stem e.0) ≡ false = ap is_lt (nat_list_cmp_total.antisymm stem e.0 ∙ ap ordering_reverse here) in
        rw (on, off) (ap (λ t. e ∷ t) (insert_at more place (λ k d lt. less (suc k) d (omega (arith, lt))) (λ k d le lt. greater (suc k) d (omega (arith, le)) (omega (arith, lt))) (omega (arith, within))))

    pub insert_parted : (entries : List (List ℕ × V)) (place : ℕ) → IsInOrder entries → place ≤ length entries
        → (IsNonDecreasingBy (λ p. ordering_index (by_bytes p.0 stem)) entries → IsPartitionPoint (λ p. by_bytes p.0 stem ≡ Less) (λ p. by_bytes p.0 stem ≡ Greater) entries place)
        → insert entries place (stem, value) ≡ inserted stem value entries
    insert_parted entries place ordered within parted =
        let parts = parted (comparisons_rise entries ordered stem) in
        insert_at entries place (λ k d lt. parts.0 k d (omega arith) lt) (λ k d le lt. parts.1 k d le lt) within

  -- a call that can't fail
  pub with_room : {A E : Type 0} (r : Result A E) (made before after : List (List ℕ × V)) → IsOk r → after ≡ cond (is_ok r) made before → after ≡ made
  with_room (Ok answer) made before after ok is = is
  with_room (Err fault) made before after ok is = absurd (let no : false ≡ true = ok in cc)

  -- a search doesn't hit if the stem isn't there
  pub missed : (stem : List ℕ) (entries : List (List ℕ × V)) (place : ℕ) → IsInOrder entries → value_at stem entries ≡ None → IsPlaceOf stem entries place → ⊥
  missed stem entries place ordered none is = let found : Some is.value ≡ None = sym (found_there entries stem place is.value ordered is.at) ∙ none in absurd cc
