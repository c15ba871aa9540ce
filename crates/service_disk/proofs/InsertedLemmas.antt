-- A list by rising stems into which a value was put: what is at each stem then, and what is true of all values.
use Rattle.std.proofs.Common.{◌≡◌, ℕ, Bool, true, false, ◌&&◌, cond, List, [], ◌∷◌, ◌++◌, filter, map, Option, Some, None, refl, sym, ap, ◌∙◌}
use Rattle.std.specs.declared.cmp.Ordering.{Ordering}
use Rattle.std.specs.declared.cmp.Ordering.TheVariants.{Less, Equal, Greater}
use Rattle.std.specs.Cmp.Lexicographic.{nat_list_cmp_total, slice_cmp}
use Rattle.std.specs.List.{list_all}
use Rattle.std.specs.Option.{option_or}
use Rattle.std.specs.Ordering.{is_eq, is_lt, nat_cmp, ordering_reverse}
use Rattle.std.proofs.lemmas.List.Folds.{list_all-append}
use Rattle.std.proofs.lemmas.Option.{none-some}
use Rattle.kr_base.specs.Attributes.{is_name, value_at}
use Rattle.service_tables.specs.collection_table.specs.Entries.{inserted}
use Rattle.service_disk.proofs.TakingLemmas.{itself, names-one}

abbrev by_bytes : List ℕ → List ℕ → Ordering
by_bytes = slice_cmp nat_cmp

turned : (a b : List ℕ) (o : Ordering) → by_bytes a b ≡ o → by_bytes b a ≡ ordering_reverse o
turned a b o is = nat_list_cmp_total.antisymm b a ∙ ap ordering_reverse is

abbrev is_below : List ℕ → List ℕ → Bool
is_below stem other = is_lt (by_bytes other stem)

abbrev is_above : List ℕ → List ℕ → Bool
is_above stem other = is_lt (by_bytes stem other)

-- ---- the values by a function of them

module _ {V W : Type 0} (f : V → W) where
  abbrev values : List (List ℕ × V) → List (List ℕ × W)
  values entries = map (λ (e : List ℕ × V). (e.0, f e.1)) entries

  values-filtered : (p : List ℕ → Bool) (entries : List (List ℕ × V)) → values (filter (λ (e : List ℕ × V). p e.0) entries) ≡ filter (λ (e : List ℕ × W). p e.0) (values entries)
  values-filtered p [] = refl
  values-filtered p (e ∷ more) =
      let step : (b : Bool) → p e.0 ≡ b → values (filter (λ (x : List ℕ × V). p x.0) (e ∷ more)) ≡ filter (λ (x : List ℕ × W). p x.0) (values (e ∷ more)) =
      elim [
        | true ↦ λ is. rw is (ap (λ t. (e.0, f e.1) ∷ t) (values-filtered p more))
        | false ↦ λ off. rw off (values-filtered p more)
      ] in
      step (p e.0) refl

  values-joined : (entries more : List (List ℕ × V)) → values (entries ++ more) ≡ values entries ++ values more
  values-joined [] more = refl
  values-joined (e ∷ entries) more = ap (λ l. (e.0, f e.1) ∷ l) (values-joined entries more)

  pub values-inserted : (stem : List ℕ) (value : V) (entries : List (List ℕ × V)) → values (inserted stem value entries) ≡ inserted stem (f value) (values entries)
  values-inserted stem value entries =
      let front = values-filtered (is_below stem) entries in
      let back = values-filtered (is_above stem) entries in
      values-joined (filter (λ (e : List ℕ × V). is_below stem e.0) entries) ((stem, value) ∷ filter (λ (e : List ℕ × V). is_above stem e.0) entries)
      ∙ (λ i. front i ++ (stem, f value) ∷ back i)

-- ---- what is at a stem

below-itself : (stem : List ℕ) → is_below stem stem ≡ false
below-itself stem =
    let step : (o : Ordering) → by_bytes stem stem ≡ o → is_lt (by_bytes stem stem) ≡ false =
    elim [
      | Less ↦ λ is. absurd (let no : false ≡ true = sym (ap is_eq is) ∙ itself stem in cc)
      | Equal ↦ λ is. ap is_lt is
      | Greater ↦ λ is. ap is_lt is
    ] in
    step (by_bytes stem stem) refl

either-way : {X : Type 0} (x : X) (b : Bool) → x ≡ cond b x x
either-way x true = refl
either-way x false = refl

or-none : {V : Type 0} (o : Option V) → option_or o None ≡ o
or-none None = refl
or-none (Some x) = refl

module _ {V : Type 0} where
  value-joined : (other : List ℕ) (entries more : List (List ℕ × V)) → value_at other (entries ++ more) ≡ option_or (value_at other entries) (value_at other more)
  value-joined other [] more = refl
  value-joined other (e ∷ entries) more =
      let step : (b : Bool) → is_name other e.0 ≡ b → value_at other ((e ∷ entries) ++ more) ≡ option_or (value_at other (e ∷ entries)) (value_at other more) =
      elim [ true ↦ λ is. rw is refl | false ↦ λ off. rw off (value-joined other entries more) ] in
      step (is_name other e.0) refl

  value-filtered : (p : List ℕ → Bool) (other : List ℕ) (entries : List (List ℕ × V)) → value_at other (filter (λ (e : List ℕ × V). p e.0) entries) ≡ cond (p other) (value_at other entries) None
  value-filtered p other [] = either-way None (p other)
  value-filtered p other (e ∷ more) =
      let step : (c : Bool) → p e.0 ≡ c → value_at other (filter (λ (x : List ℕ × V). p x.0) (e ∷ more)) ≡ cond (p other) (value_at other (e ∷ more)) None =
      elim [
        | true ↦ λ passes. (
            let named : (b : Bool) → is_name other e.0 ≡ b → value_at other (e ∷ filter (λ (x : List ℕ × V). p x.0) more) ≡ cond (p other) (value_at other (e ∷ more)) None =
            elim [
              | true ↦ λ is. (let here : p other ≡ true = ap p (names-one other e.0 is) ∙ passes in rw is (rw here refl))
              | false ↦ λ off. rw off (value-filtered p other more)
            ] in
            rw passes (named (is_name other e.0) refl))
        | false ↦ λ fails. (
            let named : (b : Bool) → is_name other e.0 ≡ b → value_at other (filter (λ (x : List ℕ × V). p x.0) more) ≡ cond (p other) (value_at other (e ∷ more)) None =
            elim [
              | true ↦ λ is. (let here : p other ≡ false = ap p (names-one other e.0 is) ∙ fails in value-filtered p other more ∙ rw here refl)
              | false ↦ λ off. rw off (value-filtered p other more)
            ] in
            rw fails (named (is_name other e.0) refl))
      ] in
      step (p e.0) refl

  pub value-inserted : (stem : List ℕ) (value : V) (entries : List (List ℕ × V)) → value_at stem (inserted stem value entries) ≡ Some value
  value-inserted stem value entries =
      let front : value_at stem (filter (λ (e : List ℕ × V). is_below stem e.0) entries) ≡ None =
      value-filtered (is_below stem) stem entries ∙ ap (λ b. cond b (value_at stem entries) None) (below-itself stem) in
      let here : value_at stem ((stem, value) ∷ filter (λ (e : List ℕ × V). is_above stem e.0) entries) ≡ Some value = rw (itself stem) refl in
      value-joined stem (filter (λ (e : List ℕ × V). is_below stem e.0) entries) ((stem, value) ∷ filter (λ (e : List ℕ × V). is_above stem e.0) entries)
      ∙ (λ i. option_or (front i) (here i))

  pub value-beside : (stem other : List ℕ) (value : V) (entries : List (List ℕ × V)) → is_name stem other ≡ false → value_at other (inserted stem value entries) ≡ value_at other entries
  value-beside stem other value entries off =
      let front = value-filtered (is_below stem) other entries in
      let back = value-filtered (is_above stem) other entries in
      let step : (o : Ordering) → by_bytes stem other ≡ o → value_at other (inserted stem value entries) ≡ value_at other entries =
      elim [
        | Less ↦ λ is.
            let apart : is_name other stem ≡ false = ap is_eq (turned stem other Less is) in
            let below : is_below stem other ≡ false = ap is_lt (turned stem other Less is) in
            let above : is_above stem other ≡ true = ap is_lt is in
            let none : value_at other (filter (λ (e : List ℕ × V). is_below stem e.0) entries) ≡ None = front ∙ ap (λ b. cond b (value_at other entries) None) below in
            let rest : value_at other ((stem, value) ∷ filter (λ (e : List ℕ × V). is_above stem e.0) entries) ≡ value_at other entries =
            rw apart (back ∙ ap (λ b. cond b (value_at other entries) None) above) in
            value-joined other (filter (λ (e : List ℕ × V). is_below stem e.0) entries) ((stem, value) ∷ filter (λ (e : List ℕ × V). is_above stem e.0) entries)
            ∙ (λ i. option_or (none i) (rest i))
        | Equal ↦ λ is. absurd (let no : true ≡ false = sym (ap is_eq is) ∙ off in cc)
        | Greater ↦ λ is.
            let apart : is_name other stem ≡ false = ap is_eq (turned stem other Greater is) in
            let below : is_below stem other ≡ true = ap is_lt (turned stem other Greater is) in
            let above : is_above stem other ≡ false = ap is_lt is in
            let some : value_at other (filter (λ (e : List ℕ × V). is_below stem e.0) entries) ≡ value_at other entries = front ∙ ap (λ b. cond b (value_at other entries) None) below in
            let rest : value_at other ((stem, value) ∷ filter (λ (e : List ℕ × V). is_above stem e.0) entries) ≡ None =
            rw apart (back ∙ ap (λ b. cond b (value_at other entries) None) above) in
            value-joined other (filter (λ (e : List ℕ × V). is_below stem e.0) entries) ((stem, value) ∷ filter (λ (e : List ℕ × V). is_above stem e.0) entries)
            ∙ (λ i. option_or (some i) (rest i)) ∙ or-none (value_at other entries)
      ] in
      step (by_bytes stem other) refl

-- ---- what is true of each value

before : (a f t b m : Bool) → (f && (t && b)) ≡ (t && m) → ((a && f) && (t && b)) ≡ (t && (a && m))
before true f t b m is = is
before false f true b m is = refl
before false f false b m is = refl

after : (a f t b m : Bool) → (f && (t && b)) ≡ (t && m) → (f && (t && (a && b))) ≡ (t && (a && m))
after true f t b m is = is
after false true true b m is = refl
after false true false b m is = refl
after false false true b m is = refl
after false false false b m is = refl

module _ {V : Type 0} (stem : List ℕ) (test : V → Bool) where
  abbrev all : List (List ℕ × V) → Bool
  all entries = list_all (λ (e : List ℕ × V). test e.1) entries

  in-parts : (value : V) (entries : List (List ℕ × V)) → value_at stem entries ≡ None
      → (all (filter (λ (e : List ℕ × V). is_below stem e.0) entries) && (test value && all (filter (λ (e : List ℕ × V). is_above stem e.0) entries))) ≡ (test value && all entries)
  in-parts value [] none = refl
  in-parts value (e ∷ more) none =
      let fronts = all (filter (λ (x : List ℕ × V). is_below stem x.0) more) in
      let backs = all (filter (λ (x : List ℕ × V). is_above stem x.0) more) in
      let step : (o : Ordering) → by_bytes stem e.0 ≡ o
      → (all (filter (λ (x : List ℕ × V). is_below stem x.0) (e ∷ more)) && (test value && all (filter (λ (x : List ℕ × V). is_above stem x.0) (e ∷ more)))) ≡ (test value && all (e ∷ more)) =
      elim [
        | Less ↦ λ is.
            let apart : is_name stem e.0 ≡ false = ap is_eq is in
            let below : is_below stem e.0 ≡ false = ap is_lt (turned stem e.0 Less is) in
            let above : is_above stem e.0 ≡ true = ap is_lt is in
            rw (below, above) (after (test e.1) fronts (test value) backs (all more) (in-parts value more (rw apart at none)))
        | Equal ↦ λ is. absurd (let here : is_name stem e.0 ≡ true = ap is_eq is in let some : Some e.1 ≡ None = rw here at none in none-some e.1 (sym some))
        | Greater ↦ λ is.
            let apart : is_name stem e.0 ≡ false = ap is_eq is in
            let below : is_below stem e.0 ≡ true = ap is_lt (turned stem e.0 Greater is) in
            let above : is_above stem e.0 ≡ false = ap is_lt is in
            rw (below, above) (before (test e.1) fronts (test value) backs (all more) (in-parts value more (rw apart at none)))
      ] in
      step (by_bytes stem e.0) refl

  pub all-inserted : (value : V) (entries : List (List ℕ × V)) → value_at stem entries ≡ None → all (inserted stem value entries) ≡ (test value && all entries)
  all-inserted value entries none =
      list_all-append (λ (e : List ℕ × V). test e.1) (filter (λ (e : List ℕ × V). is_below stem e.0) entries) ((stem, value) ∷ filter (λ (e : List ℕ × V). is_above stem e.0) entries) ∙ in-parts value entries none
