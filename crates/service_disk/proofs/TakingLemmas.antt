-- The slot that is kept for a stem: the first one of it, and what is left without it.
use Rattle.std.proofs.Common.{◌≡◌, bytes_eq, ℕ, suc, ◌+◌, ◌<◌, ◌≤◌, Bool, true, false, ◌&&◌, cond, List, [], ◌∷◌, ◌++◌, length, get_or, take, drop, Some, None, refl, sym, ap, subst, ◌∙◌, append_assoc, arith}
use Rattle.std.specs.Cmp.Lexicographic.{nat_list_cmp_total, slice_cmp}
use Rattle.std.specs.List.{list_all}
use Rattle.std.specs.Ordering.{is_eq, nat_cmp}
use Rattle.std.proofs.lemmas.Cmp.{tied_itself}
use Rattle.std.proofs.lemmas.List.{drop_all}
use Rattle.std.proofs.lemmas.Map.Lookups.{exact_bytes}
use Rattle.std.proofs.lemmas.Option.{none-some, slice_get-get_or}
use Rattle.std.proofs.lemmas.Slice.Eq.{bytes_eq-Decides}
use Rattle.std.proofs.Math.Seq.{drop-cons, take-suc}
use Rattle.kr_base.specs.Attributes.{is_name, value_at}
use Rattle.kr_base.proofs.OrderedLemmas.{is_equal, name-test}
use Rattle.service_disk.specs.Taking.{IsFirstOf, without_first}

-- no entry before this place has the stem
pub record IsPast {V : Type 0} (stem : List ℕ) (entries : List (List ℕ × V)) (place : ℕ) : Type 0 where
  pub found : value_at stem entries ≡ value_at stem (drop place entries)
  pub rest : without_first stem entries ≡ take place entries ++ without_first stem (drop place entries)

pub itself : (stem : List ℕ) → is_name stem stem ≡ true
itself stem = ap is_eq (tied_itself nat_list_cmp_total stem)

pub names-one : (stem other : List ℕ) → is_name stem other ≡ true → stem ≡ other
names-one stem other is = exact_bytes stem other (is_equal (slice_cmp nat_cmp stem other) is)

pub names-apart : (stem other : List ℕ) → (other ≡ stem → ⊥) → is_name stem other ≡ false
names-apart stem other differ =
    let pass : (b : Bool) → is_name stem other ≡ b → is_name stem other ≡ false = elim [ true ↦ λ is. absurd (differ (sym (names-one stem other is))) | false ↦ λ off. off ] in
    pass (is_name stem other) refl

-- a test of the bytes
pub tested-off : (a b : List ℕ) (r : Bool) → r ≡ bytes_eq a b → r ≡ false → a ≡ b → ⊥
tested-off a b r is off same = let no : false ≡ true = sym off ∙ is ∙ (bytes_eq-Decides a b).1 same in cc

pub tested-on : (a b : List ℕ) (r : Bool) → r ≡ bytes_eq a b → r ≡ true → a ≡ b
tested-on a b r is on = (bytes_eq-Decides a b).0 (sym is ∙ on)

swapped : (a b c : Bool) → (a && (b && c)) ≡ (b && (a && c))
swapped true true c = refl
swapped true false c = refl
swapped false true c = refl
swapped false false c = refl

module _ {V : Type 0} (stem : List ℕ) where
  -- ---- the search for it

  pub past-none : (entries : List (List ℕ × V)) → IsPast stem entries 0
  past-none entries = record { found = refl; rest = refl }

  split : (entries : List (List ℕ × V)) (place : ℕ) (entry : List ℕ × V) → place < length entries → entry ≡ get_or entries place entry → drop place entries ≡ entry ∷ drop (suc place) entries
  split entries place entry within is = drop-cons entries place entry within ∙ ap (λ e. e ∷ drop (suc place) entries) (sym is)

  pub past-more : (entries : List (List ℕ × V)) (place : ℕ) (entry : List ℕ × V) → place < length entries → entry ≡ get_or entries place entry → (entry.0 ≡ stem → ⊥) → IsPast stem entries place
      → IsPast stem entries (place + 1)
  past-more entries place entry within is differ past =
      let off : is_name stem entry.0 ≡ false = names-apart stem entry.0 differ in
      let rest = drop (suc place) entries in
      let found : value_at stem (entry ∷ rest) ≡ value_at stem rest = rw off refl in
      let kept : without_first stem (entry ∷ rest) ≡ entry ∷ without_first stem rest = rw off refl in
      let longer : take (suc place) entries ≡ take place entries ++ entry ∷ [] = take-suc entries place entry within ∙ ap (λ e. take place entries ++ e ∷ []) (sym is) in
      let one : suc place ≡ place + 1 = omega arith in
      subst (λ n. IsPast stem entries n) one (record {
        found = past.found ∙ ap (value_at stem) (split entries place entry within is) ∙ found;
        rest = past.rest ∙ ap (λ l. take place entries ++ without_first stem l) (split entries place entry within is)
            ∙ ap (λ l. take place entries ++ l) kept
            ∙ sym (append_assoc (take place entries) (entry ∷ []) (without_first stem rest))
            ∙ ap (λ l. l ++ without_first stem rest) (sym longer);
      })

  pub past-found : (entries : List (List ℕ × V)) (place : ℕ) (entry : List ℕ × V) → place < length entries → entry ≡ get_or entries place entry → entry.0 ≡ stem → IsPast stem entries place
      → IsFirstOf stem entries place
  past-found entries place entry within is same past =
      let on : is_name stem entry.0 ≡ true = ap (is_name stem) same ∙ itself stem in
      let rest = drop (suc place) entries in
      let found : value_at stem (entry ∷ rest) ≡ Some entry.1 = rw on refl in
      let gone : without_first stem (entry ∷ rest) ≡ rest = rw on refl in
      record {
        within = within;
        value = entry.1;
        at = slice_get-get_or entries place entry within ∙ ap (λ e. Some e) (sym is) ∙ ap (λ s. Some (s, entry.1)) same;
        first = past.found ∙ ap (value_at stem) (split entries place entry within is) ∙ found;
        rest = sym (past.rest ∙ ap (λ l. take place entries ++ without_first stem l) (split entries place entry within is) ∙ ap (λ l. take place entries ++ l) gone);
      }

  pub past-all : (entries : List (List ℕ × V)) (place : ℕ) → length entries ≤ place → IsPast stem entries place → value_at stem entries ≡ None
  past-all entries place all past = past.found ∙ ap (value_at stem) (drop_all place entries all)

  -- ---- what is left without it

  pub without-none : (entries : List (List ℕ × V)) → value_at stem entries ≡ None → without_first stem entries ≡ entries
  without-none [] none = refl
  without-none (e ∷ more) none =
      let pass : (b : Bool) → is_name stem e.0 ≡ b → without_first stem (e ∷ more) ≡ e ∷ more =
      elim [
        | true ↦ λ is. (let some : Some e.1 ≡ None = rw is at none in absurd (none-some e.1 (sym some)))
        | false ↦ λ off. rw off (ap (λ t. e ∷ t) (without-none more (rw off at none)))
      ] in
      pass (is_name stem e.0) refl

  pub without-apart : (other : List ℕ) (entries : List (List ℕ × V)) → is_name stem other ≡ false → value_at other (without_first stem entries) ≡ value_at other entries
  without-apart other [] off = refl
  without-apart other (e ∷ more) off =
      let pass : (b : Bool) → is_name stem e.0 ≡ b → value_at other (without_first stem (e ∷ more)) ≡ value_at other (e ∷ more) =
      elim [
        | true ↦ λ is.
            let apart : is_name other e.0 ≡ false = name-test other e.0 ∙ ap (λ s. is_name s other) (sym (names-one stem e.0 is)) ∙ off in
            rw is (rw apart refl)
        | false ↦ λ differs. rw differs (ap (λ o. cond (is_name other e.0) (Some e.1) o) (without-apart other more off))
      ] in
      pass (is_name stem e.0) refl

  module _ (test : V → Bool) where
    abbrev all : List (List ℕ × V) → Bool
    all entries = list_all (λ (e : List ℕ × V). test e.1) entries

    pub all-without : (was : V) (entries : List (List ℕ × V)) → value_at stem entries ≡ Some was → (test was && all (without_first stem entries)) ≡ all entries
    all-without was [] at = absurd (none-some was at)
    all-without was (e ∷ more) at =
        let pass : (b : Bool) → is_name stem e.0 ≡ b → (test was && all (without_first stem (e ∷ more))) ≡ all (e ∷ more) =
        elim [
          | true ↦ λ here.
              let found : Some e.1 ≡ Some was = rw here at at in
              let one : was ≡ e.1 = cc in
              rw here (ap (λ v. test v && all more) one)
          | false ↦ λ off. rw off (swapped (test was) (test e.1) (all (without_first stem more)) ∙ ap (λ b. test e.1 && b) (all-without was more (rw off at at)))
        ] in
        pass (is_name stem e.0) refl
