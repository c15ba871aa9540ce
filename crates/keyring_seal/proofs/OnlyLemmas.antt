-- A content has one arrangement: which rows there are determines their order by rising numbers.
use Rattle.std.proofs.Common.{◌≡◌, ℕ, zero, suc, ◌<◌, List, [], ◌∷◌, length, map, refl, sym, ap, ◌∙◌, arith, inl, inr}
use Rattle.std.specs.Prelude.{◌⊎◌, Contains, slice_index_or}
use Rattle.std.specs.List.{AllByRecursion, zip}
use Rattle.std.specs.List.Sorted.{IsPermutation}
use Rattle.std.proofs.lemmas.List.Elements.{All-contains, All-from_recursion}
use Rattle.std.proofs.lemmas.List.Sorted.{Contains-permutation, IsPermutation-sym, IsPermutation-trans}
use Rattle.keyring_file.specs.declared.clear.ClearItem.{ClearItem}
use Rattle.keyring_file.specs.declared.area.FullItem.{FullItem}
use Rattle.keyring_seal.specs.declared.content.Content.{Content}
use Rattle.keyring_seal.specs.Arranged.{Row, IsArrangement, IsSealable, arranged, arranged_rows, hashed_row, of_rows, row_number, rows}
use Rattle.keyring_seal.proofs.ArrangedLemmas.{arranged_same, rows_rising}
use Rattle.keyring_seal.proofs.RisingLemmas.{IsRising, rising_by_place, zip_rising}

module _ {X : Type 0} (number : X → ℕ) where
  raised : (x y : X) (xs : List X) → number x < number y → AllByRecursion (λ z. number y < number z) xs → AllByRecursion (λ z. number x < number z) xs
  raised x y [] lt all = tt
  raised x y (z ∷ xs) lt all = (omega (arith, lt, all.0), raised x y xs lt all.1)

  head_below : (x : X) (xs : List X) → IsRising number (x ∷ xs) → AllByRecursion (λ z. number x < number z) xs
  head_below x [] rising = tt
  head_below x (y ∷ xs) rising = (rising.0, raised x y xs rising.0 (head_below y xs rising.1))

  tail_rising : (x : X) (xs : List X) → IsRising number (x ∷ xs) → IsRising number xs
  tail_rising x [] rising = tt
  tail_rising x (y ∷ xs) rising = rising.1

  below : (x z : X) (xs : List X) → IsRising number (x ∷ xs) → Contains xs z → number x < number z
  below x z xs rising h = All-contains (λ y. number x < number y) xs z (All-from_recursion (λ y. number x < number y) xs (head_below x xs rising)) h

  at_place : (x z : X) (xs : List X) (k : ℕ) → k < length (x ∷ xs) → slice_index_or (x ∷ xs) k z ≡ z → (x ≡ z) ⊎ Contains xs z
  at_place x z xs zero lt e = inl e
  at_place x z xs (suc k) lt e = inr (k, omega (arith, lt), e)

  first_or : (x z : X) (xs : List X) → Contains (x ∷ xs) z → (x ≡ z) ⊎ Contains xs z
  first_or x z xs h = at_place x z xs h.0 h.1 h.2

  first : (x : X) (xs : List X) → Contains (x ∷ xs) x
  first x xs = (zero, omega arith, refl)

  later : (x z : X) (xs : List X) → Contains xs z → Contains (x ∷ xs) z
  later x z xs h = (suc h.0, omega (arith, h.1), h.2)

  none : (z : X) → Contains [] z → ⊥
  none z h = omega (arith, h.1)

  heads : (x y : X) (xs ys : List X) → IsRising number (x ∷ xs) → IsRising number (y ∷ ys) → Contains (y ∷ ys) x → Contains (x ∷ xs) y → x ≡ y
  heads x y xs ys a b p q = elim (first_or y x ys p) [
    | inl e ↦ sym e
    | inr s ↦ elim (first_or x y xs q) [
      | inl e ↦ e
      | inr t ↦ let up = below x y xs a t in let down = below y x ys b s in absurd (omega (arith, up, down))
    ]
  ]

  -- what comes after the head of one list isn't the head of the other
  behind : (x y z : X) (xs ys : List X) → x ≡ y → IsRising number (x ∷ xs) → Contains xs z → Contains (y ∷ ys) z → Contains ys z
  behind x y z xs ys same a h p = elim (first_or y z ys p) [
    | inl e ↦ let up = below x z xs a h in let one = ap number same in let other = ap number e in absurd (omega (arith, up, one, other))
    | inr t ↦ t
  ]

  pub same_rising : (xs ys : List X) → IsRising number xs → IsRising number ys → ((z : X) → Contains xs z → Contains ys z) → ((z : X) → Contains ys z → Contains xs z) → xs ≡ ys
  same_rising [] [] a b to from = refl
  same_rising [] (y ∷ ys) a b to from = absurd (none y (from y (first y ys)))
  same_rising (x ∷ xs) [] a b to from = absurd (none x (to x (first x xs)))
  same_rising (x ∷ xs) (y ∷ ys) a b to from =
      let same : x ≡ y = heads x y xs ys a b (to x (first x xs)) (from y (first y ys)) in
      let rest : xs ≡ ys =
      same_rising xs ys (tail_rising x xs a) (tail_rising y ys b) (λ z h. behind x y z xs ys same a h (to z (later x z xs h))) (λ z h. behind y x z ys xs (sym same) b h (from z (later y z ys h))) in
      λ j. same j ∷ rest j

firsts : (clear : List ClearItem) (items : List FullItem) → length items ≡ length clear → map (λ (row : Row). row.0) (zip clear items) ≡ clear
firsts [] items e = refl
firsts (x ∷ clear) [] e = absurd (omega (arith, e))
firsts (x ∷ clear) (y ∷ items) e = ap (λ (t : List ClearItem). x ∷ t) (firsts clear items (omega (arith, e)))

seconds : (clear : List ClearItem) (items : List FullItem) → length items ≡ length clear → map (λ (row : Row). row.1) (zip clear items) ≡ items
seconds [] [] e = refl
seconds [] (y ∷ items) e = absurd (omega (arith, e))
seconds (x ∷ clear) [] e = absurd (omega (arith, e))
seconds (x ∷ clear) (y ∷ items) e = ap (λ (t : List FullItem). y ∷ t) (seconds clear items (omega (arith, e)))

-- the only arrangement
pub only_arrangement : (content made : Content) → IsSealable content → IsArrangement content made → made ≡ arranged content
only_arrangement content made can is =
    let these = arranged_rows content in
    let rising : IsRising row_number (rows made) = zip_rising made.clear.items made.items (rising_by_place (λ (item : ClearItem). item.id.0) made.clear.items is.rising) in
    let moved : IsPermutation these (rows made) = IsPermutation-trans these (map hashed_row (rows content)) (rows made) (IsPermutation-sym (map hashed_row (rows content)) these (arranged_same content can)) is.same in
    let back : IsPermutation (rows made) these = IsPermutation-sym these (rows made) moved in
    let same : rows made ≡ these =
    same_rising row_number (rows made) these rising (rows_rising content) (λ z h. Contains-permutation (rows made) these z back h) (λ z h. Contains-permutation these (rows made) z moved h) in
    let clear : made.clear ≡ record content.clear { items = map (λ (row : Row). row.0) (rows made) } = is.rest ∙ ap (λ (items : List ClearItem). record content.clear { items = items }) (sym (firsts made.clear.items made.items is.counted)) in
    let items : made.items ≡ map (λ (row : Row). row.1) (rows made) = sym (seconds made.clear.items made.items is.counted) in
    let whole : made ≡ of_rows content.clear (rows made) = λ j. record { clear = clear j; items = items j } in
    whole ∙ ap (of_rows content.clear) same
