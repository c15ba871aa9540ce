-- InvMixColumns undoes MixColumns, and vice versa: the products of their rows with each byte are computed, and the
-- rest is the order in which a sum is taken.
use Rattle.std.proofs.Common.{◌≡◌, ℕ, ◌+◌, ◌-◌, ◌*◌, ◌%◌, List, [], ◌∷◌, ◌++◌, true, ◌∙◌, refl, bit_xor, eqb, nat_eq, slice_index, if◌then◌else◌}
use Rattle.std.proofs.lemmas.Bool.{agree_below}
use Rattle.std.specs.Int.Bits.{xor_zero_r}
use Rattle.aes_cbc.specs.Field.{terms, remainder, product}
use Rattle.aes_cbc.specs.Aes.{cell, column, inverse_mix_columns, inverse_mixing, mix_columns, mixed_byte, mixed_column, mixing}
use Rattle.aes_cbc.proofs.Computing.{each_below}
use Rattle.aes_cbc.proofs.ProductLemmas.{product-xor, xor_four}
use Rattle.aes_cbc.proofs.StateLemmas.{IsSmall, IsState, cells_of-cell, column_of_small}

-- the sum of four
abbrev sum4 : (ℕ → ℕ) → ℕ
sum4 f = bit_xor (bit_xor (f 0) (f 1)) (bit_xor (f 2) (f 3))

-- what row k of m's matrix takes of a byte x in row j, multiplied as row r of n's matrix does it
abbrev part : List ℕ → List ℕ → ℕ → ℕ → ℕ → ℕ → ℕ
part n m r j x k = product (slice_index n ((4 + k - r) % 4)) (product (slice_index m ((4 + j - k) % 4)) x)

-- the byte itself in its own row, and nothing in another
abbrev kept : ℕ → ℕ → ℕ → ℕ
kept r j x = if nat_eq r j then x else 0

abbrev Cancels : List ℕ → List ℕ → ℕ → ℕ → Type 0
Cancels n m r j = agree_below (λ x. eqb (sum4 (part n m r j x)) (kept r j x)) (λ _. true) 256 ≡ true

product-sum4 : (c : ℕ) (f : ℕ → ℕ) → product c (sum4 f) ≡ sum4 (λ j. product c (f j))
product-sum4 c f =
    product-xor c (bit_xor (f 0) (f 1)) (bit_xor (f 2) (f 3))
    ∙ (λ i. bit_xor (product-xor c (f 0) (f 1) i) (product-xor c (f 2) (f 3) i))

-- the sum of the rows is the sum of the columns
sum4-sum4 : (f : ℕ → ℕ → ℕ) → sum4 (λ k. sum4 (λ j. f j k)) ≡ sum4 (λ j. sum4 (λ k. f j k))
sum4-sum4 f =
    xor_four (bit_xor (f 0 0) (f 1 0)) (bit_xor (f 0 1) (f 1 1)) (bit_xor (f 0 2) (f 1 2)) (bit_xor (f 0 3) (f 1 3))
    (bit_xor (f 2 0) (f 3 0)) (bit_xor (f 2 1) (f 3 1)) (bit_xor (f 2 2) (f 3 2)) (bit_xor (f 2 3) (f 3 3))
    ∙ (λ i. bit_xor
    (xor_four (f 0 0) (f 0 1) (f 0 2) (f 0 3) (f 1 0) (f 1 1) (f 1 2) (f 1 3) i)
    (xor_four (f 2 0) (f 2 1) (f 2 2) (f 2 3) (f 3 0) (f 3 1) (f 3 2) (f 3 3) i))

mixed_byte-mixed_column : (n m a : List ℕ) (r : ℕ) → IsSmall a
    → Cancels n m r 0 → Cancels n m r 1 → Cancels n m r 2 → Cancels n m r 3
    → mixed_byte n (mixed_column m a) r ≡ sum4 (λ j. kept r j (slice_index a j))
mixed_byte-mixed_column n m a r small zeroth first second third =
    let spread : (k : ℕ) → product (slice_index n ((4 + k - r) % 4)) (sum4 (λ j. product (slice_index m ((4 + j - k) % 4)) (slice_index a j)))
    ≡ sum4 (λ j. part n m r j (slice_index a j) k) =
    λ k. product-sum4 (slice_index n ((4 + k - r) % 4)) (λ j. product (slice_index m ((4 + j - k) % 4)) (slice_index a j)) in
    let row : (j : ℕ) → Cancels n m r j → sum4 (part n m r j (slice_index a j)) ≡ kept r j (slice_index a j) =
    λ j cancels. each_below 256 (λ x. sum4 (part n m r j x)) (λ x. kept r j x) cancels (slice_index a j) (small.byte j) in
    (λ i. bit_xor (bit_xor (spread 0 i) (spread 1 i)) (bit_xor (spread 2 i) (spread 3 i)))
    ∙ sum4-sum4 (λ j k. part n m r j (slice_index a j) k)
    ∙ (λ i. bit_xor (bit_xor (row 0 zeroth i) (row 1 first i)) (bit_xor (row 2 second i) (row 3 third i)))

-- the kept bytes of a column are the column
kept_column : (a b c d : ℕ) (s : List ℕ)
    → s ≡ bit_xor (bit_xor a 0) 0 ∷ bit_xor b 0 ∷ bit_xor c 0 ∷ d ∷ [] → s ≡ a ∷ b ∷ c ∷ d ∷ []
kept_column a b c d s is =
    is ∙ (λ i. (xor_zero_r (bit_xor a 0) ∙ xor_zero_r a) i ∷ xor_zero_r b i ∷ xor_zero_r c i ∷ d ∷ [])

unmixed_column : (a : List ℕ) → IsSmall a
    → mixed_column inverse_mixing (mixed_column mixing a)
    ≡ slice_index a 0 ∷ slice_index a 1 ∷ slice_index a 2 ∷ slice_index a 3 ∷ []
unfolding terms remainder product
unmixed_column a small =
    kept_column (slice_index a 0) (slice_index a 1) (slice_index a 2) (slice_index a 3) _
    (λ i. mixed_byte-mixed_column inverse_mixing mixing a 0 small refl refl refl refl i
    ∷ mixed_byte-mixed_column inverse_mixing mixing a 1 small refl refl refl refl i
    ∷ mixed_byte-mixed_column inverse_mixing mixing a 2 small refl refl refl refl i
    ∷ mixed_byte-mixed_column inverse_mixing mixing a 3 small refl refl refl refl i ∷ [])

mixed_again : (a : List ℕ) → IsSmall a
    → mixed_column mixing (mixed_column inverse_mixing a)
    ≡ slice_index a 0 ∷ slice_index a 1 ∷ slice_index a 2 ∷ slice_index a 3 ∷ []
unfolding terms remainder product
mixed_again a small =
    kept_column (slice_index a 0) (slice_index a 1) (slice_index a 2) (slice_index a 3) _
    (λ i. mixed_byte-mixed_column mixing inverse_mixing a 0 small refl refl refl refl i
    ∷ mixed_byte-mixed_column mixing inverse_mixing a 1 small refl refl refl refl i
    ∷ mixed_byte-mixed_column mixing inverse_mixing a 2 small refl refl refl refl i
    ∷ mixed_byte-mixed_column mixing inverse_mixing a 3 small refl refl refl refl i ∷ [])

pub inverse_mix_columns-mix_columns : (s : List ℕ) → IsState s → inverse_mix_columns (mix_columns s) ≡ s
unfolding inverse_mix_columns mix_columns
inverse_mix_columns-mix_columns s is =
    let one : (c : ℕ) → mixed_column inverse_mixing (mixed_column mixing (column s c)) ≡ column s c =
    λ c. unmixed_column (column s c) (column_of_small (λ r. cell s r c) (λ r. is.small.byte (r + 4 * c))) in
    (λ i. one 0 i ++ (one 1 i ++ (one 2 i ++ one 3 i))) ∙ cells_of-cell s is.shape

pub mix_columns-inverse_mix_columns : (s : List ℕ) → IsState s → mix_columns (inverse_mix_columns s) ≡ s
unfolding inverse_mix_columns mix_columns
mix_columns-inverse_mix_columns s is =
    let one : (c : ℕ) → mixed_column mixing (mixed_column inverse_mixing (column s c)) ≡ column s c =
    λ c. mixed_again (column s c) (column_of_small (λ r. cell s r c) (λ r. is.small.byte (r + 4 * c))) in
    (λ i. one 0 i ++ (one 1 i ++ (one 2 i ++ one 3 i))) ∙ cells_of-cell s is.shape
