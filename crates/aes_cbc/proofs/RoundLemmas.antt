-- Rounds on states of four words: what a column is made of, and the equivalent inverse cipher.
use Rattle.std.proofs.Common.{◌≡◌, ℕ, suc, ◌+◌, ◌-◌, ◌*◌, ◌%◌, ◌≤◌, List, [], ◌∷◌, ◌++◌, ap, sym, ◌∙◌, arith, bit_xor, slice_index, w32}
use Rattle.std.specs.Int.{to_be_bytes}
use Rattle.aes_cbc.specs.Field.{product}
use Rattle.aes_cbc.specs.Aes.{added, column, inverse_mix_columns, inverse_mixing, inverse_rounds, inverse_shift_rows, inverse_sub_bytes, mix_columns, mixed_byte, mixed_column, round_key, rounds, shift_rows, sub_bytes, words_state}
use Rattle.aes_cbc.specs.State.{IsInverted}
use Rattle.aes_cbc.proofs.ProductLemmas.{product-xor, xor_four}
use Rattle.aes_cbc.proofs.TableFacts.{spread}
use Rattle.aes_cbc.proofs.WordLemmas.{added_bytes, to_be_bytes-xor}

-- four words that spread one byte each add up to the mixed column of the bytes
pub spread_sum : (m : List ℕ) (a b c d w x y z : ℕ)
    → to_be_bytes w32 w ≡ spread m 0 a → to_be_bytes w32 x ≡ spread m 1 b
    → to_be_bytes w32 y ≡ spread m 2 c → to_be_bytes w32 z ≡ spread m 3 d
    → to_be_bytes w32 (bit_xor (bit_xor w x) (bit_xor y z)) ≡ mixed_column m (a ∷ b ∷ c ∷ d ∷ [])
spread_sum m a b c d w x y z ew ex ey ez =
    let front = to_be_bytes-xor w x ∙ (λ i. added_bytes (ew i) (ex i)) in
    let rest = to_be_bytes-xor y z ∙ (λ i. added_bytes (ey i) (ez i)) in
    to_be_bytes-xor (bit_xor w x) (bit_xor y z) ∙ (λ i. added_bytes (front i) (rest i))

mixed_byte-added : (m a b : List ℕ) (r : ℕ)
    → mixed_byte m (added_bytes a b) r ≡ bit_xor (mixed_byte m a r) (mixed_byte m b r)
mixed_byte-added m a b r =
    let left : ℕ → ℕ → ℕ = λ n k. product (slice_index m n) (slice_index a k) in
    let right : ℕ → ℕ → ℕ = λ n k. product (slice_index m n) (slice_index b k) in
    let term : (n k : ℕ) → product (slice_index m n) (bit_xor (slice_index a k) (slice_index b k)) ≡ bit_xor (left n k) (right n k) =
    λ n k. product-xor (slice_index m n) (slice_index a k) (slice_index b k) in
    let first : ℕ = (4 - r) % 4 in
    let second : ℕ = (5 - r) % 4 in
    let third : ℕ = (6 - r) % 4 in
    let fourth : ℕ = (7 - r) % 4 in
    (λ i. bit_xor (bit_xor (term first 0 i) (term second 1 i)) (bit_xor (term third 2 i) (term fourth 3 i)))
    ∙ xor_four (left first 0) (left second 1) (left third 2) (left fourth 3) (right first 0) (right second 1) (right third 2) (right fourth 3)

pub mixed_column-added : (m a b : List ℕ)
    → mixed_column m (added_bytes a b) ≡ added_bytes (mixed_column m a) (mixed_column m b)
mixed_column-added m a b =
    λ i. mixed_byte-added m a b 0 i ∷ mixed_byte-added m a b 1 i ∷ mixed_byte-added m a b 2 i ∷ mixed_byte-added m a b 3 i ∷ []

-- InvMixColumns is linear (FIPS 197, 5.3.5)
pub inverse_mix_columns-added : (s k : List ℕ)
    → inverse_mix_columns (added s k) ≡ added (inverse_mix_columns s) (inverse_mix_columns k)
unfolding inverse_mix_columns added
inverse_mix_columns-added s k =
    let one : (c : ℕ) → mixed_column inverse_mixing (added_bytes (column s c) (column k c))
    ≡ added_bytes (mixed_column inverse_mixing (column s c)) (mixed_column inverse_mixing (column k c)) =
    λ c. mixed_column-added inverse_mixing (column s c) (column k c) in
    λ i. one 0 i ++ (one 1 i ++ (one 2 i ++ one 3 i))

-- the inverted schedule's keys of the rounds 1 to 9
pub round_key-inverted : (d w : List ℕ) (n : ℕ) → IsInverted d w → 1 ≤ n → n ≤ 9
    → round_key d n ≡ inverse_mix_columns (round_key w n)
unfolding inverse_mix_columns
round_key-inverted d w n is low high =
    λ i. is.mixed (4 * n) (omega arith) (omega arith) i
    ++ (is.mixed (4 * n + 1) (omega arith) (omega arith) i
    ++ (is.mixed (4 * n + 2) (omega arith) (omega arith) i
    ++ is.mixed (4 * n + 3) (omega arith) (omega arith) i))

-- the inverted schedule's keys of the first round and of the last
pub round_key-first : (d w : List ℕ) → IsInverted d w → round_key d 0 ≡ round_key w 0
round_key-first d w is =
    λ i. words_state (is.first 0 (omega arith) i) (is.first 1 (omega arith) i) (is.first 2 (omega arith) i) (is.first 3 (omega arith) i)

pub round_key-last : (d w : List ℕ) → IsInverted d w → round_key d 10 ≡ round_key w 10
round_key-last d w is =
    λ i. words_state (is.last 40 (omega arith) i) (is.last 41 (omega arith) i) (is.last 42 (omega arith) i) (is.last 43 (omega arith) i)

-- one more round of the inverse cipher, by the inverted schedule
pub inverse_rounds_more : (d w s x y : List ℕ) (n m : ℕ) → IsInverted d w → n + m ≡ 9 → 1 ≤ m
    → x ≡ inverse_rounds w s n
    → y ≡ added (inverse_mix_columns (inverse_sub_bytes (inverse_shift_rows x))) (round_key d m)
    → y ≡ inverse_rounds w s (suc n)
unfolding inverse_rounds
inverse_rounds_more d w s x y n m is total some before after =
    let here : List ℕ = inverse_sub_bytes (inverse_shift_rows (inverse_rounds w s n)) in
    let place : m ≡ 9 - n = omega arith in
    after
    ∙ ap (λ z. added (inverse_mix_columns (inverse_sub_bytes (inverse_shift_rows z))) (round_key d m)) before
    ∙ ap (added (inverse_mix_columns here)) (round_key-inverted d w m is some (omega arith))
    ∙ sym (inverse_mix_columns-added here (round_key w m))
    ∙ ap (λ k. inverse_mix_columns (added here (round_key w k))) place

-- one more round of the cipher
pub rounds_more : (w s x y : List ℕ) (n : ℕ) → x ≡ rounds w s n
    → y ≡ added (mix_columns (shift_rows (sub_bytes x))) (round_key w (suc n))
    → y ≡ rounds w s (suc n)
unfolding rounds
rounds_more w s x y n before after =
    after ∙ ap (λ z. added (mix_columns (shift_rows (sub_bytes z))) (round_key w (suc n))) before
