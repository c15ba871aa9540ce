-- The words of the key schedule, one from those before it.
use Rattle.std.proofs.Common.{◌≡◌, ℕ, suc, ◌+◌, ◌-◌, ◌/◌, ◌%◌, ◌<◌, ◌≤◌, List, [], ◌∷◌, ◌++◌, take, ap, sym, ◌∙◌, arith, refl, bit_xor, nat_eq, slice_index, w32, if◌then◌else◌}
use Rattle.std.proofs.lemmas.Bool.{cond-true, cond-false, eq-eqb, ne_eqb}
use Rattle.std.proofs.lemmas.List.{get_or-take}
use Rattle.std.specs.Int.{byte_at, from_be_bytes}
use Rattle.aes_cbc.specs.Aes.{column_of, next_word, power_of_x, rotated_word, round_constant, sub_word, words_through}
use Rattle.aes_cbc.specs.Field.{sbox, terms, remainder, product}
use Rattle.aes_cbc.specs.declared.encrypting_tables.TheConstants.{SBOX}
use Rattle.aes_cbc.specs.declared.schedule.TheConstants.{ROUND_CONSTANTS}
use Rattle.aes_cbc.proofs.Computing.{each_below}
use Rattle.aes_cbc.proofs.FieldFacts.{sbox_at}
use Rattle.aes_cbc.proofs.WordLemmas.{to_be_bytes-from_be_bytes}

-- the word of the table's bytes is SubWord of RotWord
pub sub_word-rotated_word : (x : ℕ) → from_be_bytes w32
    (slice_index SBOX (byte_at 2 x) ∷ slice_index SBOX (byte_at 1 x) ∷ slice_index SBOX (byte_at 0 x) ∷ slice_index SBOX (byte_at 3 x) ∷ [])
    ≡ sub_word (rotated_word x)
sub_word-rotated_word x =
    let a : ℕ = byte_at 3 x in
    let b : ℕ = byte_at 2 x in
    let c : ℕ = byte_at 1 x in
    let d : ℕ = byte_at 0 x in
    let la : a < 256 = omega arith in
    let lb : b < 256 = omega arith in
    let lc : c < 256 = omega arith in
    let ld : d < 256 = omega arith in
    (λ i. from_be_bytes w32 (sbox_at b lb i ∷ sbox_at c lc i ∷ sbox_at d ld i ∷ sbox_at a la i ∷ []))
    ∙ ap (λ bytes. from_be_bytes w32 (column_of (λ r. sbox (slice_index bytes r))))
    (sym (to_be_bytes-from_be_bytes b c d a lb lc ld la))

pub ROUND_CONSTANTS_at : (n : ℕ) → n < 10 → slice_index ROUND_CONSTANTS n ≡ power_of_x n
unfolding power_of_x terms remainder product
ROUND_CONSTANTS_at = each_below 10 (λ n. slice_index ROUND_CONSTANTS n) (λ n. power_of_x n) refl

-- each fourth word
pub next_word-fourth : (w : List ℕ) (i x : ℕ) → i % 4 ≡ 0
    → x ≡ bit_xor (slice_index w (i - 4)) (bit_xor (sub_word (rotated_word (slice_index w (i - 1)))) (round_constant (i / 4)))
    → x ≡ next_word w i
unfolding next_word
next_word-fourth w i x fourth is =
    is ∙ ap (bit_xor (slice_index w (i - 4))) (sym (cond-true (nat_eq (i % 4) 0) _ _ (eq-eqb _ _ fourth)))

-- any other word
pub next_word-other : (w : List ℕ) (i x : ℕ) → ¬ (i % 4 ≡ 0)
    → x ≡ bit_xor (slice_index w (i - 4)) (slice_index w (i - 1)) → x ≡ next_word w i
unfolding next_word
next_word-other w i x other is =
    is ∙ ap (bit_xor (slice_index w (i - 4))) (sym (cond-false (nat_eq (i % 4) 0) _ _ (ne_eqb _ _ other)))

-- a word depends only on those before it
pub next_word-take : (w : List ℕ) (i : ℕ) → 4 ≤ i → next_word (take i w) i ≡ next_word w i
unfolding next_word
next_word-take w i le =
    let far : slice_index (take i w) (i - 4) ≡ slice_index w (i - 4) = get_or-take i w (i - 4) 0 (omega arith) in
    let near : slice_index (take i w) (i - 1) ≡ slice_index w (i - 1) = get_or-take i w (i - 1) 0 (omega arith) in
    λ j. bit_xor (far j) (if nat_eq (i % 4) 0
    then bit_xor (sub_word (rotated_word (near j))) (round_constant (i / 4))
    else near j)

-- one more word
pub words_through_more : (key w : List ℕ) (i : ℕ) → 4 ≤ i → take i w ≡ words_through key (i - 4)
    → take i w ++ next_word w i ∷ [] ≡ words_through key (i + 1 - 4)
unfolding words_through
words_through_more key w i le is =
    let more : i + 1 - 4 ≡ suc (i - 4) = omega arith in
    let place : i ≡ i - 4 + 4 = omega arith in
    ap (λ x. take i w ++ x ∷ []) (sym (next_word-take w i le) ∙ ap (next_word (take i w)) place)
    ∙ ap (λ ws. ws ++ next_word ws (i - 4 + 4) ∷ []) is
    ∙ ap (words_through key) (sym more)
