-- The inverse cipher undoes the cipher, and vice versa.
use Rattle.std.proofs.Common.{◌≡◌, ℕ, zero, suc, ◌+◌, ◌-◌, ◌*◌, List, length, ap, sym, ◌∙◌, arith}
use Rattle.aes_cbc.specs.Aes.{added, cell, cells_of, cipher, inverse_cipher, inverse_mix_columns, inverse_rounds, inverse_shift_rows, inverse_sub_bytes, mix_columns, round_key, rounds, shift_rows, sub_bytes}
use Rattle.aes_cbc.proofs.FieldFacts.{inverse_sbox-sbox, sbox-inverse_sbox}
use Rattle.aes_cbc.proofs.MixLemmas.{inverse_mix_columns-mix_columns, mix_columns-inverse_mix_columns}
use Rattle.aes_cbc.proofs.ProductLemmas.{xor_twice}
use Rattle.aes_cbc.proofs.StateLemmas.{IsState, IsState-added, IsState-inverse_mix_columns, IsState-inverse_shift_rows, IsState-inverse_sub_bytes, IsState-mix_columns, IsState-round_key, IsState-shift_rows, IsState-sub_bytes, cells_of-cell}

-- ---- one step

-- a term that is added twice cancels
pub added-added : (s k : List ℕ) → length s ≡ 16 → added (added s k) k ≡ s
unfolding added
added-added s k shape = (λ i. cells_of (λ r c. xor_twice (cell s r c) (cell k r c) i)) ∙ cells_of-cell s shape

inverse_sub_bytes-sub_bytes : (s : List ℕ) → IsState s → inverse_sub_bytes (sub_bytes s) ≡ s
unfolding inverse_sub_bytes sub_bytes
inverse_sub_bytes-sub_bytes s is =
    (λ i. cells_of (λ r c. inverse_sbox-sbox (cell s r c) (is.small.byte (r + 4 * c)) i)) ∙ cells_of-cell s is.shape

sub_bytes-inverse_sub_bytes : (s : List ℕ) → IsState s → sub_bytes (inverse_sub_bytes s) ≡ s
unfolding inverse_sub_bytes sub_bytes
sub_bytes-inverse_sub_bytes s is =
    (λ i. cells_of (λ r c. sbox-inverse_sbox (cell s r c) (is.small.byte (r + 4 * c)) i)) ∙ cells_of-cell s is.shape

inverse_shift_rows-shift_rows : (s : List ℕ) → IsState s → inverse_shift_rows (shift_rows s) ≡ s
unfolding inverse_shift_rows shift_rows
inverse_shift_rows-shift_rows s is = cells_of-cell s is.shape

shift_rows-inverse_shift_rows : (s : List ℕ) → IsState s → shift_rows (inverse_shift_rows s) ≡ s
unfolding inverse_shift_rows shift_rows
shift_rows-inverse_shift_rows s is = cells_of-cell s is.shape

-- ---- SubBytes and ShiftRows together

abbrev boxed : List ℕ → List ℕ
boxed s = shift_rows (sub_bytes s)

abbrev restored : List ℕ → List ℕ
restored s = inverse_sub_bytes (inverse_shift_rows s)

IsState-boxed : (s : List ℕ) → IsState s → IsState (boxed s)
IsState-boxed s is = IsState-shift_rows (sub_bytes s) (IsState-sub_bytes s is.small).small

IsState-restored : (s : List ℕ) → IsState s → IsState (restored s)
IsState-restored s is = IsState-inverse_sub_bytes (inverse_shift_rows s) (IsState-inverse_shift_rows s is.small).small

restored-boxed : (s : List ℕ) → IsState s → restored (boxed s) ≡ s
restored-boxed s is =
    ap inverse_sub_bytes (inverse_shift_rows-shift_rows (sub_bytes s) (IsState-sub_bytes s is.small))
    ∙ inverse_sub_bytes-sub_bytes s is

boxed-restored : (s : List ℕ) → IsState s → boxed (restored s) ≡ s
boxed-restored s is =
    ap shift_rows (sub_bytes-inverse_sub_bytes (inverse_shift_rows s) (IsState-inverse_shift_rows s is.small))
    ∙ shift_rows-inverse_shift_rows s is

-- ---- the rounds

IsState-keyed : (w s : List ℕ) (n : ℕ) → IsState s → IsState (added s (round_key w n))
IsState-keyed w s n is = IsState-added s (round_key w n) is.small (IsState-round_key w n).small

IsState-rounds : (w s : List ℕ) (n : ℕ) → IsState s → IsState (rounds w s n)
unfolding rounds
IsState-rounds w s zero is = IsState-keyed w s 0 is
IsState-rounds w s (suc n) is =
    let before = IsState-boxed (rounds w s n) (IsState-rounds w s n is) in
    IsState-keyed w _ (suc n) (IsState-mix_columns _ before.small)

IsState-inverse_rounds : (w s : List ℕ) (n : ℕ) → IsState s → IsState (inverse_rounds w s n)
unfolding inverse_rounds
IsState-inverse_rounds w s zero is = IsState-keyed w s 10 is
IsState-inverse_rounds w s (suc n) is =
    let before = IsState-restored (inverse_rounds w s n) (IsState-inverse_rounds w s n is) in
    IsState-inverse_mix_columns _ (IsState-keyed w _ (9 - n) before).small

pub IsState-cipher : (w s : List ℕ) → IsState s → IsState (cipher w s)
unfolding cipher
IsState-cipher w s is = IsState-keyed w _ 10 (IsState-boxed (rounds w s 9) (IsState-rounds w s 9 is))

pub IsState-inverse_cipher : (w s : List ℕ) → IsState s → IsState (inverse_cipher w s)
unfolding inverse_cipher
IsState-inverse_cipher w s is =
    IsState-keyed w _ 0 (IsState-restored (inverse_rounds w s 9) (IsState-inverse_rounds w s 9 is))

-- n rounds of the inverse cipher undo all but m rounds of the cipher
inverse_rounds-cipher : (w s : List ℕ) (n m : ℕ) → IsState s → n + m ≡ 9
    → inverse_rounds w (cipher w s) n ≡ boxed (rounds w s m)
unfolding rounds inverse_rounds cipher
inverse_rounds-cipher w s zero m is total =
    let last : 9 ≡ m = omega arith in
    added-added (boxed (rounds w s 9)) (round_key w 10) (IsState-boxed (rounds w s 9) (IsState-rounds w s 9 is)).shape
    ∙ ap (λ k. boxed (rounds w s k)) last
inverse_rounds-cipher w s (suc n) m is total =
    let place : 9 - n ≡ suc m = omega arith in
    let before = IsState-boxed (rounds w s m) (IsState-rounds w s m is) in
    let mixed = IsState-mix_columns (boxed (rounds w s m)) before.small in
    ap (λ x. inverse_mix_columns (added (restored x) (round_key w (9 - n)))) (inverse_rounds-cipher w s n (suc m) is (omega arith))
    ∙ ap (λ x. inverse_mix_columns (added x (round_key w (9 - n)))) (restored-boxed (rounds w s (suc m)) (IsState-rounds w s (suc m) is))
    ∙ ap (λ k. inverse_mix_columns (added (rounds w s (suc m)) (round_key w k))) place
    ∙ ap inverse_mix_columns (added-added (mix_columns (boxed (rounds w s m))) (round_key w (suc m)) mixed.shape)
    ∙ inverse_mix_columns-mix_columns (boxed (rounds w s m)) before

-- n rounds of the cipher undo all but m rounds of the inverse cipher
rounds-inverse_cipher : (w s : List ℕ) (n m : ℕ) → IsState s → n + m ≡ 9
    → rounds w (inverse_cipher w s) n ≡ restored (inverse_rounds w s m)
unfolding rounds inverse_rounds inverse_cipher
rounds-inverse_cipher w s zero m is total =
    let last : 9 ≡ m = omega arith in
    added-added (restored (inverse_rounds w s 9)) (round_key w 0) (IsState-restored (inverse_rounds w s 9) (IsState-inverse_rounds w s 9 is)).shape
    ∙ ap (λ k. restored (inverse_rounds w s k)) last
rounds-inverse_cipher w s (suc n) m is total =
    let place : 9 - m ≡ suc n = omega arith in
    let before = IsState-restored (inverse_rounds w s m) (IsState-inverse_rounds w s m is) in
    let keyed : List ℕ = added (restored (inverse_rounds w s m)) (round_key w (9 - m)) in
    ap (λ x. added (mix_columns (boxed x)) (round_key w (suc n))) (rounds-inverse_cipher w s n (suc m) is (omega arith))
    ∙ ap (λ x. added (mix_columns x) (round_key w (suc n))) (boxed-restored (inverse_rounds w s (suc m)) (IsState-inverse_rounds w s (suc m) is))
    ∙ ap (λ x. added x (round_key w (suc n))) (mix_columns-inverse_mix_columns keyed (IsState-keyed w _ (9 - m) before))
    ∙ ap (λ k. added keyed (round_key w k)) (sym place)
    ∙ added-added (restored (inverse_rounds w s m)) (round_key w (9 - m)) before.shape

pub inverse_cipher-cipher : (w s : List ℕ) → IsState s → inverse_cipher w (cipher w s) ≡ s
unfolding rounds inverse_cipher
inverse_cipher-cipher w s is =
    ap (λ x. added (restored x) (round_key w 0)) (inverse_rounds-cipher w s 9 0 is (omega arith))
    ∙ ap (λ x. added x (round_key w 0)) (restored-boxed (rounds w s 0) (IsState-rounds w s 0 is))
    ∙ added-added s (round_key w 0) is.shape

pub cipher-inverse_cipher : (w s : List ℕ) → IsState s → cipher w (inverse_cipher w s) ≡ s
unfolding inverse_rounds cipher
cipher-inverse_cipher w s is =
    ap (λ x. added (boxed x) (round_key w 10)) (rounds-inverse_cipher w s 9 0 is (omega arith))
    ∙ ap (λ x. added x (round_key w 10)) (boxed-restored (inverse_rounds w s 0) (IsState-inverse_rounds w s 0 is))
    ∙ added-added s (round_key w 10) is.shape
