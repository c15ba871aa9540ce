-- States are lists of 16 bytes, and each step of a round returns one.
use Rattle.std.proofs.Common.{◌≡◌, ℕ, zero, suc, ◌+◌, ◌-◌, ◌*◌, ◌/◌, ◌%◌, ◌^◌, ◌<◌, ◌≤◌, List, [], ◌∷◌, ◌++◌, length, take, drop, ap, sym, ◌∙◌, inl, inr, arith, refl, bit_xor, slice_index, w32, mod-lt}
use Rattle.std.proofs.lemmas.Bool.{cases_lt}
use Rattle.std.proofs.lemmas.List.{drop_more, get_or-drop, get_or-take, get_or_past, length-take, take_all}
use Rattle.std.proofs.lemmas.Nat.{pow_pos, xor_lt}
use Rattle.std.specs.Int.{to_be_bytes}
use Rattle.aes_cbc.specs.Aes.{added, cell, cells_of, column, column_of, inverse_mix_columns, inverse_mixing, inverse_shift_rows, inverse_sub_bytes, mix_columns, mixed_byte, mixing, round_key, shift_rows, sub_bytes}
use Rattle.aes_cbc.specs.Field.{product, sbox, inverse_sbox}
use Rattle.aes_cbc.proofs.FieldFacts.{sbox_small, inverse_sbox_small}
use Rattle.aes_cbc.proofs.ProductLemmas.{product_small}

-- each element is a byte
pub record IsSmall (s : List ℕ) : Type 0 where
  pub byte : (i : ℕ) → slice_index s i < 256

-- sixteen bytes
pub record IsState (s : List ℕ) : Type 0 where
  pub shape : length s ≡ 16
  pub small : IsSmall s

-- ---- bytes

pub drop_small : (n : ℕ) (s : List ℕ) → IsSmall s → IsSmall (drop n s)
drop_small n s small = record { byte = λ i. rw (get_or-drop n s i 0) (small.byte (n + i)) }

pub take_small : (n : ℕ) (s : List ℕ) → IsSmall s → IsSmall (take n s)
take_small n s small = record {
  byte = λ i. elim (cases_lt i n) [
    | inl below ↦ rw (get_or-take n s i 0 below) (small.byte i)
    | inr above ↦ rw (get_or_past (take n s) i 0 (omega (arith, length-take n s))) (omega arith)
  ];
}

nil_small : IsSmall []
nil_small = record { byte = λ i. omega arith }

first_small : (x : ℕ) (s : List ℕ) → x < 256 → IsSmall s → (i : ℕ) → slice_index (x ∷ s) i < 256
first_small x s here rest zero = here
first_small x s here rest (suc i) = rest.byte i

cons_small : (x : ℕ) (s : List ℕ) → x < 256 → IsSmall s → IsSmall (x ∷ s)
cons_small x s here rest = record { byte = first_small x s here rest }

column_small : (f : ℕ → ℕ) (s : List ℕ) → ((r : ℕ) → f r < 256) → IsSmall s → IsSmall (column_of f ++ s)
column_small f s each rest =
    cons_small (f 0) _ (each 0) (cons_small (f 1) _ (each 1) (cons_small (f 2) _ (each 2) (cons_small (f 3) s (each 3) rest)))

pub column_of_small : (f : ℕ → ℕ) → ((r : ℕ) → f r < 256) → IsSmall (column_of f)
column_of_small f each = column_small f [] each nil_small

IsState-cells_of : (f : ℕ → ℕ → ℕ) → ((r c : ℕ) → f r c < 256) → IsState (cells_of f)
IsState-cells_of f each =
    let fourth = column_small (λ r. f r 3) [] (λ r. each r 3) nil_small in
    let third = column_small (λ r. f r 2) _ (λ r. each r 2) fourth in
    let second = column_small (λ r. f r 1) _ (λ r. each r 1) third in
    record { shape = refl; small = column_small (λ r. f r 0) _ (λ r. each r 0) second }

word_small : (x : ℕ) (s : List ℕ) → IsSmall s → IsSmall (to_be_bytes w32 x ++ s)
word_small x s rest =
    let byte : (n : ℕ) → n % 2 ^ 8 < 2 ^ 8 = λ n. mod-lt n (pow_pos 8) in
    cons_small _ _ (byte (x / 2 ^ 24)) (cons_small _ _ (byte (x / 2 ^ 16)) (cons_small _ _ (byte (x / 2 ^ 8)) (cons_small _ s (byte x) rest)))

pub IsState-round_key : (w : List ℕ) (n : ℕ) → IsState (round_key w n)
IsState-round_key w n =
    let fourth = word_small (slice_index w (4 * n + 3)) [] nil_small in
    let third = word_small (slice_index w (4 * n + 2)) _ fourth in
    let second = word_small (slice_index w (4 * n + 1)) _ third in
    record { shape = refl; small = word_small (slice_index w (4 * n)) _ second }

-- ---- the cells of a state

-- n elements from a position on
entries : ℕ → ℕ → List ℕ → List ℕ
entries zero at s = []
entries (suc n) at s = slice_index s at ∷ entries n (at + 1) s

entries_take : (n at : ℕ) (s : List ℕ) → at + n ≤ length s → entries n at s ≡ take n (drop at s)
unfolding entries
entries_take zero at s le = refl
entries_take (suc n) at s le =
    ap (λ xs. slice_index s at ∷ xs) (entries_take n (at + 1) s (omega arith))
    ∙ ap (take (suc n)) (sym (drop_more s at 0 (omega arith)))

pub cells_of-cell : (s : List ℕ) → length s ≡ 16 → cells_of (cell s) ≡ s
unfolding entries
cells_of-cell s shape = entries_take 16 0 s (omega arith) ∙ take_all 16 s (omega arith)

-- ---- each step returns a state

pub IsState-added : (s k : List ℕ) → IsSmall s → IsSmall k → IsState (added s k)
unfolding added
IsState-added s k ss sk =
    IsState-cells_of (λ r c. bit_xor (cell s r c) (cell k r c)) (λ r c. xor_lt 8 _ _ (ss.byte (r + 4 * c)) (sk.byte (r + 4 * c)))

pub IsState-sub_bytes : (s : List ℕ) → IsSmall s → IsState (sub_bytes s)
unfolding sub_bytes
IsState-sub_bytes s ss = IsState-cells_of (λ r c. sbox (cell s r c)) (λ r c. sbox_small _ (ss.byte (r + 4 * c)))

pub IsState-inverse_sub_bytes : (s : List ℕ) → IsSmall s → IsState (inverse_sub_bytes s)
unfolding inverse_sub_bytes
IsState-inverse_sub_bytes s ss =
    IsState-cells_of (λ r c. inverse_sbox (cell s r c)) (λ r c. inverse_sbox_small _ (ss.byte (r + 4 * c)))

pub IsState-shift_rows : (s : List ℕ) → IsSmall s → IsState (shift_rows s)
unfolding shift_rows
IsState-shift_rows s ss = IsState-cells_of (λ r c. cell s r ((c + r) % 4)) (λ r c. ss.byte (r + 4 * ((c + r) % 4)))

pub IsState-inverse_shift_rows : (s : List ℕ) → IsSmall s → IsState (inverse_shift_rows s)
unfolding inverse_shift_rows
IsState-inverse_shift_rows s ss =
    IsState-cells_of (λ r c. cell s r ((c + 4 - r) % 4)) (λ r c. ss.byte (r + 4 * ((c + 4 - r) % 4)))

mixed_byte_small : (m s : List ℕ) (r c : ℕ) → IsSmall s → mixed_byte m (column s c) r < 256
mixed_byte_small m s r c ss =
    let term : (n k : ℕ) → product (slice_index m n) (cell s k c) < 2 ^ 8 =
    λ n k. product_small (slice_index m n) (cell s k c) (ss.byte (k + 4 * c)) in
    xor_lt 8 _ _ (xor_lt 8 _ _ (term ((4 - r) % 4) 0) (term ((5 - r) % 4) 1)) (xor_lt 8 _ _ (term ((6 - r) % 4) 2) (term ((7 - r) % 4) 3))

pub IsState-mix_columns : (s : List ℕ) → IsSmall s → IsState (mix_columns s)
unfolding mix_columns
IsState-mix_columns s ss =
    IsState-cells_of (λ r c. mixed_byte mixing (column s c) r) (λ r c. mixed_byte_small mixing s r c ss)

pub IsState-inverse_mix_columns : (s : List ℕ) → IsSmall s → IsState (inverse_mix_columns s)
unfolding inverse_mix_columns
IsState-inverse_mix_columns s ss =
    IsState-cells_of (λ r c. mixed_byte inverse_mixing (column s c) r) (λ r c. mixed_byte_small inverse_mixing s r c ss)
