-- Chained blocks: one more block, and that the two directions undo each other.
use Rattle.std.proofs.Common.{◌≡◌, ℕ, zero, suc, ◌+◌, ◌-◌, ◌*◌, ◌/◌, ◌%◌, ◌<◌, List, ◌++◌, length, take, drop, ap, sym, ◌∙◌, arith, refl}
use Rattle.std.proofs.lemmas.List.{append_assoc, drop-drop, drop_at, length-append, length-drop, length-take-le, nil_from_length, take-append-drop, take_at}
use Rattle.aes_cbc.specs.Aes.{added, cipher, inverse_cipher, key_schedule}
use Rattle.aes_cbc.specs.Cbc.{deciphered, decrypted, enciphered, encrypted}
use Rattle.aes_cbc.proofs.StateLemmas.{IsSmall, IsState, IsState-added, drop_small, take_small}
use Rattle.aes_cbc.proofs.UndoLemmas.{IsState-cipher, IsState-inverse_cipher, added-added, cipher-inverse_cipher, inverse_cipher-cipher}

-- ---- one more block, for a loop: `blocks` are the bytes before it is stored, and `stored` after it

next_place : (i : ℕ) (blocks stored : List ℕ)
    → drop (16 * i + 16) stored ≡ drop (16 * i + 16) blocks
    → drop (16 * (i + 1)) stored ≡ drop 16 (drop (16 * i) blocks)
next_place i blocks stored behind =
    let place : 16 * (i + 1) ≡ 16 * i + 16 = omega arith in
    ap (λ k. drop k stored) place ∙ behind ∙ sym (drop-drop 16 (16 * i) blocks)

pub enciphered_more : (w before blocks stored next result : List ℕ) (i n : ℕ) → i < n
    → next ≡ cipher w (added (take 16 (drop (16 * i) blocks)) before)
    → take (16 * i + 16) stored ≡ take (16 * i) blocks ++ next
    → drop (16 * i + 16) stored ≡ drop (16 * i + 16) blocks
    → take (16 * i) blocks ++ enciphered w before (n - i) (drop (16 * i) blocks) ≡ result
    → take (16 * (i + 1)) stored ++ enciphered w next (n - (i + 1)) (drop (16 * (i + 1)) stored) ≡ result
unfolding enciphered
enciphered_more w before blocks stored next result i n lt is front behind kept =
    let rest : List ℕ = drop (16 * i) blocks in
    let more : n - i ≡ suc (n - (i + 1)) = omega arith in
    let place : 16 * (i + 1) ≡ 16 * i + 16 = omega arith in
    (λ j. (ap (λ k. take k stored) place ∙ front) j ++ enciphered w next (n - (i + 1)) (next_place i blocks stored behind j))
    ∙ append_assoc (take (16 * i) blocks) next (enciphered w next (n - (i + 1)) (drop 16 rest))
    ∙ ap (λ x. take (16 * i) blocks ++ (x ++ enciphered w x (n - (i + 1)) (drop 16 rest))) is
    ∙ ap (λ k. take (16 * i) blocks ++ enciphered w before k rest) (sym more)
    ∙ kept

pub deciphered_more : (w before blocks stored block clear result : List ℕ) (i n : ℕ) → i < n
    → block ≡ take 16 (drop (16 * i) blocks)
    → clear ≡ added (inverse_cipher w block) before
    → take (16 * i + 16) stored ≡ take (16 * i) blocks ++ clear
    → drop (16 * i + 16) stored ≡ drop (16 * i + 16) blocks
    → take (16 * i) blocks ++ deciphered w before (n - i) (drop (16 * i) blocks) ≡ result
    → take (16 * (i + 1)) stored ++ deciphered w block (n - (i + 1)) (drop (16 * (i + 1)) stored) ≡ result
unfolding deciphered
deciphered_more w before blocks stored block clear result i n lt is sum front behind kept =
    let rest : List ℕ = drop (16 * i) blocks in
    let more : n - i ≡ suc (n - (i + 1)) = omega arith in
    let place : 16 * (i + 1) ≡ 16 * i + 16 = omega arith in
    (λ j. (ap (λ k. take k stored) place ∙ front) j ++ deciphered w block (n - (i + 1)) (next_place i blocks stored behind j))
    ∙ append_assoc (take (16 * i) blocks) clear (deciphered w block (n - (i + 1)) (drop 16 rest))
    ∙ ap (λ x. take (16 * i) blocks ++ (x ++ deciphered w block (n - (i + 1)) (drop 16 rest))) sum
    ∙ ap (λ x. take (16 * i) blocks ++ (added (inverse_cipher w x) before ++ deciphered w x (n - (i + 1)) (drop 16 rest))) is
    ∙ ap (λ k. take (16 * i) blocks ++ deciphered w before k rest) (sym more)
    ∙ kept

-- ---- the laws

-- the first of n + 1 blocks
IsState-first : (n : ℕ) (bytes : List ℕ) → length bytes ≡ 16 * suc n → IsSmall bytes → IsState (take 16 bytes)
IsState-first n bytes len small = record {
  shape = length-take-le 16 bytes (omega arith);
  small = take_small 16 bytes small;
}

length_rest : (n : ℕ) (bytes : List ℕ) → length bytes ≡ 16 * suc n → length (drop 16 bytes) ≡ 16 * n
length_rest n bytes len = let rest = length-drop 16 bytes in omega arith

pub length-enciphered : (w before : List ℕ) (n : ℕ) (bytes : List ℕ) → length (enciphered w before n bytes) ≡ 16 * n
unfolding enciphered cipher added
length-enciphered w before zero bytes = refl
length-enciphered w before (suc n) bytes =
    let block : List ℕ = cipher w (added (take 16 bytes) before) in
    let whole = length-append block (enciphered w block n (drop 16 bytes)) in
    let rest = length-enciphered w block n (drop 16 bytes) in
    let one : length block ≡ 16 = refl in
    omega arith

pub length-deciphered : (w before : List ℕ) (n : ℕ) (bytes : List ℕ) → length (deciphered w before n bytes) ≡ 16 * n
unfolding deciphered added
length-deciphered w before zero bytes = refl
length-deciphered w before (suc n) bytes =
    let block : List ℕ = added (inverse_cipher w (take 16 bytes)) before in
    let whole = length-append block (deciphered w (take 16 bytes) n (drop 16 bytes)) in
    let rest = length-deciphered w (take 16 bytes) n (drop 16 bytes) in
    let one : length block ≡ 16 = refl in
    omega arith

deciphered-enciphered : (w before : List ℕ) (n : ℕ) (bytes : List ℕ) → length bytes ≡ 16 * n
    → IsSmall before → IsSmall bytes → deciphered w before n (enciphered w before n bytes) ≡ bytes
unfolding enciphered deciphered
deciphered-enciphered w before zero bytes len sb small = sym (nil_from_length bytes (omega arith))
deciphered-enciphered w before (suc n) bytes len sb small =
    let first = IsState-first n bytes len small in
    let clear : List ℕ = take 16 bytes in
    let chained = IsState-added clear before first.small sb in
    let block : List ℕ = cipher w (added clear before) in
    let is = IsState-cipher w (added clear before) chained in
    let rest : List ℕ = enciphered w block n (drop 16 bytes) in
    (λ i. added (inverse_cipher w (take_at block rest 16 is.shape i)) before
    ++ deciphered w (take_at block rest 16 is.shape i) n (drop_at block rest 16 is.shape i))
    ∙ (λ i. added (inverse_cipher-cipher w (added clear before) chained i) before
    ++ deciphered-enciphered w block n (drop 16 bytes) (length_rest n bytes len) is.small (drop_small 16 bytes small) i)
    ∙ ap (λ x. x ++ drop 16 bytes) (added-added clear before first.shape)
    ∙ take-append-drop 16 bytes

enciphered-deciphered : (w before : List ℕ) (n : ℕ) (bytes : List ℕ) → length bytes ≡ 16 * n
    → IsSmall before → IsSmall bytes → enciphered w before n (deciphered w before n bytes) ≡ bytes
unfolding enciphered deciphered
enciphered-deciphered w before zero bytes len sb small = sym (nil_from_length bytes (omega arith))
enciphered-deciphered w before (suc n) bytes len sb small =
    let block : List ℕ = take 16 bytes in
    let first = IsState-first n bytes len small in
    let restored = IsState-inverse_cipher w block first in
    let clear : List ℕ = added (inverse_cipher w block) before in
    let is = IsState-added (inverse_cipher w block) before restored.small sb in
    let rest : List ℕ = deciphered w block n (drop 16 bytes) in
    let again : cipher w (added clear before) ≡ block =
    ap (cipher w) (added-added (inverse_cipher w block) before restored.shape) ∙ cipher-inverse_cipher w block first in
    (λ i. cipher w (added (take_at clear rest 16 is.shape i) before)
    ++ enciphered w (cipher w (added (take_at clear rest 16 is.shape i) before)) n (drop_at clear rest 16 is.shape i))
    ∙ (λ i. again i ++ enciphered w (again i) n rest)
    ∙ ap (λ x. block ++ x) (enciphered-deciphered w block n (drop 16 bytes) (length_rest n bytes len) first.small (drop_small 16 bytes small))
    ∙ take-append-drop 16 bytes

pub length-encrypted : (key vector bytes : List ℕ) → length bytes % 16 ≡ 0 → length (encrypted key vector bytes) ≡ length bytes
length-encrypted key vector bytes whole =
    let all = length-enciphered (key_schedule key) vector (length bytes / 16) bytes in omega arith

pub length-decrypted : (key vector bytes : List ℕ) → length bytes % 16 ≡ 0 → length (decrypted key vector bytes) ≡ length bytes
length-decrypted key vector bytes whole =
    let all = length-deciphered (key_schedule key) vector (length bytes / 16) bytes in omega arith

pub decrypted-encrypted : (key vector bytes : List ℕ) → length bytes % 16 ≡ 0 → IsSmall vector → IsSmall bytes
    → decrypted key vector (encrypted key vector bytes) ≡ bytes
decrypted-encrypted key vector bytes whole sv sb =
    let count : length (encrypted key vector bytes) / 16 ≡ length bytes / 16 =
    let same = length-encrypted key vector bytes whole in omega arith in
    ap (λ n. deciphered (key_schedule key) vector n (encrypted key vector bytes)) count
    ∙ deciphered-enciphered (key_schedule key) vector (length bytes / 16) bytes (omega arith) sv sb

pub encrypted-decrypted : (key vector bytes : List ℕ) → length bytes % 16 ≡ 0 → IsSmall vector → IsSmall bytes
    → encrypted key vector (decrypted key vector bytes) ≡ bytes
encrypted-decrypted key vector bytes whole sv sb =
    let count : length (decrypted key vector bytes) / 16 ≡ length bytes / 16 =
    let same = length-decrypted key vector bytes whole in omega arith in
    ap (λ n. enciphered (key_schedule key) vector n (decrypted key vector bytes)) count
    ∙ enciphered-deciphered (key_schedule key) vector (length bytes / 16) bytes (omega arith) sv sb
