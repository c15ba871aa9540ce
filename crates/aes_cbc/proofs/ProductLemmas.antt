-- The product of bytes is linear in its second factor, and is a byte.
use Rattle.std.proofs.Common.{◌≡◌, ℕ, zero, suc, ◌+◌, ◌-◌, ◌*◌, ◌/◌, ◌%◌, ◌^◌, ◌<◌, ◌≤◌, bit_xor, refl, ap, ◌∙◌, sym, arith, add-zero, zero-mul, mod-lt, pow_pos, pow-add}
use Rattle.std.proofs.Math.Nat.{le-mul_of_pos_right}
use Rattle.std.proofs.lemmas.Nat.{shl_below, shr_below, shr_split, xor_block, xor_comm, xor_lt}
use Rattle.std.proofs.lemmas.Nat.Bits.{bit_at_xor, bit_at-lt}
use Rattle.std.specs.Int.{bit_at}
use Rattle.std.specs.Int.Bits.{xor_assoc, xor_self, xor_zero_r}
use Rattle.aes_cbc.specs.Field.{terms, remainder, product}

pub xor_swap : (a b c d : ℕ)
    → bit_xor (bit_xor a b) (bit_xor c d) ≡ bit_xor (bit_xor a c) (bit_xor b d)
xor_swap a b c d =
    xor_assoc a b (bit_xor c d)
    ∙ ap (bit_xor a) (sym (xor_assoc b c d) ∙ ap (λ x. bit_xor x d) (xor_comm b c) ∙ xor_assoc c b d)
    ∙ sym (xor_assoc a c (bit_xor b d))

-- four sums of two terms, added
pub xor_four : (a b c d w x y z : ℕ)
    → bit_xor (bit_xor (bit_xor a w) (bit_xor b x)) (bit_xor (bit_xor c y) (bit_xor d z))
    ≡ bit_xor (bit_xor (bit_xor a b) (bit_xor c d)) (bit_xor (bit_xor w x) (bit_xor y z))
xor_four a b c d w x y z =
    (λ i. bit_xor (xor_swap a w b x i) (xor_swap c y d z i))
    ∙ xor_swap (bit_xor a b) (bit_xor w x) (bit_xor c d) (bit_xor y z)

-- a term that is added twice cancels
pub xor_twice : (a b : ℕ) → bit_xor (bit_xor a b) b ≡ a
xor_twice a b = xor_assoc a b b ∙ ap (bit_xor a) (xor_self b) ∙ xor_zero_r a

bit_times : (p x y : ℕ) → p < 2 → p * bit_xor x y ≡ bit_xor (p * x) (p * y)
bit_times zero x y lt = rw (zero-mul (bit_xor x y), zero-mul x, zero-mul y) refl
bit_times (suc zero) x y lt =
    let one : (z : ℕ) → suc zero * z ≡ z = λ z. omega arith in
    one (bit_xor x y) ∙ (λ i. bit_xor (sym (one x) i) (sym (one y) i))
bit_times (suc (suc p)) x y lt = absurd (omega arith)

times_bits : (p q m : ℕ) → p < 2 → q < 2 → (p + q) % 2 * m ≡ bit_xor (p * m) (q * m)
times_bits zero zero m lp lq = rw (zero-mul m) refl
times_bits zero (suc zero) m lp lq = rw (zero-mul m) refl
times_bits (suc zero) zero m lp lq = rw (zero-mul m) (sym (xor_zero_r (1 * m)))
times_bits (suc zero) (suc zero) m lp lq = zero-mul m ∙ sym (xor_self (1 * m))
times_bits (suc (suc p)) q m lp lq = absurd (omega arith)
times_bits p (suc (suc q)) m lp lq = absurd (omega arith)

shifted-xor : (a b k : ℕ) → bit_xor a b * 2 ^ k ≡ bit_xor (a * 2 ^ k) (b * 2 ^ k)
shifted-xor a b k =
    sym (add-zero _) ∙ sym (xor_block k a b 0 0 (pow_pos k) (pow_pos k))
    ∙ (λ i. bit_xor (add-zero (a * 2 ^ k) i) (add-zero (b * 2 ^ k) i))

terms-xor : (n c a b : ℕ) → terms n c (bit_xor a b) ≡ bit_xor (terms n c a) (terms n c b)
unfolding terms
terms-xor zero c a b = refl
terms-xor (suc n) c a b =
    (λ i. bit_xor (terms-xor n c a b i) (bit_at c n * shifted-xor a b n i))
    ∙ ap (bit_xor (bit_xor (terms n c a) (terms n c b))) (bit_times (bit_at c n) (a * 2 ^ n) (b * 2 ^ n) (bit_at-lt c n))
    ∙ xor_swap (terms n c a) (terms n c b) (bit_at c n * (a * 2 ^ n)) (bit_at c n * (b * 2 ^ n))

remainder-xor : (n p q : ℕ) → remainder n (bit_xor p q) ≡ bit_xor (remainder n p) (remainder n q)
unfolding remainder
remainder-xor zero p q = refl
remainder-xor (suc n) p q =
    let m : ℕ = 0x11b * 2 ^ n in
    let a : ℕ = bit_at p (8 + n) in
    let b : ℕ = bit_at q (8 + n) in
    ap (λ x. remainder n (bit_xor (bit_xor p q) (x * m))) (bit_at_xor p q (8 + n))
    ∙ ap (λ x. remainder n (bit_xor (bit_xor p q) x)) (times_bits a b m (bit_at-lt p (8 + n)) (bit_at-lt q (8 + n)))
    ∙ ap (remainder n) (xor_swap p q (a * m) (b * m))
    ∙ remainder-xor n (bit_xor p (a * m)) (bit_xor q (b * m))

pub product-xor : (c a b : ℕ) → product c (bit_xor a b) ≡ bit_xor (product c a) (product c b)
unfolding product
product-xor c a b =
    ap (remainder 7) (terms-xor 8 c a b) ∙ remainder-xor 7 (terms 8 c a) (terms 8 c b)

bit_times_small : (p x m : ℕ) → p < 2 → x < m → p * x < m
bit_times_small zero x m lp lx = omega (arith, zero-mul x)
bit_times_small (suc zero) x m lp lx = omega arith
bit_times_small (suc (suc p)) x m lp lx = absurd (omega arith)

shifted_small : (b n : ℕ) → b < 256 → n < 8 → b * 2 ^ n < 2 ^ 15
shifted_small b n lb ln =
    let wide : b * 2 ^ n < 2 ^ (8 + n) = shl_below b 8 n lb in
    let sum : 15 ≡ 8 + n + (7 - n) = omega arith in
    let split : 2 ^ 15 ≡ 2 ^ (8 + n) * 2 ^ (7 - n) = ap (λ k. 2 ^ k) sum ∙ pow-add 2 (8 + n) (7 - n) in
    let more = le-mul_of_pos_right (2 ^ (8 + n)) (pow_pos (7 - n)) in
    omega arith

terms_small : (n c b : ℕ) → b < 256 → n ≤ 8 → terms n c b < 2 ^ 15
unfolding terms
terms_small zero c b lb le = omega arith
terms_small (suc n) c b lb le =
    xor_lt 15 (terms n c b) (bit_at c n * (b * 2 ^ n)) (terms_small n c b lb (omega arith))
    (bit_times_small (bit_at c n) (b * 2 ^ n) (2 ^ 15) (bit_at-lt c n) (shifted_small b n lb (omega arith)))

-- subtracting 2 ^ k and some lower powers, if 2 ^ k is there, leaves no 2 ^ k
reduced_by : (p k m h : ℕ) → h ≡ p / 2 ^ k → h < 2 → m < 2 ^ k
    → bit_xor p (h % 2 * (2 ^ k + m)) < 2 ^ k
reduced_by p k m zero is lt lm =
    let split = shr_split p k in
    let low : p % 2 ^ k < 2 ^ k = mod-lt p (pow_pos k) in
    let none : p / 2 ^ k * 2 ^ k ≡ 0 = ap (λ x. x * 2 ^ k) (sym is) ∙ zero-mul (2 ^ k) in
    rw (zero-mul (2 ^ k + m), xor_zero_r p) (omega arith)
reduced_by p k m (suc zero) is lt lm =
    let low : p % 2 ^ k < 2 ^ k = mod-lt p (pow_pos k) in
    let parts : p ≡ 1 * 2 ^ k + p % 2 ^ k = sym (shr_split p k) ∙ ap (λ x. x * 2 ^ k + p % 2 ^ k) (sym is) in
    let taken : 1 * (2 ^ k + m) ≡ 1 * 2 ^ k + m = omega arith in
    let left : bit_xor p (1 * (2 ^ k + m)) ≡ 0 * 2 ^ k + bit_xor (p % 2 ^ k) m =
    (λ i. bit_xor (parts i) (taken i)) ∙ xor_block k 1 1 (p % 2 ^ k) m low lm in
    let below = xor_lt k (p % 2 ^ k) m low lm in
    rw left (omega arith)
reduced_by p k m (suc (suc h)) is lt lm = absurd (omega arith)

remainder_small : (n p : ℕ) → p < 2 ^ (8 + n) → remainder n p < 256
unfolding remainder
remainder_small zero p lt = lt
remainder_small (suc n) p lt =
    let k : ℕ = 8 + n in
    let wide : p < 2 ^ (1 + k) = let e : 8 + suc n ≡ 1 + k = omega arith in rw (← e) lt in
    let tail : 0x1b * 2 ^ n < 2 ^ k = shl_below 0x1b 8 n (omega arith) in
    let head : 0x11b * 2 ^ n ≡ 2 ^ k + 0x1b * 2 ^ n = let e = pow-add 2 8 n in omega arith in
    let high : p / 2 ^ k < 2 = shr_below p 1 k wide in
    let below = reduced_by p k (0x1b * 2 ^ n) (p / 2 ^ k) refl high tail in
    remainder_small n (bit_xor p (bit_at p k * (0x11b * 2 ^ n))) (rw head below)

-- a product with a byte is a byte
pub product_small : (c b : ℕ) → b < 256 → product c b < 256
unfolding product
product_small c b lt = remainder_small 7 (terms 8 c b) (terms_small 8 c b lt (omega arith))
