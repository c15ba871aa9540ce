-- FIPS 197, sections 4 and 5.1.1: bytes as polynomials over GF(2), and the S-box made of them. A
-- number stands for the polynomial whose coefficient of x^i is its bit i, so the sum of two
-- polynomials is `bit_xor` (4.1).
use Rattle.std.specs.Prelude.{ℕ, zero, suc, ◌+◌, ◌*◌, ◌%◌, ◌^◌, true, false, nat_eq, bit_xor}
use Rattle.std.specs.Int.{bit_at}

-- the sum of b x^i over each i below n for which a has x^i: a times b, if a has no power from x^n on
unfoldable pub terms : ℕ → ℕ → ℕ → ℕ
terms zero a b = 0
terms (suc n) a b = bit_xor (terms n a b) (bit_at a n * (b * 2 ^ n))

-- what is left of p modulo x^8 + x^4 + x^3 + x + 1, if p has no power from x^(8 + n) on: from the highest power
-- down, the modulus is subtracted if p has that power
unfoldable pub remainder : ℕ → ℕ → ℕ
remainder zero p = p
remainder (suc n) p = remainder n (bit_xor p (bit_at p (8 + n) * (0x11b * 2 ^ n)))

-- the product of two bytes (4.2)
unfoldable pub product : ℕ → ℕ → ℕ
product a b = remainder 7 (terms 8 a b)

-- the greatest number below n whose product with b is 1, or 0 if there is none
unfoldable pub inverse_below : ℕ → ℕ → ℕ
inverse_below zero b = 0
inverse_below (suc n) b = elim (nat_eq (product b n) 1) [ true ↦ n | false ↦ inverse_below n b ]

-- the multiplicative inverse of a byte, and 0 for 0 (4.4, 5.1.1)
unfoldable pub inverse : ℕ → ℕ
inverse b = inverse_below 256 b

-- bit i of the affine map of b (5.1.1)
abbrev pub affine_bit : ℕ → ℕ → ℕ
affine_bit b i = (bit_at b i + bit_at b ((i + 4) % 8) + bit_at b ((i + 5) % 8)
    + bit_at b ((i + 6) % 8) + bit_at b ((i + 7) % 8) + bit_at 0x63 i) % 2

-- the lowest n bits of the affine map of b
unfoldable pub affine : ℕ → ℕ → ℕ
affine zero b = 0
affine (suc n) b = affine n b + affine_bit b n * 2 ^ n

-- SBOX: the affine map of the inverse (5.1.1)
unfoldable pub sbox : ℕ → ℕ
sbox b = affine 8 (inverse b)

-- the greatest number below n that the S-box takes to y, or 0 if there is none
unfoldable pub taken_below : ℕ → ℕ → ℕ
taken_below zero y = 0
taken_below (suc n) y = elim (nat_eq (sbox n) y) [ true ↦ n | false ↦ taken_below n y ]

-- INVSBOX: the byte that the S-box takes to y (5.3.2)
unfoldable pub inverse_sbox : ℕ → ℕ
inverse_sbox y = taken_below 256 y
