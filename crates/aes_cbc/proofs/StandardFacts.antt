-- The standard's own examples, computed from the definitions, so that a definition with a slip doesn't check.
use Rattle.std.proofs.Common.{◌≡◌, ℕ, ◌<◌, List, [], ◌∷◌, refl, nat_eq, slice_index, if◌then◌else◌}
use Rattle.aes_cbc.specs.Field.{terms, remainder, product, inverse_below, inverse, affine, sbox}
use Rattle.aes_cbc.specs.Aes.{added, cipher, key_schedule, mix_columns, next_word, power_of_x, rounds, shift_rows, sub_bytes, words_through}
use Rattle.aes_cbc.proofs.Computing.{each_below}

-- {57} times {83} (FIPS 197, 4.2)
product_example : product 0x57 0x83 ≡ 0xc1
unfolding terms remainder product
product_example = refl

-- each byte except 0 has an inverse, and 0 is taken to 0 (4.4, 5.1.1)
inverse_found : (b : ℕ) → b < 256 → product b (inverse b) ≡ (if nat_eq b 0 then 0 else 1)
unfolding terms remainder product inverse_below inverse
inverse_found = each_below 256 (λ b. product b (inverse b)) (λ b. if nat_eq b 0 then 0 else 1) refl

-- {53} through the S-box (5.1.1)
sbox_example : sbox 0x53 ≡ 0xed
unfolding terms remainder product inverse_below inverse affine sbox
sbox_example = refl

example_key : List ℕ
example_key = 0x2b ∷ 0x7e ∷ 0x15 ∷ 0x16 ∷ 0x28 ∷ 0xae ∷ 0xd2 ∷ 0xa6 ∷ 0xab ∷ 0xf7 ∷ 0x15 ∷ 0x88 ∷ 0x09 ∷ 0xcf ∷ 0x4f ∷ 0x3c ∷ []

-- the last word of the expanded example key (appendix A.1)
key_schedule_example : slice_index (key_schedule example_key) 43 ≡ 0xb6630ca6
unfolding terms remainder product inverse_below inverse affine sbox power_of_x next_word words_through example_key
key_schedule_example = refl

-- the example of the cipher (appendix B)
cipher_example : cipher (key_schedule example_key)
    (0x32 ∷ 0x43 ∷ 0xf6 ∷ 0xa8 ∷ 0x88 ∷ 0x5a ∷ 0x30 ∷ 0x8d ∷ 0x31 ∷ 0x31 ∷ 0x98 ∷ 0xa2 ∷ 0xe0 ∷ 0x37 ∷ 0x07 ∷ 0x34 ∷ []) ≡
    0x39 ∷ 0x25 ∷ 0x84 ∷ 0x1d ∷ 0x02 ∷ 0xdc ∷ 0x09 ∷ 0xfb ∷ 0xdc ∷ 0x11 ∷ 0x85 ∷ 0x97 ∷ 0x19 ∷ 0x6a ∷ 0x0b ∷ 0x32 ∷ []
unfolding terms remainder product inverse_below inverse affine sbox power_of_x next_word words_through example_key sub_bytes shift_rows mix_columns added rounds cipher
cipher_example = refl
