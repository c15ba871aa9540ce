use Rattle.std.proofs.Common.{◌≡◌, ℕ, ◌/◌, ◌%◌, ◌^◌, [], ◌∷◌, ap, ◌∙◌, arith, w32}
use Rattle.std.specs.Int.{to_be_bytes}
use Rattle.aes_cbc.specs.Field.{sbox}
use Rattle.aes_cbc.proofs.WordLemmas.{SBOX_word}
use Rattle.aes_cbc.proofs.cipher.substituted.Goals as goal

-- the highest byte needs no remainder
pub returns : goal.returns
returns c =
    let b : ℕ = c.args.b / 2 ^ 16 % 2 ^ 8 in
    let d : ℕ = c.args.d % 2 ^ 8 in
    let top : c.args.a / 2 ^ 24 ≡ c.args.a / 2 ^ 24 % 2 ^ 8 = omega arith in
    ap (to_be_bytes w32) c.from_be_bytes.ensures
    ∙ SBOX_word (c.args.a / 2 ^ 24) b (c.args.c / 2 ^ 8 % 2 ^ 8) d (omega arith) (omega arith) (omega arith) (omega arith)
    ∙ ap (λ x. sbox x ∷ sbox b ∷ sbox (c.args.c / 2 ^ 8 % 2 ^ 8) ∷ sbox d ∷ []) top
