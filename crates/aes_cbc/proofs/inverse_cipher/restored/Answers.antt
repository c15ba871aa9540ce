use Rattle.std.proofs.Common.{◌≡◌, ℕ, ◌/◌, ◌%◌, ◌^◌, [], ◌∷◌, ap, ◌∙◌, arith, w32}
use Rattle.std.specs.Int.{to_be_bytes}
use Rattle.aes_cbc.specs.Field.{inverse_sbox}
use Rattle.aes_cbc.proofs.WordLemmas.{INVERSE_SBOX_word}
use Rattle.aes_cbc.proofs.inverse_cipher.restored.Goals as goal

-- the highest byte needs no remainder
pub returns : goal.returns
returns c =
    let b : ℕ = c.args.b / 2 ^ 16 % 2 ^ 8 in
    let d : ℕ = c.args.d % 2 ^ 8 in
    let top : c.args.a / 2 ^ 24 ≡ c.args.a / 2 ^ 24 % 2 ^ 8 = omega arith in
    ap (to_be_bytes w32) c.from_be_bytes.ensures
    ∙ INVERSE_SBOX_word (c.args.a / 2 ^ 24) b (c.args.c / 2 ^ 8 % 2 ^ 8) d (omega arith) (omega arith) (omega arith) (omega arith)
    ∙ ap (λ x. inverse_sbox x ∷ inverse_sbox b ∷ inverse_sbox (c.args.c / 2 ^ 8 % 2 ^ 8) ∷ inverse_sbox d ∷ []) top
