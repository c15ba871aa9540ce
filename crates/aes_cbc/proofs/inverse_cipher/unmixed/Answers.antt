use Rattle.std.proofs.Common.{◌≡◌, ◌/◌, ◌%◌, ◌^◌, ap, ◌∙◌, arith}
use Rattle.aes_cbc.specs.Aes.{inverse_mixing}
use Rattle.aes_cbc.specs.Field.{inverse_sbox}
use Rattle.aes_cbc.proofs.RoundLemmas.{spread_sum}
use Rattle.aes_cbc.proofs.TableFacts.{UNMIXED_FIRST_at, UNMIXED_SECOND_at, UNMIXED_THIRD_at, UNMIXED_FOURTH_at, spread}
use Rattle.aes_cbc.proofs.inverse_cipher.unmixed.Goals as goal

-- the highest byte needs no remainder
pub returns : goal.returns
returns c =
    let top : c.args.a / 2 ^ 24 ≡ c.args.a / 2 ^ 24 % 2 ^ 8 = omega arith in
    spread_sum inverse_mixing _ _ _ _ _ _ _ _
    (UNMIXED_FIRST_at (c.args.a / 2 ^ 24) (omega arith) ∙ ap (λ x. spread inverse_mixing 0 (inverse_sbox x)) top)
    (UNMIXED_SECOND_at (c.args.b / 2 ^ 16 % 2 ^ 8) (omega arith))
    (UNMIXED_THIRD_at (c.args.c / 2 ^ 8 % 2 ^ 8) (omega arith))
    (UNMIXED_FOURTH_at (c.args.d % 2 ^ 8) (omega arith))
