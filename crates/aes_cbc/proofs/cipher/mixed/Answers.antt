use Rattle.std.proofs.Common.{◌≡◌, ◌/◌, ◌%◌, ◌^◌, ap, ◌∙◌, arith}
use Rattle.aes_cbc.specs.Aes.{mixing}
use Rattle.aes_cbc.specs.Field.{sbox}
use Rattle.aes_cbc.proofs.RoundLemmas.{spread_sum}
use Rattle.aes_cbc.proofs.TableFacts.{MIXED_FIRST_at, MIXED_SECOND_at, MIXED_THIRD_at, MIXED_FOURTH_at, spread}
use Rattle.aes_cbc.proofs.cipher.mixed.Goals as goal

-- the highest byte needs no remainder
pub returns : goal.returns
returns c =
    let top : c.args.a / 2 ^ 24 ≡ c.args.a / 2 ^ 24 % 2 ^ 8 = omega arith in
    spread_sum mixing _ _ _ _ _ _ _ _
    (MIXED_FIRST_at (c.args.a / 2 ^ 24) (omega arith) ∙ ap (λ x. spread mixing 0 (sbox x)) top)
    (MIXED_SECOND_at (c.args.b / 2 ^ 16 % 2 ^ 8) (omega arith))
    (MIXED_THIRD_at (c.args.c / 2 ^ 8 % 2 ^ 8) (omega arith))
    (MIXED_FOURTH_at (c.args.d % 2 ^ 8) (omega arith))
