use Rattle.std.proofs.Common.{◌++◌, ◌∙◌}
use Rattle.aes_cbc.specs.Aes.{added, shift_rows, sub_bytes}
use Rattle.aes_cbc.proofs.cipher.last_round.Goals as goal

-- each column is computed by one call
pub returns : goal.returns
unfolding shift_rows sub_bytes
returns c =
    c.sum.ensures ∙ (λ i. added (c.substituted.ensures i ++ (c.substituted-2.ensures i ++ (c.substituted-3.ensures i ++ c.substituted-4.ensures i))) (c.key_of_round.ensures i))
