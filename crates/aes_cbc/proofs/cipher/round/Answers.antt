use Rattle.std.proofs.Common.{◌++◌, ◌∙◌}
use Rattle.aes_cbc.specs.Aes.{added, mix_columns, shift_rows, sub_bytes}
use Rattle.aes_cbc.proofs.cipher.round.Goals as goal

-- each column is computed by one call
pub returns : goal.returns
unfolding mix_columns shift_rows sub_bytes
returns c =
    c.sum.ensures ∙ (λ i. added (c.mixed.ensures i ++ (c.mixed-2.ensures i ++ (c.mixed-3.ensures i ++ c.mixed-4.ensures i))) (c.key_of_round.ensures i))
