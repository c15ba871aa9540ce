use Rattle.std.proofs.Common.{◌++◌, ◌∙◌}
use Rattle.aes_cbc.specs.Aes.{added, inverse_mix_columns, inverse_shift_rows, inverse_sub_bytes}
use Rattle.aes_cbc.proofs.inverse_cipher.inverse_round.Goals as goal

-- each column is computed by one call
pub returns : goal.returns
unfolding inverse_mix_columns inverse_shift_rows inverse_sub_bytes
returns c =
    c.sum.ensures ∙ (λ i. added (c.unmixed.ensures i ++ (c.unmixed-2.ensures i ++ (c.unmixed-3.ensures i ++ c.unmixed-4.ensures i))) (c.key_of_round.ensures i))
