use Rattle.std.proofs.Common.{◌++◌, ◌∙◌}
use Rattle.aes_cbc.specs.Aes.{added, inverse_shift_rows, inverse_sub_bytes}
use Rattle.aes_cbc.proofs.inverse_cipher.last_inverse_round.Goals as goal

-- each column is computed by one call
pub returns : goal.returns
unfolding inverse_shift_rows inverse_sub_bytes
returns c =
    c.sum.ensures ∙ (λ i. added (c.restored.ensures i ++ (c.restored-2.ensures i ++ (c.restored-3.ensures i ++ c.restored-4.ensures i))) (c.key_of_round.ensures i))
