use Rattle.secret_calls.proofs.SecretLemmas.{each_byte}
use Rattle.secret_calls.proofs.secret.are_bytes.Goals as goal

pub returns : goal.returns
returns c = each_byte c.args.bytes.now (λ i. (c.type_inv.bytes i).fits)
