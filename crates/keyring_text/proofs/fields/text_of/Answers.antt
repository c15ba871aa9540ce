use Rattle.std.proofs.Common.{refl}
use Rattle.keyring_text.proofs.TextLemmas.{copied, no_text}
use Rattle.keyring_text.proofs.fields.text_of.Goals as goal

pub returns-in-Ok : goal.returns-in-Ok
returns-in-Ok c = copied c.from_str.result c.in-Ok.text.now c.args.bytes.now c.in-Ok.ensures.cases.0 c.in-Ok.ensures.cases.1 c.from_str.ensures.made c.from_str.ensures.zero

pub returns-in-Err : goal.returns-in-Err
returns-in-Err c = rw (no_text c.args.bytes.now (λ t. c.in-Err.ensures.cases.0 t.utf8)) refl
