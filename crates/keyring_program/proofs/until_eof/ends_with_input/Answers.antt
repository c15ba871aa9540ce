use Rattle.keyring_program.proofs.CommandLemmas.{until_eof}
use Rattle.keyring_program.proofs.until_eof.ends_with_input.Goals as goal

pub returns-in-Ok-Some-clause-ends : goal.returns-in-Ok-Some-clause-ends
returns-in-Ok-Some-clause-ends c = rw c.has_until_eof.ensures (until_eof c.args.words.now c.in-Ok-Some.line (rw c.in-Ok-Some.field-0-is at c.in-Ok-Some.ensures.read))

pub returns-in-Ok-None-clause-ends : goal.returns-in-Ok-None-clause-ends
returns-in-Ok-None-clause-ends c = (λ no. absurd (let never : ⊥ = cc in never), λ has. absurd ((rw c.in-Ok-None.field-0-is at c.in-Ok-None.ensures.read) has.0 has.1))
