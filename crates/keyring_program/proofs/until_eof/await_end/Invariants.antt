use Rattle.std.proofs.Common.{◌≡◌, IsFalse}
use Rattle.keyring_program.proofs.until_eof.await_end.Given as goal

-- the input is open, and hasn't failed
abbrev pub invariant-loop : goal.invariant-loop
invariant-loop g l = IsFalse (g.I.Source.is_closed l.input) × (g.I.Source.faults l.input ≡ g.I.Source.faults l.initial.input)
