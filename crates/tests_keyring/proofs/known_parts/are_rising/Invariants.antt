use Rattle.std.proofs.Common.{drop}
use Rattle.keyring_seal.proofs.RisingLemmas.{IsRising}
use Rattle.tests_keyring.proofs.known_parts.are_rising.Given as goal

abbrev pub invariant-loop-i : goal.invariant-loop-i
invariant-loop-i l = IsRising (λ item. item.id.0) (drop l.i l.items) → IsRising (λ item. item.id.0) l.items
