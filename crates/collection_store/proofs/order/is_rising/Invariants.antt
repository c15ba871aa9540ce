use Rattle.std.proofs.Common.{drop}
use Rattle.keyring_seal.proofs.RisingLemmas.{IsRising}
use Rattle.collection_store.proofs.order.is_rising.Given as goal

abbrev pub invariant-loop-i : goal.invariant-loop-i
invariant-loop-i g l = IsRising g.T.Numbered.number_of (drop l.i l.these) → IsRising g.T.Numbered.number_of l.these
