use Rattle.std.proofs.Common.{refl, arith}
use Rattle.shared_service.proofs.shared.SharedService.open.Goals as goal

-- the history begins at the base, and its events are the stored ones
pub open-requires-clause-stands : goal.open-requires-clause-stands
open-requires-clause-stands g c = record {
  history = record {
    kept = c.total-count.ensures.history;
    legal = c.total-count.ensures.history.legal;
    cut = 0;
    few = omega arith;
    era = omega arith;
    base = refl;
    events = refl;
  };
  steady = refl;
  watched = λ due. rw c.in_ok-sleepers.ensures tt;
}
