-- What a pass shows of the calls that were made with it.
use Rattle.std.specs.Prelude.{◌≡◌, ℕ, ◌+◌, length}
use Rattle.shared_turn.specs.Places.{StartsWith}
use Rattle.shared_turn.specs.Shares.{IsFirst}
use Rattle.shared_service.specs.Passes.{Seen}

-- The pass is of the same service, and still its first one, what it has seen begins with what it had seen, and so many more events are its own.
pub record Owns (more : ℕ) (old new : Seen) : Type 0 where
  pub table : new.home.table ≡ old.home.table
  pub first : IsFirst old.home.share → IsFirst new.home.share
  pub seen : StartsWith new.view.seen old.view.seen
  pub own : length new.view.own ≡ length old.view.own + more
