-- The passes of a service that threads share, gathered into one.
use Rattle.std.specs.Prelude.{◌≡◌, ℕ, List, [], ◌∷◌, ◌++◌}
use Rattle.std.specs.List.{AllByRecursion, flat_map}
use Rattle.std.specs.List.Sorted.{IsPermutation}
use Rattle.shared_service.specs.shared_turn.specs.declared.share.Share.{Share}
use Rattle.shared_service.specs.shared_turn.specs.Places.{StartsWith}
use Rattle.shared_service.specs.shared_turn.specs.Shares.{together}
use Rattle.shared_service.specs.Passes.{Seen}

-- both passes are of one run of one service, and what the first one has seen is a beginning of what the second one has
pub record IsBeginning (pass last : Seen) : Type 0 where
  pub table : last.home.table ≡ pass.home.table
  pub steady : last.steady ≡ pass.steady
  pub start : last.view.start ≡ pass.view.start
  pub before : last.view.before ≡ pass.view.before
  pub begins : StartsWith last.view.seen pass.view.seen

-- the own places of these passes
abbrev pub all_own : List Seen → List ℕ
all_own passes = flat_map (λ (pass : Seen). pass.view.own) passes

-- this share, and then those of these passes
abbrev pub all_together : Share → List Seen → Share
all_together share [] = share
all_together share (pass ∷ passes) = together (all_together share passes) pass.home.share

-- A pass took over all that these passes had seen and recorded: its own places are those that it had and those of each of them, in some order.
-- It stands for all of them.
pub record AreGathered (old : Seen) (passes : List Seen) (new : Seen) : Type 0 where
  pub began : IsBeginning old new
  pub all : AllByRecursion (λ pass. IsBeginning pass new) passes
  pub own : IsPermutation (old.view.own ++ all_own passes) new.view.own
  pub share : new.home.share ≡ all_together old.home.share passes
