-- Which passes of a service a hub and its desks have.
use Rattle.std.specs.Prelude.{◌≡◌, ℕ}
use mathlib.Core.HLevel.{Unit-prop}
use Rattle.shared_service.specs.service_desk.specs.Places.{Home}
use Rattle.shared_service.specs.shared_turn.specs.declared.share.Share.{Share}
use Rattle.shared_service.specs.shared_turn.specs.declared.share.Share.TheVariants as share
use Rattle.shared_service.specs.shared_turn.specs.Shares.{one, IsFirst}

-- a desk of a connection has one pass, a noted one
abbrev pub of_desk : Home → Home
of_desk home = record home { share = one }

-- the number of passes that were noted and not gathered
abbrev pub missing_in : Share → ℕ
missing_in (share.AllBut missing) = missing
missing_in (share.Only some) = 0

-- that a hub has the first pass has at most one proof
pub first-prop : (s : Share) → IsProp (IsFirst s)
first-prop (share.AllBut missing) = Unit-prop
first-prop (share.Only some) = λ one other. absurd one
