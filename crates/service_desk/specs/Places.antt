-- Where a desk is in the service's history, and how one of its calls continues from there.
use Rattle.std.specs.Prelude.{◌≡◌, ℕ, ◌+◌, Bool, IsTrue, List, [], length, Option}
use Rattle.atomic_table.specs.Seated.{TableId}
use Rattle.shared_turn.specs.declared.share.Share.{Share}
use Rattle.kr_base.specs.declared.ids.ConnId.{ConnId}
use Rattle.service_events.specs.service_tables.specs.State.{State}
use Rattle.service_events.specs.declared.event.Event.{Event}
use Rattle.service_events.specs.declared.event.Output.{Output}
use Rattle.service_events.specs.Fates.{IsFaultless}
use Rattle.service_events.specs.Step.{step, output_of, Fits}
use Rattle.service_events.specs.Replay.{replay, Legal}
use Rattle.service_desk.specs.Views.{View, with_others, with_own}

-- a service that threads share, and which passes of it a desk stands for
pub record Home : Type 0 where
  pub table : TableId
  pub share : Share

-- what is known of a desk, and of the service as far as the desk has seen it
pub record Told : Type 0 where
  -- the connection that the desk belongs to
  pub conn : ConnId
  -- the service that threads share and the desk belongs to, and its passes; None for a service of one thread
  pub home : Option Home
  -- the service's state
  pub state : State
  -- the number of events of the run up to that state
  pub count : ℕ
  -- no events enter the history except those of its own calls
  pub is_alone : Bool
  -- no event that one of its calls records contains a fault of a device
  pub is_steady : Bool
  -- a call of `take` waits until there is something to return
  pub is_waiting : Bool

-- where a desk is: what is known of it, and the views of the history that it may have
pub record Place : Type 1 where
  pub told : Told
  pub has_seen : View → Type 0

-- the place of a desk, given what its type says of it
abbrev pub place : {D : Type 0} → (D → Told) → (D → View → Type 0) → D → Place
place told has_seen desk = record { told = told desk; has_seen = has_seen desk }

-- the desk is the same one, of the same service, with the same passes, and behaves as before
pub record IsSame (old new : Told) : Type 0 where
  pub conn : new.conn ≡ old.conn
  pub home : new.home ≡ old.home
  pub alone : new.is_alone ≡ old.is_alone
  pub steady : new.is_steady ≡ old.is_steady
  pub waiting : new.is_waiting ≡ old.is_waiting

-- The desk saw events of others, and recorded none of its own.
pub record Looks (old new : Place) : Type 0 where
  pub between : List Event
  pub alone : IsTrue old.told.is_alone → between ≡ []
  pub legal : Legal old.told.state between
  pub state : new.told.state ≡ replay old.told.state between
  pub count : new.told.count ≡ old.told.count + length between
  pub same : IsSame old.told new.told
  pub views : (view : View) → old.has_seen view → new.has_seen (with_others between view)

-- The desk saw events of others, and after them recorded this event of its own, whose answer is that of the step from
-- the state at that place.
pub record Extends (old new : Place) (event : Event) (answer : Output) : Type 0 where
  pub between : List Event
  pub alone : IsTrue old.told.is_alone → between ≡ []
  pub legal : Legal old.told.state between
  pub at : State
  pub reached : at ≡ replay old.told.state between
  pub fits : Fits at event
  pub faultless : IsTrue old.told.is_steady → IsFaultless event
  pub answers : answer ≡ output_of at event
  pub state : new.told.state ≡ step at event
  pub count : new.told.count ≡ old.told.count + length between + 1
  pub same : IsSame old.told new.told
  pub views : (view : View) → old.has_seen view → new.has_seen (with_own event (with_others between view))
