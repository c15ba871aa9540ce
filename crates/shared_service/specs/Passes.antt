-- What a pass is: the service that it belongs to, and its view of that service's history.
use Rattle.std.specs.Prelude.{◌≡◌, ◌<◌, ℕ, Bool, true, false, [], length, Option, Some, None}
use Rattle.atomic_table.specs.Seated.{TableId}
use Rattle.kr_base.specs.declared.ids.ConnId.{ConnId}
use Rattle.service_desk.specs.service_tables.specs.State.{State}
use Rattle.service_desk.specs.service_events.specs.declared.event.Event.{Event}
use Rattle.service_desk.specs.service_tables.specs.Opened.{opened_state}
use Rattle.service_desk.specs.service_events.specs.Replay.{Legal}
use Rattle.service_history.specs.Windows.{Window}
use Rattle.service_desk.specs.Views.{View, ArePlaces, state_of, count_of, HasCause}
use Rattle.service_desk.specs.Places.{Home, Told, Place, Looks}
use Rattle.service_desk.specs.service_events.specs.declared.event.JoinRefused.{JoinRefused}
use Rattle.service_desk.specs.service_events.specs.declared.event.JoinRefused.TheVariants as join
use Rattle.service_desk.specs.service_events.specs.Step.{CanJoin}
use Rattle.service_desk.specs.service_tables.specs.Limits.{most_events}
use Rattle.shared_turn.specs.Passes as turn
use Rattle.shared_turn.specs.Places.{StartsWith, all_places, longer, merged}
use Rattle.shared_turn.specs.Shares.{whole, one, without, together}
use Rattle.shared_service.specs.Standing.{Start}

-- a pass, as contracts see it: the service that it belongs to and which of its passes it stands for, whether the disk of the service is steady,
-- and its view
pub record Seen : Type 0 where
  pub home : Home
  pub steady : Bool
  pub view : View

-- the start, if there is one; a service without anything stands for none
abbrev pub start_or : Option Start → State
start_or None = opened_state (record { collections = []; aliases = None; used = [] })
start_or (Some start) = start.state

-- whether the disk is steady, if there is a start
abbrev pub steady_or : Option Start → Bool
steady_or None = false
steady_or (Some start) = start.steady

-- the view of a turn's pass
abbrev pub view_of : turn.View Start Event → View
view_of pass = record { start = start_or pass.start; before = pass.before; seen = pass.seen; own = pass.own }

-- the service that it belongs to, and which of its passes it stands for
abbrev pub home_of : turn.View Start Event → Home
home_of pass = record { table = pass.table; share = pass.share }

-- all of that
abbrev pub seen_of : turn.View Start Event → Seen
seen_of pass = record { home = home_of pass; steady = steady_or pass.start; view = view_of pass }

-- What is true of a pass between two calls: it doesn't have the turn, what it has seen is legal from its start, and its own places are
-- among that.
pub record IsIdle (pass : turn.View Start Event) : Type 0 where
  pub start : (start : Start) × (pass.start ≡ Some start)
  pub outside : pass.has_turn ≡ false
  pub legal : Legal (start_or pass.start) pass.seen
  pub places : ArePlaces 0 (length pass.seen) pass.own

-- the only pass of a service: it has seen the stored events, and all of them are its own
abbrev pub opened : TableId → Bool → Window → Seen
opened table steady window = record {
  home = record { table = table; share = whole };
  steady = steady;
  view = record { start = window.base; before = window.era; seen = window.events; own = all_places (length window.events) };
}

-- a pass that has seen the same, and recorded nothing
abbrev pub noted : Seen → Seen
noted pass = record pass { home = record pass.home { share = one }; view = record pass.view { own = [] } }

-- what is left of a service's passes after this many were noted
abbrev pub left_by : ℕ → Home → Home
left_by number home = record home { share = without number home.share }

-- a pass that this many were noted from
abbrev pub giving : ℕ → Seen → Seen
giving number pass = record pass { home = left_by number pass.home }

-- What is known of a desk on this shared service, given whether the disk of that is steady, and its view: others record events too, and a
-- call of `take` waits.
abbrev pub told : ConnId → Home → Bool → View → Told
told conn home steady view = record { conn = conn; home = Some home; state = state_of view; count = count_of view; is_alone = false; is_steady = steady; is_waiting = true }

-- where such a desk is; what it has seen is exactly its view
abbrev pub spot : ConnId → Home → Bool → View → Place
spot conn home steady view = record { told = told conn home steady view; has_seen = λ other. other ≡ view }

-- events can be counted that weren't recorded yet, and a further connection can join
abbrev pub HasPlace : View → Type 0
HasPlace view = (count_of view < most_events) × CanJoin (state_of view)

-- Why no connection could join, according to the state that the pass has seen by then; nothing was recorded. Memory ran out only if one could
-- have joined.
abbrev pub IsRefused : Home → Bool → JoinRefused → View → View → Type 0
IsRefused home steady refused old new =
    ((conn : ConnId) → Looks (spot conn home steady old) (spot conn home steady new)) × HasCause refused new × (refused ≡ join.OutOfMemory → HasPlace new)

-- Both belong to one run. The pass also knows what the other one did: it has seen the longer of the two histories, of which each had seen a
-- beginning, the places of both are its own, each once, and it stands for both.
pub record IsGathered (old other new : Seen) : Type 0 where
  pub start : old.view.start ≡ other.view.start
  pub steady : old.steady ≡ other.steady
  pub before : old.view.before ≡ other.view.before
  pub is : new ≡ record old {
    home = record old.home { share = together old.home.share other.home.share };
    view = record old.view { seen = longer old.view.seen other.view.seen; own = merged old.view.own other.view.own };
  }
  pub starts : StartsWith new.view.seen old.view.seen
  pub starts_other : StartsWith new.view.seen other.view.seen
  pub places : ArePlaces 0 (length new.view.seen) new.view.own
