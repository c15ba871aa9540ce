-- What one call does with the turn, given the service as it was found.
use Rattle.std.specs.Prelude.{◌≡◌, List, ◌++◌, length}
use Rattle.kr_base.specs.declared.ids.ConnId.{ConnId}
use Rattle.service_desk.specs.secret_calls.specs.declared.taken.Taken.{Taken}
use Rattle.service_desk.specs.secret_calls.specs.declared.taken.Taken.TheVariants as taken
use Rattle.service_desk.specs.service_events.specs.declared.event.Event.{Event}
use Rattle.service_desk.specs.service_events.specs.declared.event.Event.TheVariants as event
use Rattle.service_history.specs.History.{History, given_for, told}
use Rattle.service_desk.specs.Views.{View, with_others, with_own}
use Rattle.shared_turn.specs.Places.{all_places}
use Rattle.shared_service.specs.Standing.{Stands}

-- The service is what a history leads to that begins with all that the view has seen.
pub record IsClosed (view : View) (service : History) : Type 0 where
  pub between : List Event
  pub stands : Stands service view.start view.before (view.seen ++ between)

-- The service is what the history leads to that the view has seen, and each event of it is the view's own.
pub record IsWhole (view : View) (service : History) : Type 0 where
  pub stands : Stands service view.start view.before view.seen
  pub all : view.own ≡ all_places (length view.seen)

-- the view after a call that was given this result: what it recorded is its own
abbrev pub after_take : ConnId → Taken → View → View
after_take conn (taken.Outs outs) view = with_own (event.Take conn) view
after_take conn taken.Closed view = with_own (event.Gone conn) view
after_take conn _ view = view

-- The pass saw events of others, found the service as they left it, and was given what the service returns in
-- that state.
pub record Tries (conn : ConnId) (old : View) (given : Taken) (new : View) : Type 0 where
  pub between : List Event
  pub service : History
  pub stands : Stands service old.start old.before (old.seen ++ between)
  pub given_is : given ≡ given_for conn service.state (told conn service)
  pub is : new ≡ after_take conn given (with_others between old)
