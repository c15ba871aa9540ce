-- What each call of a desk returns, and what it records. Each result has its cause in the state that the desk has seen.
use Rattle.std.specs.Prelude.{◌≡◌, ◌<◌, ◌≤◌, ◌⊎◌, Bool, false, true, List, Option, Some}
use Rattle.kr_base.specs.declared.ids.ConnId.{ConnId}
use Rattle.service_events.specs.secret_calls.specs.declared.taken.Refused.{Refused}
use Rattle.service_events.specs.secret_calls.specs.declared.taken.Refused.TheVariants as refused
use Rattle.service_events.specs.secret_calls.specs.declared.taken.Taken.{Taken}
use Rattle.service_events.specs.secret_calls.specs.declared.taken.Taken.TheVariants as taken
use Rattle.service_events.specs.service_tables.specs.State.{State}
use Rattle.service_events.specs.secret_calls.specs.declared.work.Work.{Work}
use Rattle.service_events.specs.declared.event.Arrival.{Arrival}
use Rattle.service_events.specs.declared.event.BroughtKey.{BroughtKey}
use Rattle.service_events.specs.declared.event.Derivation.{Derivation}
use Rattle.service_events.specs.declared.event.Event.TheVariants as event
use Rattle.service_events.specs.service_tables.specs.declared.fate.Fate.{Fate}
use Rattle.service_events.specs.declared.event.Output.TheVariants as output
use Rattle.service_events.specs.Fates.{with_fates}
use Rattle.service_events.specs.service_tables.specs.Connections.{desk_of}
use Rattle.service_events.specs.service_tables.specs.Limits.{most_events, IsSpent}
use Rattle.service_events.specs.Incoming.{IsBroughtBy}
use Rattle.service_events.specs.Step.{IsMissing}
use Rattle.service_desk.specs.Places.{Told, Place, Looks, Extends}

-- the connection is there, and this is whether outputs wait, whether one was lost, and whether it is leaving
abbrev pub IsToldOf : ConnId → State → Bool → Bool → Bool → Type 0
IsToldOf conn state waits overrun leaving =
    desk_of conn state.connections.rows ≡ Some (record { waits = waits; overrun = overrun; leaving = leaving })

-- the request was recorded with how each storing ended, within the number of events that can be counted, and gives this work
pub record Arrives (old new : Place) (arrival : Arrival) (work : Option Work) : Type 0 where
  pub fates : List Fate
  pub recorded : Extends old new (with_fates arrival fates) (output.Arrived (record { work = work }))
  pub counted : new.told.count ≤ most_events

-- the derived key was recorded with how what it asked for ended, within the number of events that can be counted
pub record Finishes (old new : Place) (brought : BroughtKey) : Type 0 where
  pub came : Derivation
  pub is : IsBroughtBy brought came
  pub recorded : Extends old new (event.Derived came) output.Derived
  pub counted : new.told.count ≤ most_events

-- why a request or a derived key wasn't recorded: all the events that can be counted have been; otherwise the connection isn't there;
-- otherwise memory ran out
abbrev pub IsRefusal : Refused → Told → Type 0
IsRefusal refused.EventsSpent told = IsSpent told.count
IsRefusal refused.Gone told = (told.count < most_events) × IsMissing told.conn told.state
IsRefusal refused.OutOfMemory told = (told.count < most_events) × ¬ (IsMissing told.conn told.state)

-- A Leave is recorded; or nothing is, and the connection isn't there or is leaving already.
abbrev pub Leaves : Place → Place → Type 0
Leaves old new =
    Extends old new (event.Leave old.told.conn) output.Left
    ⊎ (Looks old new
    × (IsMissing new.told.conn new.told.state
    ⊎ ((waits : Bool) × (overrun : Bool) × IsToldOf new.told.conn new.told.state waits overrun true)))

-- A Gone is recorded; or nothing is, and the connection isn't there.
abbrev pub Goes : Place → Place → Type 0
Goes old new =
    Extends old new (event.Gone old.told.conn) output.Gone
    ⊎ (Looks old new × IsMissing new.told.conn new.told.state)

-- What is returned of what waits. If something waits, a Take is recorded. Otherwise: Overrun if an output was lost; Closed
-- if the connection is leaving, and a Gone is recorded; Empty, which a desk that waits never returns. Missing if the
-- connection isn't there.
abbrev pub Takes : Place → Place → Taken → Type 0
Takes old new (taken.Outs outs) = Extends old new (event.Take old.told.conn) (output.Taken outs)
Takes old new taken.Empty = Looks old new × IsToldOf new.told.conn new.told.state false false false × (new.told.is_waiting ≡ false)
Takes old new taken.Overrun =
    Looks old new × ((leaving : Bool) × IsToldOf new.told.conn new.told.state false true leaving)
Takes old new taken.Closed =
    (gone : Extends old new (event.Gone old.told.conn) output.Gone) × IsToldOf old.told.conn gone.at false false true
Takes old new taken.Missing = Looks old new × IsMissing new.told.conn new.told.state
