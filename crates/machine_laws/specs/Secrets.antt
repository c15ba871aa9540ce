-- Which secrets a connection is shown, and what is true of each (Secret Service API draft 0.2, "Secrets", and the interfaces Item and Service):
-- GetSecret returns the secret of the item on which it is called, and GetSecrets those of several items, each with the path of its item. The
-- values of no other message have room for a secret.
use Rattle.std.specs.Prelude.{◌≡◌, ℕ, IsSomeAnd, IsTrue, List, [], ◌∷◌, Contains, filter, slice_get, take, Some, Result, Ok}
use Rattle.std.specs.List.{AllByRecursion, filter_map}
use Rattle.kr_base.specs.declared.ids.ConnId.{ConnId}
use Rattle.kr_base.specs.declared.ids.ItemId.{ItemId}
use Rattle.kr_base.specs.declared.ids.SessionId.{SessionId}
use Rattle.kr_names.specs.declared.object_name.ObjectName.{ObjectName}
use Rattle.kr_names.specs.declared.object_name.ObjectName.TheVariants as object
use Rattle.kr_names.specs.Path.{path_text}
use Rattle.service_events.specs.collection_table.specs.Rows.{Rows, is_open}
use Rattle.service_events.specs.secret_calls.specs.declared.call.Call.{Call}
use Rattle.service_events.specs.secret_calls.specs.declared.call.Call.TheVariants as call
use Rattle.service_events.specs.secret_calls.specs.declared.call.CallFault.{CallFault}
use Rattle.service_events.specs.secret_calls.specs.declared.out.Body.{Body}
use Rattle.service_events.specs.secret_calls.specs.declared.out.Body.TheVariants as body
use Rattle.service_events.specs.secret_calls.specs.declared.out.ErrorName.{ErrorName}
use Rattle.service_events.specs.secret_calls.specs.declared.out.Out.{Out}
use Rattle.service_events.specs.secret_calls.specs.declared.out.Out.TheVariants as out
use Rattle.service_events.specs.secret_calls.specs.declared.secret.ItemSecret.{ItemSecret}
use Rattle.service_events.specs.secret_calls.specs.declared.serial.Serial.{Serial}
use Rattle.session_table.specs.Sessions.{owns}
use Rattle.service_events.specs.service_tables.specs.Sent.{One, Sent}
use Rattle.service_events.specs.service_tables.specs.Objects.{is_open_item, once}
use Rattle.service_events.specs.service_tables.specs.Opened.{contents_of}
use Rattle.service_events.specs.service_tables.specs.TablesReading.{asked_collections, item_secret, secret_of}
use Rattle.service_events.specs.service_tables.specs.State.{State}
use Rattle.service_events.specs.service_tables.specs.Storing.{Brought}
use Rattle.service_events.specs.service_tables.specs.declared.fate.Fate.{Fate}
use Rattle.service_events.specs.declared.event.Event.{Event}
use Rattle.service_events.specs.declared.event.Event.TheVariants as event
use Rattle.service_events.specs.Plan.{Plan, Ends, Asks, Resolves, Opens}
use Rattle.service_events.specs.Replay.{replay}
use Rattle.service_events.specs.Run.{asked, by_read, by_reading, by_store, by_test, demanded, is_in_doubt, settled, unlocked_with}
use Rattle.service_events.specs.Step.{puts_out}

-- ---- what is shown

-- the path of the item on which a call is GetSecret; empty, which is no object's path, for any other call
abbrev pub item_called : Result Call CallFault → List ℕ
item_called (Ok (call.GetSecret stem item session)) = path_text (object.Item stem item)
item_called _ = []

-- the same for an event
abbrev pub item_asked : Event → List ℕ
item_asked (event.Arrive came) = item_called came.arrival.request.call
item_asked _ = []

-- the secrets that a message contains, each with the path of its item, which is this one where the message doesn't have it
abbrev pub secrets_in : List ℕ → Out → List ItemSecret
secrets_in path (out.Return serial (body.Secret secret)) = record { item = path; secret = secret } ∷ []
secrets_in path (out.Return serial (body.Secrets secrets)) = secrets
secrets_in path _ = []

-- an event shows a secret: it puts out this message, which contains the secret, as that of the item with this path
abbrev pub Shows : State → Event → Sent → ItemSecret → Type 0
Shows state event sent shown = Contains (puts_out state event) sent × Contains (secrets_in (item_asked event) sent.out) shown

-- the state at a place of a list of events: the one that the events before it lead to
abbrev pub state_at : State → List Event → ℕ → State
state_at start events place = replay start (take place events)

-- the event at this place of the list shows the secret
abbrev pub ShowsAt : State → List Event → ℕ → Sent → ItemSecret → Type 0
ShowsAt start events place sent shown = IsSomeAnd (slice_get events place) (λ event. Shows (state_at start events place) event sent shown)

-- ---- what is true of it

-- the message is a return that answers the call of this serial
abbrev pub IsReturn : Serial → Out → Type 0
IsReturn serial (out.Return to body) = to ≡ serial
IsReturn serial _ = ⊥

-- the event is a request of a connection, and the message is its return, which goes to this connection alone
abbrev pub IsReturnOf : Event → Sent → Type 0
IsReturnOf (event.Arrive came) sent = (sent.to ≡ One came.arrival.conn) × IsReturn came.arrival.request.serial sent.out
IsReturnOf _ sent = ⊥

-- The path is that of an item whose collection is unlocked, and the value and the content type of the secret are those of that item.
pub record IsOfOpenItem (rows : Rows) (shown : ItemSecret) : Type 0 where
  pub stem : List ℕ
  pub item : ItemId
  pub named : shown.item ≡ path_text (object.Item stem item)
  pub unlocked : IsTrue (is_open stem rows)
  pub whose : secret_of shown.secret.session rows stem item ≡ Some shown.secret

-- ---- what any plan answers

-- the secret is for a session that the caller owns, and that of an item whose collection is unlocked
abbrev pub IsOwnAndOpen : ConnId → State → ItemSecret → Type 0
IsOwnAndOpen caller state shown = IsTrue (owns caller shown.secret.session state.sessions) × IsOfOpenItem state.collections shown

-- each secret in an answer is; one that comes without the path of its item is that of some item
abbrev pub AreOwnAndOpen : ConnId → State → Result Body ErrorName → Type 0
AreOwnAndOpen caller state (Ok (body.Secret secret)) = (path : List ℕ) × IsOwnAndOpen caller state (record { item = path; secret = secret })
AreOwnAndOpen caller state (Ok (body.Secrets secrets)) = AllByRecursion (IsOwnAndOpen caller state) secrets
AreOwnAndOpen caller state _ = Unit {0}

-- the state in which a plan answers: after all that it asked of the disk, read again and unlocked, and before its changes
abbrev pub ended_in : ConnId → Brought → Plan → List Fate → State → State
ended_in caller brought (Ends answer changes) fates state = state
ended_in caller brought (Asks demand next) fates state = by_store state (λ ended rest. ended_in caller brought (next ended) rest (demanded brought demand ended state)) fates
ended_in caller brought (Resolves reading unread next) fates state =
    by_test (is_in_doubt reading state)
    (by_read state
    (λ ended rest. by_reading ended (ended_in caller brought unread rest (settled reading ended state))
    (ended_in caller brought (next (asked caller brought (settled reading ended state))) rest (settled reading ended state))) fates)
    (ended_in caller brought (next (asked caller brought state)) fates state)
ended_in caller brought (Opens stem terms next) fates state = ended_in caller brought next fates (unlocked_with brought stem terms state)

-- ---- what GetSecrets shows

-- the items among these objects that are there and whose collections are unlocked, each path once
abbrev pub items_shown : State → List ObjectName → List ObjectName
items_shown state objects = once (filter (is_open_item (asked_collections (contents_of state))) objects)

-- their secrets for a session, each with the path of its item
abbrev pub secrets_shown : SessionId → State → List ObjectName → List ItemSecret
secrets_shown session state objects = filter_map (item_secret session state.collections) (items_shown state objects)
