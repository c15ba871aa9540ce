-- The history of a run over the standard streams: the service begins with it, and its connection is the first and only one. It begins
-- with what the folder has.
use Rattle.std.specs.Prelude.{◌≡◌, ℕ, ◌+◌, List, [], ◌∷◌, ◌++◌, Option, Some, None, map}
use Rattle.std.specs.List.{concat}
use Rattle.kr_base.specs.declared.ids.ConnId.{ConnId}
use Rattle.dbus_auth.specs.Handshake.{Run}
use Rattle.lone_desk.specs.service_events.specs.declared.event.Event.{Event}
use Rattle.lone_desk.specs.service_events.specs.declared.event.Event.TheVariants as event
use Rattle.lone_desk.specs.service_tables.specs.Opened.{Contents, opened_state}
use Rattle.lone_desk.specs.service_tables.specs.State.{State}
use Rattle.lone_desk.specs.service_events.specs.Step.{step, TakesMoment}
use Rattle.service_hub.specs.connection_worker.specs.Salts.{salt_of}
use Rattle.lone_desk.specs.service_events.specs.Single.{TimedKey, TimedRequest, moments_of, turns}
use Rattle.service_hub.specs.connection_worker.specs.Written.{written}

-- the connection of the standard streams
abbrev pub the_connection : ConnId
the_connection = record { 0 = 1 }

-- the service after the connection joined
abbrev pub joined : Contents → State
joined contents = step (opened_state contents) (event.Connect the_connection)

-- The events of these requests: the connection joins; then each request arrives and what waits is taken, and if it gave work, its key is
-- brought and what waits then is taken.
abbrev pub events_until : Contents → List TimedRequest → List Event
events_until contents asked = event.Connect the_connection ∷ turns the_connection (joined contents) asked

-- all events of a run: at last the connection is gone
abbrev pub events_of : Contents → List TimedRequest → List Event
events_of contents asked = events_until contents asked ++ event.Gone the_connection ∷ []

-- the output of the run of a handshake and of these requests
abbrev pub text_of : Contents → Run → List TimedRequest → List ℕ
text_of contents run asked = concat run.answers ++ written the_connection (opened_state contents) (events_of contents asked)

-- the values of a function, from this argument on
abbrev pub AreGivenFrom : {V : Type 0} → ℕ → (ℕ → V) → List V → Type 0
AreGivenFrom place give [] = Unit {0}
AreGivenFrom place give (value ∷ values) = (value ≡ give place) × AreGivenFrom (place + 1) give values

-- the moments at which the requests came are the first of the clock, if it reports them
abbrev pub HaveMoments : Option (ℕ → ℕ) → List TimedRequest → Type 0
HaveMoments None asked = Unit {0}
HaveMoments (Some coming) asked = AreGivenFrom 0 coming (moments_of asked)

-- two keys came at the same moment, if both are there
abbrev pub HasSameMoment : Option TimedKey → Option TimedKey → Type 0
HasSameMoment (Some one) (Some other) = one.now ≡ other.now
HasSameMoment _ _ = Unit {0}

-- The requests of two runs came at the same moments, as far as what their calls lead to depends on the moment, and so did their keys.
abbrev pub HaveSameMoments : List TimedRequest → List TimedRequest → Type 0
HaveSameMoments (one ∷ ones) (other ∷ others) = (TakesMoment one.request.call → one.now ≡ other.now) × HasSameMoment one.key other.key × HaveSameMoments ones others
HaveSameMoments _ _ = Unit {0}

-- what two keys asked for ended alike, if both are there; otherwise neither is
abbrev pub HasSameKeyFates : Option TimedKey → Option TimedKey → Type 0
HasSameKeyFates None None = Unit {0}
HasSameKeyFates (Some one) (Some other) = one.fates ≡ other.fates
HasSameKeyFates _ _ = ⊥

-- each storing ended alike in two runs
abbrev pub HaveSameFates : List TimedRequest → List TimedRequest → Type 0
HaveSameFates (one ∷ ones) (other ∷ others) = (one.fates ≡ other.fates) × HasSameKeyFates one.key other.key × HaveSameFates ones others
HaveSameFates _ _ = Unit {0}

-- the salts of the requests are the first of the connection under this seed
abbrev pub HaveSalts : List ℕ → List TimedRequest → Type 0
HaveSalts seed asked = AreGivenFrom 0 (salt_of seed the_connection.0) (map (λ (a : TimedRequest). a.salt) asked)
