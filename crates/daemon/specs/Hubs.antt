-- How a link becomes a connection of the service: what is recorded, and why it isn't.
use Rattle.std.specs.Prelude.{◌≡◌, ℕ, ◌+◌, List, [], ◌∷◌, ◌++◌, Option, Result, Ok, Err}
use Rattle.std.specs.List.{AllByRecursion, flat_map}
use Rattle.std.specs.List.Sorted.{IsPermutation}
use Rattle.rand_chacha.specs.ChaCha.{key_of}
use Rattle.kr_base.specs.declared.ids.ConnId.{ConnId}
use Rattle.kr_outside.specs.Host.{GivesOne}
use Rattle.connection_worker.specs.service_events.specs.declared.event.Event.{Event}
use Rattle.connection_worker.specs.service_events.specs.declared.event.Event.TheVariants as event
use Rattle.connection_worker.specs.service_events.specs.declared.event.JoinRefused.{JoinRefused}
use Rattle.connection_worker.specs.service_events.specs.declared.event.Output.TheVariants as output
use Rattle.connection_worker.specs.service_events.specs.Replay.{replay, Legal}
use Rattle.connection_worker.specs.service_events.specs.Step.{Fits, output_of}
use Rattle.connection_worker.specs.service_desk.specs.Places.{Told, Home}
use Rattle.connection_worker.specs.service_desk.specs.Views.{View, state_of, HasCause, with_others, with_own}
use Rattle.connection_worker.specs.Salts.{Salting}

-- The hub saw events of others, and after them recorded that this connection joined, which is what the step at that place answers.
pub record Joins (old : View) (conn : ConnId) (new : View) : Type 0 where
  pub between : List Event
  pub legal : Legal (state_of old) between
  pub fits : Fits (replay (state_of old) between) (event.Connect conn)
  pub answers : output.Joined conn ≡ output_of (replay (state_of old) between) (event.Connect conn)
  pub is : new ≡ with_own (event.Connect conn) (with_others between old)

-- a desk of this service, with these passes, and of this connection, which has seen what the hub has seen, and has recorded nothing
pub record IsDeskOf (told : Told) (has_seen : View → Type 0) (home : Option Home) (conn : ConnId) (seen : View) : Type 0 where
  pub home_is : told.home ≡ home
  pub conn_is : told.conn ≡ conn
  pub view_is : (view : View) → has_seen view → view ≡ record seen { own = [] }

-- The hub saw events of others, and recorded nothing; the refusal has its cause.
pub record IsNotJoined (refused : JoinRefused) (old new : View) : Type 0 where
  pub between : List Event
  pub legal : Legal (state_of old) between
  pub is : new ≡ with_others between old
  pub cause : HasCause refused new

-- a refusal is counted, and nothing else is
abbrev pub CountsRefused : {T E : Type 0} → ℕ → ℕ → Result T E → Type 0
CountsRefused old new (Ok joined) = new ≡ old
CountsRefused old new (Err refused) = GivesOne old new

-- a connection that joined has two desks of the hub's
abbrev pub Lends : {T E : Type 0} → ℕ → ℕ → Result T E → Type 0
Lends old new (Ok joined) = new ≡ old + 2
Lends old new (Err refused) = new ≡ old

-- both are of one history, and what the first view has seen is a beginning of what the second one has
pub record Begins (view last : View) : Type 0 where
  pub start : last.start ≡ view.start
  pub before : last.before ≡ view.before
  pub more : List Event
  pub seen : last.seen ≡ view.seen ++ more

-- the own places of these views
abbrev pub own_places : List View → List ℕ
own_places views = flat_map (λ (view : View). view.own) views

-- A view took over what these had seen and recorded: its own places are those that it had and those of each of them, in some order.
pub record TakesOver (old : View) (views : List View) (new : View) : Type 0 where
  pub began : Begins old new
  pub all : AllByRecursion (λ view. Begins view new) views
  pub own : IsPermutation (old.own ++ own_places views) new.own

-- The hub took over what the desks of a connection had seen and recorded.
pub record TakesBack (read_seen write_seen : View → Type 0) (old new : View) : Type 0 where
  pub reader : View
  pub writer : View
  pub reader_is : read_seen reader
  pub writer_is : write_seen writer
  pub over : TakesOver old (reader ∷ writer ∷ []) new

-- the salts of a connection under this seed, from the first one on
abbrev pub salts_of : List ℕ → ConnId → Salting
salts_of seed conn = record { key = key_of seed; stream = conn.0; place = 0 }

-- the user id, the GUID, the seed, the service of a hub, and the passes of its desks are as before
pub record IsSameHub {U : Type 0} (uid : U → ℕ) (guid seed : U → List ℕ) (home : U → Option Home) (old new : U) : Type 0 where
  pub same_uid : uid new ≡ uid old
  pub same_guid : guid new ≡ guid old
  pub same_seed : seed new ≡ seed old
  pub same_home : home new ≡ home old
