-- Serving requests with a desk, a clock, a generator of salts and a sink: what each of them changes.
use Rattle.std.specs.Prelude.{◌≡◌, ℕ, ◌+◌, ◌%◌, ◌^◌, Bool, false, true, List, [], ◌∷◌, ◌++◌, length, map, Option, None, Result, Ok, Err}
use Rattle.kr_outside.specs.Clock.{GivesFirst}
use Rattle.kr_outside.specs.Faults.{Rose}
use Rattle.service_desk.specs.service_tables.specs.Connections.{is_overrun, new_row, waiting_for}
use Rattle.service_desk.specs.service_tables.specs.Limits.{IsSpent}
use Rattle.service_desk.specs.service_tables.specs.Sound.{IsSound}
use Rattle.service_desk.specs.secret_calls.specs.declared.call.Request.{Request}
use Rattle.service_desk.specs.secret_calls.specs.declared.out.Out.{Out}
use Rattle.service_desk.specs.secret_calls.specs.declared.work.Work.{Work}
use Rattle.service_desk.specs.Places.{Told, Place}
use Rattle.service_desk.specs.Records.{Records, of_own}
use Rattle.service_desk.specs.Views.{View}
use Rattle.connection_worker.specs.declared.ending.End.{End}
use Rattle.connection_worker.specs.declared.ending.End.TheVariants as end
use Rattle.connection_worker.specs.Salts.{Salting, words_at}
use Rattle.connection_worker.specs.Sending.{AreBehind}
use Rattle.service_desk.specs.service_events.specs.Single.{TimedKey, TimedRequest, arrival, derivation, moments_of, taking, turns, work_for}
use Rattle.connection_worker.specs.Written.{spelled_behind}
use Rattle.connection_worker.specs.Streams.{Output, StaysAsOpen, Gave, GaveFront}

-- what serving requests changes, apart from the sink: the desk, which has a place in the history, the clock,
-- and the salts
pub record World : Type 1 where
  pub told : Told
  pub has_seen : View → Type 0
  pub coming : Option (ℕ → ℕ)
  pub salting : Salting

-- the place of the desk
abbrev pub place_of : World → Place
place_of world = record { told = world.told; has_seen = world.has_seen }

-- the world of a desk, a clock and a generator of salts, by the meanings of their types
abbrev pub world : {D C : Type 0} → (D → Told) → (D → View → Type 0) → (C → Option (ℕ → ℕ)) → D → C → Salting → World
world told has_seen coming desk clock salting = record { told = told desk; has_seen = has_seen desk; coming = coming clock; salting = salting }

-- the connection is the only one, and has just joined: nothing waits for it, and it has taken nothing
abbrev pub HasJoined : Told → Type 0
HasJoined told = told.state.connections.rows ≡ new_row told.conn ∷ []

-- The state is sound, and the connection is the only one; these outputs wait for it, this is whether it has lost one, and it isn't leaving.
pub record IsDue (told : Told) (outs : List Out) (lost : Bool) : Type 0 where
  pub sound : IsSound told.state
  pub taken : ℕ
  pub only : told.state.connections.rows ≡ record { conn = told.conn; waiting = outs; overrun = lost; leaving = false; taken = taken } ∷ []

-- the same for one that has lost none
abbrev pub IsOwed : Told → List Out → Type 0
IsOwed told outs = IsDue told outs false

-- the outputs that wait for the connection
abbrev pub owed : Told → List Out
owed told = waiting_for told.conn told.state.connections.rows

-- whether the connection has lost an output
abbrev pub has_lost : Told → Bool
has_lost told = is_overrun told.conn told.state.connections.rows

-- nothing waits for the only connection, which may have lost an output
abbrev pub IsIdle : Told → Type 0
IsIdle told = IsDue told [] (has_lost told)

-- moments that a clock returned one after the other
abbrev pub GivesMoments : Option (ℕ → ℕ) → List ℕ → Option (ℕ → ℕ) → Type 0
GivesMoments old [] new = new ≡ old
GivesMoments old (moment ∷ moments) new = (mid : Option (ℕ → ℕ)) × GivesFirst old moment mid × GivesMoments mid moments new

-- the generator after one more salt
abbrev pub behind_salt : Salting → Salting
behind_salt salting = record salting { place = (salting.place + 2) % 2 ^ 68 }

-- salts that a generator returned one after the other
abbrev pub GivesSalts : Salting → List (List ℕ) → Salting → Type 0
GivesSalts old [] new = new ≡ old
GivesSalts old (salt ∷ salts) new = (salt ≡ words_at old.key old.stream old.place) × GivesSalts (behind_salt old) salts new

-- The desk recorded these requests, each with a moment of the clock and a salt, and each with its key, if it gave work, and with a further
-- moment for that; a moment and a salt were taken for these further ones, which weren't recorded, and these moments for keys that weren't.
pub record Recorded (old new : World) (asked refused : List TimedRequest) (late : List ℕ) : Type 0 where
  pub calls : Records (place_of old) (place_of new) (of_own old.told.state (turns old.told.conn old.told.state asked))
  pub moments : GivesMoments old.coming (moments_of (asked ++ refused) ++ late) new.coming
  pub salts : GivesSalts old.salting (map (λ (a : TimedRequest). a.salt) (asked ++ refused)) new.salting

-- Why the serving ended early, and what was then written of this text: all of it if no further event can be
-- counted, or an output was lost; a prefix of it if the sink failed or memory ran out.
abbrev pub EndsEarly : End → ℕ → Output → Output → List ℕ → Type 0
EndsEarly end.EventsSpent count from to text = IsSpent count × Gave from to text
EndsEarly end.WriteFault count from to text = Rose from.faults to.faults × GaveFront from to text
EndsEarly end.Memory count from to text = GaveFront from to text
EndsEarly end.Overrun count from to text = Gave from to text
EndsEarly _ count from to text = ⊥

-- After one request was recorded, before the output for it is taken.
pub record HasArrived (old new : World) (asked : TimedRequest) : Type 0 where
  pub calls : Records (place_of old) (place_of new) (of_own old.told.state (arrival old.told.conn asked ∷ []))
  pub moment : GivesFirst old.coming asked.now new.coming
  pub salt : asked.salt ≡ words_at old.salting.key old.salting.stream old.salting.place
  pub salting : new.salting ≡ behind_salt old.salting

-- A moment and a salt were taken for a request that wasn't recorded.
pub record HasAsked (old new : World) (asked : TimedRequest) : Type 0 where
  pub calls : Records (place_of old) (place_of new) []
  pub moment : GivesFirst old.coming asked.now new.coming
  pub salt : asked.salt ≡ words_at old.salting.key old.salting.stream old.salting.place
  pub salting : new.salting ≡ behind_salt old.salting

-- a request as it was asked, before a key is derived for it
pub record IsAskedAs (request : Request) (asked : TimedRequest) : Type 0 where
  pub same : asked.request ≡ request
  pub keyless : asked.key ≡ None

-- the request was recorded, and gave this work; or it was refused, for its cause
abbrev pub Asks : Request → World → World → Result (Option Work) End → Type 0
Asks request old new (Ok work) = (asked : TimedRequest) × IsAskedAs request asked × HasArrived old new asked × (work ≡ work_for old.told.conn old.told.state asked)
Asks request old new (Err end.EventsSpent) = (asked : TimedRequest) × IsAskedAs request asked × HasAsked old new asked × IsSpent old.told.count
Asks request old new (Err end.Memory) = (asked : TimedRequest) × IsAskedAs request asked × HasAsked old new asked
Asks request old new (Err _) = ⊥

-- After the key of work was recorded, before the output for it is taken.
pub record HasBrought (old new : World) (work : Work) (key : TimedKey) : Type 0 where
  pub calls : Records (place_of old) (place_of new) (of_own old.told.state (derivation old.told.conn work key ∷ []))
  pub moment : GivesFirst old.coming key.now new.coming
  pub salting : new.salting ≡ old.salting

-- A moment was taken for a key that wasn't recorded.
pub record HasLost (old new : World) (moment : ℕ) : Type 0 where
  pub calls : Records (place_of old) (place_of new) []
  pub taken : GivesFirst old.coming moment new.coming
  pub salting : new.salting ≡ old.salting

-- the key of work was recorded; or it was refused, for its cause
abbrev pub Brings : Work → World → World → Result Unit End → Type 0
Brings work old new (Ok done) = (key : TimedKey) × HasBrought old new work key
Brings work old new (Err end.EventsSpent) = (moment : ℕ) × HasLost old new moment × IsSpent old.told.count
Brings work old new (Err end.Memory) = (moment : ℕ) × HasLost old new moment
Brings work old new (Err _) = ⊥

-- the desk returned the outputs that waited: a Take was recorded if there were any
abbrev pub HasGiven : Place → Place → Type 0
HasGiven old new = Records old new (of_own old.told.state (taking old.told.conn old.told.state))

-- nothing was recorded, and the connection has lost no output; or it has
abbrev pub FindsLoss : Place → Place → Result Unit End → Type 0
FindsLoss old new (Ok done) = Records old new [] × (has_lost old.told ≡ false)
FindsLoss old new (Err end.Overrun) = Records old new [] × (has_lost old.told ≡ true)
FindsLoss old new (Err _) = ⊥

-- The outputs that waited were taken and written, and none was lost; or the others were, and one was lost; or they were taken, and a prefix of
-- them was written.
abbrev pub Gives : Place → Place → ℕ → ℕ → Output → Output → Result Unit End → Type 0
Gives old new serials behind from to (Ok done) =
    HasGiven old new × StaysAsOpen from to
    × ((taken : ℕ) → AreBehind taken serials → Gave from to (spelled_behind taken (owed old.told)) × AreBehind (taken + length (owed old.told)) behind)
    × (has_lost old.told ≡ false)
Gives old new serials behind from to (Err end.Overrun) =
    HasGiven old new × (has_lost old.told ≡ true) × ((taken : ℕ) → AreBehind taken serials → Gave from to (spelled_behind taken (owed old.told)))
Gives old new serials behind from to (Err end.WriteFault) =
    HasGiven old new × Rose from.faults to.faults × ((taken : ℕ) → AreBehind taken serials → GaveFront from to (spelled_behind taken (owed old.told)))
Gives old new serials behind from to (Err end.Memory) =
    HasGiven old new × ((taken : ℕ) → AreBehind taken serials → GaveFront from to (spelled_behind taken (owed old.told)))
Gives old new serials behind from to (Err _) = ⊥
