-- An event that comes to the service: what of it is recorded, when it is due, and which refusal it may get.
use Rattle.std.specs.Prelude.{◌≡◌, ℕ, Bool, false, true, List, IfSome}
use Rattle.kr_outside.specs.RenameDisk.{Image}
use Rattle.service_disk.specs.Making.{AreFree}
use Rattle.service_events.specs.declared.event.BroughtKey.{BroughtKey}
use Rattle.service_events.specs.declared.event.Derivation.{Derivation}
use Rattle.service_events.specs.declared.event.Incoming.{Incoming}
use Rattle.service_events.specs.declared.event.Incoming.TheVariants as incoming
use Rattle.service_events.specs.declared.event.Event.{Event}
use Rattle.service_events.specs.declared.event.Event.TheVariants as event
use Rattle.service_prompts.specs.service_tables.specs.Connections.{desk_of}
use Rattle.service_prompts.specs.service_tables.specs.Disk.{DiskState}
use Rattle.service_prompts.specs.service_tables.specs.Sound.{IsSound}
use Rattle.service_prompts.specs.service_tables.specs.State.{State}
use Rattle.service_events.specs.Step.{IsMissing}

-- what is recorded is the derived key that came, by what it was derived from
pub record IsBroughtBy (brought : BroughtKey) (came : Derivation) : Type 0 where
  pub conn : came.conn ≡ brought.conn
  pub prompt : came.prompt ≡ brought.done.prompt
  pub round : came.round ≡ brought.done.round
  pub password : came.password ≡ brought.done.key.password
  pub salt : came.salt ≡ brought.done.key.salt
  pub iterations : came.iterations ≡ brought.done.key.iterations
  pub now : came.now ≡ brought.now

-- the event is the incoming one; a connection that joins gets a number
abbrev pub Records : Incoming → Event → Type 0
Records incoming.Connect (event.Connect conn) = Unit {0}
Records (incoming.Arrive arrival) (event.Arrive came) = came.arrival ≡ arrival
Records (incoming.Derived brought) (event.Derived came) = IsBroughtBy brought came
Records (incoming.Leave conn) (event.Leave conn') = conn' ≡ conn
Records (incoming.Take conn) (event.Take conn') = conn' ≡ conn
Records (incoming.Gone conn) (event.Gone conn') = conn' ≡ conn
Records _ _ = ⊥

-- A connection that leaves isn't leaving already, and something waits for one that takes; of one that isn't there
-- nothing is said.
abbrev pub IsDue : State → Incoming → Type 0
IsDue state (incoming.Leave conn) = IfSome (desk_of conn state.connections.rows) (λ desk. desk.leaving ≡ false)
IsDue state (incoming.Take conn) = IfSome (desk_of conn state.connections.rows) (λ desk. desk.waits ≡ true)
IsDue state _ = Unit {0}

-- a derived key may make a collection, so it needs a sound state; no other event does
abbrev pub IsSoundFor : Incoming → State → Type 0
IsSoundFor (incoming.Derived brought) state = IsSound state
IsSoundFor _ state = Unit {0}

-- and a disk on which a collection can be made under each stem that isn't used
abbrev pub AreFreeFor : {F S : Type 0} → (F → Bool) → (F → List ℕ → Image) → (F → List ℕ → Image → Type 0) → (F → List (List ℕ)) → (S → Bool)
    → (S → Image → Type 0) → Incoming → DiskState F S → Type 0
AreFreeFor folder_honest images folder_leaves made is_honest may_leave (incoming.Derived brought) disk =
    AreFree folder_honest images folder_leaves made is_honest may_leave disk
AreFreeFor folder_honest images folder_leaves made is_honest may_leave _ disk = Unit {0}

-- whose connection isn't there
abbrev pub IsOfNone : State → Incoming → Type 0
IsOfNone state incoming.Connect = ⊥
IsOfNone state (incoming.Arrive arrival) = IsMissing arrival.conn state
IsOfNone state (incoming.Derived brought) = IsMissing brought.conn state
IsOfNone state (incoming.Leave conn) = IsMissing conn state
IsOfNone state (incoming.Take conn) = IsMissing conn state
IsOfNone state (incoming.Gone conn) = IsMissing conn state

-- a connection joins
abbrev pub IsConnect : Incoming → Type 0
IsConnect incoming.Connect = Unit {0}
IsConnect _ = ⊥

-- the events that may take memory
abbrev pub TakesMemory : Incoming → Type 0
TakesMemory incoming.Connect = Unit {0}
TakesMemory (incoming.Arrive arrival) = Unit {0}
TakesMemory (incoming.Derived brought) = Unit {0}
TakesMemory _ = ⊥
