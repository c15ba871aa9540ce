-- What each storing that a plan asks for does to the disk, one after the other, and which calls ask for one.
use Rattle.std.specs.Prelude.{◌≡◌, ℕ, ◌⊎◌, Bool, List, Result, Ok}
use Rattle.kr_base.specs.declared.ids.ConnId.{ConnId}
use Rattle.kr_outside.specs.RenameDisk.{Image}
use Rattle.service_prompts.specs.secret_calls.specs.declared.call.Call.{Call}
use Rattle.service_prompts.specs.secret_calls.specs.declared.call.Call.TheVariants as call
use Rattle.service_prompts.specs.secret_calls.specs.declared.call.CallFault.{CallFault}
use Rattle.service_disk.specs.Making.{KeepsSlot, MakesAt}
use Rattle.service_prompts.specs.service_tables.specs.declared.fate.Fate.{Fate}
use Rattle.service_prompts.specs.service_tables.specs.declared.fate.Fate.TheVariants as fate
use Rattle.service_prompts.specs.service_tables.specs.declared.fate.ReadFate.{ReadFate}
use Rattle.service_prompts.specs.service_tables.specs.declared.fate.StoreFate.{StoreFate}
use Rattle.service_prompts.specs.service_tables.specs.declared.fate.StoreFate.TheVariants as stored
use Rattle.service_prompts.specs.service_tables.specs.Disk.{DiskState}
use Rattle.service_prompts.specs.service_tables.specs.Opened.{Contents, contents_of}
use Rattle.service_prompts.specs.service_tables.specs.Slots.{StoresAliases, StoresAt}
use Rattle.service_prompts.specs.service_tables.specs.State.{State}
use Rattle.service_prompts.specs.service_tables.specs.Storing.{Brought}
use Rattle.service_events.specs.declared.event.BroughtKey.{BroughtKey}
use Rattle.service_events.specs.declared.event.Event.{Event}
use Rattle.service_events.specs.declared.event.Event.TheVariants as event
use Rattle.service_events.specs.declared.event.Incoming.{Incoming}
use Rattle.service_events.specs.declared.event.Incoming.TheVariants as incoming
use Rattle.service_events.specs.Plan.{Plan, Ends, Asks, Resolves, Opens, Demand, Store, Erase, Set_alias, Make, Rekey, Reading, Aliases_file, Collection_file, Questions}
use Rattle.service_events.specs.Run.{asked, by_read, by_reading, by_store, by_test, demanded, if_fits, is_in_doubt, promised, settled, unlocked_with}
use Rattle.service_events.specs.Derivation.{derived}
use Rattle.service_events.specs.Step.{brought_by, brought_derived, plan_of, terms_of}

-- a call that stores nothing
abbrev pub StoresNothing : Result Call CallFault → Type 0
StoresNothing (Ok (call.CreateItem collection label attributes secret replace)) = ⊥
StoresNothing (Ok (call.DeleteCollection collection)) = ⊥
StoresNothing (Ok (call.DeleteItem stem item)) = ⊥
StoresNothing (Ok (call.SetSecret stem item secret)) = ⊥
StoresNothing (Ok (call.SetCollectionLabel collection label)) = ⊥
StoresNothing (Ok (call.SetItemLabel stem item label)) = ⊥
StoresNothing (Ok (call.SetAttributes stem item attributes)) = ⊥
StoresNothing (Ok (call.SetAlias alias object)) = ⊥
StoresNothing (Ok (call.Answer prompt round password)) = ⊥
StoresNothing _ = Unit {0}

-- what a key that is brought leads to in a state
abbrev pub plan_brought : BroughtKey → State → Plan
plan_brought brought state =
    let key = brought.done.key in
    derived brought.done.prompt brought.done.round (record { salt = key.salt; iterations = key.iterations })
    (asked brought.conn (record { now = brought.now; value = key.password }) state)

module _ {F S : Type 0} (folder_honest folder_steady : F → Bool) (folder_faults : F → ℕ) (images : F → List ℕ → Image)
    (folder_leaves : F → List ℕ → Image → Type 0) (names_made : F → List (List ℕ)) (is_honest is_steady : S → Bool) (faults : S → ℕ)
    (left_since : S → ℕ → Image → Type 0) where
  -- a slot was made at most for the collection that a plan makes, if it makes one, and is kept for the next one under its stem
  abbrev pub KeepsSlotOf : Plan → DiskState F S → DiskState F S → Type 0
  KeepsSlotOf (Asks (Make stem label terms) next) old new =
      KeepsSlot folder_honest folder_steady folder_faults images folder_leaves names_made is_honest is_steady faults left_since stem old new
  KeepsSlotOf _ old new = ⊥

  -- after a refusal of what a plan asks for the disk is as before, except for a slot that was made for its collection
  abbrev pub KeepsSlotOrAll : Plan → DiskState F S → DiskState F S → Type 0
  KeepsSlotOrAll plan old new = (new ≡ old) ⊎ KeepsSlotOf plan old new

  -- the same for what a key leads to that is brought: a slot is made only for a prompt that waits for the key and creates a collection
  abbrev pub KeepsMaking : BroughtKey → State → DiskState F S → DiskState F S → Type 0
  KeepsMaking brought state old new = KeepsSlotOrAll (plan_brought brought state) old new

  -- the same by what came: only a derived key makes a slot
  abbrev pub KeepsDisk : Incoming → State → DiskState F S → DiskState F S → Type 0
  KeepsDisk (incoming.Derived brought) state old new = KeepsMaking brought state old new
  KeepsDisk _ state old new = new ≡ old

module _ {F S : Type 0} (folder_honest folder_steady : F → Bool) (folder_faults : F → ℕ) (images : F → List ℕ → Image)
    (folder_leaves : F → List ℕ → Image → Type 0) (names_made : F → List (List ℕ)) (is_honest is_steady : S → Bool) (faults moment : S → ℕ)
    (left_since : S → ℕ → Image → Type 0) (may_leave : S → Image → Type 0) where
  -- what is asked of the disk, which ended so: the slot of its file is used, and no other
  abbrev pub StoresDemand : Demand → StoreFate → Contents → Contents → DiskState F S → DiskState F S → Type 0
  StoresDemand (Store stem edit) ended before after old new = StoresAt is_honest is_steady faults moment left_since may_leave stem (fate.Store ended) before.collections after.collections old new
  StoresDemand (Erase stem) ended before after old new = StoresAt is_honest is_steady faults moment left_since may_leave stem (fate.Store ended) before.collections after.collections old new
  StoresDemand (Set_alias alias stem) ended before after old new = StoresAliases is_honest is_steady faults moment left_since may_leave (fate.Store ended) before.aliases after.aliases old new
  StoresDemand (Make stem label terms) ended before after old new =
      MakesAt folder_honest folder_steady folder_faults images folder_leaves names_made is_honest is_steady faults moment left_since may_leave stem ended before.collections after.collections old new
  StoresDemand (Rekey stem terms) ended before after old new = StoresAt is_honest is_steady faults moment left_since may_leave stem (fate.Store ended) before.collections after.collections old new

  -- a file that is read again, which ended so: its slot is used, and no other
  abbrev pub StoresReading : Reading → ReadFate → Contents → Contents → DiskState F S → DiskState F S → Type 0
  StoresReading Aliases_file ended before after old new = StoresAliases is_honest is_steady faults moment left_since may_leave (fate.Read ended) before.aliases after.aliases old new
  StoresReading (Collection_file stem) ended before after old new =
      StoresAt is_honest is_steady faults moment left_since may_leave stem (fate.Read ended) before.collections after.collections old new

  -- each storing and each resolve that a plan asks for is one of the disk, in a state of its own; no other slot is used
  abbrev pub StoresOf : ConnId → Brought → Plan → List Fate → State → DiskState F S → DiskState F S → Type 0
  StoresOf caller brought (Ends answer changes) fates state old new = new ≡ old
  StoresOf caller brought (Asks demand next) fates state old new =
      if_fits (promised caller state (next stored.Stored))
      (by_store ⊥
      (λ ended rest. (mid : DiskState F S)
      × StoresDemand demand ended (contents_of state) (contents_of (demanded brought demand ended state)) old mid
      × StoresOf caller brought (next ended) rest (demanded brought demand ended state) mid new) fates)
      (new ≡ old)
  StoresOf caller brought (Resolves reading unread next) fates state old new =
      by_test (is_in_doubt reading state)
      (by_read ⊥
      (λ ended rest. (mid : DiskState F S)
      × StoresReading reading ended (contents_of state) (contents_of (settled reading ended state)) old mid
      × by_reading ended (StoresOf caller brought unread rest (settled reading ended state) mid new)
      (StoresOf caller brought (next (asked caller brought (settled reading ended state))) rest (settled reading ended state) mid new)) fates)
      (StoresOf caller brought (next (asked caller brought state)) fates state old new)
  StoresOf caller brought (Opens stem terms next) fates state old new = StoresOf caller brought next fates (unlocked_with brought stem terms state) old new

  -- the same for a row of the table of calls
  abbrev pub StoresRow : ConnId → Brought → (Questions → Plan) → List Fate → State → DiskState F S → DiskState F S → Type 0
  StoresRow caller brought row fates state old new = StoresOf caller brought (row (asked caller brought state)) fates state old new

  -- what an event does to the disk: a request and a derived key store what their rows ask for, and any other event leaves the disk alone
  abbrev pub StoresEvent : Event → State → DiskState F S → DiskState F S → Type 0
  StoresEvent (event.Arrive came) state old new =
      StoresRow came.arrival.conn (brought_by came.arrival) (plan_of came.arrival.salt came.arrival.request.call) came.fates state old new
  StoresEvent (event.Derived came) state old new =
      StoresRow came.conn (brought_derived came) (derived came.prompt came.round (terms_of came)) came.fates state old new
  StoresEvent _ state old new = new ≡ old
