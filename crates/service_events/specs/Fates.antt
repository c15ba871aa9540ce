-- How each storing and each resolve of an event ended, and what is true of them if no device fails.
use Rattle.std.specs.Prelude.{◌≡◌, Bool, false, ◌&&◌, List, [], ◌∷◌, Option, None, Some}
use Rattle.std.specs.List.{AllByRecursion, list_all}
use Rattle.service_prompts.specs.service_tables.specs.Aliases.{are_doubtful}
use Rattle.service_prompts.specs.service_tables.specs.Disk.{DiskState}
use Rattle.service_prompts.specs.service_tables.specs.Sound.{AreKnown}
use Rattle.service_prompts.specs.service_tables.specs.State.{State}
use Rattle.service_prompts.specs.service_tables.specs.Slots.{IsFault, are_steady}
use Rattle.service_events.specs.declared.event.Arrival.{Arrival}
use Rattle.service_events.specs.declared.event.Event.{Event}
use Rattle.service_events.specs.declared.event.Event.TheVariants as event
use Rattle.service_prompts.specs.service_tables.specs.declared.fate.Fate.{Fate}
use Rattle.service_prompts.specs.service_tables.specs.declared.fate.Fate.TheVariants as fate
use Rattle.service_prompts.specs.service_tables.specs.declared.fate.ReadFate.{ReadFate}
use Rattle.service_prompts.specs.service_tables.specs.declared.fate.StoreFate.{StoreFate}

-- how storing a file ended, if one was to be stored
abbrev pub stores_of : Option StoreFate → List Fate
stores_of None = []
stores_of (Some ended) = fate.Store ended ∷ []

-- the fate of a resolve, if there was one
abbrev pub reads_of : Option ReadFate → List Fate
reads_of None = []
reads_of (Some ended) = fate.Read ended ∷ []

-- the event of a request, with how each storing and each resolve ended that it asked for
abbrev pub with_fates : Arrival → List Fate → Event
with_fates arrival fates = event.Arrive (record { arrival = arrival; fates = fates })

-- none of these is a fault
abbrev pub AreFaultless : List Fate → Type 0
AreFaultless fates = AllByRecursion (λ fate. ¬ (IsFault fate)) fates

-- no call of a device failed in this event
abbrev pub IsFaultless : Event → Type 0
IsFaultless (event.Connect conn) = Unit {0}
IsFaultless (event.Arrive came) = AreFaultless came.fates
IsFaultless (event.Derived came) = AreFaultless came.fates
IsFaultless (event.Leave conn) = Unit {0}
IsFaultless (event.Take conn) = Unit {0}
IsFaultless (event.Gone conn) = Unit {0}

-- the file of no collection is in doubt, and that of the aliases isn't either
pub record IsCertain (state : State) : Type 0 where
  pub collections : AreKnown state.collections
  pub aliases : are_doubtful state.aliases ≡ false

-- whether the folder is steady, and each slot that was made of it
abbrev pub is_steady : {F S : Type 0} → (F → Bool) → (S → Bool) → DiskState F S → Bool
is_steady folder_steady slot_steady disk =
    folder_steady disk.folder && (are_steady slot_steady disk
    && (list_all (λ file. slot_steady file.slot) disk.left_alone && slot_steady disk.aliases))
