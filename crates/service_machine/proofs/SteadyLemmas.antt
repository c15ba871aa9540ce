-- A disk that was loaded is steady exactly if its folder is; each storing keeps it as steady as it was, and over a steady one none has a
-- fault.
use Rattle.std.proofs.Common.{◌≡◌, ℕ, Bool, true, false, ◌&&◌, List, [], ◌∷◌, map, Option, Some, None, refl, ap, sym, ◌∙◌, inl, inr}
use Rattle.std.specs.List.{AllByRecursion, list_all}
use Rattle.std.proofs.lemmas.List.Elements.{All-from_recursion, recursion_from_All}
use Rattle.std.proofs.lemmas.List.Sorted.{All-permutation}
use Rattle.std.specs.Option.{option_or}
use Rattle.std.proofs.lemmas.Option.{none-some}
use Rattle.kr_base.specs.Attributes.{is_name, value_at}
use Rattle.kr_base.specs.declared.ids.ConnId.{ConnId}
use Rattle.kr_outside.specs.RenameDisk.{Image}
use Rattle.service_answers.specs.alias_table.specs.Table.{AliasRows}
use Rattle.service_answers.specs.folder_store.specs.Aliases.{alias_slot}
use Rattle.service_answers.specs.folder_store.specs.declared.opening.LeftAlone.{LeftAlone}
use Rattle.service_answers.specs.folder_store.specs.Names.{aliases}
use Rattle.service_answers.specs.folder_store.specs.Ring.{RingState, HandsBack, nothing, with_ring, alone}
use Rattle.service_answers.specs.collection_table.specs.Entries.{loaded_from, slots_of}
use Rattle.service_answers.specs.service_tables.proofs.EachLemmas.{each-append}
use Rattle.service_answers.specs.service_tables.specs.Disk.{DiskState, IsLoaded}
use Rattle.service_answers.specs.service_tables.specs.State.{State}
use Rattle.service_answers.specs.collection_table.specs.Rows.{Rows}
use Rattle.service_answers.specs.service_tables.specs.declared.fate.Fate.{Fate}
use Rattle.service_answers.specs.service_tables.specs.declared.fate.Fate.TheVariants as fate
use Rattle.service_answers.specs.service_tables.specs.declared.fate.ReadFate.{ReadFate}
use Rattle.service_answers.specs.service_tables.specs.declared.fate.ReadFate.TheVariants as read
use Rattle.service_answers.specs.service_tables.specs.declared.fate.StoreFate.{StoreFate}
use Rattle.service_answers.specs.service_tables.specs.declared.fate.StoreFate.TheVariants as stored
use Rattle.service_answers.specs.service_tables.specs.Opened.{Contents, contents_of}
use Rattle.service_answers.specs.service_disk.specs.Making.{MakesAt}
use Rattle.service_answers.specs.service_tables.specs.Slots.{IsFault, StoresAliases, StoresAt, are_steady, slot_at}
use Rattle.service_answers.specs.service_tables.specs.Storing.{Brought}
use Rattle.service_answers.specs.service_events.specs.Fates.{AreFaultless, is_steady}
use Rattle.service_answers.specs.service_events.specs.Plan.{Aliases_file, Asks, Collection_file, Demand, Ends, Erase, Make, Opens, Plan, Reading, Rekey, Set_alias, Resolves, Store}
use Rattle.service_answers.specs.service_events.specs.Run.{AreFates, AreNone, asked, by_read, by_reading, by_store, by_test, demanded, fits, is_in_doubt, promised, settled, unlocked_with}
use Rattle.service_answers.specs.service_events.specs.Stored.{KeepsSlotOf, KeepsSlotOrAll, StoresDemand, StoresOf, StoresReading}
use Rattle.service_answers.specs.service_events.proofs.RunLemmas.{fits-either, read-either, reading-either, store-either}

and-both : (a b : Bool) → (a && b) ≡ true → (a ≡ true) × (b ≡ true)
and-both true b is = (refl, is)
and-both false b is = absurd (let no : false ≡ true = is in cc)

and-and : (a b c : Bool) → (a && (b && c)) ≡ ((a && b) && c)
and-and true b c = refl
and-and false b c = refl

module _ {S : Type 0} (found : Image → S → Type 0) (slot_steady : S → Bool) (each : (image : Image) (slot : S) → found image slot → slot_steady slot ≡ true) where
  abbrev IsSteadyRing : RingState S → Type 0
  IsSteadyRing ring = slot_steady ring.cell.slot ≡ true

  abbrev IsSteadyFile : LeftAlone S → Type 0
  IsSteadyFile file = slot_steady file.slot ≡ true

  -- the slots that were returned with listed collections, and with files that were left alone
  rings-steady : (images : List ℕ → Image) (made : List (List ℕ)) (rings : List (RingState S)) (left : List (LeftAlone S)) → HandsBack found images made rings left → AllByRecursion IsSteadyRing rings
  rings-steady images _ _ _ nothing = tt
  rings-steady images _ _ _ (with_ring made rings left name ring before named is) =
      each-append IsSteadyRing rings (ring ∷ []) (rings-steady images made rings left before) (each (images name) ring.cell.slot is, tt)
  rings-steady images _ _ _ (alone made rings left name file before named is) = rings-steady images made rings left before

  files-steady : (images : List ℕ → Image) (made : List (List ℕ)) (rings : List (RingState S)) (left : List (LeftAlone S)) → HandsBack found images made rings left → AllByRecursion IsSteadyFile left
  files-steady images _ _ _ nothing = tt
  files-steady images _ _ _ (with_ring made rings left name ring before named is) = files-steady images made rings left before
  files-steady images _ _ _ (alone made rings left name file before named is) =
      each-append IsSteadyFile left (file ∷ []) (files-steady images made rings left before) (each (images name) file.slot is, tt)

  all-slots : (rings : List (RingState S)) → AllByRecursion IsSteadyRing rings → list_all (λ (slot : List ℕ × S). slot_steady slot.1) (slots_of (map loaded_from rings)) ≡ true
  all-slots [] are = refl
  all-slots (ring ∷ rings) are = rw are.0 (all-slots rings are.1)

  all-files : (left : List (LeftAlone S)) → AllByRecursion IsSteadyFile left → list_all (λ (file : LeftAlone S). slot_steady file.slot) left ≡ true
  all-files [] are = refl
  all-files (file ∷ left) are = rw are.0 (all-files left are.1)

pub loaded-steady : {F S : Type 0} (found : Image → S → Type 0) (is_honest folder_steady : F → Bool) (faults : F → ℕ) (images : F → List ℕ → Image) (may_leave : F → List ℕ → Image → Type 0)
    (made : F → List (List ℕ)) (slot_steady : S → Bool) (folder : F) (disk : DiskState F S) (state : State) → ((image : Image) (slot : S) → found image slot → slot_steady slot ≡ folder_steady folder)
    → IsLoaded found is_honest folder_steady faults images may_leave made folder disk state → is_steady folder_steady slot_steady disk ≡ folder_steady folder
loaded-steady {F} {S} found is_honest folder_steady faults images may_leave made slot_steady folder disk state each is =
    let pass : (b : Bool) → folder_steady folder ≡ b → is_steady folder_steady slot_steady disk ≡ b =
    elim [
      | true ↦ λ steady.
          let as_found : (image : Image) (slot : S) → found image slot → slot_steady slot ≡ true = λ image slot was. each image slot was ∙ steady in
          let here : folder_steady disk.folder ≡ true = is.steady.same ∙ steady in
          let taken = rings-steady found slot_steady as_found (images folder) is.loads.rest is.loads.taken is.loaded.left_alone.items is.loads.handed in
          let rings = recursion_from_All (IsSteadyRing found slot_steady as_found) is.loaded.rings.items
          (All-permutation (IsSteadyRing found slot_steady as_found) is.loads.taken is.loaded.rings.items is.loads.by_stem.same (All-from_recursion (IsSteadyRing found slot_steady as_found) is.loads.taken taken)) in
          let slots : list_all (λ (slot : List ℕ × S). slot_steady slot.1) disk.slots ≡ true =
          ap (λ (d : DiskState F S). list_all (λ (slot : List ℕ × S). slot_steady slot.1) d.slots) is.kept ∙ all-slots found slot_steady as_found is.loaded.rings.items rings in
          let files : list_all (λ (file : LeftAlone S). slot_steady file.slot) disk.left_alone ≡ true =
          ap (λ (d : DiskState F S). list_all (λ (file : LeftAlone S). slot_steady file.slot) d.left_alone) is.kept
          ∙ all-files found slot_steady as_found is.loaded.left_alone.items (files-steady found slot_steady as_found (images folder) is.loads.rest is.loads.taken is.loaded.left_alone.items is.loads.handed) in
          let last : slot_steady disk.aliases ≡ true =
          ap (λ (d : DiskState F S). slot_steady d.aliases) is.kept ∙ as_found (images folder aliases) (alias_slot is.loaded.aliases) is.loads.alias_found in
          let spare : list_all (λ (slot : List ℕ × S). slot_steady slot.1) disk.spare ≡ true = ap (λ (d : DiskState F S). list_all (λ (slot : List ℕ × S). slot_steady slot.1) d.spare) is.kept in
          rw (here, slots, spare, files, last) refl
      | false ↦ λ unsteady. let here : folder_steady disk.folder ≡ false = is.steady.same ∙ unsteady in rw here refl
    ] in
    pass (folder_steady folder) refl

none-faultless : (fates : List Fate) → AreNone fates → AreFaultless fates
none-faultless [] none = tt
none-faultless (some ∷ fates) none = absurd none

-- ---- a storing keeps the disk as steady as it was, and over a steady one it has no fault

module _ {F S : Type 0} (folder_honest folder_steady : F → Bool) (folder_faults : F → ℕ) (images : F → List ℕ → Image) (folder_leaves : F → List ℕ → Image → Type 0) (names_made : F → List (List ℕ)) (is_honest slot_steady : S → Bool) (faults moment : S → ℕ) (left_since : S → ℕ → Image → Type 0) (may_leave : S → Image → Type 0) where
  abbrev whole : DiskState F S → Bool
  whole disk = is_steady folder_steady slot_steady disk

  abbrev At : List ℕ → Fate → Rows → Rows → DiskState F S → DiskState F S → Type 0
  At stem some before after old new = StoresAt is_honest slot_steady faults moment left_since may_leave stem some before after old new

  at-steady : (stem : List ℕ) (some : Fate) (before after : Rows) (old new : DiskState F S) → At stem some before after old new → whole new ≡ whole old
  at-steady stem some before after old new at =
      ap whole at.rest
      ∙ ap (λ b. folder_steady old.folder && (b && (list_all (λ (file : LeftAlone S). slot_steady file.slot) old.left_alone && slot_steady old.aliases))) at.all_steady

  -- a slot among steady ones is steady
  among : (stem : List ℕ) (slot : S) (slots : List (List ℕ × S)) → list_all (λ (s : List ℕ × S). slot_steady s.1) slots ≡ true → value_at stem slots ≡ Some slot → slot_steady slot ≡ true
  among stem slot [] all is = absurd (none-some slot is)
  among stem slot (e ∷ more) all is =
      let both = and-both (slot_steady e.1) (list_all (λ (s : List ℕ × S). slot_steady s.1) more) all in
      let pass : (b : Bool) → is_name stem e.0 ≡ b → slot_steady slot ≡ true =
      elim [
        | true ↦ λ here. let found : Some e.1 ≡ Some slot = rw here at is in let same : e.1 ≡ slot = cc in ap slot_steady (sym same) ∙ both.0
        | false ↦ λ off. among stem slot more both.1 (rw off at is)
      ] in
      pass (is_name stem e.0) refl

  -- the slot of a stem is steady on a steady disk
  slot-steady : (stem : List ℕ) (slot : S) (disk : DiskState F S) → whole disk ≡ true → slot_at stem disk ≡ Some slot → slot_steady slot ≡ true
  slot-steady stem slot disk steady at =
      let inner = and-both (folder_steady disk.folder) (are_steady slot_steady disk && (list_all (λ (file : LeftAlone S). slot_steady file.slot) disk.left_alone && slot_steady disk.aliases)) steady in
      let slots = and-both (are_steady slot_steady disk) (list_all (λ (file : LeftAlone S). slot_steady file.slot) disk.left_alone && slot_steady disk.aliases) inner.1 in
      let each = and-both (list_all (λ (s : List ℕ × S). slot_steady s.1) disk.slots) (list_all (λ (s : List ℕ × S). slot_steady s.1) disk.spare) slots.0 in
      let pass : (o : Option S) → value_at stem disk.slots ≡ o → option_or o (value_at stem disk.spare) ≡ Some slot → slot_steady slot ≡ true =
      elim [
        | None ↦ λ none is. among stem slot disk.spare each.1 is
        | Some it ↦ λ there is. among stem slot disk.slots each.0 (there ∙ is)
      ] in
      pass (value_at stem disk.slots) refl at

  at-never : (stem : List ℕ) (some : Fate) (before after : Rows) (old new : DiskState F S) → At stem some before after old new → whole old ≡ true → IsFault some → ⊥
  at-never stem some before after old new at steady fault = at.stores.never (slot-steady stem at.was old steady at.slot) fault

  -- the same of a collection that is made
  abbrev Made : List ℕ → StoreFate → Rows → Rows → DiskState F S → DiskState F S → Type 0
  Made stem some before after old new =
      MakesAt folder_honest folder_steady folder_faults images folder_leaves names_made is_honest slot_steady faults moment left_since may_leave stem some before after old new

  made-steady : (stem : List ℕ) (some : StoreFate) (before after : Rows) (old new : DiskState F S) → Made stem some before after old new → whole new ≡ whole old
  made-steady stem some before after old new is =
      let files = list_all (λ (file : LeftAlone S). slot_steady file.slot) old.left_alone && slot_steady old.aliases in
      ap whole is.rest
      ∙ and-and (folder_steady new.folder) (are_steady slot_steady new) files
      ∙ ap (λ b. b && files) is.slot.all_steady
      ∙ sym (and-and (folder_steady old.folder) (are_steady slot_steady old) files)

  made-never : (stem : List ℕ) (some : StoreFate) (before after : Rows) (old new : DiskState F S) → Made stem some before after old new → whole old ≡ true → IsFault (fate.Store some) → ⊥
  made-never stem some before after old new is steady fault =
      let inner = and-both (folder_steady old.folder) (are_steady slot_steady old && (list_all (λ (file : LeftAlone S). slot_steady file.slot) old.left_alone && slot_steady old.aliases)) steady in
      let was : slot_steady is.was ≡ true =
      elim is.slot.one [
        | inl had ↦ slot-steady stem is.was old steady had.0
        | inr fresh ↦ fresh.fresh.as_steady ∙ inner.0
      ] in
      is.stores.never was fault

  -- the same of the file of the aliases
  abbrev For : Fate → Option AliasRows → Option AliasRows → DiskState F S → DiskState F S → Type 0
  For some before after old new = StoresAliases is_honest slot_steady faults moment left_since may_leave some before after old new

  for-steady : (some : Fate) (before after : Option AliasRows) (old new : DiskState F S) → For some before after old new → whole new ≡ whole old
  for-steady some before after old new is =
      ap whole is.rest
      ∙ ap (λ b. folder_steady old.folder && (are_steady slot_steady old && (list_all (λ (file : LeftAlone S). slot_steady file.slot) old.left_alone && b))) is.stores.steady.same

  for-never : (some : Fate) (before after : Option AliasRows) (old new : DiskState F S) → For some before after old new → whole old ≡ true → IsFault some → ⊥
  for-never some before after old new is steady fault =
      let inner = and-both (folder_steady old.folder) (are_steady slot_steady old && (list_all (λ (file : LeftAlone S). slot_steady file.slot) old.left_alone && slot_steady old.aliases)) steady in
      let slots = and-both (are_steady slot_steady old) (list_all (λ (file : LeftAlone S). slot_steady file.slot) old.left_alone && slot_steady old.aliases) inner.1 in
      let last = and-both (list_all (λ (file : LeftAlone S). slot_steady file.slot) old.left_alone) (slot_steady old.aliases) slots.1 in
      is.stores.never last.1 fault

  -- and of whatever is asked
  abbrev Asked : Demand → StoreFate → Contents → Contents → DiskState F S → DiskState F S → Type 0
  Asked demand some before after old new = StoresDemand folder_honest folder_steady folder_faults images folder_leaves names_made is_honest slot_steady faults moment left_since may_leave demand some before after old new

  asked-steady : (demand : Demand) (some : StoreFate) (before after : Contents) (old new : DiskState F S) → Asked demand some before after old new → whole new ≡ whole old
  asked-steady (Store stem edit) some before after old new is = at-steady stem (fate.Store some) before.collections after.collections old new is
  asked-steady (Erase stem) some before after old new is = at-steady stem (fate.Store some) before.collections after.collections old new is
  asked-steady (Set_alias alias stem) some before after old new is = for-steady (fate.Store some) before.aliases after.aliases old new is
  asked-steady (Make stem label terms) some before after old new is = made-steady stem some before.collections after.collections old new is
  asked-steady (Rekey stem terms) some before after old new is = at-steady stem (fate.Store some) before.collections after.collections old new is

  asked-never : (demand : Demand) (some : StoreFate) (before after : Contents) (old new : DiskState F S) → Asked demand some before after old new → whole old ≡ true → IsFault (fate.Store some) → ⊥
  asked-never (Store stem edit) some before after old new is = at-never stem (fate.Store some) before.collections after.collections old new is
  asked-never (Erase stem) some before after old new is = at-never stem (fate.Store some) before.collections after.collections old new is
  asked-never (Set_alias alias stem) some before after old new is = for-never (fate.Store some) before.aliases after.aliases old new is
  asked-never (Make stem label terms) some before after old new is = made-never stem some before.collections after.collections old new is
  asked-never (Rekey stem terms) some before after old new is = at-never stem (fate.Store some) before.collections after.collections old new is

  -- and of a file that is read again
  abbrev Reads : Reading → ReadFate → Contents → Contents → DiskState F S → DiskState F S → Type 0
  Reads reading some before after old new = StoresReading folder_honest folder_steady folder_faults images folder_leaves names_made is_honest slot_steady faults moment left_since may_leave reading some before after old new

  reads-steady : (reading : Reading) (some : ReadFate) (before after : Contents) (old new : DiskState F S) → Reads reading some before after old new → whole new ≡ whole old
  reads-steady Aliases_file some before after old new is = for-steady (fate.Read some) before.aliases after.aliases old new is
  reads-steady (Collection_file stem) some before after old new is = at-steady stem (fate.Read some) before.collections after.collections old new is

  reads-never : (reading : Reading) (some : ReadFate) (before after : Contents) (old new : DiskState F S) → Reads reading some before after old new → whole old ≡ true → IsFault (fate.Read some) → ⊥
  reads-never Aliases_file some before after old new is = for-never (fate.Read some) before.aliases after.aliases old new is
  reads-never (Collection_file stem) some before after old new is = at-never stem (fate.Read some) before.collections after.collections old new is

  abbrev Of : ConnId → Brought → Plan → List Fate → State → DiskState F S → DiskState F S → Type 0
  Of caller brought plan fates state old new = StoresOf folder_honest folder_steady folder_faults images folder_leaves names_made is_honest slot_steady faults moment left_since may_leave caller brought plan fates state old new

  -- what a refusal leaves is as steady as before
  left-steady : (plan : Plan) (old new : DiskState F S) → KeepsSlotOf folder_honest folder_steady folder_faults images folder_leaves names_made is_honest slot_steady faults left_since plan old new → whole new ≡ whole old
  left-steady (Ends answer changes) old new is = absurd is
  left-steady (Asks (Store stem edit) next) old new is = absurd is
  left-steady (Asks (Erase stem) next) old new is = absurd is
  left-steady (Asks (Set_alias alias stem) next) old new is = absurd is
  left-steady (Asks (Rekey stem terms) next) old new is = absurd is
  left-steady (Asks (Make stem label terms) next) old new is =
      let mid : DiskState F S = record old { folder = new.folder; spare = new.spare } in
      let files = list_all (λ (file : LeftAlone S). slot_steady file.slot) old.left_alone && slot_steady old.aliases in
      ap whole is.rest
      ∙ and-and (folder_steady mid.folder) (are_steady slot_steady mid) files
      ∙ ap (λ b. b && files) (sym (ap (λ (d : DiskState F S). folder_steady d.folder && are_steady slot_steady d) is.rest) ∙ is.all_steady)
      ∙ sym (and-and (folder_steady old.folder) (are_steady slot_steady old) files)
  left-steady (Resolves reading unread next) old new is = absurd is
  left-steady (Opens stem terms next) old new is = absurd is

  pub kept-steady : (plan : Plan) (old new : DiskState F S) → KeepsSlotOrAll folder_honest folder_steady folder_faults images folder_leaves names_made is_honest slot_steady faults left_since plan old new → whole new ≡ whole old
  kept-steady plan old new (inl same) = ap whole same
  kept-steady plan old new (inr is) = left-steady plan old new is

  -- from one of these disks to the other
  abbrev Keeps-whole : DiskState F S → DiskState F S → Type 0 → Type 0
  Keeps-whole old new stores = stores → whole new ≡ whole old

  pub stores-steady : (caller : ConnId) (brought : Brought) (plan : Plan) (fates : List Fate) (state : State) (old new : DiskState F S) → Of caller brought plan fates state old new → whole new ≡ whole old
  stores-steady caller brought (Ends answer changes) fates state old new = λ stores. ap whole stores
  stores-steady caller brought (Asks demand next) fates state old new =
      let after : StoreFate → State = λ ended. demanded brought demand ended state in
      fits-either (Keeps-whole old new) (promised caller state (next stored.Stored)) _ (new ≡ old)
      (λ fits. store-either (Keeps-whole old new) ⊥ _ fates (λ none. absurd none)
      (λ ended rest (mid, at, stores). stores-steady caller brought (next ended) rest (after ended) mid new stores ∙ asked-steady demand ended (contents_of state) (contents_of (after ended)) old mid at))
      (λ stores. ap whole stores)
  stores-steady caller brought (Resolves reading unread next) fates state old new =
      let after : ReadFate → State = λ ended. settled reading ended state in
      let each : ReadFate → List Fate → Type 0 =
      λ ended rest. (mid : DiskState F S) × Reads reading ended (contents_of state) (contents_of (after ended)) old mid
      × by_reading ended (Of caller brought unread rest (after ended) mid new) (Of caller brought (next (asked caller brought (after ended))) rest (after ended) mid new) in
      let pass : (b : Bool) → Keeps-whole old new (by_test b (by_read ⊥ each fates) (Of caller brought (next (asked caller brought state)) fates state old new)) =
      elim [
        | true ↦ read-either (Keeps-whole old new) ⊥ each fates (λ none. absurd none)
            (λ ended rest (mid, at, stores).
            reading-either (Keeps-whole mid new) ended (Of caller brought unread rest (after ended) mid new) (Of caller brought (next (asked caller brought (after ended))) rest (after ended) mid new)
            (stores-steady caller brought unread rest (after ended) mid new) (stores-steady caller brought (next (asked caller brought (after ended))) rest (after ended) mid new) stores
            ∙ reads-steady reading ended (contents_of state) (contents_of (after ended)) old mid at)
        | false ↦ stores-steady caller brought (next (asked caller brought state)) fates state old new
      ] in
      pass (is_in_doubt reading state)
  stores-steady caller brought (Opens stem terms next) fates state old new = stores-steady caller brought next fates (unlocked_with brought stem terms state) old new

  -- by the first of the fates
  store-faultless : (are stores : StoreFate → List Fate → Type 0) → ((ended : StoreFate) (rest : List Fate) → are ended rest → stores ended rest → AreFaultless (fate.Store ended ∷ rest)) → (fates : List Fate)
      → by_store ⊥ are fates → by_store ⊥ stores fates → AreFaultless fates
  store-faultless are stores each [] its at = absurd its
  store-faultless are stores each (fate.Store ended ∷ rest) its at = each ended rest its at
  store-faultless are stores each (fate.Read ended ∷ rest) its at = absurd its

  read-faultless : (are stores : ReadFate → List Fate → Type 0) → ((ended : ReadFate) (rest : List Fate) → are ended rest → stores ended rest → AreFaultless (fate.Read ended ∷ rest)) → (fates : List Fate)
      → by_read ⊥ are fates → by_read ⊥ stores fates → AreFaultless fates
  read-faultless are stores each [] its at = absurd its
  read-faultless are stores each (fate.Store ended ∷ rest) its at = absurd its
  read-faultless are stores each (fate.Read ended ∷ rest) its at = each ended rest its at

  reading-faultless : (ended : ReadFate) (rest : List Fate) (one other first second : Type 0) → (one → first → AreFaultless rest) → (other → second → AreFaultless rest) → by_reading ended one other → by_reading ended first second → AreFaultless rest
  reading-faultless read.ReadFailed rest one other first second left right are stores = left are stores
  reading-faultless read.Old rest one other first second left right are stores = right are stores
  reading-faultless read.New rest one other first second left right are stores = right are stores
  reading-faultless read.Other rest one other first second left right are stores = right are stores

  pub stores-faultless : (caller : ConnId) (brought : Brought) (plan : Plan) (fates : List Fate) (state : State) (old new : DiskState F S) → AreFates caller brought plan fates state
      → Of caller brought plan fates state old new → whole old ≡ true → AreFaultless fates
  stores-faultless caller brought (Ends answer changes) fates state old new are stores steady = none-faultless fates are
  stores-faultless caller brought (Asks demand next) fates state old new are stores steady =
      let after : StoreFate → State = λ ended. demanded brought demand ended state in
      let each : StoreFate → List Fate → Type 0 = λ ended rest. AreFates caller brought (next ended) rest (after ended) in
      let uses : StoreFate → List Fate → Type 0 =
      λ ended rest. (mid : DiskState F S) × Asked demand ended (contents_of state) (contents_of (after ended)) old mid × Of caller brought (next ended) rest (after ended) mid new in
      let pass : (b : Bool) → by_test b (by_store ⊥ each fates) (AreNone fates) → by_test b (by_store ⊥ uses fates) (new ≡ old) → AreFaultless fates =
      elim [
        | true ↦ store-faultless each uses
            (λ ended rest its (mid, at, more). (
              asked-never demand ended (contents_of state) (contents_of (after ended)) old mid at steady,
              stores-faultless caller brought (next ended) rest (after ended) mid new its more (asked-steady demand ended (contents_of state) (contents_of (after ended)) old mid at ∙ steady),
            ))
            fates
        | false ↦ λ none same. none-faultless fates none
      ] in
      pass (fits (promised caller state (next stored.Stored))) are stores
  stores-faultless caller brought (Resolves reading unread next) fates state old new are stores steady =
      let after : ReadFate → State = λ ended. settled reading ended state in
      let each : ReadFate → List Fate → Type 0 =
      λ ended rest. by_reading ended (AreFates caller brought unread rest (after ended)) (AreFates caller brought (next (asked caller brought (after ended))) rest (after ended)) in
      let uses : ReadFate → List Fate → Type 0 =
      λ ended rest. (mid : DiskState F S) × Reads reading ended (contents_of state) (contents_of (after ended)) old mid
      × by_reading ended (Of caller brought unread rest (after ended) mid new) (Of caller brought (next (asked caller brought (after ended))) rest (after ended) mid new) in
      let pass : (b : Bool) → by_test b (by_read ⊥ each fates) (AreFates caller brought (next (asked caller brought state)) fates state)
      → by_test b (by_read ⊥ uses fates) (Of caller brought (next (asked caller brought state)) fates state old new) → AreFaultless fates =
      elim [
        | true ↦ read-faultless each uses
            (λ ended rest its (mid, at, more).
            let kept = reads-steady reading ended (contents_of state) (contents_of (after ended)) old mid at ∙ steady in (
              reads-never reading ended (contents_of state) (contents_of (after ended)) old mid at steady,
              reading-faultless ended rest (AreFates caller brought unread rest (after ended)) (AreFates caller brought (next (asked caller brought (after ended))) rest (after ended))
                  (Of caller brought unread rest (after ended) mid new) (Of caller brought (next (asked caller brought (after ended))) rest (after ended) mid new)
                  (λ one first. stores-faultless caller brought unread rest (after ended) mid new one first kept)
                  (λ other second. stores-faultless caller brought (next (asked caller brought (after ended))) rest (after ended) mid new other second kept) its more,
            ))
            fates
        | false ↦ λ its more. stores-faultless caller brought (next (asked caller brought state)) fates state old new its more steady
      ] in
      pass (is_in_doubt reading state) are stores
  stores-faultless caller brought (Opens stem terms next) fates state old new are stores steady = stores-faultless caller brought next fates (unlocked_with brought stem terms state) old new are stores steady
