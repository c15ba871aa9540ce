-- A collection can be made under each stem that isn't used, whatever an event asks of the disk: the slots that it uses are those of used
-- stems, or of stems of which it leaves no file.
use Rattle.std.proofs.Common.{◌≡◌, ℕ, zero, suc, ◌<◌, ◌⊎◌, ◌||◌, Bool, true, false, cond, not, Decides, IsTrue, IfNone, IfSome, List, [], ◌∷◌, ◌++◌, filter, length, get_or, Option, Some, None, refl, sym, ap, subst, ◌∙◌, inl, inr, arith}
use Rattle.std.specs.declared.cmp.Ordering.{Ordering}
use Rattle.std.specs.declared.cmp.Ordering.TheVariants.{Less, Equal, Greater}
use Rattle.std.specs.Cmp.Lexicographic.{nat_list_cmp_total, slice_cmp}
use Rattle.std.specs.List.{AllByRecursion, Contains}
use Rattle.std.specs.Option.{option_map_or}
use Rattle.std.specs.Ordering.{is_eq, is_lt, nat_cmp, ordering_reverse}
use Rattle.std.proofs.lemmas.Cmp.{tied_itself}
use Rattle.std.proofs.lemmas.List.Folds.{list_any-append}
use Rattle.std.proofs.lemmas.Map.Lookups.{exact_bytes}
use Rattle.std.proofs.lemmas.List.{append_cancel_right}
use Rattle.std.proofs.lemmas.Map.Made.{is_member-Decides}
use Rattle.std.proofs.lemmas.Option.{none-some}
use Rattle.kr_base.specs.Attributes.{is_name, value_at}
use Rattle.kr_base.specs.declared.ids.ConnId.{ConnId}
use Rattle.kr_base.proofs.OrderedLemmas.{is_equal}
use Rattle.kr_outside.specs.RenameDisk.{Image, Only}
use Rattle.service_machine.specs.folder_store.specs.Loads.{IsFree}
use Rattle.service_machine.specs.folder_store.specs.Names.{IsRingName, ending}
use Rattle.replace_slot.specs.Cell.{File, Known, LeavesFile}
use Rattle.service_machine.specs.collection_table.specs.Entries.{changed, without, inserted}
use Rattle.service_machine.specs.collection_table.specs.Rows as collections
use Rattle.service_machine.specs.collection_table.specs.Rows.{CollectionRow, Rows}
use Rattle.stem_choice.specs.UsedStems.{is_used, with_stem}
use Rattle.service_machine.specs.service_tables.specs.declared.fate.Fate.{Fate}
use Rattle.service_machine.specs.service_tables.specs.declared.fate.Fate.TheVariants as fate
use Rattle.service_machine.specs.service_tables.specs.declared.fate.ReadFate.{ReadFate}
use Rattle.service_machine.specs.service_tables.specs.declared.fate.ReadFate.TheVariants as read
use Rattle.service_machine.specs.service_tables.specs.declared.fate.StoreFate.{StoreFate}
use Rattle.service_machine.specs.service_tables.specs.declared.fate.StoreFate.TheVariants as stored
use Rattle.service_machine.specs.service_tables.specs.Disk.{DiskState}
use Rattle.service_machine.specs.service_tables.specs.Opened.{contents_of}
use Rattle.service_machine.specs.service_tables.specs.Slots.{StoresAt, file_at, slot_at}
use Rattle.service_machine.specs.service_tables.specs.Sound.{AreSoundStems}
use Rattle.service_machine.specs.service_tables.specs.State.{State}
use Rattle.service_machine.specs.service_tables.specs.Storing.{Brought, change_of, row_changed, rows_erased}
use Rattle.service_machine.specs.service_disk.specs.Making as making
use Rattle.service_machine.specs.service_disk.specs.Making.{AreFree, IsFreeStem, MakesAt, rows_made}
use Rattle.service_machine.specs.service_disk.specs.Opening.{row_opened}
use Rattle.service_machine.specs.service_disk.specs.Rekeying.{row_rekeyed}
use Rattle.service_machine.specs.service_disk.specs.Resolving.{is_file, row_found, rows_found, rows_resolved}
use Rattle.replace_slot.specs.declared.images.Found.{Found}
use Rattle.replace_slot.specs.declared.images.Found.TheVariants as image
use Rattle.service_machine.specs.service_events.specs.declared.event.Arrival.{Arrival}
use Rattle.service_machine.specs.service_events.specs.declared.event.Event.{Event}
use Rattle.service_machine.specs.service_events.specs.declared.event.Event.TheVariants as event
use Rattle.service_machine.specs.service_events.specs.declared.event.Incoming.TheVariants as incoming
use Rattle.service_machine.specs.service_events.specs.Incoming.{Records}
use Rattle.service_machine.specs.service_events.specs.Plan.{Change, Lock_collection, Demand, Store, Erase, Set_alias, Make, Rekey, Plan, Ends, Asks, Resolves, Opens, Reading, Aliases_file, Collection_file}
use Rattle.service_machine.specs.service_events.specs.Run.{asked, by_read, by_reading, by_store, by_test, demanded, fits, is_in_doubt, key_with, made_of, performed, performed_all, promised, settled, unlocked_with}
use Rattle.service_machine.specs.service_events.specs.Stored.{StoresDemand, StoresEvent, StoresOf, StoresReading}
use Rattle.service_machine.specs.service_events.specs.Step.{brought_by, plan_of}

-- ---- what isn't in a list

module _ {V : Type 0} (stem : List ℕ) where
  first-off : (e : List ℕ × V) (more : List (List ℕ × V)) → value_at stem (e ∷ more) ≡ None → is_name stem e.0 ≡ false
  first-off e more none =
      let pass : (b : Bool) → is_name stem e.0 ≡ b → is_name stem e.0 ≡ false =
      elim [ true ↦ λ is. (let some : Some e.1 ≡ None = rw is at none in absurd (none-some e.1 (sym some))) | false ↦ λ off. off ] in
      pass (is_name stem e.0) refl

  rest-none : (e : List ℕ × V) (more : List (List ℕ × V)) → value_at stem (e ∷ more) ≡ None → value_at stem more ≡ None
  rest-none e more none = rw (first-off e more none) at none

  none-changed : (other : List ℕ) (f : V → V) (entries : List (List ℕ × V)) → value_at stem entries ≡ None → value_at stem (changed other f entries) ≡ None
  none-changed other f [] none = refl
  none-changed other f (e ∷ more) none =
      let off = first-off e more none in
      let later = none-changed other f more (rest-none e more none) in
      let pass : (b : Bool) → is_name other e.0 ≡ b → value_at stem (changed other f (e ∷ more)) ≡ None =
      elim [ true ↦ λ is. rw is (rw off later) | false ↦ λ is. rw is (rw off later) ] in
      pass (is_name other e.0) refl

  none-filter : (p : List ℕ × V → Bool) (entries : List (List ℕ × V)) → value_at stem entries ≡ None → value_at stem (filter p entries) ≡ None
  none-filter p [] none = refl
  none-filter p (e ∷ more) none =
      let off = first-off e more none in
      let later = none-filter p more (rest-none e more none) in
      let pass : (b : Bool) → p e ≡ b → value_at stem (filter p (e ∷ more)) ≡ None =
      elim [ true ↦ λ is. rw is (rw off later) | false ↦ λ is. rw is later ] in
      pass (p e) refl

  none-append : (entries more : List (List ℕ × V)) → value_at stem entries ≡ None → value_at stem more ≡ None → value_at stem (entries ++ more) ≡ None
  none-append [] more none also = also
  none-append (e ∷ entries) more none also = rw (first-off e entries none) (none-append entries more (rest-none e entries none) also)

  none-inserted : (other : List ℕ) (value : V) (entries : List (List ℕ × V)) → is_name stem other ≡ false → value_at stem entries ≡ None → value_at stem (inserted other value entries) ≡ None
  none-inserted other value entries off none =
      none-append (filter (λ entry. is_lt (slice_cmp nat_cmp entry.0 other)) entries) ((other, value) ∷ filter (λ entry. is_lt (slice_cmp nat_cmp other entry.0)) entries)
      (none-filter (λ entry. is_lt (slice_cmp nat_cmp entry.0 other)) entries none)
      (rw off (none-filter (λ entry. is_lt (slice_cmp nat_cmp other entry.0)) entries none))

-- ---- the used stems

is_name-decides : (a b : List ℕ) → Decides (is_name a b) (a ≡ b)
is_name-decides a b = (λ is. exact_bytes a b (is_equal (slice_cmp nat_cmp a b) is), λ same. subst (λ n. is_name a n ≡ true) same (ap is_eq (tied_itself nat_list_cmp_total a)))

or-off : (a b : Bool) → (a || b) ≡ false → (a ≡ false) × (b ≡ false)
or-off true b is = let no : true ≡ false = is in absurd cc
or-off false b is = (refl, is)

not-used : (stem : List ℕ) (used : List (List ℕ)) → ¬ (Contains used stem) → is_used stem used ≡ false
not-used stem used apart =
    let pass : (b : Bool) → is_used stem used ≡ b → is_used stem used ≡ false =
    elim [ true ↦ λ is. absurd (apart ((is_member-Decides is_name-decides used stem).0 is)) | false ↦ λ off. off ] in
    pass (is_used stem used) refl

unlisted : (stem : List ℕ) (used : List (List ℕ)) → is_used stem used ≡ false → ¬ (Contains used stem)
unlisted stem used off is = let both : true ≡ false = sym ((is_member-Decides is_name-decides used stem).1 is) ∙ off in cc

kept-filter : (p : List ℕ → Bool) (stem : List ℕ) (used : List (List ℕ)) → p stem ≡ true → is_used stem used ≡ true → is_used stem (filter p used) ≡ true
kept-filter p stem [] on is = is
kept-filter p stem (first ∷ more) on is =
    let pass : (b : Bool) → is_name stem first ≡ b → is_used stem (filter p (first ∷ more)) ≡ true =
    elim [
      | true ↦ λ at.
          let here : p first ≡ true = ap p (sym ((is_name-decides stem first).0 at)) ∙ on in
          rw here (rw at refl)
      | false ↦ λ off.
          let later = kept-filter p stem more on (rw off at is) in
          let step : (c : Bool) → p first ≡ c → is_used stem (filter p (first ∷ more)) ≡ true = elim [ true ↦ λ here. rw here (rw off later) | false ↦ λ here. rw here later ] in
          step (p first) refl
    ] in
    pass (is_name stem first) refl

-- a stem that isn't used once another was put in isn't that one, and wasn't used before
with-off : (other stem : List ℕ) (used : List (List ℕ)) → is_used stem (with_stem other used) ≡ false → (is_name stem other ≡ false) × (is_used stem used ≡ false)
with-off other stem used off =
    let before = filter (λ (x : List ℕ). is_lt (slice_cmp nat_cmp x other)) used in
    let after = filter (λ (x : List ℕ). is_lt (slice_cmp nat_cmp other x)) used in
    let parts = or-off (is_used stem before) (is_name stem other || is_used stem after) (sym (list_any-append (is_name stem) before (other ∷ after)) ∙ off) in
    let rest = or-off (is_name stem other) (is_used stem after) parts.1 in
    let pass : (b : Bool) → is_used stem used ≡ b → is_used stem used ≡ false =
    elim [
      | true ↦ λ is.
          let step : (o : Ordering) → slice_cmp nat_cmp stem other ≡ o → ⊥ =
          elim [
            | Less ↦ λ tie. (let on = kept-filter (λ (x : List ℕ). is_lt (slice_cmp nat_cmp x other)) stem used (ap is_lt tie) is in let both : true ≡ false = sym on ∙ parts.0 in cc)
            | Equal ↦ λ tie. (let both : true ≡ false = sym (ap is_eq tie) ∙ rest.0 in cc)
            | Greater ↦ λ tie.
                let turned : slice_cmp nat_cmp other stem ≡ Less = nat_list_cmp_total.antisymm other stem ∙ ap ordering_reverse tie in
                let on = kept-filter (λ (x : List ℕ). is_lt (slice_cmp nat_cmp other x)) stem used (ap is_lt turned) is in
                let both : true ≡ false = sym on ∙ rest.1 in
                cc
          ] in
          absurd (step (slice_cmp nat_cmp stem other) refl)
      | false ↦ λ no. no
    ] in
    (rest.0, pass (is_used stem used) refl)

name-turned : (a b : List ℕ) → is_name a b ≡ false → is_name b a ≡ false
name-turned a b off =
    let pass : (c : Bool) → is_name b a ≡ c → is_name b a ≡ false =
    elim [
      | true ↦ λ is.
          let same : b ≡ a = (is_name-decides b a).0 is in
          let on : is_name a b ≡ true = (is_name-decides a b).1 (sym same) in
          let both : true ≡ false = sym on ∙ off in
          absurd cc
      | false ↦ λ no. no
    ] in
    pass (is_name b a) refl

-- each stem that has a collection is used
abbrev pub AreTaken : State → Type 0
AreTaken state = (stem : List ℕ) → is_used stem state.used ≡ false → value_at stem state.collections ≡ None

all-taken : (rows : Rows) (used : List (List ℕ)) (stem : List ℕ) → AllByRecursion (λ (row : List ℕ × CollectionRow). IsTrue (is_used row.0 used)) rows → is_used stem used ≡ false → value_at stem rows ≡ None
all-taken [] used stem all off = refl
all-taken (row ∷ rows) used stem all off =
    let pass : (b : Bool) → is_name stem row.0 ≡ b → value_at stem (row ∷ rows) ≡ None =
    elim [
      | true ↦ λ is.
          let same : stem ≡ row.0 = (is_name-decides stem row.0).0 is in
          let on : is_used stem used ≡ true = ap (λ s. is_used s used) same ∙ all.0 in
          let both : true ≡ false = sym on ∙ off in
          absurd cc
      | false ↦ λ no. rw no (all-taken rows used stem all.1 off)
    ] in
    pass (is_name stem row.0) refl

pub taken-sound : (state : State) → AreSoundStems state.collections state.used → AreTaken state
taken-sound state stems = λ stem off. all-taken state.collections state.used stem stems.taken off

-- ---- changes of the state

used-performed : (caller : ConnId) (change : Change) (state : State) → (performed caller change state).used ≡ state.used
used-performed caller (Lock_collection stem) state = refl
used-performed caller _ state = refl

taken-performed : (caller : ConnId) (change : Change) (state : State) → AreTaken state → AreTaken (performed caller change state)
taken-performed caller (Lock_collection stem) state taken = λ other off. none-changed other stem collections.locked state.collections (taken other off)
taken-performed caller _ state taken = taken

used-all : (caller : ConnId) (changes : List Change) (state : State) → (performed_all caller changes state).used ≡ state.used
used-all caller [] state = refl
used-all caller (change ∷ changes) state = used-all caller changes (performed caller change state) ∙ used-performed caller change state

taken-all : (caller : ConnId) (changes : List Change) (state : State) → AreTaken state → AreTaken (performed_all caller changes state)
taken-all caller [] state taken = taken
taken-all caller (change ∷ changes) state taken = taken-all caller changes (performed caller change state) (taken-performed caller change state taken)

-- ---- what is asked of the disk

none-erased : (stem other : List ℕ) (some : StoreFate) (rows : Rows) → value_at other rows ≡ None → value_at other (rows_erased stem some rows) ≡ None
none-erased stem other stored.Stored rows none = none-filter other (λ entry. not (is_name stem entry.0)) rows none
none-erased stem other stored.Unsure rows none = none-changed other stem collections.perhaps_removed rows none
none-erased stem other _ rows none = none

none-found : (stem other : List ℕ) (found : Found) (rows : Rows) → value_at other rows ≡ None → value_at other (rows_found stem found rows) ≡ None
none-found stem other found rows none =
    let pass : (b : Bool) → value_at other (cond b (changed stem (row_found found) rows) (without stem rows)) ≡ None =
    elim [ true ↦ none-changed other stem (row_found found) rows none | false ↦ none-filter other (λ entry. not (is_name stem entry.0)) rows none ] in
    pass (is_file found (file_at stem rows))

none-resolved : (stem other : List ℕ) (some : ReadFate) (rows : Rows) → value_at other rows ≡ None → value_at other (rows_resolved stem some rows) ≡ None
none-resolved stem other read.Old rows none = none-found stem other image.Old rows none
none-resolved stem other read.New rows none = none-found stem other image.New rows none
none-resolved stem other read.Other rows none = none-filter other (λ entry. not (is_name stem entry.0)) rows none
none-resolved stem other _ rows none = none

none-made : (stem other : List ℕ) (plan : making.Plan) (some : StoreFate) (rows : Rows) → is_name other stem ≡ false → value_at other rows ≡ None → value_at other (rows_made stem plan some rows) ≡ None
none-made stem other plan stored.Stored rows off none = none-inserted other stem _ rows off none
none-made stem other plan stored.Unsure rows off none = none-inserted other stem _ rows off none
none-made stem other plan _ rows off none = none

taken-demanded : (brought : Brought) (demand : Demand) (some : StoreFate) (state : State) → AreTaken state → AreTaken (demanded brought demand some state)
taken-demanded brought (Store stem edit) some state taken = λ other off. none-changed other stem (row_changed (change_of brought.value edit) brought.now some) state.collections (taken other off)
taken-demanded brought (Erase stem) some state taken = λ other off. none-erased stem other some state.collections (taken other off)
taken-demanded brought (Make stem label terms) some state taken =
    λ other off. (let parts = with-off stem other state.used off in none-made stem other (made_of brought terms label) some state.collections parts.0 (taken other parts.1))
taken-demanded brought (Rekey stem terms) some state taken = λ other off. none-changed other stem (row_rekeyed (key_with brought terms) brought.now some) state.collections (taken other off)
taken-demanded brought _ some state taken = taken

taken-settled : (reading : Reading) (some : ReadFate) (state : State) → AreTaken state → AreTaken (settled reading some state)
taken-settled Aliases_file some state taken = taken
taken-settled (Collection_file stem) some state taken = λ other off. none-resolved stem other some state.collections (taken other off)

-- what follows of both ways follows of either
either-reading : (ended : ReadFate) (one other so : Type 0) → (one → so) → (other → so) → by_reading ended one other → so
either-reading read.ReadFailed one other so first second is = first is
either-reading read.Old one other so first second is = second is
either-reading read.New one other so first second is = second is
either-reading read.Other one other so first second is = second is

-- ---- the slots of free stems

contains-cons : (x z : List ℕ) (xs : List (List ℕ)) (k : ℕ) → k < length (x ∷ xs) → get_or (x ∷ xs) k z ≡ z → (x ≡ z) ⊎ Contains xs z
contains-cons x z xs zero within is = inl is
contains-cons x z xs (suc k) within is = inr (k, omega (arith, within), is)

names-apart : (stem other name : List ℕ) → is_name stem other ≡ false → IsRingName name other → ¬ (IsRingName name stem)
names-apart stem other name off one two =
    let same : stem ≡ other = append_cancel_right stem other ending (sym two.spelled ∙ one.spelled) in
    let both : true ≡ false = sym ((is_name-decides stem other).1 same) ∙ off in
    cc

if-none : {S A B : Type 0} (o : Option S) → (A → B) → IfNone o A → IfNone o B
if-none None f is = f is
if-none (Some x) f is = is

module _ {F S : Type 0} (folder_honest folder_steady : F → Bool) (folder_faults : F → ℕ) (images : F → List ℕ → Image)
    (folder_leaves : F → List ℕ → Image → Type 0) (names_made : F → List (List ℕ)) (is_honest is_steady : S → Bool) (faults moment : S → ℕ)
    (left_since : S → ℕ → Image → Type 0) (may_leave : S → Image → Type 0) where
  abbrev IsFreeAt : List ℕ → DiskState F S → Type 0
  IsFreeAt stem disk = IsFreeStem folder_honest images folder_leaves names_made is_honest may_leave stem disk

  abbrev Frees : DiskState F S → Type 0
  Frees disk = AreFree folder_honest images folder_leaves names_made is_honest may_leave disk

  -- no collection can have this name in the folder
  abbrev IsUnmade : List ℕ → F → Type 0
  IsUnmade stem folder = (name : List ℕ) → IsRingName name stem → IsFree (folder_honest folder) images folder_leaves names_made folder name

  abbrev LeavesNone : Option S → Type 0
  LeavesNone slot = IfSome slot (λ slot. IsTrue (is_honest slot) → Only None (may_leave slot))

  free-same : (stem : List ℕ) (old new : DiskState F S) → slot_at stem new ≡ slot_at stem old → new.folder ≡ old.folder → IsFreeAt stem old → IsFreeAt stem new
  free-same stem old new slot folder free = record {
    unmade = subst (λ o. IfNone o (IsUnmade stem new.folder)) (sym slot) (subst (λ f. IfNone (slot_at stem old) (IsUnmade stem f)) (sym folder) free.unmade);
    kept = subst LeavesNone (sym slot) free.kept;
  }

  -- one whose slot was used is free if it has no collection
  free-stored : (stem other : List ℕ) (some : Fate) (before after : Rows) (old new : DiskState F S) → value_at other after ≡ None
      → StoresAt is_honest is_steady faults moment left_since may_leave stem some before after old new → IsFreeAt other old → IsFreeAt other new
  free-stored stem other some before after old new none stores free =
      let pass : (b : Bool) → is_name stem other ≡ b → IsFreeAt other new =
      elim [
        | true ↦ λ is.
            let same : stem ≡ other = (is_name-decides stem other).0 is in
            let at : slot_at other new ≡ Some stores.is = ap (λ s. slot_at s new) (sym same) ∙ stores.kept in
            let file : file_at stem after ≡ Known None = ap (λ o. option_map_or (λ (row : CollectionRow). row.file) o (Known None)) (ap (λ s. value_at s after) same ∙ none) in
            record {
              unmade = subst (λ o. IfNone o (IsUnmade other new.folder)) (sym at) tt;
              kept = subst LeavesNone (sym at) (λ honest. subst (λ (f : File). LeavesFile f (may_leave stores.is)) file (stores.stores.crash honest));
            }
        | false ↦ λ off. free-same other old new (stores.others other off) (ap (λ (d : DiskState F S). d.folder) stores.rest) free
      ] in
      pass (is_name stem other) refl

  -- one under which nothing was made stays free
  free-made : (stem other : List ℕ) (some : StoreFate) (before after : Rows) (old new : DiskState F S) → is_name stem other ≡ false
      → MakesAt folder_honest folder_steady folder_faults images folder_leaves names_made is_honest is_steady faults moment left_since may_leave stem some before after old new
      → IsFreeAt other old → IsFreeAt other new
  free-made stem other some before after old new off makes free =
      let same : slot_at other new ≡ slot_at other old = makes.slot.others other off in
      let folder = makes.slot.folder in
      let unmade : IsUnmade other old.folder → IsUnmade other new.folder =
      λ was name named.
      (let free = was name named in
      let slotless : ¬ (Contains (names_made new.folder) name) =
      elim makes.slot.one [
        | inl one ↦ λ is. free.slotless (subst (λ l. Contains l name) one.1 is)
        | inr one ↦ λ is.
            let in_old : Contains (one.name ∷ names_made old.folder) name = subst (λ l. Contains l name) one.alone is in
            elim (contains-cons one.name name (names_made old.folder) in_old.0 in_old.1 in_old.2) [
              | inl it ↦ names-apart stem other name off named (subst (λ n. IsRingName n stem) it one.named)
              | inr more ↦ free.slotless more
            ]
      ] in
      record {
        slotless = slotless;
        absent = λ honest. (let was_honest = sym folder.honest ∙ honest in (folder.stays was_honest).same name slotless ∙ free.absent was_honest);
        crash = λ honest image left. (let was_honest = sym folder.honest ∙ honest in free.crash was_honest image ((folder.stays was_honest).crash name slotless image left));
      }) in
      record {
        unmade = subst (λ o. IfNone o (IsUnmade other new.folder)) (sym same) (if-none (slot_at other old) unmade free.unmade);
        kept = subst LeavesNone (sym same) free.kept;
      }

  abbrev Does : Demand → StoreFate → State → State → DiskState F S → DiskState F S → Type 0
  Does demand some state after old new =
      StoresDemand folder_honest folder_steady folder_faults images folder_leaves names_made is_honest is_steady faults moment left_since may_leave demand some (contents_of state) (contents_of after) old new

  -- the disk has the used stems of the state
  used-demanded : (brought : Brought) (demand : Demand) (some : StoreFate) (state : State) (old new : DiskState F S) → old.used ≡ state.used → Does demand some state (demanded brought demand some state) old new
      → new.used ≡ (demanded brought demand some state).used
  used-demanded brought (Store stem edit) some state old new same does = ap (λ (d : DiskState F S). d.used) does.rest ∙ same
  used-demanded brought (Erase stem) some state old new same does = ap (λ (d : DiskState F S). d.used) does.rest ∙ same
  used-demanded brought (Set_alias alias stem) some state old new same does = ap (λ (d : DiskState F S). d.used) does.rest ∙ same
  used-demanded brought (Make stem label terms) some state old new same does = does.used ∙ ap (with_stem stem) same
  used-demanded brought (Rekey stem terms) some state old new same does = ap (λ (d : DiskState F S). d.used) does.rest ∙ same

  free-at : (stem other : List ℕ) (some : Fate) (before after : Rows) (old new : DiskState F S) → is_used other old.used ≡ false → value_at other after ≡ None
      → StoresAt is_honest is_steady faults moment left_since may_leave stem some before after old new → Frees old → IsFreeAt other new
  free-at stem other some before after old new off none stores free = free-stored stem other some before after old new none stores (free other (unlisted other old.used off))

  free-aliases : (other : List ℕ) (old new : DiskState F S) → is_used other old.used ≡ false → new ≡ record old { aliases = new.aliases } → Frees old → IsFreeAt other new
  free-aliases other old new off rest free =
      free-same other old new (ap (slot_at other) rest) (ap (λ (d : DiskState F S). d.folder) rest) (free other (unlisted other old.used off))

  -- what is asked of the disk leaves each free stem free
  free-asked : (brought : Brought) (demand : Demand) (some : StoreFate) (state : State) (old new : DiskState F S) (other : List ℕ) → old.used ≡ state.used
      → is_used other (demanded brought demand some state).used ≡ false → value_at other (demanded brought demand some state).collections ≡ None
      → Does demand some state (demanded brought demand some state) old new → Frees old → IsFreeAt other new
  free-asked brought (Store stem edit) some state old new other same off none does free =
      free-at stem other (fate.Store some) state.collections (demanded brought (Store stem edit) some state).collections old new (ap (is_used other) same ∙ off) none does free
  free-asked brought (Erase stem) some state old new other same off none does free =
      free-at stem other (fate.Store some) state.collections (demanded brought (Erase stem) some state).collections old new (ap (is_used other) same ∙ off) none does free
  free-asked brought (Set_alias alias stem) some state old new other same off none does free = free-aliases other old new (ap (is_used other) same ∙ off) does.rest free
  free-asked brought (Make stem label terms) some state old new other same off none does free =
      let parts = with-off stem other state.used off in
      free-made stem other some state.collections (demanded brought (Make stem label terms) some state).collections old new (name-turned other stem parts.0) does
      (free other (unlisted other old.used (ap (is_used other) same ∙ parts.1)))
  free-asked brought (Rekey stem terms) some state old new other same off none does free =
      free-at stem other (fate.Store some) state.collections (demanded brought (Rekey stem terms) some state).collections old new (ap (is_used other) same ∙ off) none does free

  free-demanded : (brought : Brought) (demand : Demand) (some : StoreFate) (state : State) (old new : DiskState F S) → old.used ≡ state.used → AreTaken state
      → Does demand some state (demanded brought demand some state) old new → Frees old → Frees new
  free-demanded brought demand some state old new same taken does free = λ other no.
      (let unused : is_used other (demanded brought demand some state).used ≡ false =
      ap (is_used other) (sym (used-demanded brought demand some state old new same does)) ∙ not-used other new.used no in
      free-asked brought demand some state old new other same unused (taken-demanded brought demand some state taken other unused) does free)

  -- so does a file that is read again
  abbrev Rereads : Reading → ReadFate → State → DiskState F S → DiskState F S → Type 0
  Rereads reading some state old new =
      StoresReading folder_honest folder_steady folder_faults images folder_leaves names_made is_honest is_steady faults moment left_since may_leave reading some (contents_of state) (contents_of (settled reading some state)) old new

  used-settled : (reading : Reading) (some : ReadFate) (state : State) (old new : DiskState F S) → old.used ≡ state.used → Rereads reading some state old new → new.used ≡ (settled reading some state).used
  used-settled Aliases_file some state old new same does = ap (λ (d : DiskState F S). d.used) does.rest ∙ same
  used-settled (Collection_file stem) some state old new same does = ap (λ (d : DiskState F S). d.used) does.rest ∙ same

  free-reread : (reading : Reading) (some : ReadFate) (state : State) (old new : DiskState F S) (other : List ℕ) → old.used ≡ state.used
      → is_used other (settled reading some state).used ≡ false → value_at other (settled reading some state).collections ≡ None → Rereads reading some state old new → Frees old → IsFreeAt other new
  free-reread Aliases_file some state old new other same off none does free = free-aliases other old new (ap (is_used other) same ∙ off) does.rest free
  free-reread (Collection_file stem) some state old new other same off none does free =
      free-at stem other (fate.Read some) state.collections (settled (Collection_file stem) some state).collections old new (ap (is_used other) same ∙ off) none does free

  free-settled : (reading : Reading) (some : ReadFate) (state : State) (old new : DiskState F S) → old.used ≡ state.used → AreTaken state → Rereads reading some state old new → Frees old → Frees new
  free-settled reading some state old new same taken does free = λ other no.
      (let unused : is_used other (settled reading some state).used ≡ false = ap (is_used other) (sym (used-settled reading some state old new same does)) ∙ not-used other new.used no in
      free-reread reading some state old new other same unused (taken-settled reading some state taken other unused) does free)

  module _ (caller : ConnId) (brought : Brought) where
    abbrev Stores : Plan → List Fate → State → DiskState F S → DiskState F S → Type 0
    Stores plan fates state old new =
        StoresOf folder_honest folder_steady folder_faults images folder_leaves names_made is_honest is_steady faults moment left_since may_leave caller brought plan fates state old new

    -- so does what a plan asks for
    free-stores : (plan : Plan) (fates : List Fate) (state : State) (old new : DiskState F S) → old.used ≡ state.used → AreTaken state → Stores plan fates state old new → Frees old → Frees new
    free-stores (Ends answer changes) fates state old new same taken stores free = subst Frees (sym stores) free
    free-stores (Asks demand next) fates state old new same taken stores free =
        let Has : List Fate → Type 0 =
        by_store ⊥ (λ ended rest. (mid : DiskState F S) × Does demand ended state (demanded brought demand ended state) old mid × Stores (next ended) rest (demanded brought demand ended state) mid new) in
        let asks : (these : List Fate) → Has these → Frees new =
        elim [
          | [] ↦ λ are. absurd are
          | some ∷ rest ↦
              let first : (f : Fate) → Has (f ∷ rest) → Frees new =
              elim [
                | fate.Read ended ↦ λ are. absurd are
                | fate.Store ended ↦ λ are.
                    free-stores (next ended) rest (demanded brought demand ended state) are.0 new (used-demanded brought demand ended state old are.0 same are.1) (taken-demanded brought demand ended state taken) are.2
                    (free-demanded brought demand ended state old are.0 same taken are.1 free)
              ] in
              first some
        ] in
        let pass : (b : Bool) → by_test b (Has fates) (new ≡ old) → Frees new = elim [ true ↦ asks fates | false ↦ λ is. subst Frees (sym is) free ] in
        pass (fits (promised caller state (next stored.Stored))) stores
    free-stores (Resolves reading unread next) fates state old new same taken stores free =
        let Has : List Fate → Type 0 =
        by_read ⊥ (λ ended rest. (mid : DiskState F S) × Rereads reading ended state old mid
        × by_reading ended (Stores unread rest (settled reading ended state) mid new) (Stores (next (asked caller brought (settled reading ended state))) rest (settled reading ended state) mid new)) in
        let reads : (these : List Fate) → Has these → Frees new =
        elim [
          | [] ↦ λ are. absurd are
          | some ∷ rest ↦
              let first : (f : Fate) → Has (f ∷ rest) → Frees new =
              elim [
                | fate.Store ended ↦ λ are. absurd are
                | fate.Read ended ↦ λ are.
                    let after = settled reading ended state in
                    let its = used-settled reading ended state old are.0 same are.1 in
                    let taken_then = taken-settled reading ended state taken in
                    let free_then = free-settled reading ended state old are.0 same taken are.1 free in
                    either-reading ended (Stores unread rest after are.0 new) (Stores (next (asked caller brought after)) rest after are.0 new) (Frees new)
                    (λ is. free-stores unread rest after are.0 new its taken_then is free_then) (λ is. free-stores (next (asked caller brought after)) rest after are.0 new its taken_then is free_then) are.2
              ] in
              first some
        ] in
        let pass : (b : Bool) → by_test b (Has fates) (Stores (next (asked caller brought state)) fates state old new) → Frees new =
        elim [ true ↦ reads fates | false ↦ λ is. free-stores (next (asked caller brought state)) fates state old new same taken is free ] in
        pass (is_in_doubt reading state) stores
    free-stores (Opens stem terms next) fates state old new same taken stores free =
        free-stores next fates (unlocked_with brought stem terms state) old new same
        (λ other off. none-changed other stem (row_opened (key_with brought terms)) state.collections (taken other off)) stores free

  -- so does a request
  pub free-arrived : (arrival : Arrival) (event : Event) (state : State) (old new : DiskState F S) → Records (incoming.Arrive arrival) event → old.used ≡ state.used
      → AreSoundStems state.collections state.used
      → StoresEvent folder_honest folder_steady folder_faults images folder_leaves names_made is_honest is_steady faults moment left_since may_leave event state old new
      → Frees old → Frees new
  free-arrived arrival (event.Connect conn) state old new records same stems stores free = absurd records
  free-arrived arrival (event.Arrive came) state old new records same stems stores free =
      let conn = came.arrival.conn in
      let brought = brought_by came.arrival in
      free-stores conn brought (plan_of came.arrival.salt came.arrival.request.call (asked conn brought state)) came.fates state old new same (taken-sound state stems) stores free
  free-arrived arrival (event.Derived came) state old new records same stems stores free = absurd records
  free-arrived arrival (event.Leave conn) state old new records same stems stores free = absurd records
  free-arrived arrival (event.Take conn) state old new records same stems stores free = absurd records
  free-arrived arrival (event.Gone conn) state old new records same stems stores free = absurd records
