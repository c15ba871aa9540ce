-- The stems that aren't used stay free: after a start, and after each event that stores, removes or reads a file.
use Rattle.std.proofs.Common.{◌≡◌, ◌↔◌, ◌||◌, ℕ, Bool, true, false, IfNone, IfSome, IsTrue, List, [], ◌∷◌, map, Contains, None, refl, sym, ap, subst, ◌∙◌}
use Rattle.std.specs.List.{AllByRecursion}
use Rattle.std.specs.Option.{option_or}
use Rattle.kr_base.specs.Attributes.{is_name}
use Rattle.kr_outside.specs.RenameDisk.{Image, Only}
use Rattle.folder_store.specs.Aliases.{pairs_in}
use Rattle.folder_store.specs.Loads.{IsFree}
use Rattle.folder_store.specs.Names.{IsRingName}
use Rattle.folder_store.specs.declared.loading.Loaded.{Loaded}
use Rattle.service_tables.specs.collection_table.specs.Entries.{loaded_from, rows_of}
use Rattle.service_tables.specs.collection_table.specs.Rows.{CollectionRow, Rows, has}
use Rattle.stem_choice.specs.UsedStems.{is_used, with_stem}
use Rattle.service_tables.specs.Disk.{DiskState, IsLoaded, used_from, with_stems}
use Rattle.service_tables.specs.Slots.{StoresAt, slot_at}
use Rattle.service_tables.specs.Sound.{AreSoundStems}
use Rattle.service_tables.specs.State.{State}
use Rattle.service_tables.specs.declared.fate.Fate.{Fate}
use Rattle.service_disk.specs.Making.{AreFree}
use Rattle.service_disk.proofs.FreeLemmas.{no-slot}
use Rattle.service_disk.proofs.TakingLemmas.{names-apart, names-one}

module _ {F S : Type 0} (folder_honest : F → Bool) (images : F → List ℕ → Image) (folder_leaves : F → List ℕ → Image → Type 0) (made : F → List (List ℕ)) (is_honest : S → Bool)
    (may_leave : S → Image → Type 0) where
  abbrev Free : DiskState F S → Type 0
  Free disk = AreFree folder_honest images folder_leaves made is_honest may_leave disk

  -- nothing happened to the disk
  pub free-same : (old new : DiskState F S) → new ≡ old → Free old → Free new
  free-same old new same free = subst Free (sym same) free

  -- the slot of each stem that isn't used is as before
  pub free-alike : (old new : DiskState F S) → new.folder ≡ old.folder → new.used ≡ old.used → ((other : List ℕ) → ¬ (Contains old.used other) → slot_at other new ≡ slot_at other old) → Free old → Free new
  free-alike old new folder used same free = λ other off.
      let before : ¬ (Contains old.used other) = subst (λ l. ¬ (Contains l other)) used off in
      let was = free other before in
      record {
        unmade = subst (λ (f : F). IfNone (slot_at other new) ((name : List ℕ) → IsRingName name other → IsFree (folder_honest f) images folder_leaves made f name)) (sym folder)
            (subst (λ o. IfNone o ((name : List ℕ) → IsRingName name other → IsFree (folder_honest old.folder) images folder_leaves made old.folder name)) (sym (same other before)) was.unmade);
        kept = subst (λ o. IfSome o (λ slot. IsTrue (is_honest slot) → Only None (may_leave slot))) (sym (same other before)) was.kept;
      }

  -- the file of the aliases was stored or read again: the rest of `StoresAliases`
  pub free-aliases : (old new : DiskState F S) → new ≡ record old { aliases = new.aliases } → Free old → Free new
  free-aliases old new rest =
      free-alike old new (ap (λ (d : DiskState F S). d.folder) rest) (ap (λ (d : DiskState F S). d.used) rest) (λ other off. ap (slot_at other) rest)

  module _ (is_steady : S → Bool) (faults moment : S → ℕ) (left_since : S → ℕ → Image → Type 0) where
    -- the file of a stem that is used was stored, removed or read again
    pub free-stored : (stem : List ℕ) (some : Fate) (before after : Rows) (old new : DiskState F S) → Contains old.used stem
        → StoresAt is_honest is_steady faults moment left_since may_leave stem some before after old new → Free old → Free new
    free-stored stem some before after old new used stores =
        free-alike old new (ap (λ (d : DiskState F S). d.folder) stores.rest) (ap (λ (d : DiskState F S). d.used) stores.rest)
        (λ other off. stores.others other (names-apart stem other (λ same. off (subst (Contains old.used) (sym same) used))))

-- ---- a start

unlisted : (used : List (List ℕ)) (these : Rows) (stem : List ℕ) → AllByRecursion (λ (row : List ℕ × CollectionRow). IsTrue (is_used row.0 used)) these → is_used stem used ≡ false → has stem these ≡ false
unlisted used [] stem all off = refl
unlisted used (row ∷ these) stem (is, all) off =
    let step : (b : Bool) → is_name stem row.0 ≡ b → has stem (row ∷ these) ≡ false =
    elim [
      | true ↦ λ same. absurd (let no : true ≡ false = sym is ∙ ap (λ s. is_used s used) (sym (names-one stem row.0 same)) ∙ off in cc)
      | false ↦ λ apart. rw apart (unlisted used these stem all off)
    ] in
    step (is_name stem row.0) refl

unused-test : (b : Bool) → (b ≡ true → ⊥) → b ≡ false
unused-test true not_so = absurd (not_so refl)
unused-test false not_so = refl

-- no collection of sound ones has a stem that isn't used
pub unlisted-stem : (these : Rows) (used : List (List ℕ)) (stem : List ℕ) → ((stem : List ℕ) (used : List (List ℕ)) → (is_used stem used ≡ true) ↔ Contains used stem)
    → AreSoundStems these used → ¬ (Contains used stem) → has stem these ≡ false
unlisted-stem these used stem listed sound off = unlisted used these stem sound.taken (unused-test (is_used stem used) (λ is. off ((listed stem used).0 is)))

or-true : (b : Bool) → (b || true) ≡ true
or-true true = refl
or-true false = refl

module _ (listed : (stem : List ℕ) (used : List (List ℕ)) → (is_used stem used ≡ true) ↔ Contains used stem)
    (adding : (stem other : List ℕ) (used : List (List ℕ)) → is_used other (with_stem stem used) ≡ (is_name other stem || is_used other used)) where
  -- the stems that were used stay used
  still-used : (stems used : List (List ℕ)) (other : List ℕ) → is_used other used ≡ true → is_used other (with_stems stems used) ≡ true
  still-used [] used other is = is
  still-used (stem ∷ stems) used other is = still-used stems (with_stem stem used) other (adding stem other used ∙ ap (λ b. is_name other stem || b) is ∙ or-true (is_name other stem))

  -- and those that were added are used
  added-used : (stems used : List (List ℕ)) (other : List ℕ) → is_used other stems ≡ true → is_used other (with_stems stems used) ≡ true
  added-used [] used other is = absurd (let no : false ≡ true = is in cc)
  added-used (stem ∷ stems) used other is =
      let step : (b : Bool) → is_name other stem ≡ b → is_used other (with_stems stems (with_stem stem used)) ≡ true =
      elim [
        | true ↦ λ same. still-used stems (with_stem stem used) other (adding stem other used ∙ ap (λ b. b || is_used other used) same)
        | false ↦ λ apart. added-used stems (with_stem stem used) other (rw apart at is)
      ] in
      step (is_name other stem) refl

  loaded-used : {S : Type 0} (loaded : Loaded S) (other : List ℕ) → ¬ (Contains (used_from loaded) other) → ¬ (Contains loaded.used.items other)
  loaded-used loaded other off has =
      off ((listed other (used_from loaded)).0
      (still-used (map (λ (pair : List ℕ × List ℕ). pair.1) (pairs_in loaded.aliases)) (with_stems loaded.used.items []) other (added-used loaded.used.items [] other ((listed other loaded.used.items).1 has))))

  -- each stem that isn't used is free once the folder was loaded
  pub free-loaded : {F : Type 0} {S : Type 0} (found : Image → S → Type 0) (folder_honest folder_steady : F → Bool) (folder_faults : F → ℕ) (images : F → List ℕ → Image) (folder_leaves : F → List ℕ → Image → Type 0)
      (made : F → List (List ℕ)) (is_honest : S → Bool) (may_leave : S → Image → Type 0) (folder : F) (disk : DiskState F S) (state : State)
      → IsLoaded found folder_honest folder_steady folder_faults images folder_leaves made folder disk state → AreSoundStems state.collections state.used
      → AreFree folder_honest images folder_leaves made is_honest may_leave disk
  free-loaded {F = F} {S = S} found folder_honest folder_steady folder_faults images folder_leaves made is_honest may_leave folder disk state is sound = λ other off.
      let entries = map loaded_from is.loaded.rings.items in
      let unused : ¬ (Contains (used_from is.loaded) other) = subst (λ l. ¬ (Contains l other)) (ap (λ (d : DiskState F S). d.used) is.kept) off in
      let these : AreSoundStems (rows_of entries) (used_from is.loaded) = subst (λ (s : State). AreSoundStems s.collections s.used) is.starts sound in
      let none : slot_at other disk ≡ None =
      ap (slot_at other) is.kept ∙ ap (λ o. option_or o None) (no-slot other entries (unlisted-stem (rows_of entries) (used_from is.loaded) other listed these unused)) in
      record {
        unmade = subst (λ o. IfNone o ((name : List ℕ) → IsRingName name other → IsFree (folder_honest disk.folder) images folder_leaves made disk.folder name)) (sym none)
            (λ name named. subst (λ h. IsFree h images folder_leaves made disk.folder name) (sym is.honest) (is.loads.unused name other named (loaded-used is.loaded other unused)));
        kept = subst (λ o. IfSome o (λ slot. IsTrue (is_honest slot) → Only None (may_leave slot))) (sym none) tt;
      }
