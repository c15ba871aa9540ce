-- What a call of `load` guarantees of what was loaded, and of the folder before and after it.
use Rattle.std.specs.Prelude.{◌≡◌, ℕ, ◌⊎◌, ◌∷◌, Bool, IsTrue, List, None, Contains}
use Rattle.kr_outside.specs.Folder.{IsSettled}
use Rattle.kr_outside.specs.RenameDisk.{Image, Only}
use Rattle.folder_store.specs.Aliases.{AreFound, alias_slot, pairs_in}
use Rattle.folder_store.specs.declared.limits.Limits.{Limits}
use Rattle.folder_store.specs.declared.loading.Loaded.{Loaded}
use Rattle.folder_store.specs.Names.{aliases, IsRingName}
use Rattle.folder_store.specs.Opened.{Opening, IsByStem, Starts, Opened}
use Rattle.folder_store.specs.Ring.{RingState, rows_of, HandsBack}

-- what is open, without slots
abbrev pub opening_of : {S : Type 0} → Loaded S → Opening
opening_of loaded = record { rings = rows_of loaded.rings.items; used = loaded.used.items }

-- what is open is what a start makes of some files
pub record StartsOfSome (limits : Limits) (opening : Opening) : Type 0 where
  pub files : List (List ℕ × List ℕ)
  pub starts : Starts limits files opening

-- no slot was made for the name; in an honest folder it stands for no file, and a crash leaves none
pub record IsFree {F : Type 0} (honest : Bool) (images : F → List ℕ → Image) (may_leave : F → List ℕ → Image → Type 0) (made : F → List (List ℕ)) (folder : F) (name : List ℕ) : Type 0 where
  pub slotless : ¬ (Contains (made folder) name)
  pub absent : IsTrue honest → images folder name ≡ None
  pub crash : IsTrue honest → Only None (may_leave folder name)

-- the call, on a folder for which no slot was made before
pub record Loads {F S : Type 0} (limits : Limits) (found : Image → S → Type 0) (honest : Bool) (images : F → List ℕ → Image) (may_leave : F → List ℕ → Image → Type 0) (made : F → List (List ℕ)) (old new : F) (loaded : Loaded S) : Type 0 where
  -- in an honest folder, what was loaded is what a start makes of its images, including that of the aliases'
  -- file
  pub opened : IsTrue honest → Opened limits (images old) (opening_of loaded) (pairs_in loaded.aliases)
  -- in any folder
  pub some : StartsOfSome limits (opening_of loaded)
  pub found_aliases : AreFound honest (images old aliases) loaded.aliases
  -- each slot that was made is returned as it was found: one for `aliases`, and those for keyring files, whose
  -- collections are put in byte order of their stems
  pub rest : List (List ℕ)
  pub made_all : made new ≡ aliases ∷ rest
  pub taken : List (RingState S)
  pub by_stem : IsByStem (λ ring. ring.stem) taken loaded.rings.items
  pub handed : HandsBack found (images old) rest taken loaded.left_alone.items
  pub alias_found : found (images old aliases) (alias_slot loaded.aliases)
  -- slots were made only for `aliases` and for names whose stems are used; every other name is as it was, and
  -- is settled
  pub made_of : (name : List ℕ) → Contains (made new) name → (name ≡ aliases) ⊎ ((stem : List ℕ) × IsRingName name stem × Contains loaded.used.items stem)
  pub same : IsTrue honest → (name : List ℕ) → ¬ (Contains (made new) name) → images new name ≡ images old name
  pub settled : IsTrue honest → IsSettled (made new) (images new) (may_leave new)
  -- the name of the keyring file of a stem that isn't used is free
  pub unused : (name stem : List ℕ) → IsRingName name stem → ¬ (Contains loaded.used.items stem)
      → IsFree honest images may_leave made new name
