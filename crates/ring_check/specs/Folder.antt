-- The check of a folder: the files that it judges, and what it writes of them (docs/KEYRING_FILES.md, "Checking a folder").
use Rattle.std.specs.Prelude.{◌≡◌, ◌⊎◌, ℕ, nat_eq, Bool, true, false, IsTrue, List, [], ◌∷◌, ◌++◌, map, Contains, Option, Some, IsSome}
use Rattle.std.specs.Io.KnownBytes.{Appends}
use Rattle.std.specs.List.{AllByRecursion, ends_with, list_any}
use Rattle.std.specs.Map.{keys_of}
use Rattle.kr_base.specs.Attributes.{IsInOrder}
use Rattle.kr_outside.specs.RenameDisk.{Image}
use Rattle.kr_outside.specs.Written.{AppendsFront}
use Rattle.folder_store.specs.Names.{ending}
use Rattle.ring_check.specs.Lines.{report_of}
use Rattle.ring_check.specs.Verdict.{verdict_of, is_damaged}
use Rattle.ring_check.specs.declared.ending.CheckEnd.{CheckEnd}
use Rattle.ring_check.specs.declared.ending.CheckEnd.TheVariants as end
use Rattle.ring_check.specs.declared.verdict.Verdict.{Verdict}

-- whether the check reads a file of this name: it ends in `.keyring`
abbrev pub is_checked : List ℕ → Bool
is_checked name = ends_with nat_eq name ending

-- The files that a check judges, each a name and its bytes. In an honest folder they are all files whose names end in
-- `.keyring`. In any folder they are in byte order of their names, no two of which are equal.
pub record AreChecked (honest : Bool) (images : List ℕ → Image) (files : List (List ℕ × List ℕ)) : Type 0 where
  pub ordered : IsInOrder files
  pub named : (name : List ℕ) → Contains (keys_of files) name → IsTrue (is_checked name)
  pub told : IsTrue honest → AllByRecursion (λ file. images file.0 ≡ Some file.1) files
  pub all : IsTrue honest → (name : List ℕ) → IsTrue (is_checked name) → IsSome (images name) → Contains (keys_of files) name

-- the verdicts on files
abbrev pub verdicts_on : Option (List ℕ) → List (List ℕ × List ℕ) → List Verdict
verdicts_on password files = map (verdict_of password) files

-- whether one of these files is damaged, or too large
abbrev pub any_damaged : List Verdict → Bool
any_damaged verdicts = list_any (λ verdict. is_damaged verdict.row) verdicts

-- What a check that ended in this way has written of these verdicts: their lines, one after the other, if it read the whole
-- folder, and otherwise a prefix of these lines. It ends with `Damaged` if a file is damaged, and with `Done` if none is.
abbrev pub Writes : CheckEnd → Option (List ℕ) → Option (List ℕ) → List Verdict → Type 0
Writes end.Done old new verdicts = Appends old new (report_of verdicts) × (any_damaged verdicts ≡ false)
Writes end.Damaged old new verdicts = Appends old new (report_of verdicts) × (any_damaged verdicts ≡ true)
Writes _ old new verdicts = AppendsFront old new (report_of verdicts)

-- nothing was written, and the check ended before it knew the names of the folder
abbrev pub WritesNothing : CheckEnd → Option (List ℕ) → Option (List ℕ) → Type 0
WritesNothing end.Done old new = ⊥
WritesNothing end.Damaged old new = ⊥
WritesNothing _ old new = Appends old new []

-- the lines of the files in the folder with these images, or a prefix of them, were written
pub record WritesReport (honest : Bool) (images : List ℕ → Image) (password : Option (List ℕ)) (end : CheckEnd) (old new : Option (List ℕ)) : Type 0 where
  pub files : List (List ℕ × List ℕ)
  pub are : AreChecked honest images files
  pub wrote : Writes end old new (verdicts_on password files)

-- a check of the folder with these images, by this password if there is one, ended in this way, and wrote that
abbrev pub Reports : Bool → (List ℕ → Image) → Option (List ℕ) → CheckEnd → Option (List ℕ) → Option (List ℕ) → Type 0
Reports honest images password end old new = WritesReport honest images password end old new ⊎ WritesNothing end old new
