-- How far a check has come: the files that it found under some names, and the lines that it wrote of them.
use Rattle.std.specs.Prelude.{◌≡◌, ℕ, ◌≤◌, Bool, IsTrue, IsFalse, List, [], ◌∷◌, ◌++◌, Option, None, Some}
use Rattle.std.specs.Io.KnownBytes.{Appends}
use Rattle.kr_outside.specs.Faults.{Rose, KeepsSteady}
use Rattle.kr_outside.specs.RenameDisk.{Image}
use Rattle.ring_check.specs.Folder.{verdicts_on, any_damaged}
use Rattle.ring_check.specs.Lines.{report_of}
use Rattle.ring_check.specs.declared.batches.Batch.{Batch}

-- looking at these names, one after the other, found these files; in an honest folder they have the images of their names, and
-- each other name stands for no file
pub data Finds (honest : Bool) (images : List ℕ → Image) : List (List ℕ) → List (List ℕ × List ℕ) → Type 0 where
  nothing : Finds honest images [] []
  absent : (name : List ℕ) (names : List (List ℕ)) (files : List (List ℕ × List ℕ)) → (IsTrue honest → images name ≡ None)
      → Finds honest images names files → Finds honest images (name ∷ names) files
  present : (name bytes : List ℕ) (names : List (List ℕ)) (files : List (List ℕ × List ℕ)) → (IsTrue honest → images name ≡ Some bytes)
      → Finds honest images names files → Finds honest images (name ∷ names) ((name, bytes) ∷ files)

-- Of these files, those before the batch were judged, and their lines were written, as the start of the output and its present
-- state show; the batch has the others.
pub record IsUpTo (password : Option (List ℕ)) (start now : Option (List ℕ)) (batch : Batch) (files : List (List ℕ × List ℕ)) : Type 0 where
  pub done : List (List ℕ × List ℕ)
  pub split : files ≡ done ++ batch.files.items
  pub wrote : Appends start now (report_of (verdicts_on password done))
  pub damage : batch.is_damaged ≡ any_damaged (verdicts_on password done)

-- What calls that write keep of the output, whether or not they end in a fault of it: it is open, its count of faults never
-- falls, and they end in a fault only if it rose.
pub record KeepsOutput {O : Type 0} (faults : O → ℕ) (is_steady is_closed : O → Bool) (fault : Type 0) (old new : O) : Type 0 where
  pub later : faults old ≤ faults new
  pub cause : fault → Rose (faults old) (faults new)
  pub steady : KeepsSteady (is_steady old) (is_steady new) (faults old) (faults new)
  pub is_open : IsFalse (is_closed new)
