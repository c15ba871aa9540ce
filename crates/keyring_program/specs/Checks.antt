-- The command `check`: the password that it reads, and the report that it writes of its folder, which it only looks at.
use Rattle.std.specs.Prelude.{◌≡◌, ℕ, ◌≤◌, ◌⊎◌, Bool, IsTrue, IsFalse, List, [], Option}
use Rattle.kr_outside.specs.Faults.{Rose, KeepsSteady}
use Rattle.kr_outside.specs.Folder.{AreTold}
use Rattle.kr_outside.specs.RenameDisk.{Image}
use Rattle.ring_check.specs.Folder.{Reports}
use Rattle.ring_check.specs.Looks.{HasFailed, OnlyLooks}
use Rattle.ring_check.specs.declared.ending.CheckEnd.{CheckEnd}
use Rattle.ring_check.specs.declared.ending.CheckEnd.TheVariants as end
use Rattle.ring_check.specs.declared.reading.Looked.{Looked}
use Rattle.keyring_program.specs.FirstLine.{TakesPassword, TakesTooMuch}
use Rattle.keyring_program.specs.Status.{status_of_check}
use Rattle.keyring_program.specs.declared.status.Status.{Status}
use Rattle.keyring_program.specs.declared.status.Status.TheVariants as status

-- What a check with this status read of its input, which stays open: a password and nothing else, if one was asked for, and
-- otherwise nothing. It was read whole before a folder could fail.
pub record ReadsPassword {I : Type 0} (left : I → Option (List ℕ)) (faults : I → ℕ) (is_steady is_closed : I → Bool) (is_asked : Bool) (old new : I) (ending : Status) : Type 0 where
  pub unasked : IsFalse is_asked → new ≡ old
  pub read_fault : ending ≡ status.ReadFault → IsTrue is_asked × Rose (faults old) (faults new)
  pub too_long : ending ≡ status.PasswordTooLong → IsTrue is_asked × TakesTooMuch (left old) (left new)
  pub taken : ending ≡ status.FolderFault → (password : Option (List ℕ)) × TakesPassword left is_asked old new password
  pub later : faults old ≤ faults new
  pub steady : KeepsSteady (is_steady old) (is_steady new) (faults old) (faults new)
  pub is_open : IsFalse (is_closed new)

-- The check of a folder that the host opened, by this password if there is one. The folder has the images that the host reported, if
-- it reported any, and no slot was made of it before. What is left of it, and each slot that was made, is untouched. The report
-- of those images was written, or a prefix of it.
pub record Checks {D S : Type 0} (images : D → List ℕ → Image) (may_leave : D → List ℕ → Image → Type 0) (made : D → List (List ℕ)) (is_honest is_steady : D → Bool) (faults : D → ℕ) (slot_faults : S → ℕ) (untouched : Bool → Bool → Image → (Image → Type 0) → S → Type 0) (told : Option (List ℕ → Image)) (honest steady : Bool) (password old new : Option (List ℕ)) (status : Status) (after : D) (looked : List (Looked S)) : Type 0 where
  pub folder : D
  pub are_told : AreTold told (images folder)
  pub fresh : made folder ≡ []
  pub as_honest : is_honest folder ≡ honest
  pub as_steady : is_steady folder ≡ steady
  -- the folder is only looked at
  pub looks : OnlyLooks (λ name. untouched (is_honest folder) (is_steady folder) (images folder name) (may_leave folder name)) (is_honest folder) images may_leave made is_honest is_steady faults folder after looked
  pub later : faults folder ≤ faults after
  -- how it ended, what was written, and why the rest wasn't
  pub how : CheckEnd
  pub status_is : status ≡ status_of_check how
  pub reports : Reports (is_honest folder) (images folder) password how old new
  pub folder_fault : how ≡ end.FolderFault → (Rose (faults folder) (faults after) ⊎ HasFailed slot_faults looked) × ¬ (IsTrue (is_steady folder))
