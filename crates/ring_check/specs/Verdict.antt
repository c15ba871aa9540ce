-- What the check of a folder finds of one file (docs/KEYRING_FILES.md, "Checking a folder"), by the two texts of
-- the GNOME keyring file format.
use Rattle.std.specs.Prelude.{ℕ, List, length, Option, None, Some, Result, Ok, Err, Bool, true, false, nat_lt, if◌then◌else◌}
use denote.Ref.{Bor}
use Rattle.key_derivation.specs.Kdf.{Inputs, key_of, vector_of}
use Rattle.keyring_file.specs.Clear.{ClearPart}
use Rattle.keyring_file.specs.Limits.{file_limit}
use Rattle.keyring_file.specs.FileReading.{clear_read}
use Rattle.keyring_file.specs.declared.fault.AreaFault.TheVariants as area
use Rattle.keyring_file.specs.declared.fault.ClearFault.{ClearFault}
use Rattle.keyring_seal.specs.Whole.{opened}
use Rattle.keyring_seal.specs.declared.content.Content.{Content}
use Rattle.keyring_seal.specs.declared.opening.OpenFault.{OpenFault}
use Rattle.keyring_seal.specs.declared.opening.OpenFault.TheVariants as fault
use Rattle.ring_check.specs.declared.verdict.Row.{Row}
use Rattle.ring_check.specs.declared.verdict.Row.TheVariants as row
use Rattle.ring_check.specs.declared.verdict.Summary.{Summary}
use Rattle.ring_check.specs.declared.verdict.Verdict.{Verdict}

-- the password that a reference leads to, if there is one
abbrev pub password_in : Option (Bor (List ℕ)) → Option (List ℕ)
password_in None = None
password_in (Some password) = Some password.now

-- how many items a clear part has, and its two times
abbrev pub summary_of : ClearPart → Summary
summary_of clear = record { items = length clear.items; created = clear.created; modified = clear.modified }

-- what the key of a file is derived from under a password
abbrev pub inputs_of : List ℕ → ClearPart → Inputs
inputs_of password clear = record { password = password; salt = clear.salt; iterations = clear.iterations }

-- the row of a file that has this summary and was opened: if only the check of its area differs, its password is another one
abbrev pub opened_row : Summary → Result Content OpenFault → Row
opened_row summary (Ok content) = row.Sound summary
opened_row summary (Err (fault.Clear found)) = row.Clear found
opened_row summary (Err (fault.Area area.CheckDiffers)) = row.OtherPassword summary
opened_row summary (Err (fault.Area found)) = row.Area found

-- the row of a file whose clear part is this, by the password if there is one
abbrev pub clear_row : Option (List ℕ) → List ℕ → ClearPart → Row
clear_row None file clear = row.Sound (summary_of clear)
clear_row (Some password) file clear =
    opened_row (summary_of clear) (opened file (key_of (inputs_of password clear)) (vector_of (inputs_of password clear)))

-- the row of a file whose clear part was read, or has a fault
abbrev pub read_row : Option (List ℕ) → List ℕ → Result (ClearPart × List ℕ) ClearFault → Row
read_row password file (Err found) = row.Clear found
read_row password file (Ok part) = clear_row password file part.0

-- the row of a file
unfoldable pub judged : Option (List ℕ) → List ℕ → Row
judged password file = if nat_lt file_limit (length file) then row.TooLarge else read_row password file (clear_read file)

-- the verdict on a file, which is a name and its bytes
abbrev pub verdict_of : Option (List ℕ) → List ℕ × List ℕ → Verdict
verdict_of password file = record { name = file.0; row = judged password file.1 }

-- whether a file with this row is damaged, or can't be read
abbrev pub is_damaged : Row → Bool
is_damaged (row.Sound summary) = false
is_damaged row.TooLarge = true
is_damaged (row.Clear found) = true
is_damaged (row.OtherPassword summary) = false
is_damaged (row.Area found) = true
