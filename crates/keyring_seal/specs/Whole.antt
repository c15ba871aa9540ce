-- Whole keyring files under a key.
use Rattle.std.specs.Prelude.{◌≡◌, ℕ, List, ◌++◌, length, Result, Ok, Err}
use Rattle.aes_cbc.specs.Cbc.{encrypted, decrypted}
use Rattle.keyring_text.specs.FieldReading.{◌>>=◌}
use Rattle.keyring_file.specs.AreaText.{AreaText}
use Rattle.keyring_file.specs.Canonical.{area_text, clear_text}
use Rattle.keyring_file.specs.Clear.{ClearPart}
use Rattle.keyring_file.specs.ClearText.{ClearText}
use Rattle.keyring_file.specs.Limits.{file_limit}
use Rattle.keyring_file.specs.FileReading.{area_read, clear_read}
use Rattle.keyring_file.specs.declared.fault.AreaFault.{AreaFault}
use Rattle.keyring_file.specs.declared.fault.ClearFault.{ClearFault}
use Rattle.keyring_seal.specs.declared.content.Content.{Content}
use Rattle.keyring_seal.specs.declared.opening.OpenFault.{OpenFault}
use Rattle.keyring_seal.specs.declared.opening.OpenFault.TheVariants as fault
use Rattle.keyring_seal.specs.Arranged.{arranged}

-- the file is one of this content under a key and a vector: the clear part and the area, once it is decrypted, are the texts of both halves
pub record IsFileOf (file key vector : List ℕ) (content : Content) : Type 0 where
  pub area : List ℕ
  pub clear : ClearText file content.clear area
  pub items : AreaText (decrypted key vector area) content.items
  pub counted : length content.items ≡ length content.clear.items

-- the clear part, or its fault
abbrev pub in_clear_part : {A : Type 0} → Result A ClearFault → Result A OpenFault
in_clear_part (Ok x) = Ok x
in_clear_part (Err e) = Err (fault.Clear e)

-- the items, or the fault of the area
abbrev pub in_area_part : {A : Type 0} → Result A AreaFault → Result A OpenFault
in_area_part (Ok x) = Ok x
in_area_part (Err e) = Err (fault.Area e)

-- the result of opening a file under a key and a vector: its content, or the first fault
unfoldable pub opened : List ℕ → List ℕ → List ℕ → Result Content OpenFault
opened file key vector = do
  part ← in_clear_part (clear_read file)
  items ← in_area_part (area_read (length part.0.items) (decrypted key vector part.1))
  Ok (record { clear = part.0; items = items })

-- the one file to which a content is sealed under a key and a vector
unfoldable pub sealed : Content → List ℕ → List ℕ → List ℕ
sealed content key vector =
    let area = area_text (arranged content).items in
    clear_text (arranged content).clear (length area) ++ encrypted key vector area

-- the most bytes that a file may have
abbrev pub most_bytes : ℕ
most_bytes = file_limit

-- the two files have one clear part
pub record HaveOneClearPart (one two : List ℕ) : Type 0 where
  pub clear : ClearPart
  pub first : List ℕ
  pub second : List ℕ
  pub is_first : ClearText one clear first
  pub is_second : ClearText two clear second
