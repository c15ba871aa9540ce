-- GNOME keyring file format: the clear part, as a relation between a whole file, what its clear part contains, and its encrypted
-- area. Version 0.1 is ours (docs/KEYRING_FILES.md, "Version 0.1").
use Rattle.std.specs.Prelude.{◌≡◌, ℕ, ◌<◌, ◌≤◌, ◌%◌, List, [], ◌∷◌, ◌++◌, length, codes, nat_eq}
use Rattle.kr_base.specs.Attributes.{is_name}
use Rattle.kr_base.specs.declared.hashed.HashedPair.{HashedPair}
use Rattle.kr_base.specs.declared.hashed.HashedValue.{HashedValue}
use Rattle.kr_base.specs.declared.hashed.HashedValue.TheVariants as hash
use Rattle.keyring_text.specs.Fields.{number, SpellsNumber, SpellsTime, SpellsString, SpellsText, IsSpan}
use Rattle.keyring_text.specs.Forms.{◌⨾◌, Exactly, SpellsKeyed}
use Rattle.keyring_file.specs.declared.clear.ClearItem.{ClearItem}
use Rattle.keyring_file.specs.Clear.{ClearPart, plain_content}

-- the first 16 bytes of every keyring file
abbrev pub magic : List ℕ
magic = codes "GnomeKeyring" ++ 10 ∷ 13 ∷ 0 ∷ 10 ∷ []

-- the version: major 0, minor, crypto 0 (AES), hash 0 (MD5)
abbrev pub version : ℕ → List ℕ
version minor = 0 ∷ minor ∷ 0 ∷ 0 ∷ []

-- the most times that a password may be hashed
abbrev pub most_iterations : ℕ
most_iterations = 1000000

-- a hashed value with its kind: 0 and a string, 1 and a number
abbrev pub SpellsHashed : HashedValue → List ℕ → Type 0
SpellsHashed (hash.Text bytes) = Exactly (number 0) ⨾ SpellsString bytes
SpellsHashed (hash.Number n) = Exactly (number 1) ⨾ SpellsNumber n

-- a hashed attribute: its name and the hashed value
abbrev pub SpellsPair : HashedPair → List ℕ → Type 0
SpellsPair pair = SpellsText pair.name ⨾ SpellsHashed pair.value

-- the hashed attributes of an item, no name twice
abbrev pub SpellsPairs : List HashedPair → List ℕ → Type 0
SpellsPairs pairs = SpellsKeyed (λ p. p.name) is_name SpellsPair pairs

-- a content type: nothing in version 0.0, a text in version 0.1
pub data SpellsContent (minor : ℕ) (content bytes : List ℕ) : Type 0 where
  left_out : minor ≡ 0 → content ≡ plain_content → bytes ≡ [] → SpellsContent minor content bytes
  told : 0 < minor → SpellsText content bytes → SpellsContent minor content bytes

-- an item of the clear part: its number, its type, its hashed attributes, its content type
abbrev pub SpellsClearItem : ℕ → ClearItem → List ℕ → Type 0
SpellsClearItem minor item = SpellsNumber item.id.0 ⨾ SpellsNumber item.kind ⨾ SpellsPairs item.hashed ⨾ SpellsContent minor item.content

-- the items of the clear part, no number twice
abbrev pub SpellsClearItems : ℕ → List ClearItem → List ℕ → Type 0
SpellsClearItems minor items = SpellsKeyed (λ item. item.id.0) nat_eq (SpellsClearItem minor) items

-- the version: 0.0 or 0.1, with AES and MD5
pub record SpellsVersion (minor : ℕ) (bytes : List ℕ) : Type 0 where
  pub known : minor ≤ 1
  pub is : bytes ≡ version minor

-- the number of iterations, which is limited
pub record SpellsIterations (n : ℕ) (bytes : List ℕ) : Type 0 where
  pub few : n ≤ most_iterations
  pub number : SpellsNumber n bytes

-- the name, the two times, the flags, the timeout and the iterations
abbrev pub SpellsFront : ClearPart → List ℕ → Type 0
SpellsFront clear =
    SpellsText clear.name ⨾ SpellsTime clear.created ⨾ SpellsTime clear.modified ⨾ SpellsNumber clear.flags ⨾ SpellsNumber clear.timeout ⨾ SpellsIterations clear.iterations

-- eight bytes of salt
pub record IsSalt (salt bytes : List ℕ) : Type 0 where
  pub is : bytes ≡ salt
  pub len : length salt ≡ 8

-- the salt, and four reserved numbers
abbrev pub SpellsSalt : List ℕ → List ℕ → Type 0
SpellsSalt salt = IsSalt salt ⨾ IsSpan 16

-- all of the clear part except the length of the area
abbrev pub SpellsClear : ClearPart → List ℕ → Type 0
SpellsClear clear = Exactly magic ⨾ SpellsVersion clear.minor ⨾ SpellsFront clear ⨾ SpellsSalt clear.salt ⨾ SpellsClearItems clear.minor clear.items

-- the length of an area: whole blocks of 16 bytes, and at least one
pub record IsAreaLength (len : ℕ) : Type 0 where
  pub blocks : len % 16 ≡ 0
  pub some : 16 ≤ len

-- the file spells the clear part, the length of the encrypted area, and the area
pub record ClearText (file : List ℕ) (clear : ClearPart) (area : List ℕ) : Type 0 where
  pub blocks : IsAreaLength (length area)
  pub text : (SpellsClear clear ⨾ SpellsNumber (length area) ⨾ Exactly area) file

-- the file has this clear part, whatever its encrypted area is
abbrev pub HasClear : List ℕ → ClearPart → Type 0
HasClear file clear = (area : List ℕ) × ClearText file clear area
