-- GNOME keyring file format: the decrypted area, as a relation between its bytes and the items.
use Rattle.std.specs.Prelude.{ℕ, List}
use Rattle.md5.specs.Md5.{md5}
use Rattle.kr_base.specs.Attributes.{is_name, Gathers}
use Rattle.kr_base.specs.declared.attributes.AttrValue.{AttrValue}
use Rattle.kr_base.specs.declared.attributes.AttrValue.TheVariants as value
use Rattle.keyring_text.specs.Fields.{number, SpellsNumber, SpellsTime, SpellsString, SpellsText, IsSpan}
use Rattle.keyring_text.specs.Forms.{◌⨾◌, Exactly, SpellsAll, SpellsList, SpellsKeyed}
use Rattle.keyring_file.specs.declared.area.Access.{Access}
use Rattle.keyring_file.specs.declared.area.FullItem.{FullItem}

-- a value with its kind: 0 and a text, 1 and a number
abbrev pub SpellsValue : AttrValue → List ℕ → Type 0
SpellsValue (value.Text text) = Exactly (number 0) ⨾ SpellsText text
SpellsValue (value.Number n) = Exactly (number 1) ⨾ SpellsNumber n

-- an attribute: its name and its value
abbrev pub SpellsAttribute : List ℕ × AttrValue → List ℕ → Type 0
SpellsAttribute pair = SpellsText pair.0 ⨾ SpellsValue pair.1

-- attributes in any order, no name twice
pub record SpellsAttributes (attributes : List (List ℕ × AttrValue)) (bytes : List ℕ) : Type 0 where
  pub pairs : List (List ℕ × AttrValue)
  pub gathers : Gathers pairs attributes
  pub keyed : SpellsKeyed (λ p. p.0) is_name SpellsAttribute pairs bytes

-- a reserved string, whatever it is
pub record IsReservedString (bytes : List ℕ) : Type 0 where
  pub s : List ℕ
  pub string : SpellsString s bytes

-- an access entry: the allowed types, the display name, the path name, a reserved string and a reserved number
abbrev pub SpellsAccess : Access → List ℕ → Type 0
SpellsAccess access = SpellsNumber access.allowed ⨾ SpellsText access.display ⨾ SpellsText access.path ⨾ IsReservedString ⨾ IsSpan 4

-- an item: label, secret, times, a reserved string, four reserved numbers, attributes, access entries
abbrev pub SpellsItem : FullItem → List ℕ → Type 0
SpellsItem item =
    SpellsText item.label
    ⨾ SpellsString item.value
    ⨾ SpellsTime item.created
    ⨾ SpellsTime item.modified
    ⨾ IsReservedString
    ⨾ IsSpan 16
    ⨾ SpellsAttributes item.attributes
    ⨾ SpellsList SpellsAccess item.access

-- any bytes
pub record IsPadding (bytes : List ℕ) : Type 0 where
  pub any : Unit {0}

-- the MD5 of all that follows (RFC 1321), the items in order, and padding
pub record AreaText (area : List ℕ) (items : List FullItem) : Type 0 where
  pub rest : List ℕ
  pub check : (Exactly (md5 rest) ⨾ Exactly rest) area
  pub text : (SpellsAll SpellsItem items ⨾ IsPadding) rest
