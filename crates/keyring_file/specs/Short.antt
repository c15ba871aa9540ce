-- What can be written: each string is shorter than 4294967295 bytes, and each list has fewer than 4294967296 elements.
use Rattle.std.specs.Prelude.{ℕ, ◌<◌, ◌^◌, List, length}
use Rattle.std.specs.List.{AllByRecursion}
use Rattle.kr_base.specs.declared.attributes.AttrValue.{AttrValue}
use Rattle.kr_base.specs.declared.attributes.AttrValue.TheVariants as value
use Rattle.kr_base.specs.declared.hashed.HashedPair.{HashedPair}
use Rattle.kr_base.specs.declared.hashed.HashedValue.{HashedValue}
use Rattle.kr_base.specs.declared.hashed.HashedValue.TheVariants as hash
use Rattle.keyring_text.specs.Fields.{none_length}
use Rattle.keyring_file.specs.declared.area.Access.{Access}
use Rattle.keyring_file.specs.declared.area.FullItem.{FullItem}
use Rattle.keyring_file.specs.declared.clear.ClearItem.{ClearItem}
use Rattle.keyring_file.specs.Clear.{ClearPart}

-- a string
abbrev pub IsShort : List ℕ → Type 0
IsShort s = length s < none_length

-- a list
pub record IsShortList {A : Type 0} (P : A → Type 0) (xs : List A) : Type 0 where
  pub few : length xs < 2 ^ 32
  pub each : AllByRecursion P xs

-- a hashed value
abbrev pub IsShortHashed : HashedValue → Type 0
IsShortHashed (hash.Text bytes) = IsShort bytes
IsShortHashed (hash.Number n) = Unit {0}

-- a hashed attribute
pub record IsShortPair (pair : HashedPair) : Type 0 where
  pub name : IsShort pair.name
  pub value : IsShortHashed pair.value

-- an item of the clear part
pub record IsShortClearItem (item : ClearItem) : Type 0 where
  pub hashed : IsShortList IsShortPair item.hashed
  pub content : IsShort item.content

-- a clear part
pub record IsShortClear (clear : ClearPart) : Type 0 where
  pub name : IsShort clear.name
  pub items : IsShortList IsShortClearItem clear.items

-- the value of an attribute
abbrev pub IsShortValue : AttrValue → Type 0
IsShortValue (value.Text text) = IsShort text
IsShortValue (value.Number n) = Unit {0}

-- an attribute
pub record IsShortAttribute (pair : List ℕ × AttrValue) : Type 0 where
  pub name : IsShort pair.0
  pub value : IsShortValue pair.1

-- an access entry
pub record IsShortAccess (access : Access) : Type 0 where
  pub display : IsShort access.display
  pub path : IsShort access.path

-- an item of the area
pub record IsShortItem (item : FullItem) : Type 0 where
  pub label : IsShort item.label
  pub value : IsShort item.value
  pub attributes : IsShortList IsShortAttribute item.attributes
  pub access : IsShortList IsShortAccess item.access
