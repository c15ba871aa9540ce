-- What the types of a clear part and of items guarantee, as facts about their values: a text is a text, bytes are bytes, and a
-- number is within the range of its type.
use Rattle.std.specs.Prelude.{◌≡◌, ℕ, ◌<◌, ◌^◌, List, length}
use Rattle.std.specs.List.{AllByRecursion}
use Rattle.kr_base.specs.Attributes.{IsInOrder}
use Rattle.kr_base.specs.Text.{IsText}
use Rattle.kr_base.specs.declared.attributes.AttrValue.{AttrValue}
use Rattle.kr_base.specs.declared.attributes.AttrValue.TheVariants as value
use Rattle.keyring_text.specs.Fields.{IsBytes}
use Rattle.keyring_file.specs.declared.area.Access.{Access}
use Rattle.keyring_file.specs.declared.area.FullItem.{FullItem}
use Rattle.keyring_file.specs.declared.clear.ClearItem.{ClearItem}
use Rattle.keyring_file.specs.Clear.{ClearPart, IsOfVersion}

-- an item of the clear part, except for its hashes
pub record IsKnownClearItem (item : ClearItem) : Type 0 where
  pub id : item.id.0 < 2 ^ 32
  pub kind : item.kind < 2 ^ 32
  pub content : IsText item.content

-- a clear part, except for its items
pub record IsKnownClear (clear : ClearPart) : Type 0 where
  pub name : IsText clear.name
  pub created : clear.created < 2 ^ 64
  pub modified : clear.modified < 2 ^ 64
  pub flags : clear.flags < 2 ^ 32
  pub timeout : clear.timeout < 2 ^ 32
  pub salt : length clear.salt ≡ 8
  pub version : IsOfVersion clear.minor clear.items

-- the value of an attribute
abbrev pub IsKnownValue : AttrValue → Type 0
IsKnownValue (value.Text text) = IsText text
IsKnownValue (value.Number n) = n < 2 ^ 32

-- an attribute
pub record IsKnownPair (pair : List ℕ × AttrValue) : Type 0 where
  pub name : IsText pair.0
  pub value : IsKnownValue pair.1

-- an access entry
pub record IsKnownAccess (access : Access) : Type 0 where
  pub allowed : access.allowed < 2 ^ 32
  pub display : IsText access.display
  pub path : IsText access.path

-- an item of the area
pub record IsKnownItem (item : FullItem) : Type 0 where
  pub label : IsText item.label
  pub value : IsBytes item.value
  pub created : item.created < 2 ^ 64
  pub modified : item.modified < 2 ^ 64
  pub ordered : IsInOrder item.attributes
  pub attributes : AllByRecursion IsKnownPair item.attributes
  pub access : AllByRecursion IsKnownAccess item.access
