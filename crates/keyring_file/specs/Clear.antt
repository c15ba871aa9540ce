-- GNOME keyring file format: what the clear part of a file contains.
use Rattle.std.specs.Prelude.{◌≡◌, ℕ, ◌+◌, ◌≤◌, List, [], ◌∷◌, length, codes}
use Rattle.std.specs.List.{AllByRecursion}
use Rattle.keyring_file.specs.declared.clear.ClearItem.{ClearItem}

-- the clear part, as a value
pub record ClearPart : Type 0 where
  pub name : List ℕ
  pub created : ℕ
  pub modified : ℕ
  pub flags : ℕ
  pub timeout : ℕ
  pub iterations : ℕ
  pub salt : List ℕ
  pub items : List ClearItem
  pub minor : ℕ

-- the content type of every item of version 0.0
abbrev pub plain_content : List ℕ
plain_content = codes "text/plain"

-- the item's content type is the plain one
abbrev pub IsPlain : ClearItem → Type 0
IsPlain item = item.content ≡ plain_content

-- the version is 0.0 or 0.1, and in version 0.0 every item has the plain content type
pub record IsOfVersion (minor : ℕ) (items : List ClearItem) : Type 0 where
  pub known : minor ≤ 1
  pub plain : minor ≡ 0 → AllByRecursion IsPlain items

-- the number of hashed attributes of all items together
abbrev pub pairs_in : List ClearItem → ℕ
pairs_in [] = 0
pairs_in (item ∷ more) = length item.hashed + pairs_in more
