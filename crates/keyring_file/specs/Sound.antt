-- A clear part that can be written and read again: what its types guarantee, and which names and numbers occur
-- only once.
use Rattle.std.specs.Prelude.{ℕ, ◌<◌, ◌≤◌, ◌^◌, map, nat_eq}
use Rattle.std.specs.List.{AllByRecursion, IsDistinct}
use Rattle.kr_base.specs.Attributes.{is_name}
use Rattle.kr_base.specs.Text.{IsText}
use Rattle.kr_base.specs.declared.hashed.HashedPair.{HashedPair}
use Rattle.kr_base.specs.declared.hashed.HashedValue.{HashedValue}
use Rattle.kr_base.specs.declared.hashed.HashedValue.TheVariants as hash
use Rattle.keyring_file.specs.declared.clear.ClearItem.{ClearItem}
use Rattle.keyring_file.specs.Clear.{ClearPart}
use Rattle.keyring_file.specs.ClearText.{most_iterations}
use Rattle.keyring_file.specs.Known.{IsKnownClear, IsKnownClearItem}

-- a hashed value
abbrev pub IsSoundHashed : HashedValue → Type 0
IsSoundHashed (hash.Text bytes) = Unit {0}
IsSoundHashed (hash.Number n) = n < 2 ^ 32

-- a hashed attribute
pub record IsSoundPair (pair : HashedPair) : Type 0 where
  pub name : IsText pair.name
  pub value : IsSoundHashed pair.value

-- an item of the clear part, no name twice among its hashed attributes
pub record IsSoundClearItem (item : ClearItem) : Type 0 where
  pub known : IsKnownClearItem item
  pub hashed : AllByRecursion IsSoundPair item.hashed
  pub distinct : IsDistinct is_name (map (λ p. p.name) item.hashed)

-- a clear part, no number of an item twice, and not too many iterations
pub record IsSoundClear (clear : ClearPart) : Type 0 where
  pub known : IsKnownClear clear
  pub iterations : clear.iterations ≤ most_iterations
  pub items : AllByRecursion IsSoundClearItem clear.items
  pub distinct : IsDistinct nat_eq (map (λ item. item.id.0) clear.items)
