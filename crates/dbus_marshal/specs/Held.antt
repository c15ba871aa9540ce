-- What values take in memory, in parts: a value, a type inside a type, or a byte of a text.
use Rattle.std.specs.Prelude.{ℕ, ◌+◌, length}
use Rattle.dbus_types.specs.Types.{Ty, Tys}
use Rattle.dbus_types.specs.Values.{Val, Vals}

abbrev mutual
  -- the parts of a type
  pub type_parts : Ty → ℕ
  type_parts (Ty.basic b) = 1
  type_parts Ty.variant = 1
  type_parts (Ty.array t) = 1 + type_parts t
  type_parts (Ty.struct ts) = 1 + types_parts ts
  type_parts (Ty.entry key t) = 1 + type_parts t

  -- the parts of types, one after the other
  pub types_parts : Tys → ℕ
  types_parts Tys.end = 0
  types_parts (Tys.more t ts) = type_parts t + types_parts ts

abbrev mutual
  -- The parts of a value that isn't in an array. An array has the type of its elements; a variant has none, since its value
  -- has one.
  pub parts : Val → ℕ
  parts (Val.number b n) = 1
  parts (Val.text b them) = 1 + length them
  parts (Val.variant v) = 1 + parts v
  parts (Val.array t vs) = 1 + (type_parts t + all_inner_parts vs)
  parts (Val.bytes them) = 1 + length them
  parts (Val.struct vs) = 1 + all_parts vs
  parts (Val.entry key v) = 1 + (parts key + parts v)

  -- the parts of values that aren't in an array, one after the other
  pub all_parts : Vals → ℕ
  all_parts Vals.end = 0
  all_parts (Vals.more v vs) = parts v + all_parts vs

  -- The parts of a value in an array: a struct of one field is its field, and no array inside has its own type.
  pub inner_parts : Val → ℕ
  inner_parts (Val.number b n) = 1
  inner_parts (Val.text b them) = 1 + length them
  inner_parts (Val.variant v) = 1 + parts v
  inner_parts (Val.array t vs) = 1 + all_inner_parts vs
  inner_parts (Val.bytes them) = 1 + length them
  inner_parts (Val.struct Vals.end) = 1
  inner_parts (Val.struct (Vals.more v Vals.end)) = inner_parts v
  inner_parts (Val.struct (Vals.more v (Vals.more w vs))) = 1 + (inner_parts v + (inner_parts w + all_inner_parts vs))
  inner_parts (Val.entry key v) = 1 + (inner_parts key + inner_parts v)

  -- the parts of values in an array, one after the other
  pub all_inner_parts : Vals → ℕ
  all_inner_parts Vals.end = 0
  all_inner_parts (Vals.more v vs) = inner_parts v + all_inner_parts vs
