-- How many values there are, with those inside them.
use Rattle.std.specs.Prelude.{ℕ, ◌+◌}
use Rattle.dbus_types.specs.Values.{Val, Vals}

abbrev mutual
  -- a value, and the values inside it
  pub count : Val → ℕ
  count (Val.number b n) = 1
  count (Val.text b bytes) = 1
  count (Val.variant v) = 1 + count v
  count (Val.array t vs) = 1 + counts vs
  count (Val.bytes them) = 1
  count (Val.struct vs) = 1 + counts vs
  count (Val.entry key v) = 1 + (count key + count v)

  -- values, and the values inside them
  pub counts : Vals → ℕ
  counts Vals.end = 0
  counts (Vals.more v vs) = count v + counts vs
