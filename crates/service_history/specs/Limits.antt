-- When a window ends (docs/SERVICE.md, "Limits"), and how far events are counted. Each number is written here alone.
use Rattle.std.specs.Prelude.{ℕ}

-- with this many stored events a cut is due
abbrev pub most_stored : ℕ
most_stored = 65536

-- with stored events of this cost a cut is due: 256 MiB
abbrev pub most_cost : ℕ
most_cost = 268435456

-- all events of a run are fewer than this, including those that are sure to come once no other is recorded
abbrev pub most_counted : ℕ
most_counted = 18446744073709001000
