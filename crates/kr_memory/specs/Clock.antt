-- The moments of a clock in memory.
use Rattle.std.specs.Prelude.{ℕ, ◌-◌, min, List, length, slice_index}

-- the moment after k others: of those left the one at this index, and past them always the last one; 0 if
-- none was listed
abbrev pub moment_at : List ℕ → ℕ → ℕ
moment_at left k = slice_index left (min k (length left - 1))
