-- Heights of a tree that is balanced everywhere (an AVL tree).
use Rattle.std.specs.Prelude.{ℕ, zero, suc, ◌+◌, ◌≤◌}

-- the greatest height that a pair can keep, in one byte
abbrev pub greatest_height : ℕ
greatest_height = 255

-- neither height is more than this above the other
abbrev pub DifferByAtMost : ℕ → ℕ → ℕ → Type 0
DifferByAtMost by one other = (one ≤ other + by) × (other ≤ one + by)

-- the fewest pairs that a balanced tree of a height has: the first of them, and two sides of which one is lower by one
abbrev pub fewest : ℕ → ℕ
fewest zero = 0
fewest (suc zero) = 1
fewest (suc (suc height)) = 1 + fewest (suc height) + fewest height

-- a tree grew at most by one in height, and didn't shrink
abbrev pub IsGrown : ℕ → ℕ → Type 0
IsGrown old new = (old ≤ new) × (new ≤ old + 1)
