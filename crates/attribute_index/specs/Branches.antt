-- The pairs before and after a branch's own, and the heights of these two sides.
use Rattle.std.specs.Prelude.{◌≡◌, ℕ, ◌+◌, ◌<◌, ◌≤◌, max, [], length, Option, Some, None}
use Rattle.std.specs.declared.alloc.Global.{Global}
use Rattle.std.proofs.Common.{Box}
use Rattle.attribute_index.specs.Around.{all_of, height}
use Rattle.attribute_index.specs.Heights.{DifferByAtMost, fewest, greatest_height}
use Rattle.attribute_index.specs.Index.{Names}
use Rattle.attribute_index.specs.declared.branch.Branch.{Branch}
use Rattle.attribute_index.specs.declared.branch.Sides.{Sides}
use Rattle.attribute_index.specs.declared.branch.Sides.TheVariants.{Neither, Before, After, Both}

-- the pairs before
abbrev pub pairs_before : Sides → Names
pairs_before (Neither k) = []
pairs_before (Before k b) = all_of b.value
pairs_before (After k b) = []
pairs_before (Both h k b c) = all_of b.value

-- the pairs after
abbrev pub pairs_after : Sides → Names
pairs_after (Neither k) = []
pairs_after (Before k b) = []
pairs_after (After k b) = all_of b.value
pairs_after (Both h k b c) = all_of c.value

-- the pairs of a branch, if there is one
abbrev pub pairs_of : Option (Box Branch Global) → Names
pairs_of None = []
pairs_of (Some b) = all_of b.value

-- the height of the pairs before
abbrev pub height_before : Sides → ℕ
height_before (Neither k) = 0
height_before (Before k b) = height b.value
height_before (After k b) = 0
height_before (Both h k b c) = height b.value

-- the height of the pairs after
abbrev pub height_after : Sides → ℕ
height_after (Neither k) = 0
height_after (Before k b) = 0
height_after (After k b) = height b.value
height_after (Both h k b c) = height c.value

-- the height of a branch, if there is one
abbrev pub height_of : Option (Box Branch Global) → ℕ
height_of None = 0
height_of (Some b) = height b.value

-- the height of the higher side
abbrev pub higher : Sides → ℕ
higher sides = max (height_before sides) (height_after sides)

-- the key that is kept beside the sides
abbrev pub key_beside : Sides → ℕ
key_beside (Neither k) = k
key_beside (Before k b) = k
key_beside (After k b) = k
key_beside (Both h k b c) = k

-- the height that a pair with two sides keeps is its own
abbrev pub IsHeightKept : Sides → Type 0
IsHeightKept (Neither k) = Unit {0}
IsHeightKept (Before k b) = Unit {0}
IsHeightKept (After k b) = Unit {0}
IsHeightKept (Both h k b c) = h ≡ higher (Both h k b c) + 1

-- the heights of the two sides differ by at most one, the height that is kept is right and fits, and there are as many pairs as a tree of
-- that height has at least
pub record IsBalanced (sides : Sides) : Type 0 where
  pub alike : DifferByAtMost 1 (height_before sides) (height_after sides)
  pub kept : IsHeightKept sides
  pub fits : higher sides < greatest_height
  pub many : fewest (higher sides + 1) ≤ length (pairs_before sides) + length (pairs_after sides) + 1
