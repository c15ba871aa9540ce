-- Secret Service API draft 0.2, interface Service, Unlock: the objects that a prompt should unlock.
use Rattle.std.specs.Prelude.{ℕ, ◌≤◌, List, [], ◌∷◌, ◌++◌, length, take, drop, Option, Some, None}
use Rattle.prompt_state.specs.declared.targets.Target.{Target}

-- the targets of a prompt, each list in the order in which they were given: those whose collection was found or made unlocked, and those still to come
pub record TargetLists : Type 0 where
  pub done : List Target
  pub left : List Target

-- none is done yet
abbrev pub all_left : List Target → TargetLists
all_left given = record { done = []; left = given }

-- the first of a list
abbrev pub first_of : List Target → Option Target
first_of [] = None
first_of (target ∷ more) = Some target

-- all elements of a list except the first
abbrev pub rest_of : List Target → List Target
rest_of [] = []
rest_of (target ∷ more) = more

-- a list with the first of another appended
abbrev pub with_first_of : List Target → List Target → List Target
with_first_of [] done = done
with_first_of (target ∷ more) done = done ++ target ∷ []

-- the first target that is left
abbrev pub first_left : TargetLists → Option Target
first_left targets = first_of targets.left

-- the first one that is left is done
abbrev pub first_done : TargetLists → TargetLists
first_done targets = record { done = with_first_of targets.left targets.done; left = rest_of targets.left }

-- the first one that is left is dropped
abbrev pub first_dropped : TargetLists → TargetLists
first_dropped targets = record targets { left = rest_of targets.left }

-- how the two lists are kept in one: those that are done first, and those that are left last
abbrev pub lists_of : ℕ → ℕ → List Target → TargetLists
lists_of done next list = record { done = take done list; left = drop next list }

-- the two parts don't overlap
pub record AreParts (done next : ℕ) (list : List Target) : Type 0 where
  pub apart : done ≤ next
  pub within : next ≤ length list
