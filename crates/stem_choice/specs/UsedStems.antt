-- The stems that are used (docs/SERVICE.md, "Names and paths"). Each name is given one slot in a run, so a stem stays used,
-- whatever becomes of its file.
use Rattle.std.specs.Prelude.{ℕ, Bool, List, ◌∷◌, ◌++◌, filter}
use Rattle.std.specs.Cmp.Lexicographic.{slice_cmp}
use Rattle.std.specs.List.{list_any}
use Rattle.std.specs.List.Sorted.{IsStrictlySortedBy}
use Rattle.std.specs.Ordering.{is_lt, nat_cmp}
use Rattle.kr_base.specs.Attributes.{is_name}

-- the stems are in byte order, and none of them is there twice
abbrev pub AreInOrder : List (List ℕ) → Type 0
AreInOrder used = IsStrictlySortedBy (slice_cmp nat_cmp) used

-- the stems that are used, and how many more can be put in without taking memory
pub record UsedState : Type 0 where
  pub stems : List (List ℕ)
  pub room : ℕ

-- whether the stem is one of those that are used
abbrev pub is_used : List ℕ → List (List ℕ) → Bool
is_used stem used = list_any (is_name stem) used

-- the same stems with this one in its place; where it is used already, they are as before
abbrev pub with_stem : List ℕ → List (List ℕ) → List (List ℕ)
with_stem stem used =
    filter (λ other. is_lt (slice_cmp nat_cmp other stem)) used ++ stem ∷ filter (λ other. is_lt (slice_cmp nat_cmp stem other)) used
