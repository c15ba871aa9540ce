-- The names of a folder, and what their slots may leave.
use Rattle.std.specs.Prelude.{◌≡◌, ℕ, nat_eq, ◌≤◌, ◌↔◌, ⊤, List, Contains, Option, None, Some, IsSome, Result, IsErrOf}
use Rattle.std.specs.List.{IsDistinct}
use Rattle.std.specs.Cmp.Lexicographic.{pointwise}
use Rattle.kr_outside.specs.Faults.{Rose}
use Rattle.kr_outside.specs.RenameDisk.{Image, Only, LeavesNoMore}
use Rattle.kr_outside.specs.declared.folder.OutsideRefused.{OutsideRefused}
use Rattle.kr_outside.specs.declared.folder.OutsideRefused.TheVariants.{Failed}

-- the count never falls, and a failure is returned only if it rose
pub record HasOutsideCause {T : Type 0} (old new : ℕ) (result : Result T OutsideRefused) : Type 0 where
  pub later : old ≤ new
  pub failed : IsErrOf result Failed → Rose old new

-- the names of all files among those of which no slot was made, each once
pub record Lists (made : List (List ℕ)) (images : List ℕ → Image) (names : List (List ℕ)) : Type 0 where
  pub once : IsDistinct (pointwise nat_eq) names
  pub all : (name : List ℕ) → ¬ (Contains made name) → Contains names name ↔ IsSome (images name)

-- for the names of which no slot was made, a read returns what it returned before, and a crash leaves nothing more
pub record Stays {F : Type 0} (images : F → List ℕ → Image) (may_leave : F → List ℕ → Image → Type 0) (made : List (List ℕ)) (old new : F) : Type 0 where
  pub same : (name : List ℕ) → ¬ (Contains made name) → images new name ≡ images old name
  pub crash : (name : List ℕ) → ¬ (Contains made name) → LeavesNoMore (may_leave old name) (may_leave new name)

-- for each name of which no slot was made, a crash leaves what a read returns
abbrev pub IsSettled : List (List ℕ) → (List ℕ → Image) → (List ℕ → Image → Type 0) → Type 0
IsSettled made images may_leave =
    (name : List ℕ) → ¬ (Contains made name) → Only (images name) (may_leave name)

-- the images are those that were reported, if any were
abbrev pub AreTold : Option (List ℕ → Image) → (List ℕ → Image) → Type 0
AreTold None images = ⊤
AreTold (Some told) images = (name : List ℕ) → images name ≡ told name
