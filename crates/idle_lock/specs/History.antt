-- The history of a plan: what was reported to it about the collections, each with its stem, the oldest first.
use Rattle.std.specs.Prelude.{◌≡◌, ℕ, Bool, true, false, cond, not, nat_eq, Option, Some, None, List, [], ◌∷◌, map, filter, reverse, take_while}
use Rattle.std.specs.Cmp.Lexicographic.{pointwise}
use Rattle.idle_lock.specs.declared.deadline.Timer.{Timer}
use Rattle.idle_lock.specs.declared.history.Told.{Told}
use Rattle.idle_lock.specs.declared.history.Told.TheVariants.{Opened, Changed, Closed}
use Rattle.idle_lock.specs.declared.history.Times.{Times}

-- what was reported to a plan, with the collection's stem
abbrev pub History : Type 0
History = List (List ℕ × Told)

-- whether two stems are the same
abbrev pub is_same : List ℕ → List ℕ → Bool
is_same stem other = pointwise nat_eq stem other

-- whether the collection was unlocked
abbrev pub is_opening : Told → Bool
is_opening (Opened now) = true
is_opening (Changed now) = false
is_opening Closed = false

-- whether the collection was changed
abbrev pub is_change : Told → Bool
is_change (Opened now) = false
is_change (Changed now) = true
is_change Closed = false

-- whether the collection was locked
abbrev pub is_closing : Told → Bool
is_closing (Opened now) = false
is_closing (Changed now) = false
is_closing Closed = true

-- when it was
abbrev pub moment_of : Told → ℕ
moment_of (Opened now) = now
moment_of (Changed now) = now
moment_of Closed = 0

-- what a history says of one collection
abbrev pub about : List ℕ → History → List Told
about stem history = map (λ told. told.1) (filter (λ told. is_same stem told.0) history)

-- what came after the last time that the collection was locked
abbrev pub since_closed : List Told → List Told
since_closed tolds = reverse (take_while (λ told. not (is_closing told)) (reverse tolds))

-- the list from its first opening on; nothing if there is none
abbrev pub from_opening : List Told → List Told
from_opening [] = []
from_opening (told ∷ more) = cond (is_opening told) (told ∷ more) (from_opening more)

-- the last of some moments, or else this one
abbrev pub last_or : ℕ → List ℕ → ℕ
last_or moment [] = moment
last_or moment (next ∷ more) = last_or next more

-- when an open collection was unlocked, and when it last changed since; unlocking it counts as a change
abbrev pub times_from : List Told → Option Times
times_from [] = None
times_from (opening ∷ more) = Some (record {
  unlocked = moment_of opening;
  changed = last_or (moment_of opening) (map moment_of (filter is_change more));
})

-- the times of one collection: it is open if it was unlocked after it was last locked, and the first time
-- after that counts
abbrev pub times_in : History → List ℕ → Option Times
times_in history stem = times_from (from_opening (since_closed (about stem history)))

-- the times of the collections of some timers
abbrev pub times_of : History → List Timer → List (Option Times)
times_of history timers = map (λ timer. times_in history timer.stem) timers

-- what a contract sees of a plan: its timers, and the times of the collection of each
pub record Kept : Type 0 where
  pub timers : List Timer
  pub times : List (Option Times)

-- the plan is as this history says
pub record IsAfter (history : History) (plan : Kept) : Type 0 where
  pub times : plan.times ≡ times_of history plan.timers
