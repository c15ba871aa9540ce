-- GNOME keyring file format: the flags and the timeout of a file. With flag 2 a collection is locked `timeout` seconds
-- after it was unlocked, with flag 1 `timeout` seconds after its last change (docs/DECISIONS.md, "What the flags of a file mean").
use Rattle.std.specs.Prelude.{ℕ, ◌+◌, min, Bool, ◌&&◌, ◌==◌, not, nat_le, false, if◌then◌else◌, bit_and, Option, Some, None, is_some, List, [], ◌∷◌, filter, map}
use Rattle.std.specs.List.{list_any}
use Rattle.idle_lock.specs.History.{History, is_same, times_in}
use Rattle.idle_lock.specs.declared.deadline.Timer.{Timer}
use Rattle.idle_lock.specs.declared.history.Times.{Times}

-- the last moment that 64 bits hold, in seconds since 1970
abbrev pub last_moment : ℕ
last_moment = 18446744073709551615

-- the flag by which a collection is locked some time after its last change
abbrev pub on_idle : ℕ
on_idle = 1

-- the flag by which a collection is locked some time after it was unlocked
abbrev pub after_unlocking : ℕ
after_unlocking = 2

-- whether the flag is set
abbrev pub has_flag : ℕ → Timer → Bool
has_flag flag timer = not (bit_and timer.flags flag == 0)

-- the moment this many seconds later; there is none after the last moment
abbrev pub later : ℕ → ℕ → Option ℕ
later seconds moment = if nat_le (moment + seconds) last_moment then Some (moment + seconds) else None

-- the earlier of two moments, each of which may be missing
abbrev pub earlier : Option ℕ → Option ℕ → Option ℕ
earlier None other = other
earlier (Some one) None = Some one
earlier (Some one) (Some other) = Some (min one other)

-- when an open collection with these times is to be locked
abbrev pub deadline_of : Timer → Times → Option ℕ
deadline_of timer times =
    earlier
    (if has_flag after_unlocking timer then later timer.timeout times.unlocked else None)
    (if has_flag on_idle timer then later timer.timeout times.changed else None)

-- the same for a collection that may be closed, which has no times then
abbrev pub deadline_at : Timer → Option Times → Option ℕ
deadline_at timer None = None
deadline_at timer (Some times) = deadline_of timer times

-- Deadline: when the timer's collection is to be locked; never if it isn't open, or has no flag
abbrev pub deadline : History → Timer → Option ℕ
deadline history timer = deadline_at timer (times_in history timer.stem)

-- whether a moment is there and not after this one
abbrev pub is_reached : ℕ → Option ℕ → Bool
is_reached now None = false
is_reached now (Some moment) = nat_le moment now

-- the stems that are due: those whose deadline is at most this moment, in the order of the timers
abbrev pub due : History → ℕ → List Timer → List (List ℕ)
due history now timers = map (λ timer. timer.stem) (filter (λ timer. is_reached now (deadline history timer)) timers)

-- the stem of one timer, if its collection is due with these times
abbrev pub due_one : ℕ → Timer → Option Times → List (List ℕ)
due_one now timer times = if is_reached now (deadline_at timer times) then timer.stem ∷ [] else []

-- whether the collection has a timer and is open
abbrev pub is_open : History → List ℕ → List Timer → Bool
is_open history stem timers = list_any (λ timer. is_same timer.stem stem) timers && is_some (times_in history stem)
