-- Which of a run's passes each pass stands for. The first one stands for all of them, but for those that were noted and not gathered.
use Rattle.std.specs.Prelude.{◌≡◌, ℕ, ◌+◌, ◌-◌, ◌≤◌}
use Rattle.shared_turn.specs.declared.share.Share.{Share}
use Rattle.shared_turn.specs.declared.share.Share.TheVariants as share

-- the only pass of a run
abbrev pub whole : Share
whole = share.AllBut 0

-- a pass that was noted
abbrev pub one : Share
one = share.Only 1

-- what is left after this many were noted
abbrev pub without : ℕ → Share → Share
without number (share.AllBut missing) = share.AllBut (missing + number)
without number (share.Only some) = share.Only (some - number)

-- both together; two passes never both stand for all but some
abbrev pub together : Share → Share → Share
together (share.AllBut missing) (share.AllBut others) = share.AllBut missing
together (share.AllBut missing) (share.Only some) = share.AllBut (missing - some)
together (share.Only some) (share.AllBut missing) = share.AllBut (missing - some)
together (share.Only some) (share.Only more) = share.Only (some + more)

-- it is that of a run's first pass, or of one that gathered it
abbrev pub IsFirst : Share → Type 0
IsFirst (share.AllBut missing) = Unit {0}
IsFirst (share.Only some) = ⊥

-- the number of noted passes
abbrev pub noted_in : Share → ℕ
noted_in (share.AllBut missing) = 0
noted_in (share.Only some) = some

-- it stands for at least one pass
abbrev pub HasAny : Share → Type 0
HasAny (share.AllBut missing) = Unit {0}
HasAny (share.Only some) = 1 ≤ some

-- the share of the first pass, if others have this many
abbrev pub LeavesOut : ℕ → Share → Type 0
LeavesOut others (share.AllBut missing) = missing ≡ others
LeavesOut others (share.Only some) = Unit {0}
