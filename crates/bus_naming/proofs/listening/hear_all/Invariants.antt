use Rattle.std.proofs.Common.{ℕ, List}
use Rattle.bus_start.specs.Starts.{rows_of}
use Rattle.bus_naming.specs.Naming.{HasHeard}
use Rattle.bus_naming.proofs.listening.hear_all.Given as goal

-- the messages so far are heard in the bytes
abbrev pub invariant-loop : goal.invariant-loop
invariant-loop g l = (bytes : List ℕ) → HasHeard bytes l.fn.framer (rows_of l.fn.starting) → HasHeard bytes l.framer (rows_of l.starting)
