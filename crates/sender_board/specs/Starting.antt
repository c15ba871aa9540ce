-- How the agent is started (docs/SERVICE.md, "The agent is started"; D-Bus Specification, "Message Bus Messages",
-- StartServiceByName).
use Rattle.std.specs.Prelude.{ℕ, Bool, true, false, nat_eq, if◌then◌else◌}
use Rattle.sender_board.specs.declared.agent_start.Start.{Start}
use Rattle.sender_board.specs.declared.agent_start.Start.TheVariants.{Idle, Asked, Started}

-- after an event: how far the start has come, and whether the bus is asked now
pub record Settled : Type 0 where
  pub start : Start
  pub asks : Bool

-- nothing is asked
abbrev pub quiet : Start → Settled
quiet start = record { start = start; asks = false }

-- the bus is asked if a prompt is asked, there is no agent, and none is being started
abbrev pub settled : (is_asked has_agent : Bool) → (serial : ℕ) → Start → Settled
settled is_asked true serial start = quiet Idle
settled true false serial Idle = record { start = Asked serial; asks = true }
settled true false serial (Asked other) = quiet (Asked other)
settled true false serial Started = quiet Started
settled false false serial start = quiet start

-- whether the answer to this serial is about the start
abbrev pub failed : (serial : ℕ) → Start → Bool
failed serial (Asked asked) = nat_eq asked serial
failed serial Idle = false
failed serial Started = false

-- the bus has returned
abbrev pub returned : (serial : ℕ) → Start → Start
returned serial start = if failed serial start then Started else start

-- whether the agent was being started when its name lost its owner
abbrev pub refuses : Start → Bool
refuses Idle = false
refuses (Asked serial) = true
refuses Started = true
