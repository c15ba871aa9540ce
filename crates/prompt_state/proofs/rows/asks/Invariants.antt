use Rattle.std.proofs.Common.{◌≡◌, filter_map, map}
use Rattle.std.specs.Map.Iter.{deref}
use Rattle.prompt_state.specs.Prompts.{ask_to}
use Rattle.prompt_state.proofs.rows.asks.Given as goal

-- what is sent for the rows so far
abbrev pub invariant-loop-row : goal.invariant-loop-row
invariant-loop-row l = l.asks.items ≡ filter_map (ask_to l.agent) (map deref l.yielded)
