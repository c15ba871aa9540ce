use Rattle.std.proofs.Common.{◌≡◌, ◌-◌, ◌^◌, find, filter_map, nat_lt}
use Rattle.std.specs.Map.{values_of}
use Rattle.prompt_state.specs.Prompts.{ask_to}
use Rattle.prompt_state.proofs.rows.ask_above.Given as goal

-- no row up to the number is asked
abbrev pub invariant-loop-row : goal.invariant-loop-row
invariant-loop-row l =
    find (λ ask. nat_lt l.above ask.prompt.0) (filter_map (ask_to l.agent) (values_of l.rows.entries))
    ≡ find (λ ask. nat_lt l.number ask.prompt.0) (filter_map (ask_to l.agent) (values_of l.rows.entries))

abbrev pub decreases-loop-row : goal.decreases-loop-row
decreases-loop-row l = 2 ^ 64 - l.above
