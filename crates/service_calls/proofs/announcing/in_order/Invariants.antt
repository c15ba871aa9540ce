use Rattle.std.proofs.Common.{◌≡◌, drop}
use Rattle.std.specs.List.{fold}
use Rattle.stem_choice.specs.UsedStems.{with_stem}
use Rattle.service_events.specs.ServiceCalls.{in_order}
use Rattle.service_calls.proofs.announcing.in_order.Given as goal

-- those so far are in order, and those that are left follow
abbrev pub invariant-loop-stem : goal.invariant-loop-stem
invariant-loop-stem l = fold (λ listed stem. with_stem stem listed) l.ordered.stems (drop l.stem-index l.stems) ≡ in_order l.stems
