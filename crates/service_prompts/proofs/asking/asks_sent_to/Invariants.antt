use Rattle.std.proofs.Common.{◌≡◌, ◌++◌, drop}
use Rattle.std.specs.List.{filter_map}
use Rattle.service_tables.specs.Disk.{contents_in}
use Rattle.service_prompts.proofs.SignalLemmas.{ask_delivery}
use Rattle.service_prompts.proofs.asking.asks_sent_to.Given as goal

-- the deliveries so far, and those that are left
abbrev pub invariant-loop-ask : goal.invariant-loop-ask
invariant-loop-ask g l =
    let delivery = ask_delivery (contents_in l.disk).collections l.prompts in
    l.outs.items ++ filter_map delivery (drop l.ask-index l.ask-items) ≡ filter_map delivery l.ask-items
