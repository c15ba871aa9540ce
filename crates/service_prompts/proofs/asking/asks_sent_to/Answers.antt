use Rattle.std.proofs.Common.{◌≡◌, ◌++◌, ◌∙◌, [], drop, ap, sym, arith}
use Rattle.std.specs.List.{filter_map}
use Rattle.std.proofs.lemmas.List.{append-nil, drop_all}
use Rattle.prompt_state.specs.Prompts.{asks, registered}
use Rattle.service_tables.specs.Disk.{contents_in}
use Rattle.service_prompts.proofs.SignalLemmas.{ask_delivery, spread-asks}
use Rattle.service_prompts.proofs.asking.asks_sent_to.Goals as goal

-- all were asked, and each delivery is to the agent
pub returns : goal.returns
returns g c = λ rows.
    let collections = (contents_in c.args.disk.now).collections in
    let prompts = c.args.prompts.now in
    let delivery = ask_delivery collections prompts in
    let items = c.deref-ask-items.result.now in
    let outs = c.loop-ask.outs.items in
    let none : filter_map delivery (drop c.loop-ask.ask-index items) ≡ [] = ap (filter_map delivery) (drop_all c.loop-ask.ask-index items (omega (arith, c.loop-ask-test.false))) in
    let done : outs ≡ filter_map delivery items = sym (append-nil outs) ∙ ap (λ rest. outs ++ rest) (sym none) ∙ c.loop-ask.invariant in
    done ∙ ap (filter_map delivery) (c.deref-ask-items.ensures.value ∙ c.in_ok-asks.ensures) ∙ spread-asks rows collections prompts (asks (registered c.args.agent prompts))
