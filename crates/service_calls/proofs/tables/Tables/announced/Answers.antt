use Rattle.std.proofs.Common.{◌≡◌, [], ◌++◌, ◌∙◌, length, arith, ap, subst, rules}
use Rattle.std.proofs.lemmas.List.{append_assoc}
use Rattle.service_events.specs.secret_calls.specs.declared.out.Out.TheVariants as out
use Rattle.service_events.specs.service_prompts.specs.Announcing.{announced}
use Rattle.service_events.specs.service_tables.specs.Connections.{for_each, spread}
use Rattle.service_calls.proofs.tables.Tables.announced.Goals as goal

pub loop-signal-init : goal.loop-signal-init
loop-signal-init g c =
    let items : c.into_iter-signal-iterator.result.rest.items ≡ c.args.signals.items = search rules in
    let count : length c.into_iter-signal-iterator.result.rest.items ≡ c.into_iter-signal-iterator.result.rest.len = search rules in
    let none : c.new-sends.result.items ≡ [] = search rules in
    let rows = c.args.self.now.connections.rows in (
      tt,
      tt,
      count,
      ap (λ had. had ++ spread rows (announced c.into_iter-signal-iterator.result.rest.items)) none ∙ ap (λ these. spread rows (announced these)) items,
    )

-- one more signal was delivered
pub loop-signal-preserved : goal.loop-signal-preserved
loop-signal-preserved g c =
    let rows = c.args.self.now.connections.rows in
    let left = c.next.new.self.rest.items in
    let had = subst (λ these. c.loop-signal.sends.items ++ spread rows (announced these) ≡ spread rows (announced c.args.signals.items)) c.in-Some.ensures.steps.0 c.loop-signal.invariant.3 in (
      tt,
      tt,
      omega (arith, ap length c.in-Some.ensures.steps.0, c.in-Some.ensures.steps.1, c.loop-signal.invariant.2),
      ap (λ sent. sent ++ spread rows (announced left)) c.in_ok-to_everyone.ensures ∙ append_assoc c.loop-signal.sends.items _ (spread rows (announced left))
          ∙ ap (λ it. c.loop-signal.sends.items ++ (for_each (out.Signal it) rows ++ spread rows (announced left))) c.in_ok-shared.ensures ∙ had,
    )
