use Rattle.std.proofs.Common.{◌≡◌, true, false, cond, [], sym, ap, ◌∙◌}
use Rattle.kr_base.specs.Attributes.{is_name}
use Rattle.service_calls.specs.service_prompts.specs.Announcing.{label_signals}
use Rattle.service_calls.proofs.LeadsLemmas.{map-ok}
use Rattle.service_answers.proofs.answering.label_unless_shown.Goals as goal

-- it is shown, so nothing is sent
pub returns-then-is_label : goal.returns-then-is_label
returns-then-is_label c =
    let same : is_name c.args.shown.now c.args.label.now ≡ true = sym c.is_label.ensures ∙ c.if-is_label.true in
    c.new.ensures.items ∙ ap (λ b. cond b [] (label_signals c.args.stem.now c.args.label.now)) (sym same)

-- it is another one
pub returns : goal.returns
returns c =
    let apart : is_name c.args.shown.now c.args.label.now ≡ false = sym c.is_label.ensures ∙ c.if-is_label.false in
    map-ok c.label_signals.result _ _
    (λ signals is. is ∙ ap (λ b. cond b [] (label_signals c.args.stem.now c.args.label.now)) (sym apart))
    c.label_signals.ensures
