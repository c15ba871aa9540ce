use Rattle.std.proofs.Common.{◌≡◌, Some, None, sym, ap, ◌∙◌}
use Rattle.std.specs.Option.{option_and_then, option_copied, option_map}
use Rattle.kr_base.specs.Attributes.{value_at}
use Rattle.prompt_state.specs.Targets.{first_left}
use Rattle.prompt_state.specs.declared.targets.Target.{Target}
use Rattle.service_calls.specs.service_tables.specs.Disk.{contents_in}
use Rattle.service_calls.specs.service_events.specs.Step.{file_terms, terms_for}
use Rattle.service_answers.proofs.answering.kind_terms.Goals as goal

-- the first target's file
pub returns-in-Some : goal.returns-in-Some
returns-in-Some g c =
    let rows = (contents_in c.args.disk.now).collections in
    let target = c.in-Some.target.now in
    let first : first_left c.in-Unlock.targets ≡ Some target = sym c.first.ensures ∙ ap option_copied c.in-Some.is in
    c.file_terms.ensures ∙ sym (ap (terms_for rows) c.in-Unlock.is ∙ ap (option_and_then (λ (t : Target). option_map file_terms (value_at t.stem rows))) first)

pub returns-in-None : goal.returns-in-None
returns-in-None g c =
    let rows = (contents_in c.args.disk.now).collections in
    let first : first_left c.in-Unlock.targets ≡ None = sym c.first.ensures ∙ ap option_copied c.in-None.is in
    sym (ap (terms_for rows) c.in-Unlock.is ∙ ap (option_and_then (λ (t : Target). option_map file_terms (value_at t.stem rows))) first)
