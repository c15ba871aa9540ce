use Rattle.std.proofs.Common.{◌≡◌, Some, sym, ap, ◌∙◌}
use Rattle.std.specs.Option.{option_copied}
use Rattle.prompt_state.specs.Prompts.{row_at}
use Rattle.service_calls.specs.Rows.{rows_of}
use Rattle.service_calls.specs.service_events.specs.Step.{row_terms}
use Rattle.service_answers.proofs.answering.terms_for.Goals as goal

-- the prompt is there
pub returns-in-Some : goal.returns-in-Some
returns-in-Some g c =
    let old = rows_of c.args.tables.now in
    let found : row_at c.args.prompt old.prompts ≡ Some c.in-Some.row.now = sym c.row.ensures.row ∙ ap option_copied c.in-Some.is in
    c.kind_terms.ensures ∙ sym (ap (row_terms old.collections) found)
