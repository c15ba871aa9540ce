use Rattle.std.proofs.Common.{◌≡◌, Some, sym, ap, ◌∙◌}
use Rattle.std.specs.Option.{option_copied}
use Rattle.prompt_state.specs.Prompts.{row_at}
use Rattle.service_events.specs.service_tables.specs.Connections.{spread}
use Rattle.service_events.specs.service_tables.specs.Opened.{contents_of}
use Rattle.service_events.specs.service_tables.specs.TablesReading.{asked_collections}
use Rattle.service_events.specs.PromptCalls.{advance_sent, go_on_sent, passed_kind}
use Rattle.service_calls.specs.Rows.{rows_of}
use Rattle.service_calls.proofs.LeadsLemmas.{map-ok}
use Rattle.service_calls.proofs.tables.Tables.go_on_sends.Goals as goal

-- the prompt is there
pub returns : goal.returns
returns g c =
    let old = rows_of c.args.self.now in
    let row = c.in-Some.row.now in
    let asked = asked_collections (contents_of old) in
    let found : row_at c.args.prompt old.prompts ≡ Some row = sym c.row.ensures.row ∙ ap option_copied c.in-Some.is in
    let kind : c.pass_kind.new.kind ≡ passed_kind asked row.kind = c.pass_kind.ensures ∙ ap (passed_kind asked) c.in_ok-kind.ensures in
    map-ok c.advance_sent.result _ _
    (λ sends is rows. is rows ∙ ap (λ k. spread rows (advance_sent asked old.collections row k old.prompts.agent)) kind
    ∙ sym (ap (λ o. spread rows (go_on_sent asked old.collections old.prompts.agent o)) found))
    c.advance_sent.ensures
