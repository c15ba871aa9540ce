use Rattle.std.proofs.Common.{◌≡◌, ◌∷◌, [], Some, sym, ap, ◌∙◌}
use Rattle.std.specs.Option.{option_copied}
use Rattle.prompt_state.specs.Prompts.{row_at}
use Rattle.service_calls.specs.service_tables.specs.Connections.{spread}
use Rattle.service_calls.specs.service_tables.specs.Opened.{contents_of}
use Rattle.service_calls.specs.service_tables.specs.TablesReading.{asked_collections}
use Rattle.service_calls.specs.service_events.specs.PromptCalls.{advance_sent, passed_kind}
use Rattle.service_calls.specs.service_events.specs.Plan.{Clear_wrong, Go_on}
use Rattle.service_calls.specs.service_events.specs.Run.{sent_all}
use Rattle.service_calls.specs.Rows.{rows_of}
use Rattle.service_answers.proofs.DerivedLemmas.{cleared-sends}
use Rattle.service_calls.proofs.LeadsLemmas.{map-ok}
use Rattle.service_answers.proofs.derived_key.cleared_sends.Goals as goal

-- what the last change sends
pub returns : goal.returns
returns g c =
    let old = rows_of c.args.tables.now in
    let row = c.in-Some.row.now in
    let found : row_at c.args.prompt old.prompts ≡ Some row = sym c.row.ensures.row ∙ ap option_copied c.in-Some.is in
    let kind : c.pass_kind.new.kind ≡ passed_kind (asked_collections (contents_of old)) row.kind = c.pass_kind.ensures ∙ ap (passed_kind (asked_collections (contents_of old))) c.in_ok-kind.ensures in
    let made : advance_sent (asked_collections (contents_of old)) old.collections (record row { wrong = 0 }) c.pass_kind.new.kind old.prompts.agent ≡ sent_all c.args.conn (Clear_wrong c.args.prompt ∷ Go_on c.args.prompt ∷ []) old =
    ap (λ k. advance_sent (asked_collections (contents_of old)) old.collections (record row { wrong = 0 }) k old.prompts.agent) kind ∙ sym (cleared-sends c.args.conn c.args.prompt old row found) in
    map-ok c.advance_sent.result _ _
    (λ sends is these. is these ∙ ap (spread these) made)
    c.advance_sent.ensures
