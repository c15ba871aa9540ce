use Rattle.std.proofs.Common.{◌≡◌, ℕ, List, Some, sym, ap, ◌∙◌}
use Rattle.std.specs.Option.{option_copied}
use Rattle.service_calls.specs.collection_table.specs.Entries.{without}
use Rattle.prompt_state.specs.Prompts.{row_at}
use Rattle.service_calls.specs.service_tables.specs.Connections.{spread}
use Rattle.service_calls.specs.service_tables.specs.Opened.{contents_of}
use Rattle.service_calls.specs.service_tables.specs.Questions.{CollectionQuestions}
use Rattle.service_calls.specs.service_tables.specs.TablesReading.{asked_collections}
use Rattle.service_calls.specs.service_events.specs.PromptCalls.{advance_sent, go_on_sent, passed_kind}
use Rattle.service_calls.specs.Rows.{contents_left, rows_of}
use Rattle.service_answers.proofs.AnswerLemmas.{sent-without}
use Rattle.service_calls.proofs.LeadsLemmas.{map-ok}
use Rattle.service_answers.proofs.answering.sends_without.Goals as goal

-- the prompt is there, and the collection that it is asked for is another one
pub returns : goal.returns
returns g c =
    let old = rows_of c.args.tables.now in
    let row = c.in-Some.row.now in
    let stem = c.args.stem.now in
    let rest = without stem old.collections in
    let asked = asked_collections (record (contents_of old) { collections = rest }) in
    let found : row_at c.args.prompt old.prompts ≡ Some row = sym c.row.ensures.row ∙ ap option_copied c.in-Some.is in
    let left : List ℕ → CollectionQuestions = λ it. asked_collections (contents_left (Some it) (contents_of old)) in
    let gone : left c.in_ok-copy.field-0 ≡ asked = ap left c.in_ok-copy.ensures in
    let kind : c.pass_kind.new.kind ≡ passed_kind asked row.kind = c.pass_kind.ensures ∙ (λ i. passed_kind (gone i) (c.in_ok-kind.ensures i)) in
    let made : advance_sent (left c.in_ok-copy.field-0) old.collections row c.pass_kind.new.kind old.prompts.agent ≡ go_on_sent asked rest old.prompts.agent (row_at c.args.prompt old.prompts) =
    (λ i. advance_sent (gone i) old.collections row (kind i) old.prompts.agent) ∙ sent-without stem (contents_of old) row row.kind old.prompts.agent ∙ sym (ap (go_on_sent asked rest old.prompts.agent) found) in
    map-ok c.advance_sent.result _ _
    (λ sends is these. is these ∙ ap (spread these) made)
    c.advance_sent.ensures
