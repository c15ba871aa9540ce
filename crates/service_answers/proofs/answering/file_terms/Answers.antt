use Rattle.std.proofs.Common.{Some, sym, ap, ◌∙◌}
use Rattle.std.specs.Option.{option_map}
use Rattle.service_calls.specs.collection_table.specs.Entries.{row_of}
use Rattle.service_calls.specs.collection_table.proofs.RowLemmas.{value-rows}
use Rattle.service_calls.specs.service_events.specs.Step.{file_terms}
use Rattle.service_answers.proofs.answering.file_terms.Goals as goal

-- the terms are those of the row
pub returns-in-Some : goal.returns-in-Some
returns-in-Some g c =
    let entries = c.args.disk.now.collections.entries in
    let stem = c.args.stem.now in
    (λ i. Some (record { salt = c.salt.ensures i; iterations = c.iterations.ensures i }))
    ∙ sym (ap (option_map file_terms) (value-rows stem entries ∙ ap (option_map row_of) (sym c.in-Some.ensures)))

pub returns-in-None : goal.returns-in-None
returns-in-None g c = sym (ap (option_map file_terms) (value-rows c.args.stem.now c.args.disk.now.collections.entries ∙ ap (option_map row_of) (sym c.in-None.ensures)))
