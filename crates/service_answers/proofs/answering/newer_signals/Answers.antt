use Rattle.std.proofs.Common.{[], sym, ap, ◌∙◌}
use Rattle.std.specs.Option.{option_map, option_map_or}
use Rattle.replace_slot.specs.declared.images.Found.TheVariants as image
use Rattle.service_calls.specs.collection_store.specs.State.{told_after}
use Rattle.service_calls.specs.collection_table.specs.Entries.{row_of}
use Rattle.service_calls.specs.collection_table.specs.Rows.{CollectionRow}
use Rattle.service_calls.specs.collection_table.proofs.RowLemmas.{value-rows}
use Rattle.service_calls.specs.service_events.specs.Announced.{shown_signals}
use Rattle.service_calls.proofs.LeadsLemmas.{map-ok}
use Rattle.service_answers.specs.Settled.{relabelled}
use Rattle.service_answers.proofs.AnswerLemmas.{newer-relabelled}
use Rattle.service_answers.proofs.answering.newer_signals.Goals as goal

-- the labels are those of the row
pub returns-in-Some : goal.returns-in-Some
returns-in-Some g c =
    let entries = c.args.disk.now.collections.entries in
    let stem = c.args.stem.now in
    let its = c.in-Some.collection.now in
    map-ok c.relabelled.result _ _
    (λ signals is. is ∙ (λ i. relabelled stem (c.label.ensures i) (c.newer_label.ensures i)) ∙ newer-relabelled stem (row_of its)
    ∙ sym (ap (λ o. option_map_or (λ (row : CollectionRow). shown_signals stem row.clear (told_after image.New row.clear row.other)) o [])
    (value-rows stem entries ∙ ap (option_map row_of) (sym c.in-Some.ensures))))
    c.relabelled.ensures

pub returns-in-None : goal.returns-in-None
returns-in-None g c =
    let stem = c.args.stem.now in
    c.new.ensures.items
    ∙ sym (ap (λ o. option_map_or (λ (row : CollectionRow). shown_signals stem row.clear (told_after image.New row.clear row.other)) o [])
    (value-rows stem c.args.disk.now.collections.entries ∙ ap (option_map row_of) (sym c.in-None.ensures)))
