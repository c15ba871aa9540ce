use Rattle.service_events.specs.collection_store.specs.declared.change.Change.TheVariants as change
use Rattle.service_events.specs.service_tables.specs.Storing.{Edit, Set_label}
use Rattle.service_calls.proofs.LeadsLemmas.{map-ok}
use Rattle.service_calls.proofs.tables.Tables.set_item_label.Goals as goal

-- the edit is what the call says
pub returns-clause-leads : goal.returns-clause-leads
returns-clause-leads g c =
    let edit : Edit = Set_label c.args.item c.args.label.now in
    map-ok c.store_of_item.result _ _
    (λ done leads value. leads edit value (λ i. change.SetLabel c.args.item (c.in_ok-label.ensures i)))
    c.store_of_item.ensures.leads
