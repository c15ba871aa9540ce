use Rattle.service_events.specs.collection_store.specs.declared.change.Change.TheVariants as change
use Rattle.service_events.specs.service_tables.specs.Storing.{Edit, Set_attributes}
use Rattle.service_calls.proofs.LeadsLemmas.{map-ok}
use Rattle.service_calls.proofs.tables.Tables.set_attributes.Goals as goal

-- the edit is what the call says
pub returns-clause-leads : goal.returns-clause-leads
returns-clause-leads g c =
    let edit : Edit = Set_attributes c.args.item c.args.attributes.now in
    map-ok c.store_of_item.result _ _
    (λ done leads value. leads edit value (λ i. change.SetAttributes c.args.item (c.in_ok-attributes.ensures i)))
    c.store_of_item.ensures.leads
