use Rattle.std.proofs.Common.{None, map, sym, ap, ◌∙◌, filter}
use Rattle.service_events.specs.secret_calls.specs.declared.out.Body.TheVariants as body
use Rattle.service_events.specs.service_tables.specs.Objects.{is_there, once, paths_of}
use Rattle.service_events.specs.service_tables.specs.Opened.{contents_of}
use Rattle.service_events.specs.service_tables.specs.TablesReading.{asked_collections}
use Rattle.service_events.specs.Plan.{Lock_collection, answered}
use Rattle.service_events.specs.PublicBody as public
use Rattle.service_events.specs.Run.{asked}
use Rattle.service_events.specs.ServiceCalls as service
use Rattle.service_calls.specs.Rows.{rows_of}
use Rattle.service_calls.proofs.LeadsLemmas.{map-ok}
use Rattle.service_calls.proofs.tables.Tables.lock.Goals as goal

-- the objects that are there are returned, and their collections locked
pub returns-clause-leads : goal.returns-clause-leads
returns-clause-leads g c =
    let conn = c.args.conn in
    let old = rows_of c.args.self.now in
    let objects = c.args.objects.now in
    let its = public.ObjectsAndPrompt (paths_of (once (filter (is_there (asked_collections (contents_of old))) objects))) None in
    let found = c.in_ok-stems.ensures ∙ ap service.in_order (c.deref.ensures.value ∙ c.in_ok-around.ensures) in
    map-ok c.perform_if_small.result _ _
    (λ done leads brought. leads brought its (service.lock objects (asked conn brought old))
    (ap (λ paths. body.ObjectsAndPrompt paths None) (c.new.ensures ∙ c.in_ok-paths.ensures))
    (ap (λ stems. answered its (map Lock_collection stems)) (sym found)))
    c.perform_if_small.ensures.leads
