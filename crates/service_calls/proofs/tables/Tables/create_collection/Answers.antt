use Rattle.std.proofs.Common.{◌≡◌, ℕ, List, Option, None, Some, Result, Ok, sym, ap, ◌∙◌}
use Rattle.std.specs.Option.{option_and_then, option_copied}
use Rattle.service_events.specs.secret_calls.specs.declared.out.Body.{Body}
use Rattle.service_events.specs.secret_calls.specs.declared.out.Body.TheVariants as body
use Rattle.service_events.specs.secret_calls.specs.declared.out.ErrorName.{ErrorName}
use Rattle.service_events.specs.service_tables.specs.Opened.{contents_of}
use Rattle.service_events.specs.service_tables.specs.TablesReading.{asked_collections}
use Rattle.service_calls.specs.Done.{reads}
use Rattle.service_calls.specs.Rows.{rows_of}
use Rattle.service_events.specs.Run.{asked}
use Rattle.service_events.specs.ServiceCalls.{create_collection, creating, there_already}
use Rattle.service_calls.proofs.LeadsLemmas.{leads-as, map-ok, room-silent}
use Rattle.service_calls.proofs.tables.Tables.create_collection.Goals as goal

-- no alias is given that stands for a collection
pub returns-in_default-clause-leads : goal.returns-in_default-clause-leads
returns-in_default-clause-leads g c =
    let folder = g.F.Folder in
    let slot = g.F.Cell.Slot in
    let conn = c.args.conn in
    let old = rows_of c.args.self.now in
    let none : option_and_then (asked_collections (contents_of old)).alias c.args.alias.now ≡ None = sym c.stem_of.ensures ∙ ap option_copied c.in_default.is in
    map-ok c.begin_creating.result _ _
    (λ done leads brought. leads-as folder.is_honest folder.is_steady folder.faults folder.images folder.may_leave folder.made slot.is_honest slot.is_steady slot.faults slot.moment slot.left_since slot.may_leave conn brought old _ _ _ _ _ done
    (ap (λ o. there_already o (creating c.args.label.now c.args.alias.now c.args.salt (asked conn brought old))) none) (leads brought))
    c.begin_creating.ensures.leads

-- it stands for one, whose path is returned
pub returns-clause-leads : goal.returns-clause-leads
returns-clause-leads g c = λ brought.
    let conn = c.args.conn in
    let old = rows_of c.args.self.now in
    let asks = asked conn brought old in
    let next = creating c.args.label.now c.args.alias.now c.args.salt asks in
    let some : option_and_then (asked_collections (contents_of old)).alias c.args.alias.now ≡ Some c.in-Some.stem.now = sym c.stem_of.ensures ∙ ap option_copied c.in-Some.is in
    let returned : List ℕ → Option (Result Body ErrorName) = λ path. Some (Ok (body.ObjectAndPrompt path None)) in
    c.answered.ensures.leads conn brought (create_collection c.args.label.now c.args.alias.now c.args.salt asks)
    (ap (λ o. reads conn old (there_already o next)) some ∙ ap returned (sym c.in_ok-collection_path.ensures))

-- an answer alone sends nothing
pub returns-clause-room : goal.returns-clause-room
returns-clause-room g c =
    room-silent c.args.conn c.answered.result.sends c.args.self.now.connections.rooms c.answered.ensures.silent c.requires
