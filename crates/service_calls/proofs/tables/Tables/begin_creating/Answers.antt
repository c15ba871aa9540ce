use Rattle.std.proofs.Common.{◌≡◌, nat_le, cond, true, false, Some, sym, ap, ◌∙◌, []}
use Rattle.std.specs.Option.{option_map_or}
use Rattle.service_events.specs.folder_store.specs.Limits.{the_limits}
use Rattle.prompt_state.specs.declared.row.PromptKind.TheVariants as kind
use Rattle.service_events.specs.secret_calls.specs.declared.out.Body.TheVariants as body
use Rattle.service_events.specs.secret_calls.specs.declared.out.ErrorName.TheVariants as name
use Rattle.service_events.specs.service_tables.specs.Opened.{contents_of}
use Rattle.service_events.specs.service_tables.specs.TablesReading.{asked_collections}
use Rattle.service_events.specs.Plan.{refused}
use Rattle.service_calls.specs.Rows.{rows_of}
use Rattle.service_events.specs.Run.{asked}
use Rattle.service_events.specs.ServiceCalls.{no_collection, with_new_prompt}
use Rattle.service_calls.proofs.LeadsLemmas.{few-is, leads-as, map-ok, room-silent}
use Rattle.service_calls.specs.declared.storing.Done.{Done}
use Rattle.service_calls.proofs.tables.Tables.begin_creating.Goals as goal

-- there are fewer collections than there may be, and a prompt begins
pub returns-clause-leads : goal.returns-clause-leads
returns-clause-leads g c =
    let folder = g.F.Folder in
    let slot = g.F.Cell.Slot in
    let conn = c.args.conn in
    let old = rows_of c.args.self.now in
    let few : nat_le the_limits.collections (asked_collections (contents_of old)).count ≡ false =
    ap (nat_le the_limits.collections) (sym c.count.ensures) ∙ few-is the_limits.collections c.count.result c.if-count.false in
    map-ok c.begin.result _ _
    (λ done leads brought.
    let asks = asked conn brought old in
    leads-as folder.is_honest folder.is_steady folder.faults folder.images folder.may_leave folder.made slot.is_honest slot.is_steady slot.faults slot.moment slot.left_since slot.may_leave conn brought old _ _ _ _ _ done
    (ap (λ b. cond b (refused name.LimitsExceeded) (with_new_prompt true no_collection (kind.Create c.args.label.now (option_map_or (λ name. name) c.args.alias.now []) c.args.salt) asks)) few
    ∙ (λ i. with_new_prompt true no_collection (kind.Create (sym c.in_ok-copy.ensures i) (sym c.in_ok-alias_text.ensures i) c.args.salt) asks))
    (leads brought no_collection (λ i. body.ObjectAndPrompt (c.in_ok-path_of.ensures.spelled i) (Some (record { 0 = c.next.ensures i })))))
    c.begin.ensures.leads

-- what is refused sends nothing
pub returns-then-count-clause-room : goal.returns-then-count-clause-room
returns-then-count-clause-room g c =
    room-silent c.args.conn c.refused.result.sends c.args.self.now.connections.rooms (ap (λ (done : Done). done.sends) c.refused.ensures) c.requires
