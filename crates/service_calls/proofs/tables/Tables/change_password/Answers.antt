use Rattle.std.proofs.Common.{◌≡◌, cond, true, Some, sym, ap, ◌∙◌}
use Rattle.prompt_state.specs.declared.row.PromptKind.TheVariants as kind
use Rattle.service_events.specs.CollectionCalls.{if_open, on_collection}
use Rattle.service_events.specs.KeyringCalls.{change_password, the_prompt}
use Rattle.service_events.specs.Plan.{refused}
use Rattle.service_events.specs.Run.{asked}
use Rattle.service_events.specs.ServiceCalls.{with_new_prompt}
use Rattle.service_events.specs.collection_table.specs.Rows.{is_open}
use Rattle.service_events.specs.secret_calls.specs.declared.out.Body.TheVariants as body
use Rattle.service_events.specs.secret_calls.specs.declared.out.ErrorName.TheVariants as name
use Rattle.service_events.specs.service_tables.specs.Objects.{collection_named}
use Rattle.service_events.specs.service_tables.specs.Opened.{contents_of}
use Rattle.service_events.specs.service_tables.specs.TablesReading.{asked_collections}
use Rattle.service_calls.specs.Rows.{rows_of}
use Rattle.service_calls.specs.declared.storing.Done.{Done}
use Rattle.service_calls.proofs.LeadsLemmas.{leads-as, map-ok, room-silent}
use Rattle.service_calls.proofs.tables.Tables.change_password.Goals as goal

-- the collection is there and unlocked, and a prompt begins
pub returns-clause-leads : goal.returns-clause-leads
returns-clause-leads g c =
    let folder = g.F.Folder in
    let slot = g.F.Cell.Slot in
    let conn = c.args.conn in
    let salt = c.args.salt in
    let old = rows_of c.args.self.now in
    let stem = c.in_ok-stem.stem in
    let named : collection_named (asked_collections (contents_of old)) c.args.collection.now ≡ Some stem = sym c.in-Some.ensures.named ∙ ap Some (sym c.in_ok-stem.ensures) in
    let unlocked : is_open stem old.collections ≡ true = sym c.is_open.ensures ∙ c.if-not-is_open.false in
    map-ok c.begin.result _ _
    (λ done leads brought.
    let asks = asked conn brought old in
    let plan : change_password c.args.collection.now salt asks ≡ with_new_prompt true the_prompt (kind.Change stem salt) asks =
    ap (λ o. on_collection o (λ stem. if_open stem asks (with_new_prompt true the_prompt (kind.Change stem salt) asks))) named
    ∙ ap (λ b. cond b (with_new_prompt true the_prompt (kind.Change stem salt) asks) (refused name.IsLocked)) unlocked in
    leads-as folder.is_honest folder.is_steady folder.faults folder.images folder.may_leave folder.made slot.is_honest slot.is_steady slot.faults slot.moment slot.left_since slot.may_leave conn brought old _ _ _ _ _ done plan
    (leads brought the_prompt (ap body.Object c.in_ok-next_path.ensures)))
    c.begin.ensures.leads

-- what is refused sends nothing
pub returns-in_default-clause-room : goal.returns-in_default-clause-room
returns-in_default-clause-room g c =
    room-silent c.args.conn c.refused.result.sends c.args.self.now.connections.rooms (ap (λ (done : Done). done.sends) c.refused.ensures) c.requires

pub returns-then-not-is_open-clause-room : goal.returns-then-not-is_open-clause-room
returns-then-not-is_open-clause-room g c =
    room-silent c.args.conn c.refused-then-not-is_open.result.sends c.args.self.now.connections.rooms (ap (λ (done : Done). done.sends) c.refused-then-not-is_open.ensures) c.requires
