use Rattle.std.proofs.Common.{◌≡◌, Some, sym, ap, subst, ◌∙◌}
use Rattle.service_events.specs.service_tables.specs.Aliases.{IsPreparedFor}
use Rattle.service_events.specs.service_tables.specs.Objects.{alias_target}
use Rattle.service_events.specs.service_tables.specs.Opened.{contents_of}
use Rattle.service_events.specs.service_tables.specs.TablesReading.{asked_collections}
use Rattle.service_events.specs.service_tables.proofs.SlotLemmas.{of-some}
use Rattle.service_events.specs.AliasCalls.{alias_settled, on_target}
use Rattle.service_calls.specs.Rows.{disk_of, rows_of}
use Rattle.service_calls.proofs.LeadsLemmas.{leads-as}
use Rattle.service_calls.proofs.tables.Tables.set_alias.Goals as goal

-- the change was prepared for this alias
pub settle_alias-requires : goal.settle_alias-requires
settle_alias-requires g c = (c.in_ok-name.name, c.in-Some.stem, of-some _ c.in_ok-change.field-0 c.in-Some-2.change c.in-Some-2.is c.in_ok-change.ensures.prepared)

-- the collection is there, or the alias is removed
pub returns-in-Some-2-clause-leads : goal.returns-in-Some-2-clause-leads
returns-in-Some-2-clause-leads g c = λ brought.
    let folder = g.F.Folder in
    let slot = g.F.Cell.Slot in
    let conn = c.args.conn in
    let alias = c.args.alias.now in
    let stem = c.in-Some.stem in
    let old = rows_of c.args.self.now in
    let target : alias_target (asked_collections (contents_of old)) c.args.object.now ≡ Some stem = sym c.in_ok-stem.ensures ∙ c.in-Some.is in
    let plan = ap (λ o. on_target o (alias_settled alias)) target in
    let prepared = subst (λ a. IsPreparedFor a stem (contents_of old) c.in-Some-2.change) (c.in_ok-name.ensures ∙ c.as_text.ensures.value)
    (of-some _ c.in_ok-change.field-0 c.in-Some-2.change c.in-Some-2.is c.in_ok-change.ensures.prepared) in
    leads-as folder.is_honest folder.is_steady folder.faults folder.images folder.may_leave folder.made slot.is_honest slot.is_steady slot.faults slot.moment slot.left_since slot.may_leave conn brought old _ (disk_of c.args.self.now) _ _ _ _ plan (c.settle_alias.ensures.leads conn brought alias stem prepared)
