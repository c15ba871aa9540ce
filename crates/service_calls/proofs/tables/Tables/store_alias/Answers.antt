use Rattle.std.proofs.Common.{◌≡◌, true, [], Some, None, refl, ap, rules, ◌∙◌}
use Rattle.service_events.specs.service_tables.specs.Aliases.{asked_aliases}
use Rattle.service_events.specs.service_tables.specs.Opened.{Contents, contents_of}
use Rattle.service_events.specs.service_tables.specs.declared.fate.Fate.TheVariants as fate
use Rattle.service_events.specs.service_tables.proofs.SlotLemmas.{of-some}
use Rattle.service_events.specs.Plan.{Set_alias}
use Rattle.service_events.specs.PublicBody.{body_with}
use Rattle.service_events.specs.PublicBody as public
use Rattle.service_calls.specs.Done.{answer_by}
use Rattle.service_calls.specs.Rows.{disk_of, rows_of}
use Rattle.service_calls.proofs.AliasLemmas.{for-moved, stored-plan}
use Rattle.service_events.proofs.SmallLemmas.{empty-small}
use Rattle.service_calls.proofs.LeadsLemmas.{leads-as, leads-asked, leads-done}
use Rattle.service_calls.proofs.tables.Tables.store_alias.Goals as goal

-- there are no more aliases than may be, and they are stored
pub returns-in-Some-clause-leads : goal.returns-in-Some-clause-leads
returns-in-Some-clause-leads g c = λ conn brought alias stem prepared.
    let folder = g.F.Folder in
    let slot = g.F.Cell.Slot in
    let old = rows_of c.args.self.now in
    let disk = disk_of c.args.self.now in
    let some = c.in-Some.fate in
    let its = c.store_aliases.ensures in
    let can : (asked_aliases (contents_of old)).can_set alias stem ≡ true = of-some _ c.store_aliases.result some c.in-Some.is (its.few alias stem prepared) in
    let stored = of-some _ c.store_aliases.result some c.in-Some.is (its.stored alias stem prepared) in
    let state = ap (λ (contents : Contents). record old { collections = contents.collections; aliases = contents.aliases; used = contents.used }) stored in
    let aliases = ap (λ (contents : Contents). contents.aliases) stored in
    let none : c.new.result.items ≡ [] = search rules in
    leads-done folder.is_honest folder.is_steady folder.faults folder.images folder.may_leave folder.made slot.is_honest slot.is_steady slot.faults slot.moment slot.left_since slot.may_leave conn brought old _ disk _ _ _ _
    (c.ended.ensures ∙ ap (λ sends. record { answer = answer_by (body_with public.Empty) some; sends = sends; read = None; fate = Some some }) none)
    (leads-as folder.is_honest folder.is_steady folder.faults folder.images folder.may_leave folder.made slot.is_honest slot.is_steady slot.faults slot.moment slot.left_since slot.may_leave conn brought old _ disk _ _ _ _ (stored-plan conn brought alias stem old can)
    (leads-asked folder.is_honest folder.is_steady folder.faults folder.images folder.may_leave folder.made slot.is_honest slot.is_steady slot.faults slot.moment slot.left_since slot.may_leave conn brought old _ disk _ (Set_alias alias stem) public.Empty some [] refl empty-small state
    (for-moved slot.is_honest slot.is_steady slot.faults slot.moment slot.left_since slot.may_leave (fate.Store some) old.aliases _ _ disk _ aliases (of-some _ c.store_aliases.result some c.in-Some.is its.disk))))

pub returns-in-Some-clause-rest : goal.returns-in-Some-clause-rest
returns-in-Some-clause-rest g c = (of-some _ c.store_aliases.result c.in-Some.fate c.in-Some.is c.store_aliases.ensures.disk).rest
