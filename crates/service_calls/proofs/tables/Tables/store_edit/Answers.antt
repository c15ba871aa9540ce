use Rattle.std.proofs.Common.{◌≡◌, None, inl, inr, refl, sym, ap, ◌∙◌}
use Rattle.service_events.specs.secret_calls.specs.declared.out.ErrorName.TheVariants as name
use Rattle.service_events.specs.service_tables.specs.Storing.{Brought, storable_at}
use Rattle.service_events.specs.service_tables.proofs.SlotLemmas.{storable-or-none}
use Rattle.service_events.specs.CollectionCalls.{storing}
use Rattle.service_calls.specs.Rows.{disk_of, rows_of}
use Rattle.service_calls.specs.Done.{body_of}
use Rattle.service_calls.proofs.LeadsLemmas.{leads-as, leads-done, leads-refused, map-ok, plan-none, room-silent}
use Rattle.service_calls.specs.declared.storing.Done.{Done}
use Rattle.service_calls.proofs.tables.Tables.store_edit.Goals as goal

-- nothing is answered, so nothing can be stored
pub returns-in_default-clause-leads : goal.returns-in_default-clause-leads
returns-in_default-clause-leads g c = λ edit value is.
    let folder = g.F.Folder in
    let slot = g.F.Cell.Slot in
    let conn = c.args.conn in
    let old = rows_of c.args.self.now in
    let disk = disk_of c.args.self.now in
    let brought : Brought = record { now = c.args.now; value = value } in
    let stem = c.args.stem.now in
    let returned = body_of c.args.returned stem in
    let plan = storing stem edit returned (storable_at stem c.args.change c.args.now old.collections) in
    let none : storable_at stem c.args.change c.args.now old.collections ≡ None =
    elim (storable-or-none stem c.args.change c.args.now old.collections) [ inl none ↦ none | inr same ↦ same ∙ sym (c.in_default.ensures c.args.now) ] in
    leads-done folder.is_honest folder.is_steady folder.faults folder.images folder.may_leave folder.made slot.is_honest slot.is_steady slot.faults slot.moment slot.left_since slot.may_leave conn brought old old disk disk plan _ _ c.refused.ensures
    (leads-as folder.is_honest folder.is_steady folder.faults folder.images folder.may_leave folder.made slot.is_honest slot.is_steady slot.faults slot.moment slot.left_since slot.may_leave conn brought old old disk disk plan _ _ (plan-none stem edit returned _ none)
    (leads-refused folder.is_honest folder.is_steady folder.faults folder.images folder.may_leave folder.made slot.is_honest slot.is_steady slot.faults slot.moment slot.left_since slot.may_leave conn brought old old disk disk name.LimitsExceeded refl refl))

-- what is refused sends nothing
pub returns-in_default-clause-room : goal.returns-in_default-clause-room
returns-in_default-clause-room g c =
    room-silent c.args.conn c.refused.result.sends c.args.self.now.connections.rooms (ap (λ (done : Done). done.sends) c.refused.ensures) c.requires

-- the edit can be made, and does what is answered
pub perform_if_small-requires-clause-ready : goal.perform_if_small-requires-clause-ready
perform_if_small-requires-clause-ready g c = sym (c.in-Some.ensures c.args.now)

-- it is stored, unless its file or its return would be too large
pub returns-clause-leads : goal.returns-clause-leads
returns-clause-leads g c =
    let old = rows_of c.args.self.now in
    let stem = c.args.stem.now in
    let returned = body_of c.args.returned stem in
    let its = returned c.in-Some.answer in
    let storable = storable_at stem c.args.change c.args.now old.collections in
    map-ok c.perform_if_small.result _ _
    (λ done leads edit value is.
    let same : storing stem edit returned storable ≡ storing stem edit (λ _. its) storable =
    elim (storable-or-none stem c.args.change c.args.now old.collections) [
      | inl none ↦ ap (storing stem edit returned) none ∙ sym (ap (storing stem edit (λ _. its)) none)
      | inr some ↦ let made = some ∙ sym (c.in-Some.ensures c.args.now) in ap (storing stem edit returned) made ∙ sym (ap (storing stem edit (λ _. its)) made)
    ] in
    leads (record { now = c.args.now; value = value }) its (storing stem edit returned storable) c.in_ok-body.ensures (edit, is, refl, same))
    c.perform_if_small.ensures.leads
