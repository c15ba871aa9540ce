use Rattle.std.proofs.Common.{◌≡◌, cond, true, [], ◌∷◌, None, sym, ap, ◌∙◌}
use Rattle.prompt_state.specs.Prompts.{owns}
use Rattle.service_events.specs.secret_calls.specs.declared.out.ErrorName.TheVariants as name
use Rattle.service_events.specs.Plan.{End_prompt, answered, refused}
use Rattle.service_events.specs.PublicBody as public
use Rattle.service_calls.specs.Rows.{rows_of}
use Rattle.service_calls.proofs.LeadsLemmas.{leads-as, map-ok}
use Rattle.service_calls.proofs.tables.Tables.dismiss.Goals as goal

-- the prompt is the caller's own, and ends
pub returns-clause-leads : goal.returns-clause-leads
returns-clause-leads g c =
    let folder = g.F.Folder in
    let slot = g.F.Cell.Slot in
    let conn = c.args.conn in
    let old = rows_of c.args.self.now in
    let own : owns conn c.args.prompt old.prompts ≡ true = sym c.owned_by.ensures ∙ c.if-not-owned_by.false in
    map-ok c.end_dismissed.result _ _
    (λ done leads brought. leads-as folder.is_honest folder.is_steady folder.faults folder.images folder.may_leave folder.made slot.is_honest slot.is_steady slot.faults slot.moment slot.left_since slot.may_leave conn brought old _ _ _ _ _ done
    (ap (λ b. cond b (answered public.Empty (End_prompt c.args.prompt true None ∷ [])) (refused name.NoSuchObject)) own) (leads brought))
    c.end_dismissed.ensures.leads
