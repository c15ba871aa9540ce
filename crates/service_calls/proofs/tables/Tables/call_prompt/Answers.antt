use Rattle.std.proofs.Common.{◌≡◌, cond, true, [], ◌∷◌, sym, ap, ◌∙◌}
use Rattle.prompt_state.specs.Prompts.{owns, row_at}
use Rattle.service_events.specs.secret_calls.specs.declared.out.ErrorName.TheVariants as name
use Rattle.service_events.specs.Plan.{Go_on, answered, refused}
use Rattle.service_events.specs.PromptCalls.{first_advance, is_made_row}
use Rattle.service_events.specs.PublicBody as public
use Rattle.service_calls.specs.Rows.{rows_of}
use Rattle.service_calls.proofs.LeadsLemmas.{leads-as, map-ok}
use Rattle.service_calls.proofs.tables.Tables.call_prompt.Goals as goal

-- the prompt is the caller's own, and wasn't asked before
pub returns-clause-leads : goal.returns-clause-leads
returns-clause-leads g c =
    let folder = g.F.Folder in
    let slot = g.F.Cell.Slot in
    let conn = c.args.conn in
    let prompt = c.args.prompt in
    let old = rows_of c.args.self.now in
    let row = row_at prompt old.prompts in
    let own : owns conn prompt old.prompts ≡ true = sym c.owned_by.ensures ∙ c.if-not-owned_by.false in
    let made : is_made_row row ≡ true = sym c.is_made.ensures.made ∙ c.if-not-is_made.false in
    map-ok c.go_on.result _ _
    (λ done leads brought. leads-as folder.is_honest folder.is_steady folder.faults folder.images folder.may_leave folder.made slot.is_honest slot.is_steady slot.faults slot.moment slot.left_since slot.may_leave conn brought old _ _ _ _ _ done
    (ap (λ b. cond b (answered public.Empty (first_advance prompt row)) (refused name.NoSuchObject)) own
    ∙ ap (λ b. answered public.Empty (cond b (Go_on prompt ∷ []) [])) made) (leads brought))
    c.go_on.ensures.leads
