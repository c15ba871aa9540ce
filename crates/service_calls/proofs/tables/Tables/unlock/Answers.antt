use Rattle.std.proofs.Common.{◌≡◌, [], false, Some, None, refl, sym, ap, ◌∙◌}
use Rattle.prompt_state.specs.declared.row.PromptKind.TheVariants as kind
use Rattle.service_events.specs.secret_calls.specs.declared.out.Body.TheVariants as body
use Rattle.service_events.specs.service_prompts.specs.Unlocking.{targets_of, unlocked_there}
use Rattle.service_events.specs.service_tables.specs.Targets.{are_light}
use Rattle.service_events.specs.Plan.{answered}
use Rattle.service_events.specs.PromptCalls.{are_none}
use Rattle.service_events.specs.PublicBody as public
use Rattle.service_calls.specs.Rows.{disk_of, rows_of}
use Rattle.service_events.specs.Run.{asked}
use Rattle.service_events.specs.ServiceCalls.{unlock, unlocking, with_new_prompt}
use Rattle.service_calls.proofs.LeadsLemmas.{leads-as, map-ok, none-are, plan-targets, room-silent}
use Rattle.service_calls.proofs.tables.Tables.unlock.Goals as goal

-- there is nothing to unlock
pub returns-then-are_none-clause-leads : goal.returns-then-are_none-clause-leads
returns-then-are_none-clause-leads g c = λ brought.
    let folder = g.F.Folder in
    let slot = g.F.Cell.Slot in
    let conn = c.args.conn in
    let old = rows_of c.args.self.now in
    let disk = disk_of c.args.self.now in
    let asks = asked conn brought old in
    let items = c.in_ok-targets.targets.items in
    let none : items ≡ [] = none-are items (ap are_none (sym c.deref.ensures.value) ∙ sym c.are_none.ensures ∙ c.if-are_none.true) in
    let paths : unlocked_there asks.collections c.args.objects.now ≡ c.new.result = sym (c.new.ensures ∙ c.in_ok-paths.ensures) in
    let targets : targets_of asks.collections c.args.objects.now ≡ [] = sym c.in_ok-targets.ensures ∙ none in
    let plan : unlock c.args.objects.now asks ≡ answered (public.ObjectsAndPrompt c.new.result None) [] = λ i. unlocking (paths i) (targets i) asks in
    leads-as folder.is_honest folder.is_steady folder.faults folder.images folder.may_leave folder.made slot.is_honest slot.is_steady slot.faults slot.moment slot.left_since slot.may_leave conn brought old old disk disk _ _ c.answered.result plan (c.answered.ensures.leads conn brought (answered (public.ObjectsAndPrompt c.new.result None) []) refl)

-- there is something, and a prompt begins
pub returns-clause-leads : goal.returns-clause-leads
returns-clause-leads g c =
    let folder = g.F.Folder in
    let slot = g.F.Cell.Slot in
    let conn = c.args.conn in
    let old = rows_of c.args.self.now in
    let items = c.in_ok-targets.targets.items in
    let some : are_none items ≡ false = ap are_none (sym c.deref.ensures.value) ∙ sym c.are_none.ensures ∙ c.if-are_none.false in
    let light : are_light items ≡ c.are_light-fits.result = sym (c.are_light-fits.ensures ∙ ap are_light c.deref-2.ensures.value) in
    map-ok c.begin.result _ _
    (λ done leads brought.
    let asks = asked conn brought old in
    let paths : unlocked_there asks.collections c.args.objects.now ≡ c.new-2.result = sym (c.new-2.ensures ∙ c.in_ok-paths.ensures) in
    let plan : unlock c.args.objects.now asks ≡ with_new_prompt c.are_light-fits.result (public.ObjectsAndPrompt c.new-2.result) (kind.Unlock c.new-3.result) asks =
    (λ i. unlocking (paths i) (sym c.in_ok-targets.ensures i) asks) ∙ plan-targets c.new-2.result items asks some
    ∙ (λ i. with_new_prompt (light i) (public.ObjectsAndPrompt c.new-2.result) (kind.Unlock (sym c.new-3.ensures i)) asks) in
    leads-as folder.is_honest folder.is_steady folder.faults folder.images folder.may_leave folder.made slot.is_honest slot.is_steady slot.faults slot.moment slot.left_since slot.may_leave conn brought old _ _ _ _ _ done plan
    (leads brought (public.ObjectsAndPrompt c.new-2.result) (λ i. body.ObjectsAndPrompt c.new-2.result (Some (record { 0 = c.next.ensures i })))))
    c.begin.ensures.leads

-- an answer alone sends nothing
pub returns-then-are_none-clause-room : goal.returns-then-are_none-clause-room
returns-then-are_none-clause-room g c =
    room-silent c.args.conn c.answered.result.sends c.args.self.now.connections.rooms c.answered.ensures.silent c.requires
