use Rattle.std.proofs.Common.{◌+◌, ◌≤◌, ◌∷◌, [], nat_le, cond, refl, sym, ap, subst, ◌∙◌}
use Rattle.prompt_state.specs.Prompts.{asked_again, last_round, next_round, one_more, row_at}
use Rattle.prompt_state.specs.declared.row.PromptRow.{PromptRow}
use Rattle.service_calls.specs.service_events.specs.Derivation.{dismissing, most_wrong_answers, quietly}
use Rattle.service_calls.specs.declared.storing.Done.{Done}
use Rattle.service_calls.specs.service_events.specs.Plan.{Ask_prompt, Count_wrong}
use Rattle.service_calls.specs.service_events.specs.PublicBody as public
use Rattle.service_calls.specs.Rows.{disk_of, rows_of}
use Rattle.service_answers.proofs.DerivedLemmas.{disk-kept, if-some, round-changed, wronged-sends}
use Rattle.service_calls.specs.service_events.proofs.SmallLemmas.{empty-small}
use Rattle.service_calls.proofs.LeadsLemmas.{leads-as, leads-changes, map-ok, room-sent}
use Rattle.service_answers.proofs.derived_key.count_wrong.Goals as goal

-- it has a next round as before
pub again-round-requires : goal.again-round-requires
again-round-requires g c =
    let prompt = c.args.prompt in
    let f : PromptRow → PromptRow = λ row. record row { wrong = one_more row.wrong } in
    subst (λ n. n ≤ last_round)
    (sym (ap (λ p. next_round (row_at prompt p)) c.wrong-wrong.ensures.counted ∙ round-changed prompt f c.args.tables.now.prompts (λ row. refl) (λ row. refl))) c.requires.round

-- these are too many
pub returns-then-is_last_wrong-clause-leads : goal.returns-then-is_last_wrong-clause-leads
returns-then-is_last_wrong-clause-leads g c =
    let folder = g.F.Folder in
    let slot = g.F.Cell.Slot in
    let conn = c.args.conn in
    let prompt = c.args.prompt in
    let old = rows_of c.args.tables.now in
    map-ok c.end_dismissed.result _ _
    (λ done leads brought. if-some (row_at prompt old.prompts) _ _
    (λ row its. leads-as folder.is_honest folder.is_steady folder.faults folder.images folder.may_leave folder.made slot.is_honest slot.is_steady slot.faults slot.moment slot.left_since slot.may_leave conn brought old _ (disk_of c.args.tables.now) _ _ _ done
    (ap (λ b. cond b (dismissing prompt) (quietly (Count_wrong prompt ∷ Ask_prompt prompt ∷ []))) (ap (λ n. nat_le most_wrong_answers (n + 1)) (sym its) ∙ sym c.is_last_wrong.ensures.last ∙ c.if-is_last_wrong.true)) (leads brought))
    c.wrong_of-wrong.ensures)
    c.end_dismissed.ensures.leads

pub returns-then-is_last_wrong-clause-disk : goal.returns-then-is_last_wrong-clause-disk
returns-then-is_last_wrong-clause-disk g c =
    let folder = g.F.Folder in
    let slot = g.F.Cell.Slot in
    disk-kept folder.is_honest folder.is_steady folder.faults folder.images folder.may_leave folder.made slot.is_honest slot.is_steady slot.faults slot.moment slot.left_since slot.may_leave c.args.conn (record { now = 0; value = [] }) _ _ _ _ c.end_dismissed.result _ _ c.end_dismissed.ensures.leads c.end_dismissed.ensures.unchanged

-- it is asked again with one more
pub returns-clause-leads : goal.returns-clause-leads
returns-clause-leads g c = λ brought.
    let folder = g.F.Folder in
    let slot = g.F.Cell.Slot in
    let conn = c.args.conn in
    let prompt = c.args.prompt in
    let old = rows_of c.args.tables.now in
    let done = c.sending.result in
    if-some (row_at prompt old.prompts) _ _
    (λ row its. leads-as folder.is_honest folder.is_steady folder.faults folder.images folder.may_leave folder.made slot.is_honest slot.is_steady slot.faults slot.moment slot.left_since slot.may_leave conn brought old _ (disk_of c.args.tables.now) _ _ _ _
    (ap (λ b. cond b (dismissing prompt) (quietly (Count_wrong prompt ∷ Ask_prompt prompt ∷ []))) (ap (λ n. nat_le most_wrong_answers (n + 1)) (sym its) ∙ sym c.is_last_wrong.ensures.last ∙ c.if-is_last_wrong.false))
    (leads-changes folder.is_honest folder.is_steady folder.faults folder.images folder.may_leave folder.made slot.is_honest slot.is_steady slot.faults slot.moment slot.left_since slot.may_leave conn brought old _ (disk_of c.args.tables.now) _ public.Empty (Count_wrong prompt ∷ Ask_prompt prompt ∷ []) done
    (ap (λ (d : Done). d.answer) c.sending.ensures) (ap (λ (d : Done). d.sends) c.sending.ensures ∙ wronged-sends conn prompt old c.in_ok-sends.sends.items c.wrong_of-wrong.result (c.is_last_wrong.ensures.few c.if-is_last_wrong.false) c.requires.there c.wrong_of-wrong.ensures c.in_ok-sends.ensures old.connections.rows) (ap (λ (d : Done). d.read) c.sending.ensures) (ap (λ (d : Done). d.fate) c.sending.ensures) empty-small
    (λ i. record old {
      connections = record { rows = c.in_ok-reserve_for.ensures.unchanged i; next = c.in_ok-reserve_for.ensures.next i };
      prompts = (c.again-round.ensures.asked ∙ ap (asked_again prompt) c.wrong-wrong.ensures.counted) i;
    })
    refl))
    c.wrong_of-wrong.ensures

-- room was made for what is sent
pub returns-clause-room : goal.returns-clause-room
returns-clause-room g c =
    room-sent c.args.conn c.deref.result.now c.in_ok-sends.sends.items c.sending.result.sends c.reserve_for.new.self.rooms c.deref.ensures.value
    (ap (λ (done : Done). done.sends) c.sending.ensures) c.in_ok-reserve_for.ensures.room
