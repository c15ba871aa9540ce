use Rattle.std.proofs.Common.{◌≡◌, ◌<◌, Some, sym, ◌∙◌, arith}
use Rattle.std.specs.Option.{option_map}
use Rattle.prompt_state.specs.Prompts.{first_of_row, last_round, row_at}
use Rattle.prompt_state.specs.declared.targets.Target.{Target}
use Rattle.service_calls.specs.Rows.{rows_of}
use Rattle.service_calls.specs.service_tables.specs.Opened.{contents_of}
use Rattle.service_calls.specs.service_tables.specs.TablesReading.{asked_collections}
use Rattle.service_answers.proofs.AnswerLemmas.{answered-last, answered-target, none-first, taken-there}
use Rattle.service_calls.proofs.LeadsLemmas.{leads-as, map-ok}
use Rattle.service_answers.proofs.answering.take_answer.Goals as goal

pub end_dismissed-requires : goal.end_dismissed-requires
end_dismissed-requires g c = record { there = taken-there c.args.prompt c.args.round c.args.conn c.args.tables.now.prompts c.requires.taken }

-- the greatest round
pub returns-then-round-eq-LAST_ROUND-clause-leads : goal.returns-then-round-eq-LAST_ROUND-clause-leads
returns-then-round-eq-LAST_ROUND-clause-leads g c =
    let folder = g.F.Folder in
    let slot = g.F.Cell.Slot in
    let conn = c.args.conn in
    let old = rows_of c.args.tables.now in
    let row = row_at c.args.prompt old.prompts in
    let there = taken-there c.args.prompt c.args.round conn old.prompts c.requires.taken in
    map-ok c.end_dismissed.result _ _
    (λ done leads brought. leads-as folder.is_honest folder.is_steady folder.faults folder.images folder.may_leave folder.made slot.is_honest slot.is_steady slot.faults slot.moment slot.left_since slot.may_leave conn brought old _ _ _ _ _ done
    (answered-last c.args.prompt c.args.round (asked_collections (contents_of old)) row there c.if-round-eq-LAST_ROUND.true) (leads brought))
    c.end_dismissed.ensures.leads

-- there is a first target
pub returns-in-Some-clause-leads : goal.returns-in-Some-clause-leads
returns-in-Some-clause-leads g c =
    let folder = g.F.Folder in
    let slot = g.F.Cell.Slot in
    let conn = c.args.conn in
    let old = rows_of c.args.tables.now in
    let row = row_at c.args.prompt old.prompts in
    let stem = c.in-Some.stem in
    let first : option_map (λ (target : Target). target.stem) (first_of_row row) ≡ Some stem = sym c.in_ok-first.ensures ∙ c.in-Some.is in
    let below : c.args.round < last_round = omega (arith, c.if-round-eq-LAST_ROUND.false, c.ranges.round.fits) in
    map-ok c.answer_target.result _ _
    (λ done leads brought. leads-as folder.is_honest folder.is_steady folder.faults folder.images folder.may_leave folder.made slot.is_honest slot.is_steady slot.faults slot.moment slot.left_since slot.may_leave conn brought old _ _ _ _ _ done
    (answered-target c.args.prompt c.args.round (asked_collections (contents_of old)) row stem below first) (leads brought))
    c.answer_target.ensures.leads

pub answer_without_target-requires-clause-none : goal.answer_without_target-requires-clause-none
answer_without_target-requires-clause-none g c = none-first (first_of_row (row_at c.args.prompt c.args.tables.now.prompts)) (sym c.in_ok-first.ensures ∙ c.in-None.is)
