use Rattle.std.proofs.Common.{◌≡◌, None, sym, ap, ◌∙◌}
use Rattle.kr_base.specs.declared.ids.PromptId.{PromptId}
use Rattle.prompt_state.specs.Prompts.{refusal, row_at}
use Rattle.service_calls.specs.service_events.specs.AgentCalls.{in_round, unless_refused}
use Rattle.service_calls.specs.service_events.specs.AnswerCalls.{answer_prompt, row_answered}
use Rattle.service_calls.specs.service_events.specs.Plan.{Plan}
use Rattle.service_calls.specs.Rows.{rows_of}
use Rattle.service_calls.specs.service_tables.specs.Opened.{contents_of}
use Rattle.service_calls.specs.service_tables.specs.TablesReading.{asked_collections}
use Rattle.service_calls.specs.service_events.specs.Run.{asked}
use Rattle.service_calls.specs.declared.storing.Done.{Done}
use Rattle.service_calls.proofs.LeadsLemmas.{leads-as, map-ok, room-silent}
use Rattle.service_answers.proofs.answering.answer_prompt.Goals as goal

-- the path given isn't that of a prompt
pub returns-in_default-clause-leads : goal.returns-in_default-clause-leads
returns-in_default-clause-leads g c = rw c.in_default.is (c.refuse_none.ensures.leads c.args.round)

pub returns-in_default-clause-room : goal.returns-in_default-clause-room
returns-in_default-clause-room g c = room-silent c.args.conn c.refuse_none.result.sends c.args.tables.now.connections.rooms c.refuse_none.ensures.silent c.requires

-- the prompt doesn't wait for the caller
pub returns-in-Some-refusal-clause-room : goal.returns-in-Some-refusal-clause-room
returns-in-Some-refusal-clause-room g c =
    room-silent c.args.conn c.refused.result.sends c.args.tables.now.connections.rooms (ap (λ (done : Done). done.sends) c.refused.ensures) c.requires

-- it waits
pub returns-in-None-clause-leads : goal.returns-in-None-clause-leads
returns-in-None-clause-leads g c =
    let folder = g.F.Folder in
    let slot = g.F.Cell.Slot in
    let conn = c.args.conn in
    let round = c.args.round in
    let prompt = c.in-Some.prompt in
    let old = rows_of c.args.tables.now in
    let waits : refusal prompt round conn old.prompts ≡ None = sym c.refusal.ensures.refusal ∙ c.in-None.is in
    map-ok c.take_answer.result _ _
    (λ done leads brought.
    let goes : PromptId → Plan = λ it. row_answered it round (row_at it old.prompts) (asked_collections (contents_of old)) in
    let plan : answer_prompt c.args.prompt round (asked conn brought old) ≡ goes prompt =
    ap (λ p. in_round p round (asked conn brought old) goes) c.in-Some.is ∙ ap (λ o. unless_refused o (goes prompt)) waits in
    leads-as folder.is_honest folder.is_steady folder.faults folder.images folder.may_leave folder.made slot.is_honest slot.is_steady slot.faults slot.moment slot.left_since slot.may_leave conn brought old _ _ _ _ _ done plan (leads brought))
    c.take_answer.ensures.leads
