use Rattle.std.proofs.Common.{Some, ap}
use Rattle.service_events.specs.ServiceCalls.{next_prompt, with_new_prompt}
use Rattle.service_calls.specs.Rows.{rows_of}
use Rattle.service_events.specs.Run.{asked}
use Rattle.service_calls.proofs.LeadsLemmas.{map-ok, room-silent}
use Rattle.service_calls.specs.declared.storing.Done.{Done}
use Rattle.service_calls.proofs.tables.Tables.begin.Goals as goal

-- what the prompt would complete with is short enough, and it begins
pub returns-clause-leads : goal.returns-clause-leads
returns-clause-leads g c =
    let conn = c.args.conn in
    let old = rows_of c.args.self.now in
    map-ok c.perform_if_small.result _ _
    (λ done leads brought returned is.
    let asks = asked conn brought old in
    leads brought (returned (Some (next_prompt asks))) (with_new_prompt c.args.fits returned c.args.kind asks) is
    (ap (λ fits. with_new_prompt fits returned c.args.kind asks) c.if-not-fits.false))
    c.perform_if_small.ensures.leads

-- what is refused sends nothing
pub returns-then-not-fits-clause-room : goal.returns-then-not-fits-clause-room
returns-then-not-fits-clause-room g c =
    room-silent c.args.conn c.refused.result.sends c.args.self.now.connections.rooms (ap (λ (done : Done). done.sends) c.refused.ensures) c.requires
