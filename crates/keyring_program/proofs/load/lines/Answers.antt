use Rattle.std.proofs.Common.{◌≡◌, ℕ, List, ap, subst, sym, ◌∙◌}
use Rattle.lone_desk.specs.secret_calls.specs.declared.call.Call.{Call}
use Rattle.load_plan.specs.Answered.{CountsReplies}
use Rattle.load_plan.specs.Plan.{plan}
use Rattle.load_plan.specs.Sending.{conversation}
use Rattle.keyring_program.specs.Loads.{the_user}
use Rattle.keyring_program.specs.Serves.{handshake_run}
use Rattle.keyring_program.specs.WholeInput.{IsWholeInput}
use Rattle.keyring_program.proofs.LoadLemmas.{counts-are, load-fits, load-whole, loads}
use Rattle.keyring_program.proofs.load.lines.Goals as goal

-- the bytes are a whole input
pub talk-requires : goal.talk-requires
talk-requires g c =
    let sent : c.in-Ok-conversation.sent.items ≡ conversation the_user (plan c.args.items c.args.number) =
    c.in-Ok-conversation.ensures ∙ ap (λ (calls : List Call). conversation the_user calls) (c.as_slice.ensures.value ∙ c.in-Ok.ensures.plan) in
    record {
      whole = subst (IsWholeInput the_user c.args.seed) (sym sent)
          (load-whole c.args.items c.args.number c.requires.few c.a_load_is_read_whole.ensures.opened c.a_load_is_read_whole.ensures.stream c.args.seed c.a_load_has_few_events.ensures.bytes
          c.a_load_has_few_events.ensures.requests c.a_load_has_few_events.ensures.events);
      fit = λ bytes is. load-fits c.args.items c.args.number c.requires.few c.a_load_is_read_whole.ensures.opened c.a_load_is_read_whole.ensures.stream c.args.seed c.a_load_is_read_whole.ensures.first
          c.a_load_loses_no_output.ensures bytes (ap (λ l. (handshake_run the_user c.args.seed l).end) (sym sent) ∙ is);
    }

-- the numbers are those of all items
pub returns-in-Ok-summary-clause-lines : goal.returns-in-Ok-summary-clause-lines
returns-in-Ok-summary-clause-lines g c =
    let calls = c.as_slice.result.now in
    let written = c.in-Ok-talk.sink.kept in
    let counts = c.in-Ok-count_replies.counts in
    let replies : CountsReplies c.args.number calls written counts =
    subst (λ (l : List ℕ). CountsReplies c.args.number calls l counts) c.bytes.ensures
    (subst (λ (l : List Call). CountsReplies c.args.number l c.bytes.result.now counts) (c.as_slice-2.ensures.value ∙ sym c.as_slice.ensures.value) c.in-Ok-count_replies.ensures) in
    let are : calls ≡ plan c.args.items c.args.number = c.as_slice.ensures.value ∙ c.in-Ok.ensures.plan in
    loads c.args.items c.args.number c.args.seed c.in-Ok-summary.text.items c.in-Ok-conversation.sent.items written counts calls are c.in-Ok-conversation.ensures
    c.in-Ok-talk.ensures.served replies
    (λ talked counted. counts-are c.args.items c.args.number c.requires.few c.a_load_is_read_whole.ensures.opened c.a_load_is_read_whole.ensures.stream c.args.seed written counts talked counted
    c.a_load_is_read_whole.ensures.requests c.a_load_counts_all.ensures c.each_request_has_its_reply.ensures.outputs) c.in-Ok-summary.ensures
