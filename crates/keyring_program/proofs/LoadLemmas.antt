-- A run of `load`, from the conversation of its client.
use Rattle.std.proofs.Common.{◌≡◌, ℕ, ◌+◌, ◌*◌, ◌^◌, ◌<◌, ◌≤◌, ◌⊎◌, inl, inr, Bool, true, List, [], ◌∷◌, ◌++◌, Option, Some, length, refl, sym, ◌∙◌, ap, subst, arith, append-nil, length-append}
use Rattle.std.specs.List.{concat}
use Rattle.std.specs.Io.KnownBytes.{Appends}
use Rattle.kr_outside.specs.Faults.{Rose, StandsStill}
use Rattle.dbus_auth.specs.Answers.{ok_line}
use Rattle.dbus_auth.specs.Handshake.{Run, handshake, opened}
use Rattle.dbus_framing.specs.Messages.{Parts}
use Rattle.dbus_framing.specs.Streams.{Stream}
use Rattle.dbus_framing.proofs.Cuts.{one_stream}
use Rattle.load_laws.specs.client_core.specs.Asked as client
use Rattle.lone_desk.specs.secret_calls.specs.declared.call.Call.{Call}
use Rattle.lone_desk.specs.service_history.specs.service_machine.specs.Rows.{no_contents}
use Rattle.lone_desk.specs.service_tables.specs.Opened.{Contents, opened_state}
use Rattle.lone_desk.specs.service_tables.specs.Sound.{AreSoundContents}
use Rattle.lone_desk.specs.service_tables.specs.State.{State}
use Rattle.lone_desk.specs.service_events.specs.declared.event.Event.TheVariants as event
use Rattle.lone_desk.specs.service_events.specs.Replay.{Legal}
use Rattle.lone_desk.specs.service_events.specs.Single.{AllFaultless, AllFinished, AreFinished, TimedRequest, requests_of, turns}
use Rattle.kr_base.specs.declared.ids.ConnId.{ConnId}
use Rattle.service_hub.specs.connection_worker.specs.declared.ending.End as ending
use Rattle.service_hub.specs.connection_worker.specs.declared.ending.End.TheVariants as end
use Rattle.service_hub.specs.connection_worker.specs.Arrivals.{AreRequests, FirstRequests, calls_in}
use Rattle.service_hub.specs.connection_worker.specs.Fitting.{FitTogether, HasFit}
use Rattle.service_hub.specs.connection_worker.specs.Handshakes.{most_bytes}
use Rattle.service_hub.specs.connection_worker.specs.Replies.{outputs_to}
use Rattle.service_hub.specs.connection_worker.specs.Streams.{Input, Output}
use Rattle.service_hub.specs.connection_worker.specs.Causes.{HasCause, HasFinished, HasWritten}
use Rattle.service_hub.specs.connection_worker.specs.Written.{spelled_behind}
use Rattle.service_hub.specs.connection_worker.proofs.WholeLemmas.{at-end, front-of}
use Rattle.load_plan.specs.declared.counts.Counts.{Counts}
use Rattle.load_plan.specs.Plan.{plan}
use Rattle.load_plan.specs.Sending.{conversation, sent_from}
use Rattle.load_plan.specs.Answered.{CountsMessages, CountsReplies, behind_line}
use Rattle.load_plan.specs.Lines.{summary}
use Rattle.load_laws.specs.Requests.{AreAsked, AreFirstAsked, said_from}
use Rattle.load_laws.specs.Outputs.{all_counted, started}
use Rattle.load_laws.proofs.SendLemmas.{answer-over}
use Rattle.load_laws.proofs.TurnLemmas.{legal-front}
use Rattle.keyring_program.specs.Events.{events_of, events_until, joined, text_of, the_connection}
use Rattle.keyring_program.specs.Serves.{Serves, handshake_run}
use Rattle.keyring_program.specs.ServerNumber.{first_words, guid}
use Rattle.keyring_program.specs.WholeInput.{IsWholeInput}
use Rattle.keyring_program.specs.Loads.{the_user, FitsLoad, HasTalked, Loads, LoadEnds}
use Rattle.keyring_program.specs.Status.{IsLoadStatus, status_of}
use Rattle.keyring_program.specs.declared.status.Status.{Status}
use Rattle.keyring_program.specs.declared.status.Status.TheVariants as status
use Rattle.keyring_program.proofs.CompleteLemmas.{answered, first-all}

-- a count that is 0 stands still
pub zero-still : StandsStill 0 0
zero-still = (refl, λ is. omega (arith, is))

-- all that was written to an output into which nothing was written before
told : (old new : Option (List ℕ)) (written text : List ℕ) → old ≡ Some [] → new ≡ Some written → Appends old new text → written ≡ text
told old new written text start end appends = subst (λ o. Appends (Some []) o text) end (subst (λ o. Appends o new text) start appends)

-- what follows the answer to the handshake
over : (seed rest : List ℕ) → behind_line (concat (ok_line (guid seed) ∷ []) ++ rest) ≡ rest
unfolding guid
over seed rest = answer-over (first_words seed) rest

-- ---- what the client sends is a whole input

module _ (items number : ℕ) (few : items ≤ 1000)
    (opens : (uid items seed : ℕ) (guid : List ℕ) → uid < 2 ^ 32 → handshake uid guid (conversation uid (plan items seed)) ≡ record { answers = ok_line guid ∷ []; end = opened (sent_from 1 (plan items seed)) })
    (streams : (items seed : ℕ) → items ≤ 1000 → Stream client.most_bytes (sent_from 1 (plan items seed)) (said_from 1 (plan items seed)) []) where
  -- the run of its handshake
  load-run : (seed : List ℕ) → handshake_run the_user seed (conversation the_user (plan items number)) ≡ record { answers = ok_line (guid seed) ∷ []; end = opened (sent_from 1 (plan items number)) }
  load-run seed = opens the_user items number (guid seed) (omega arith)

  pub load-whole : (seed : List ℕ) → ((items seed : ℕ) → items ≤ 1000 → length (sent_from 1 (plan items seed)) < 2 ^ 31)
      → ((most : ℕ) (bytes : List ℕ) (asked : List TimedRequest) → FirstRequests most bytes (requests_of asked) → length asked ≤ length bytes)
      → ((conn : ConnId) (state : State) (asked : List TimedRequest) → length (turns conn state asked) ≤ 4 * length asked) → IsWholeInput the_user seed (conversation the_user (plan items number))
  load-whole seed bytes requests events = record {
    behind = sent_from 1 (plan items number);
    messages = said_from 1 (plan items number);
    opened = ap (λ (r : Run). r.end) (load-run seed);
    stream = streams items number few;
    few = λ contents asked first. omega (
      arith,
      bytes items number few,
      requests most_bytes (sent_from 1 (plan items number)) asked first,
      events the_connection (joined contents) asked,
      length-append (events_until contents asked) (event.Gone the_connection ∷ []),
    );
  }

  -- what its first requests put out can wait
  pub load-fits : (seed : List ℕ) → ((items seed : ℕ) (asked : List TimedRequest) → items ≤ 1000 → FirstRequests most_bytes (sent_from 1 (plan items seed)) (requests_of asked) → AreFirstAsked 1 (plan items seed) asked)
      → ((items seed : ℕ) (contents : Contents) (asked : List TimedRequest) → items ≤ 1000 → AreSoundContents contents → contents.collections ≡ [] → contents.used ≡ []
      → AreFirstAsked 1 (plan items seed) asked → Legal (started contents) (turns the_connection (started contents) asked) → AllFaultless asked → AreFinished the_connection (started contents) asked
      → FitTogether the_connection (started contents) asked)
      → (bytes : List ℕ) → (handshake_run the_user seed (conversation the_user (plan items number))).end ≡ opened bytes → FitsLoad bytes
  load-fits seed firsts fits bytes is asked first sound legal faultless finished =
      let same : bytes ≡ sent_from 1 (plan items number) = let e = sym is ∙ ap (λ (r : Run). r.end) (load-run seed) in cc in
      let these = firsts items number asked few (subst (λ l. FirstRequests most_bytes l (requests_of asked)) same first) in
      fits items number no_contents asked few sound refl refl these (legal-front (joined no_contents) (turns the_connection (joined no_contents) asked) (event.Gone the_connection ∷ []) legal.1) faultless finished

  -- ---- what is counted

  module _ (seed : List ℕ) (written : List ℕ) (counts : Counts) (talked : HasTalked seed (conversation the_user (plan items number)) written)
      (counted : CountsReplies number (plan items number) written counts) where
    abbrev so : Serves the_user seed talked.coming talked.from talked.to talked.sink talked.after true no_contents status.Done
    so = talked.serves

    abbrev calls : List ℕ
    calls = sent_from 1 (plan items number)

    -- the service read all of it, and recorded each call
    abbrev IsAll : Type 0
    IsAll = (so.read ≡ conversation the_user (plan items number)) × AreAsked 1 (plan items number) so.asked × AllFinished the_connection (joined no_contents) so.asked
        × FitTogether the_connection (joined no_contents) so.asked × (written ≡ text_of no_contents (handshake_run the_user seed so.read) so.asked)

    all-read : ((items seed : ℕ) (asked : List TimedRequest) → items ≤ 1000 → AreRequests (calls_in (said_from 1 (plan items seed))) (requests_of asked) → AreAsked 1 (plan items seed) asked) → IsAll
    all-read asks = by_end so.how so.status_is so.cause so.finished so.fit so.wrote
      where
        front : (left : List ℕ) × (conversation the_user (plan items number) ≡ so.read ++ left) × (talked.to.left ≡ Some left)
        front = front-of talked.from.left talked.to.left so.read (conversation the_user (plan items number)) talked.sends so.took.consumed

        by_end : (how : ending.End) → status.Done ≡ status_of how → HasCause how (handshake_run the_user seed so.read) so.asked (length (events_until no_contents so.asked)) talked.from talked.to talked.sink talked.after
            → HasFinished how the_connection (joined no_contents) so.asked [] → HasFit how the_connection (joined no_contents) so.asked → HasWritten how talked.sink talked.after (text_of no_contents (handshake_run the_user seed so.read) so.asked) → IsAll
        by_end end.Done is cause finished fit wrote =
            let none : front.0 ≡ [] = at-end talked.to.left front.0 front.2 cause.1 in
            let read : so.read ≡ conversation the_user (plan items number) = sym (front.1 ∙ ap (λ (l : List ℕ). so.read ++ l) none ∙ append-nil so.read) in
            let served = cause.0 in
            let run : (handshake_run the_user seed so.read).end ≡ opened calls = ap (λ (l : List ℕ). (handshake_run the_user seed l).end) read ∙ ap (λ (r : Run). r.end) (load-run seed) in
            let behind : served.behind ≡ calls = let e = sym served.opened ∙ run in cc in
            let stream : Stream most_bytes calls served.all.messages [] = subst (λ (l : List ℕ). Stream most_bytes l served.all.messages []) behind served.all.stream in
            let messages : served.all.messages ≡ said_from 1 (plan items number) = (one_stream most_bytes calls [] [] served.all.messages (said_from 1 (plan items number)) stream (streams items number few)).0 in
            let are : AreRequests (calls_in (said_from 1 (plan items number))) (requests_of so.asked) = subst (λ (m : List Parts). AreRequests (calls_in m) (requests_of so.asked)) messages served.all.are in
            (read, asks items number so.asked few are, finished, fit, told talked.sink.written talked.after.written written (text_of no_contents (handshake_run the_user seed so.read) so.asked) talked.starts talked.wrote wrote.appended)
        by_end (end.Violation which) is cause finished fit wrote = absurd cc
        by_end (end.AuthRefused why) is cause finished fit wrote = absurd cc
        by_end end.ReadFault is cause finished fit wrote = absurd cc
        by_end end.WriteFault is cause finished fit wrote = absurd cc
        by_end end.EventsSpent is cause finished fit wrote = absurd cc
        by_end end.Memory is cause finished fit wrote = absurd cc
        by_end end.OtherEnded is cause finished fit wrote = absurd cause
        by_end end.Overrun is cause finished fit wrote = absurd cc

    legal : Legal (joined no_contents) (turns the_connection (joined no_contents) so.asked)
    legal = legal-front (joined no_contents) (turns the_connection (joined no_contents) so.asked) (event.Gone the_connection ∷ []) so.legal.1

    pub counts-are : ((items seed : ℕ) (asked : List TimedRequest) → items ≤ 1000 → AreRequests (calls_in (said_from 1 (plan items seed))) (requests_of asked) → AreAsked 1 (plan items seed) asked)
        → ((items seed : ℕ) (contents : Contents) (asked : List TimedRequest) (counts : Counts) → items ≤ 1000 → AreSoundContents contents → contents.collections ≡ [] → contents.used ≡ []
        → AreAsked 1 (plan items seed) asked → Legal (started contents) (turns the_connection (started contents) asked) → AllFaultless asked → AllFinished the_connection (started contents) asked
        → CountsMessages seed (plan items seed) (spelled_behind 0 (outputs_to the_connection (started contents) asked)) counts → counts ≡ all_counted items)
        → ((contents : Contents) (run : Run) (asked : List TimedRequest) → AreSoundContents contents → Legal (opened_state contents) (events_of contents asked) → FitTogether the_connection (joined contents) asked
        → text_of contents run asked ≡ concat run.answers ++ spelled_behind 0 (outputs_to the_connection (joined contents) asked))
        → counts ≡ all_counted items
    counts-are asks all texts =
        let read = all-read asks in
        let outs = spelled_behind 0 (outputs_to the_connection (joined no_contents) so.asked) in
        let run : handshake_run the_user seed so.read ≡ record { answers = ok_line (guid seed) ∷ []; end = opened calls } = ap (handshake_run the_user seed) read.0 ∙ load-run seed in
        let text : written ≡ concat (ok_line (guid seed) ∷ []) ++ outs =
        read.4 ∙ texts no_contents (handshake_run the_user seed so.read) so.asked so.sound so.legal read.3 ∙ ap (λ (r : Run). concat r.answers ++ outs) run in
        let behind : behind_line written ≡ outs = ap behind_line text ∙ over seed outs in
        all items number no_contents so.asked counts few so.sound refl refl read.1 legal (so.faultless refl) read.2
        (subst (λ (l : List ℕ). CountsMessages number (plan items number) l counts) behind counted)

-- ---- the conversation

-- what was served was a conversation
pub talked : (seed sent : List ℕ) (coming : Option (ℕ → ℕ)) (from to : Input) (sink after : Output) (steady : Bool) (contents : Contents) (written : List ℕ) (result : Status)
    → Serves the_user seed coming from to sink after steady contents result → from.left ≡ Some sent → sink.written ≡ Some [] → after.written ≡ Some written → steady ≡ true → contents ≡ no_contents → result ≡ status.Done
    → HasTalked seed sent written
talked seed sent coming from to sink after steady contents written result so sends starts wrote is_steady none is = record {
  coming = coming;
  from = from;
  to = to;
  sink = sink;
  after = after;
  sends = sends;
  starts = starts;
  wrote = wrote;
  serves = subst (λ s. Serves the_user seed coming from to sink after true no_contents s) is (subst (λ (c : Contents). Serves the_user seed coming from to sink after true c result) none (subst (λ b. Serves the_user seed coming from to sink after b contents result) is_steady so));
}

-- no output was lost, since those of the first requests can wait
none-lost : (seed sent : List ℕ) (coming : Option (ℕ → ℕ)) (from to : Input) (sink after : Output) (ended : Status) → (so : Serves the_user seed coming from to sink after true no_contents ended)
    → (whole : IsWholeInput the_user seed sent) → from.left ≡ Some sent → FitsLoad whole.behind → so.how ≡ end.Overrun → ⊥
none-lost seed sent coming from to sink after ended so whole sends fits is = lost.1 (pass (first-all the_user seed sent so.read from to whole sends so.took so.asked cause.0))
  where
    cause : HasCause end.Overrun (handshake_run the_user seed so.read) so.asked (length (events_until no_contents so.asked)) from to sink after
    cause = subst (λ h. HasCause h (handshake_run the_user seed so.read) so.asked (length (events_until no_contents so.asked)) from to sink after) is so.cause

    lost : HasFit end.Overrun the_connection (joined no_contents) so.asked
    lost = subst (λ h. HasFit h the_connection (joined no_contents) so.asked) is so.fit

    finished : AreFinished the_connection (joined no_contents) so.asked
    finished = subst (λ l. AreFinished the_connection (joined no_contents) l) (append-nil so.asked) (subst (λ h. HasFinished h the_connection (joined no_contents) so.asked []) is so.finished)

    pass : (so.asked ≡ []) ⊎ FirstRequests most_bytes whole.behind (requests_of so.asked) → FitTogether the_connection (joined no_contents) so.asked
    pass (inl none) = subst (λ l. FitTogether the_connection (joined no_contents) l) (sym none) tt
    pass (inr first) = fits so.asked first so.sound so.legal (so.faultless refl) finished

-- it ended, or memory ran out, or the output failed
pub talk-status : (seed sent : List ℕ) (coming : Option (ℕ → ℕ)) (from to : Input) (sink after : Output) (steady : Bool) (contents : Contents) (ended : Status)
    → Serves the_user seed coming from to sink after steady contents ended → IsWholeInput the_user seed sent → ((bytes : List ℕ) → (handshake_run the_user seed sent).end ≡ opened bytes → FitsLoad bytes)
    → from.left ≡ Some sent → StandsStill from.faults to.faults → steady ≡ true → contents ≡ no_contents → IsLoadStatus ended
talk-status seed sent coming from to sink after steady contents ended served whole fits sends input is_steady none =
    elim (answered the_user seed sent coming from to sink after true no_contents ended so whole sends input) [
      | inl done ↦ subst IsLoadStatus (sym done) tt
      | inr (inl memory) ↦ subst IsLoadStatus (sym memory) tt
      | inr (inr (inl failed)) ↦ subst IsLoadStatus (sym failed.0) tt
      | inr (inr (inr lost)) ↦ absurd (none-lost seed sent coming from to sink after ended so whole sends (fits whole.behind whole.opened) lost.1)
    ]
  where
    so : Serves the_user seed coming from to sink after true no_contents ended
    so = subst (λ (c : Contents). Serves the_user seed coming from to sink after true c ended) none (subst (λ b. Serves the_user seed coming from to sink after b contents ended) is_steady served)

-- ---- the four lines

pub loads : (items number : ℕ) (seed text sent written : List ℕ) (counts : Counts) (asked : List Call) → asked ≡ plan items number → sent ≡ conversation the_user asked → HasTalked seed sent written
    → CountsReplies number asked written counts
    → (HasTalked seed (conversation the_user (plan items number)) written → CountsReplies number (plan items number) written counts → counts ≡ all_counted items) → text ≡ summary counts → Loads items number seed text
loads items number seed text sent written counts asked are sends has counted all is =
    let talk : HasTalked seed (conversation the_user (plan items number)) written = subst (λ l. HasTalked seed l written) (sends ∙ ap (λ (cs : List Call). conversation the_user cs) are) has in
    let replies : CountsReplies number (plan items number) written counts = subst (λ cs. CountsReplies number cs written counts) are counted in
    record {
      written = written;
      counts = counts;
      talked = talk;
      counted = replies;
      all = all talk replies;
      text_is = is;
    }

-- ---- the end

-- a run for which memory ran out wrote nothing
pub stopped : (items number : ℕ) (seed : List ℕ) (out : Output) (ended : Status) → ended ≡ status.Memory → LoadEnds items number seed out out ended
stopped items number seed out ended is = subst (LoadEnds items number seed out out) (sym is) (refl, refl)
