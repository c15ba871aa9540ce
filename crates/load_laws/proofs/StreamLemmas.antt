-- What the service writes for a load, as a client reads it.
use Rattle.std.proofs.Common.{◌≡◌, ℕ, ◌+◌, ◌≤◌, Bool, true, false, cond, List, [], ◌∷◌, ◌++◌, filter, Option, Some, None, Ok, refl, sym, ap, ◌∙◌, subst, arith}
use Rattle.std.specs.List.{AllByRecursion}
use Rattle.std.proofs.lemmas.List.Sums.{sum_by-cons}
use Rattle.kr_base.specs.declared.ids.ConnId.{ConnId}
use Rattle.dbus_framing.specs.Messages.{IsMessage, Parts}
use Rattle.dbus_framing.specs.Streams.{Stream, is_kept}
use Rattle.dbus_framing.proofs.Cuts.{cut_none, cut_one, few_begin, stream_then}
use Rattle.connection_worker.specs.service_events.specs.secret_calls.specs.declared.call.Call.{Call}
use Rattle.connection_worker.specs.service_events.specs.secret_calls.specs.declared.out.Body.{Body}
use Rattle.connection_worker.specs.service_events.specs.secret_calls.specs.declared.out.Out.{Out}
use Rattle.connection_worker.specs.service_events.specs.secret_calls.specs.declared.out.Out.TheVariants as out
use Rattle.connection_worker.specs.service_events.specs.secret_calls.specs.declared.serial.Serial.{Serial}
use Rattle.connection_worker.specs.service_events.specs.secret_calls.specs.declared.work.Work.{Work}
use Rattle.connection_worker.specs.service_events.specs.secret_calls.specs.Outs.{AreTyped, HasSpelling, most_waiting, spelled}
use Rattle.connection_worker.specs.service_events.specs.secret_calls.proofs.SizeLemmas.{any_serial}
use Rattle.connection_worker.specs.call_wire.specs.Said.{IsSendable, said}
use Rattle.client_core.specs.declared.reply.Reply.TheVariants as reply
use Rattle.client_core.specs.Replies.{HasNumbers, reply_in, shape_in, shape_of}
use Rattle.connection_worker.specs.service_events.specs.service_tables.specs.Connections.{sent_to, size_of, size_waiting}
use Rattle.connection_worker.specs.service_events.specs.service_tables.specs.Sent.{Everyone, One, Recipient, Sent, is_for}
use Rattle.connection_worker.specs.service_events.specs.service_tables.specs.Sound.{CanWait, CanWaitFor, IsSound}
use Rattle.connection_worker.specs.service_events.specs.service_tables.specs.State.{State}
use Rattle.connection_worker.specs.service_events.specs.service_tables.proofs.EachLemmas.{each-append}
use Rattle.connection_worker.specs.service_events.specs.Replay.{replay, Legal}
use Rattle.connection_worker.specs.service_events.specs.Step.{puts_out}
use Rattle.connection_worker.specs.service_events.specs.Single.{TimedKey, TimedRequest, arrival, asking, derivation, finishing, turn, turns, work_for}
use Rattle.connection_worker.specs.service_events.proofs.SoundLemmas.{sound_replay, waits_step}
use Rattle.connection_worker.specs.Fitting.{CanWaitTogether, FitTogether}
use Rattle.connection_worker.specs.Replies.{is_reply, key_outputs, outputs_of, outputs_to}
use Rattle.connection_worker.specs.Written.{serial_behind, spelled_behind}
use Rattle.load_plan.specs.declared.counts.Counts.{Counts}
use Rattle.load_plan.specs.Counts.{returned}
use Rattle.load_plan.specs.Answered.{most_bytes, with_answer, with_message, with_messages, with_read}
use Rattle.load_laws.specs.Outputs.{Counted, said_behind}
use Rattle.load_laws.proofs.TurnLemmas.{legal-behind, legal-front}

-- ---- outputs that can be written

-- the output has a spelling, which isn't too long
pub record CanGo (it : Out) : Type 0 where
  pub spelled : HasSpelling it
  pub small : size_of it ≤ most_waiting

can-go : (to : Recipient) (it : Out) → CanWaitFor to it → size_of it ≤ most_waiting → CanGo it
can-go (One conn) it is small = record { spelled = is.spelled; small = small }
can-go Everyone it is small = record { spelled = is small; small = small }

-- what can wait together for the connection can
go-to : (conn : ConnId) (sent : List Sent) → AllByRecursion CanWait sent → CanWaitTogether (sent_to conn sent) → AllByRecursion CanGo (sent_to conn sent)
go-to conn [] wait few = tt
go-to conn (one ∷ more) wait few =
    let rest = sent_to conn more in
    let pass : (b : Bool) → size_waiting (cond b (one.out ∷ rest) rest) ≤ most_waiting → AllByRecursion CanGo (cond b (one.out ∷ rest) rest) =
    elim [
      | true ↦ λ most. (can-go one.to one.out wait.0 (omega (arith, most, sum_by-cons size_of one.out rest)), go-to conn more wait.1 (omega (arith, most, sum_by-cons size_of one.out rest)))
      | false ↦ λ most. go-to conn more wait.1 most
    ] in
    pass (is_for one.to conn) few

key-go : (conn : ConnId) (state : State) (work : Option Work) (key : Option TimedKey) → IsSound state → Legal state (finishing conn state work key) → CanWaitTogether (key_outputs conn state work key)
    → AllByRecursion CanGo (key_outputs conn state work key)
key-go conn state None key sound legal few = tt
key-go conn state (Some work) None sound legal few = tt
key-go conn state (Some work) (Some key) sound legal few = go-to conn (puts_out state (derivation conn work key)) (waits_step state (derivation conn work key) sound legal.0) few

-- what requests give can
pub outputs-go : (conn : ConnId) (asked : List TimedRequest) (state : State) → IsSound state → Legal state (turns conn state asked) → FitTogether conn state asked → AllByRecursion CanGo (outputs_to conn state asked)
outputs-go conn [] state sound legal fit = tt
outputs-go conn (a ∷ more) state sound legal fit =
    let now = turn conn state a in
    let next = replay state now in
    let asks = asking conn state a in
    let here = replay state asks in
    let first : Legal state now = legal-front state now (turns conn next more) legal in
    let ends = finishing conn here (work_for conn state a) a.key in
    let one = go-to conn (puts_out state (arrival conn a)) (waits_step state (arrival conn a) sound first.0) fit.0 in
    let two = key-go conn here (work_for conn state a) a.key (sound_replay state asks sound (legal-front state asks ends first)) (legal-behind state asks ends first) fit.1 in
    each-append CanGo (outputs_of conn state a) (outputs_to conn next more) (each-append CanGo (sent_to conn (puts_out state (arrival conn a))) (key_outputs conn here (work_for conn state a) a.key) one two)
    (outputs-go conn more next (sound_replay state now sound first) (legal-behind state now (turns conn next more) legal) fit.2)

-- ---- the stream of them

can-send : (it : Out) (taken : ℕ) → CanGo it → IsSendable most_bytes it (serial_behind taken)
unfolding size_of
can-send it taken can = record {
  numbered = λ none. omega (arith, none);
  serial_fits = omega arith;
  has = can.spelled;
  short = omega (arith, any_serial it (serial_behind taken) 1, can.small);
}

-- what is sent is a message
abbrev pub SendsMessages : Type 0
SendsMessages = (most serial : ℕ) (it : Out) → IsSendable most it serial → IsMessage most (spelled it serial) (said it serial)

kept-said : (it : Out) (serial : ℕ) (rest : List Parts) → filter is_kept (said it serial ∷ []) ++ rest ≡ said it serial ∷ rest
kept-said (out.Return to body) serial rest = refl
kept-said (out.Error to name) serial rest = refl
kept-said (out.Signal signal) serial rest = refl

pub outputs-stream : SendsMessages → (outs : List Out) (taken : ℕ) → AllByRecursion CanGo outs → Stream most_bytes (spelled_behind taken outs) (said_behind taken outs) []
outputs-stream sends [] taken can = record { cut = cut_none most_bytes []; no_more = few_begin most_bytes [] (omega arith) }
outputs-stream sends (it ∷ outs) taken can =
    let serial = serial_behind taken in
    let rest = spelled_behind (taken + 1) outs in
    let first = cut_one most_bytes (spelled it serial ++ rest) (spelled it serial) rest (said it serial) (sends most_bytes serial it (can-send it taken can.0)) refl in
    let all = stream_then most_bytes (spelled it serial ++ rest) rest [] (filter is_kept (said it serial ∷ [])) (said_behind (taken + 1) outs) first (outputs-stream sends outs (taken + 1) can.1) in
    subst (λ (m : List Parts). Stream most_bytes (spelled it serial ++ rest) m []) (kept-said it serial (said_behind (taken + 1) outs)) all

-- ---- what is counted over it

-- a client reads what the service returns
abbrev pub ReadsReturns : Type 0
ReadsReturns =
    (call : Call) (to : Serial) (body : Body) (serial : ℕ) → AreTyped body → HasNumbers body → shape_in body ≡ shape_of call
    → reply_in (shape_of call) to.number (said (out.Return to body) serial) ≡ Ok (reply.Return body)

pub outputs-counted : ReadsReturns → (seed : ℕ) (calls : List Call) (after : Counts) (outs : List Out) (taken : ℕ) (counts : Counts) → AllByRecursion CanGo outs → Counted seed calls counts outs after
    → with_messages seed calls counts (said_behind taken outs) ≡ after
outputs-counted reads seed calls after [] taken counts can is = sym is
outputs-counted reads seed calls after (out.Signal signal ∷ outs) taken counts can is = outputs-counted reads seed calls after outs (taken + 1) counts can.1 is
outputs-counted reads seed calls after (out.Error to name ∷ outs) taken counts can is = absurd is
outputs-counted reads seed calls after (out.Return to body ∷ outs) taken counts can is =
    let call : Call = is.0 in
    let serial = serial_behind taken in
    let parts = said (out.Return to body) serial in
    let first : with_message seed calls counts parts ≡ returned seed counts call body =
    ap (λ (o : Option Call). with_answer seed counts to.number parts o) is.1 ∙ ap (with_read seed counts call) (reads call to body serial can.0.spelled.typed is.2 is.3) in
    ap (λ (c : Counts). with_messages seed calls c (said_behind (taken + 1) outs)) first ∙ outputs-counted reads seed calls after outs (taken + 1) (returned seed counts call body) can.1 is.4

-- signals count nothing
pub replies-counted : (seed : ℕ) (calls : List Call) (after : Counts) (outs : List Out) (counts : Counts) → Counted seed calls counts (filter is_reply outs) after → Counted seed calls counts outs after
replies-counted seed calls after [] counts is = is
replies-counted seed calls after (out.Signal signal ∷ outs) counts is = replies-counted seed calls after outs counts is
replies-counted seed calls after (out.Error to name ∷ outs) counts is = absurd is
replies-counted seed calls after (out.Return to body ∷ outs) counts is = (is.0, is.1, is.2, is.3, replies-counted seed calls after outs (returned seed counts is.0 body) is.4)
