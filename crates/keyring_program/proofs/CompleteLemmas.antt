-- Over streams that didn't fail, a whole input is answered to its end.
use Rattle.std.proofs.Common.{◌≡◌, ℕ, ◌+◌, ◌≤◌, ◌⊎◌, inl, inr, Bool, List, [], ◌∷◌, ◌++◌, length, Option, Some, refl, sym, ◌∙◌, ap, arith, subst, append-nil, length-append}
use Rattle.kr_outside.specs.Faults.{Rose, StandsStill}
use Rattle.dbus_auth.specs.declared.auth.AuthFault.{AuthFault}
use Rattle.dbus_auth.specs.declared.auth.AuthFault.TheVariants as fault
use Rattle.dbus_auth.specs.Conversation.{continued}
use Rattle.dbus_auth.specs.Handshake.{End, waiting, refused, opened, Run}
use Rattle.dbus_auth.proofs.HandshakeLemmas.{handshake-nothing, handshake-append}
use Rattle.dbus_framing.specs.Streams.{Stream}
use Rattle.dbus_framing.proofs.Cuts.{cut_more}
use Rattle.service_hub.specs.connection_worker.specs.Arrivals.{FirstRequests}
use Rattle.service_hub.specs.connection_worker.specs.Handshakes.{most_bytes, Awaits, IsRefusedFor}
use Rattle.service_hub.specs.connection_worker.specs.declared.ending.End as ending
use Rattle.service_hub.specs.connection_worker.specs.declared.ending.End.TheVariants as end
use Rattle.service_hub.specs.connection_worker.specs.Causes.{AllServed, FirstServed, HasCause}
use Rattle.lone_desk.specs.service_events.specs.Single.{TimedRequest, requests_of}
use Rattle.service_hub.specs.connection_worker.specs.Streams.{Input, Output, Took}
use Rattle.service_hub.specs.connection_worker.proofs.WholeLemmas.{still, front-of, at-end, never-violated}
use Rattle.keyring_program.specs.Events.{events_until, events_of, the_connection}
use Rattle.keyring_program.specs.ServerNumber.{guid}
use Rattle.keyring_program.specs.Serves.{Serves, handshake_run}
use Rattle.keyring_program.specs.WholeInput.{IsWholeInput}
use Rattle.keyring_program.specs.declared.status.Status.{Status}
use Rattle.keyring_program.specs.declared.status.Status.TheVariants as status
use Rattle.keyring_program.specs.Status.{IsStdioStatus, status_of}
use Rattle.lone_desk.specs.service_events.specs.declared.event.Event.TheVariants as event
use Rattle.lone_desk.specs.service_tables.specs.Limits.{most_events}
use Rattle.lone_desk.specs.service_tables.specs.Opened.{Contents}

-- ---- the handshake

-- an end, when more bytes arrive
abbrev with-more : End → List ℕ → End
with-more how more = (continued (record { answers = []; end = how }) more).end

end-more : (run : Run) (more : List ℕ) → (continued run more).end ≡ with-more run.end more
end-more run more = by_end run.end
  where
    by_end : (how : End) → (continued (record { answers = run.answers; end = how }) more).end ≡ with-more how more
    by_end (waiting at unfinished) = refl
    by_end (refused fault) = refl
    by_end (opened rest) = refl

-- a handshake that is refused or open stays so
opened-more : (uid : ℕ) (seed read more rest : List ℕ) → (handshake_run uid seed read).end ≡ opened rest → (handshake_run uid seed (read ++ more)).end ≡ opened (rest ++ more)
opened-more uid seed [] more rest is = let e = sym (ap (λ (r : Run). r.end) (handshake-nothing uid (guid seed))) ∙ is in cc
opened-more uid seed (first ∷ bytes) more rest is =
    ap (λ (r : Run). r.end) (handshake-append uid (guid seed) first bytes more) ∙ end-more (handshake_run uid seed (first ∷ bytes)) more ∙ ap (λ e. with-more e more) is

refused-more : (uid : ℕ) (seed read more : List ℕ) (why : AuthFault) → (handshake_run uid seed read).end ≡ refused why → (handshake_run uid seed (read ++ more)).end ≡ refused why
refused-more uid seed [] more why is = let e = sym (ap (λ (r : Run). r.end) (handshake-nothing uid (guid seed))) ∙ is in cc
refused-more uid seed (first ∷ bytes) more why is =
    ap (λ (r : Run). r.end) (handshake-append uid (guid seed) first bytes more) ∙ end-more (handshake_run uid seed (first ∷ bytes)) more ∙ ap (λ e. with-more e more) is

-- so it isn't refused if the whole is open
never-refused : (uid : ℕ) (seed read left behind : List ℕ) (to : Input) (why : AuthFault) → to.left ≡ Some left → (handshake_run uid seed (read ++ left)).end ≡ opened behind
    → IsRefusedFor (handshake_run uid seed read).end to why → ⊥
never-refused uid seed read left behind to fault.NoZero told is-open is = let e = sym (refused-more uid seed read left fault.NoZero is) ∙ is-open in cc
never-refused uid seed read left behind to fault.LineTooLong told is-open is = let e = sym (refused-more uid seed read left fault.LineTooLong is) ∙ is-open in cc
never-refused uid seed read left behind to fault.BeginTooSoon told is-open is = let e = sym (refused-more uid seed read left fault.BeginTooSoon is) ∙ is-open in cc
never-refused uid seed read left behind to fault.EndedEarly told is-open is =
    let none : left ≡ [] = at-end to.left left told is.1 in
    let here : (handshake_run uid seed read).end ≡ opened behind = ap (λ l. (handshake_run uid seed l).end) (sym (ap (λ l. read ++ l) none ∙ append-nil read)) ∙ is-open in
    subst Awaits here is.0

-- ---- the messages

-- requests of the first messages stay so, whatever follows
first-more : (behind left : List ℕ) (asked : List TimedRequest) → FirstRequests most_bytes behind (requests_of asked) → FirstRequests most_bytes (behind ++ left) (requests_of asked)
first-more behind left asked first = record {
  messages = first.messages;
  rest = first.rest ++ left;
  cut = cut_more most_bytes behind left first.rest first.messages first.cut;
  more = first.more;
  are = first.are;
}

until-of : (contents : Contents) (asked : List TimedRequest) → length (events_of contents asked) ≡ length (events_until contents asked) + 1
until-of contents asked = length-append (events_until contents asked) (event.Gone the_connection ∷ [])

-- ---- the whole

-- the messages of a whole input, and what was read of it
module _ (uid : ℕ) (seed bytes read : List ℕ) (from to : Input) (whole : IsWholeInput uid seed bytes) (told : from.left ≡ Some bytes) (took : Took from to read) where
  front : (left : List ℕ) × (bytes ≡ read ++ left) × (to.left ≡ Some left)
  front = front-of from.left to.left read bytes told took.consumed

  abbrev left : List ℕ
  left = front.0

  is-open : (handshake_run uid seed (read ++ left)).end ≡ opened whole.behind
  is-open = ap (λ l. (handshake_run uid seed l).end) (sym front.1) ∙ whole.opened

  joined : (rest : List ℕ) → (handshake_run uid seed read).end ≡ opened rest → whole.behind ≡ rest ++ left
  joined rest is = let e = sym is-open ∙ opened-more uid seed read left rest is in cc

  stream : (rest : List ℕ) → (handshake_run uid seed read).end ≡ opened rest → Stream most_bytes (rest ++ left) whole.messages []
  stream rest is = subst (λ l. Stream most_bytes l whole.messages []) (joined rest is) whole.stream

  -- the requests that were recorded are the first in all the bytes
  pub first-all : (asked : List TimedRequest) → FirstServed (handshake_run uid seed read) asked → (asked ≡ []) ⊎ FirstRequests most_bytes whole.behind (requests_of asked)
  first-all asked (inl none) = inl none
  first-all asked (inr first) = inr (subst (λ l. FirstRequests most_bytes l (requests_of asked)) (sym (joined first.0 first.1)) (first-more first.0 left asked first.2))

  few : (contents : Contents) (asked : List TimedRequest) → FirstServed (handshake_run uid seed read) asked → most_events ≤ length (events_until contents asked) → ⊥
  few contents asked first many = pass (first-all asked first)
    where
      pass : (asked ≡ []) ⊎ FirstRequests most_bytes whole.behind (requests_of asked) → ⊥
      pass (inl none) = let one : length (events_until contents asked) ≡ 1 = ap (λ l. length (events_until contents l)) none in omega (arith, one, many)
      pass (inr all) = omega (arith, whole.few contents asked all, until-of contents asked, many)

  -- why it may have ended
  by_cause : (contents : Contents) (asked : List TimedRequest) (sink behind : Output) → StandsStill from.faults to.faults → (how : ending.End)
      → HasCause how (handshake_run uid seed read) asked (length (events_until contents asked)) from to sink behind
      → (status_of how ≡ status.Done) ⊎ ((status_of how ≡ status.Memory) ⊎ (((status_of how ≡ status.WriteFault) × Rose sink.faults behind.faults) ⊎ ((status_of how ≡ status.Overrun) × (how ≡ end.Overrun))))
  by_cause contents asked sink behind input end.Done cause = inl refl
  by_cause contents asked sink behind input (end.Violation which) cause =
      let all : AllServed (handshake_run uid seed read) asked cause.0.0 = cause.0.1 in
      absurd (never-violated all.behind left cause.0.0 all.all.messages whole.messages to which front.2 all.all.stream cause.0.2 (stream all.behind all.opened))
  by_cause contents asked sink behind input (end.AuthRefused why) cause = absurd (never-refused uid seed read left whole.behind to why front.2 is-open cause.0)
  by_cause contents asked sink behind input end.ReadFault cause = absurd (still from.faults to.faults input cause.0)
  by_cause contents asked sink behind input end.WriteFault cause = inr (inr (inl (refl, cause.0)))
  by_cause contents asked sink behind input end.EventsSpent cause = absurd (few contents asked cause.1 cause.0)
  by_cause contents asked sink behind input end.Memory cause = inr (inl refl)
  by_cause contents asked sink behind input end.Overrun cause = inr (inr (inr (refl, refl)))
  by_cause contents asked sink behind input end.OtherEnded cause = absurd cause

-- if the input didn't fail, a whole input is answered to its end, unless memory ran out, the output failed or an output was lost
pub answered : (uid : ℕ) (seed bytes : List ℕ) (coming : Option (ℕ → ℕ)) (from to : Input) (sink behind : Output) (steady : Bool) (contents : Contents) (how : Status)
    → (so : Serves uid seed coming from to sink behind steady contents how) → IsWholeInput uid seed bytes → from.left ≡ Some bytes → StandsStill from.faults to.faults
    → (how ≡ status.Done) ⊎ ((how ≡ status.Memory) ⊎ (((how ≡ status.WriteFault) × Rose sink.faults behind.faults) ⊎ ((how ≡ status.Overrun) × (so.how ≡ end.Overrun))))
answered uid seed bytes coming from to sink behind steady contents how so whole told input =
    subst (λ s. (s ≡ status.Done) ⊎ ((s ≡ status.Memory) ⊎ (((s ≡ status.WriteFault) × Rose sink.faults behind.faults) ⊎ ((s ≡ status.Overrun) × (so.how ≡ end.Overrun))))) (sym so.status_is)
    (by_cause uid seed bytes so.read from to whole told so.took contents so.asked sink behind input so.how so.cause)

-- if neither of them failed, unless memory ran out or an output was lost
pub complete : (uid : ℕ) (seed bytes : List ℕ) (coming : Option (ℕ → ℕ)) (from to : Input) (sink behind : Output) (steady : Bool) (contents : Contents) (how : Status)
    → Serves uid seed coming from to sink behind steady contents how → IsWholeInput uid seed bytes → from.left ≡ Some bytes → StandsStill from.faults to.faults → StandsStill sink.faults behind.faults
    → (how ≡ status.Done) ⊎ ((how ≡ status.Memory) ⊎ (how ≡ status.Overrun))
complete uid seed bytes coming from to sink behind steady contents how so whole told input output =
    elim (answered uid seed bytes coming from to sink behind steady contents how so whole told input) [
      | inl done ↦ inl done
      | inr (inl memory) ↦ inr (inl memory)
      | inr (inr (inl failed)) ↦ absurd (still sink.faults behind.faults output failed.1)
      | inr (inr (inr lost)) ↦ inr (inr lost.0)
    ]

-- each end has a status of a command that serves the standard streams
end-status : (how : ending.End) → IsStdioStatus (status_of how)
end-status end.Done = tt
end-status (end.Violation which) = tt
end-status (end.AuthRefused why) = tt
end-status end.ReadFault = tt
end-status end.WriteFault = tt
end-status end.EventsSpent = tt
end-status end.Memory = tt
end-status end.OtherEnded = tt
end-status end.Overrun = tt

-- so each run that serves them has one
pub stdio-status : (uid : ℕ) (seed : List ℕ) (coming : Option (ℕ → ℕ)) (from to : Input) (sink behind : Output) (steady : Bool) (contents : Contents) (how : Status)
    → Serves uid seed coming from to sink behind steady contents how → IsStdioStatus how
stdio-status uid seed coming from to sink behind steady contents how so = subst IsStdioStatus (sym so.status_is) (end-status so.how)
