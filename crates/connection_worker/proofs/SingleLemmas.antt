-- One connection from its handshake to its end.
use Rattle.std.proofs.Common.{◌≡◌, ℕ, ◌+◌, ◌≤◌, inl, inr, List, [], ◌∷◌, ◌++◌, length, Ok, Err, IsTrue, true, false, refl, sym, ◌∙◌, ap, arith, subst, append-nil}
use Rattle.std.specs.List.{concat}
use Rattle.dbus_auth.specs.Handshake as shaking
use Rattle.dbus_auth.specs.Conversation.{continued}
use Rattle.dbus_auth.proofs.HandshakeLemmas.{handshake-nothing, handshake-append}
use Rattle.dbus_framing.specs.Framers.{Framing}
use Rattle.service_desk.specs.service_tables.specs.Sound.{IsSound}
use Rattle.service_desk.specs.service_tables.specs.State.{State}
use Rattle.service_desk.specs.service_events.specs.declared.event.Event.TheVariants as event
use Rattle.service_desk.specs.service_events.specs.declared.event.Output.TheVariants as output
use Rattle.service_desk.specs.service_tables.specs.Connections.{has}
use Rattle.service_desk.specs.service_events.specs.Replay.{replay}
use Rattle.service_desk.specs.Places.{Told, Place}
use Rattle.service_desk.specs.Records.{Records, of_own}
use Rattle.service_desk.specs.Calls.{Goes}
use Rattle.service_desk.proofs.RecordLemmas.{own-append, own-state, own-count, own-faultless, records-more, alone-looks, alone-extends}
use Rattle.connection_worker.specs.declared.ending.End.{End}
use Rattle.connection_worker.specs.declared.ending.End.TheVariants as end
use Rattle.connection_worker.specs.Causes.{AllServed, FirstServed, HasCause, HasFinished, HasWritten, HasRefused}
use Rattle.connection_worker.specs.Handshakes.{IsRefusedFor, EndsFor, HandshakeOutcome}
use Rattle.connection_worker.specs.Streams.{Input, Output, IsStill, Gave}
use Rattle.kr_base.specs.declared.ids.ConnId.{ConnId}
use Rattle.service_desk.specs.service_events.specs.Single.{AreFinished, TimedRequest, turns, single}
use Rattle.connection_worker.specs.Written.{given_by, spelled_behind, written_after, taken_by, written}
use Rattle.connection_worker.specs.Serving.{World, place_of, HasJoined, IsIdle, IsOwed, has_lost, Recorded}
use Rattle.connection_worker.specs.ServingOn.{ServesOn}
use Rattle.connection_worker.specs.OneThread.{IsServed}
use Rattle.connection_worker.specs.Fitting.{HasFit}
use Rattle.connection_worker.proofs.AnswerLemmas.{due-idle}
use Rattle.connection_worker.proofs.HandshakeLemmas.{rose-later}
use Rattle.connection_worker.proofs.RecordLemmas.{all-finished, finished-front, recorded-none, given_by-append, turns-faultless}
use Rattle.connection_worker.proofs.ServingLemmas.{same, only-there}
use Rattle.connection_worker.proofs.StreamLemmas.{Took-trans, Gave-later, Gave-trans, GaveFront-behind}

-- ---- the desk's last call

-- a connection that is there is recorded as gone
pub goes-alone : (old new : Place) → IsTrue old.told.is_alone → IsIdle old.told → Goes old new → Records old new (of_own old.told.state (event.Gone old.told.conn ∷ []))
goes-alone old new alone idle (inl gone) = alone-extends old new (event.Gone old.told.conn) output.Gone alone gone
goes-alone old new alone idle (inr (looks, missing)) =
    let state : new.told.state ≡ old.told.state = (alone-looks old new alone looks).state in
    let there : has new.told.conn new.told.state.connections.rows ≡ true =
    ap (λ c. has c new.told.state.connections.rows) looks.same.conn ∙ ap (λ (s : State). has old.told.conn s.connections.rows) state ∙ only-there old.told [] (has_lost old.told) idle in
    let e : true ≡ false = sym there ∙ missing in cc

-- nothing waits for a connection that has just joined, and it has taken nothing
pub joined-owed : (told : Told) → HasJoined told → IsSound told.state → IsOwed told []
joined-owed told joined sound = record { sound = sound; taken = 0; only = joined }

pub joined-idle : (told : Told) → HasJoined told → IsSound told.state → IsIdle told
joined-idle told joined sound = due-idle told false (joined-owed told joined sound)

taken-none : (told : Told) → HasJoined told → taken_by told.conn told.state.connections.rows ≡ 0
taken-none told joined = rw joined (rw (same told.conn.0) refl)

-- the events of the whole
single-records : (old mid : World) (asked refused : List TimedRequest) (late : List ℕ) (new : Place) → Recorded old mid asked refused late → Records (place_of mid) new (of_own mid.told.state (event.Gone mid.told.conn ∷ []))
    → Records (place_of old) new (of_own old.told.state (single old.told.conn old.told.state asked))
single-records old mid asked refused late new so gone =
    let conn = old.told.conn in
    let first = turns conn old.told.state asked in
    let behind = replay old.told.state first in
    let on : of_own mid.told.state (event.Gone mid.told.conn ∷ []) ≡ of_own behind (event.Gone conn ∷ []) =
    ap (λ c. of_own mid.told.state (event.Gone c ∷ [])) so.calls.same.conn ∙ ap (λ s. of_own s (event.Gone conn ∷ [])) (own-state (place_of old) (place_of mid) first so.calls) in
    let all : of_own old.told.state first ++ of_own mid.told.state (event.Gone mid.told.conn ∷ []) ≡ of_own old.told.state (single conn old.told.state asked) =
    ap (λ l. of_own old.told.state first ++ l) on ∙ sym (own-append old.told.state first (event.Gone conn ∷ [])) in
    subst (λ seen. Records (place_of old) new seen) all
    (records-more (place_of old) (place_of mid) new (of_own old.told.state first) (of_own mid.told.state (event.Gone mid.told.conn ∷ [])) so.calls gone)

-- that it is gone gives nothing, so the text is that of the requests
single-text : (old : World) (asked : List TimedRequest) → HasJoined old.told → written old.told.conn old.told.state (single old.told.conn old.told.state asked)
    ≡ written_after old.told.conn 0 old.told.state (turns old.told.conn old.told.state asked)
single-text old asked joined =
    let conn = old.told.conn in
    let state = old.told.state in
    let first = turns conn state asked in
    ap (λ n. spelled_behind n (given_by conn state (single conn state asked))) (taken-none old.told joined)
    ∙ ap (spelled_behind 0) (given_by-append conn state first (event.Gone conn ∷ []) ∙ append-nil (given_by conn state first))

-- ---- after an open handshake

-- more bytes after BEGIN
opened-more : (uid : ℕ) (guid read more rest : List ℕ) → (shaking.handshake uid guid read).end ≡ shaking.opened rest
    → shaking.handshake uid guid (read ++ more) ≡ record { answers = (shaking.handshake uid guid read).answers; end = shaking.opened (rest ++ more) }
opened-more uid guid [] more rest is = let e = sym (ap (λ (r : shaking.Run). r.end) (handshake-nothing uid guid)) ∙ is in cc
opened-more uid guid (first ∷ bytes) more rest is =
    handshake-append uid guid first bytes more
    ∙ ap (λ (e : shaking.End). continued (record { answers = (shaking.handshake uid guid (first ∷ bytes)).answers; end = e }) more) is

-- what was served of bytes after an open handshake
all-run : (run : shaking.Run) (bytes : List ℕ) (asked : List TimedRequest) (rest : List ℕ) → run.end ≡ shaking.opened bytes → AllServed (shaking.silent (shaking.opened bytes)) asked rest → AllServed run asked rest
all-run run bytes asked rest is all = record { behind = all.behind; opened = is ∙ all.opened; all = all.all }

first-run : (run : shaking.Run) (bytes : List ℕ) (asked : List TimedRequest) → run.end ≡ shaking.opened bytes → FirstServed (shaking.silent (shaking.opened bytes)) asked → FirstServed run asked
first-run run bytes asked is (inl none) = inl none
first-run run bytes asked is (inr some) = inr (some.0, is ∙ some.1, some.2)

-- why the whole ended, if the calls after the handshake did
cause-after : (how : End) (run : shaking.Run) (bytes : List ℕ) (asked : List TimedRequest) (count : ℕ) (from mid to : Input) (sink o out : Output) → run.end ≡ shaking.opened bytes
    → from.faults ≤ mid.faults → IsStill from mid → sink.faults ≤ o.faults → HasCause how (shaking.silent (shaking.opened bytes)) asked count mid to o out → HasCause how run asked count from to sink out
cause-after end.Done run bytes asked count from mid to sink o out is later same put cause = (all-run run bytes asked [] is cause.0, cause.1, cause.2 ∙ same)
cause-after (end.Violation why) run bytes asked count from mid to sink o out is later same put cause = ((cause.0.0, all-run run bytes asked cause.0.0 is cause.0.1, cause.0.2), cause.1 ∙ same)
cause-after (end.AuthRefused why) run bytes asked count from mid to sink o out is later same put cause = (subst (λ e. IsRefusedFor e to why) (sym is) cause.0, cause.1, cause.2 ∙ same)
cause-after end.ReadFault run bytes asked count from mid to sink o out is later same put cause = (
  rose-later from.faults mid.faults to.faults later cause.0,
  elim cause.1 [
    | inl none ↦ absurd none.0
    | inr all ↦ inr (all.0, all-run run bytes asked all.0 is all.1, all.2)
  ],
)
cause-after end.WriteFault run bytes asked count from mid to sink o out is later same put cause =
    (rose-later sink.faults o.faults out.faults put cause.0, first-run run bytes asked is cause.1, cause.2 ∙ same)
cause-after end.Overrun run bytes asked count from mid to sink o out is later same put cause = (first-run run bytes asked is cause.0, cause.1 ∙ same)
cause-after end.EventsSpent run bytes asked count from mid to sink o out is later same put cause = (cause.0, first-run run bytes asked is cause.1, cause.2 ∙ same)
cause-after end.Memory run bytes asked count from mid to sink o out is later same put cause = (first-run run bytes asked is cause.0, cause.1 ∙ same)
cause-after _ run bytes asked count from mid to sink o out is later same put cause = absurd cause

-- the request that was refused
refused-after : (how : End) (run : shaking.Run) (bytes : List ℕ) (asked refused : List TimedRequest) (late : List ℕ) → run.end ≡ shaking.opened bytes
    → HasRefused how (shaking.silent (shaking.opened bytes)) asked refused late → HasRefused how run asked refused late
refused-after end.EventsSpent run bytes asked refused late is few = (few.0, first-run run bytes (asked ++ refused) is few.1)
refused-after end.Memory run bytes asked refused late is few = (few.0, first-run run bytes (asked ++ refused) is few.1)
refused-after _ run bytes asked refused late is few = few

-- no request that was recorded lacks its key, but perhaps the last one
has-finished : (how : End) (conn : ConnId) (state : State) (asked refused : List TimedRequest) → HasFinished how conn state asked refused → AreFinished conn state asked
has-finished end.WriteFault conn state asked refused are = finished-front conn state asked refused are
has-finished end.Overrun conn state asked refused are = finished-front conn state asked refused are
has-finished end.EventsSpent conn state asked refused are = finished-front conn state asked refused are
has-finished end.Memory conn state asked refused are = finished-front conn state asked refused are
has-finished _ conn state asked refused are = all-finished conn state asked are

-- if there is none, none does
none-finished : (how : End) (conn : ConnId) (state : State) → HasFinished how conn state [] []
none-finished end.WriteFault conn state = tt
none-finished end.Overrun conn state = tt
none-finished end.EventsSpent conn state = tt
none-finished end.Memory conn state = tt
none-finished _ conn state = tt

-- what was written, after the answers of the handshake
written-behind : (how : End) (sink o out : Output) (x y : List ℕ) → Gave sink o x → HasWritten how o out y → HasWritten how sink out (x ++ y)
written-behind end.WriteFault sink o out x y gave wrote = GaveFront-behind sink o out x y gave wrote
written-behind end.Memory sink o out x y gave wrote = GaveFront-behind sink o out x y gave wrote
written-behind _ sink o out x y gave wrote = Gave-trans sink o out x y gave wrote

-- why it ended, if the handshake did, and what was written
shaking-ends : (how : End) (run : shaking.Run) (count : ℕ) (from to : Input) (sink out : Output)
    → EndsFor IsRefusedFor run (record { input = from; output = sink }) (record { input = to; output = out }) (Err how)
    → HasCause how run [] count from to sink out × HasWritten how sink out (concat run.answers ++ []) × HasRefused how run [] [] [] × ((conn : ConnId) (state : State) → HasFit how conn state [])
shaking-ends (end.AuthRefused why) run count from to sink out ends = ((ends.0, refl, ends.2), rw (append-nil (concat run.answers)) ends.1, (refl, refl), λ conn state. tt)
shaking-ends end.ReadFault run count from to sink out ends = ((ends.1, inl (ends.0, refl)), rw (append-nil (concat run.answers)) ends.2, (refl, refl), λ conn state. tt)
shaking-ends end.WriteFault run count from to sink out ends = ((ends.0, inl refl, ends.2), rw (append-nil (concat run.answers)) ends.1, (refl, refl), λ conn state. tt)
shaking-ends end.Memory run count from to sink out ends = ((inl refl, ends.1), rw (append-nil (concat run.answers)) ends.0, (omega arith, inl refl), λ conn state. tt)
shaking-ends _ run count from to sink out ends = absurd ends

-- ---- the whole

pub served-behind : (uid : ℕ) (guid : List ℕ) (from mid to : Input) (sink o out : Output) (old served : World) (new : Place) (framing : Framing) (how : End)
    → HandshakeOutcome uid guid (record { input = from; output = sink }) (record { input = mid; output = o }) (Ok framing) → HasJoined old.told → ServesOn framing mid to old served o out how
    → Records (place_of served) new (of_own served.told.state (event.Gone served.told.conn ∷ []))
    → IsServed uid guid from to sink out old (record { told = new.told; has_seen = new.has_seen; coming = served.coming; salting = served.salting }) how
served-behind uid guid from mid to sink o out old served new framing how shakes joined serves gone =
    let run = shaking.handshake uid guid shakes.read in
    let bytes = framing.rest ++ serves.read in
    let whole : shaking.handshake uid guid (shakes.read ++ serves.read) ≡ record { answers = run.answers; end = shaking.opened bytes } =
    opened-more uid guid shakes.read serves.read framing.rest shakes.ends.0 in
    let all : shaking.Run = record { answers = run.answers; end = shaking.opened bytes } in
    let count : served.told.count ≡ old.told.count + length (turns old.told.conn old.told.state serves.asked) = own-count (place_of old) (place_of served) (turns old.told.conn old.told.state serves.asked) serves.recorded.calls in
    record {
      read = shakes.read ++ serves.read;
      took = Took-trans from mid to shakes.read serves.read shakes.took serves.took;
      asked = serves.asked;
      recorded = single-records old served serves.asked serves.refused serves.late new serves.recorded gone;
      faultless = λ steady.
          let events = turns old.told.conn old.told.state serves.asked in
          turns-faultless old.told.conn old.told.state serves.asked (has-finished how old.told.conn old.told.state serves.asked serves.refused serves.finished) (own-faultless old.told.state events (serves.recorded.calls.faultless steady));
      refused = serves.refused;
      late = serves.late;
      few = rw whole (refused-after how all bytes serves.asked serves.refused serves.late refl serves.few);
      finished = serves.finished;
      moments = serves.recorded.moments;
      salts = serves.recorded.salts;
      cause = rw (whole, sym count) (cause-after how all bytes serves.asked served.told.count from mid to sink o out refl shakes.took.later shakes.ends.4 (Gave-later sink o (concat run.answers) shakes.ends.3) serves.cause);
      wrote =
          rw (whole, single-text old serves.asked joined)
          (written-behind how sink o out (concat run.answers) (written_after old.told.conn 0 old.told.state (turns old.told.conn old.told.state serves.asked)) shakes.ends.3 serves.wrote);
      fit = serves.fit;
      stopped = rw whole (inr (o, shakes.ends.3, serves.stopped));
    }

pub served-not : (uid : ℕ) (guid : List ℕ) (from to : Input) (sink out : Output) (old : World) (new : Place) (how : End)
    → HandshakeOutcome uid guid (record { input = from; output = sink }) (record { input = to; output = out }) (Err how)
    → Records (place_of old) new (of_own old.told.state (event.Gone old.told.conn ∷ []))
    → IsServed uid guid from to sink out old (record { told = new.told; has_seen = new.has_seen; coming = old.coming; salting = old.salting }) how
served-not uid guid from to sink out old new how shakes gone =
    let ends = shaking-ends how (shaking.handshake uid guid shakes.read) (old.told.count + 0) from to sink out shakes.ends in
    record {
      read = shakes.read;
      took = shakes.took;
      asked = [];
      recorded = single-records old old [] [] [] new (recorded-none old) gone;
      faultless = λ steady. tt;
      refused = [];
      late = [];
      few = ends.2;
      finished = none-finished how old.told.conn old.told.state;
      moments = refl;
      salts = refl;
      cause = ends.0;
      wrote = ends.1;
      fit = ends.3 old.told.conn old.told.state;
      stopped = inl refl;
    }
