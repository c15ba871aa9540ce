-- From what one thread served to a run over the standard streams.
use Rattle.std.proofs.Common.{◌≡◌, ℕ, ◌+◌, inl, Bool, true, List, [], ◌∷◌, ◌++◌, length, map, Option, Some, None, refl, sym, ◌∙◌, ap, arith, subst}
use Rattle.std.specs.List.{concat}
use Rattle.std.proofs.KnownBytes.{Appends-nil, Consumes-nil}
use Rattle.rand_chacha.specs.ChaCha.{key_of}
use Rattle.kr_base.specs.declared.ids.ConnId.{ConnId}
use Rattle.kr_base.proofs.AttributeLemmas.{IsInOrder-nil}
use Rattle.lone_desk.specs.collection_table.specs.Rows.{CollectionRow}
use Rattle.kr_outside.proofs.FaultLemmas.{KeepsSteady-none}
use Rattle.dbus_auth.specs.Handshake.{Run}
use Rattle.lone_desk.specs.service_tables.specs.State.{State}
use Rattle.lone_desk.specs.service_events.specs.declared.event.Event.TheVariants as event
use Rattle.lone_desk.specs.service_tables.specs.Connections.{has, new_row}
use Rattle.lone_desk.specs.service_events.specs.Step.{Fits}
use Rattle.lone_desk.specs.service_tables.specs.Opened.{Contents, opened_state}
use Rattle.lone_desk.specs.service_tables.specs.Sound.{AreSoundContents}
use Rattle.lone_desk.specs.service_events.specs.Replay.{Legal, replay}
use Rattle.lone_desk.specs.service_desk.specs.Places.{Told}
use Rattle.lone_desk.specs.service_desk.proofs.RecordLemmas.{own-legal}
use Rattle.service_hub.specs.connection_worker.specs.declared.ending.End.{End}
use Rattle.service_hub.specs.connection_worker.specs.declared.ending.End.TheVariants as end
use Rattle.service_hub.specs.connection_worker.specs.Causes.{HasCause, HasFinished, HasWritten}
use Rattle.service_hub.specs.connection_worker.specs.Fitting.{HasFit}
use Rattle.service_hub.specs.connection_worker.specs.OneThread.{IsServed}
use Rattle.service_hub.specs.connection_worker.specs.Serving.{World, HasJoined, GivesSalts}
use Rattle.lone_desk.specs.service_events.specs.Single.{AreFinished, TimedRequest, turn, turns, single}
use Rattle.service_hub.specs.connection_worker.specs.Streams.{Input, Output}
use Rattle.service_hub.specs.connection_worker.specs.Written.{written}
use Rattle.keyring_program.specs.Events.{the_connection, joined, events_until, text_of, HaveMoments}
use Rattle.keyring_program.specs.ServerNumber.{guid}
use Rattle.keyring_program.specs.Serves.{Serves, handshake_run}
use Rattle.keyring_program.specs.Status.{IsOnlyEnd, status_of}
use Rattle.keyring_program.specs.declared.status.Status.TheVariants as status
use Rattle.keyring_program.proofs.GivingLemmas.{have-moments, have-salts}

-- ---- the start

-- the first connection fits the service as it starts
joins : (contents : Contents) → Fits (opened_state contents) (event.Connect the_connection)
joins contents = (refl, omega arith, omega arith)

-- and is there
there : (contents : Contents) → has the_connection (joined contents).connections.rows ≡ true
there contents = refl

-- the number of the connection that joined
pub first-connection : (contents : Contents) (conn : ConnId) → Fits (opened_state contents) (event.Connect conn) → conn ≡ the_connection
first-connection contents conn fits = λ i. record { 0 = fits.0 i }

-- it has just joined
pub just-joined : (contents : Contents) (told : Told) → told.conn ≡ the_connection → told.state ≡ joined contents → HasJoined told
just-joined contents told conn state = ap (λ (s : State). s.connections.rows) state ∙ ap (λ c. new_row c ∷ []) (sym conn)

-- ---- the end

-- only the ends of the only connection come
pub only-end : (how : End) (run : Run) (asked : List TimedRequest) (count : ℕ) (from to : Input) (sink behind : Output)
    → HasCause how run asked count from to sink behind → IsOnlyEnd how
only-end end.OtherEnded run asked count from to sink behind cause = absurd cause
only-end end.Overrun run asked count from to sink behind cause = tt
only-end end.Done run asked count from to sink behind cause = tt
only-end (end.Violation which) run asked count from to sink behind cause = tt
only-end (end.AuthRefused why) run asked count from to sink behind cause = tt
only-end end.ReadFault run asked count from to sink behind cause = tt
only-end end.WriteFault run asked count from to sink behind cause = tt
only-end end.EventsSpent run asked count from to sink behind cause = tt
only-end end.Memory run asked count from to sink behind cause = tt

-- ---- keys

-- requests that were recorded before others have their keys, but perhaps the last one
finished-front : (conn : ConnId) (asked refused : List TimedRequest) (state : State) → AreFinished conn state (asked ++ refused) → AreFinished conn state (asked ++ [])
finished-front conn [] refused state finished = tt
finished-front conn (a ∷ []) [] state finished = finished
finished-front conn (a ∷ []) (b ∷ refused) state finished = λ there. sym finished.0 ∙ there
finished-front conn (a ∷ b ∷ asked) refused state finished = (finished.0, finished-front conn (b ∷ asked) refused (replay state (turn conn state a)) finished.1)

has-finished : (how : End) (conn : ConnId) (state : State) (asked refused : List TimedRequest) → HasFinished how conn state asked refused → HasFinished how conn state asked []
has-finished end.WriteFault conn state asked refused finished = finished-front conn asked refused state finished
has-finished end.EventsSpent conn state asked refused finished = finished-front conn asked refused state finished
has-finished end.Memory conn state asked refused finished = finished-front conn asked refused state finished
has-finished end.OtherEnded conn state asked refused finished = finished
has-finished end.Overrun conn state asked refused finished = finished-front conn asked refused state finished
has-finished end.Done conn state asked refused finished = finished
has-finished (end.Violation which) conn state asked refused finished = finished
has-finished (end.AuthRefused why) conn state asked refused finished = finished
has-finished end.ReadFault conn state asked refused finished = finished

-- ---- the whole

-- what is true of a connection and a state is true of these
at-start : (contents : Contents) (conn : ConnId) (state : State) → conn ≡ the_connection → state ≡ joined contents → (P : ConnId → State → Type 0) → P conn state → P the_connection (joined contents)
at-start contents conn state c s P p = subst (λ r. P the_connection r) s (subst (λ d. P d state) c p)

pub serves : (contents : Contents) (uid : ℕ) (seed : List ℕ) (from to : Input) (sink behind : Output) (old new : World) (how : End)
    → AreSoundContents contents → old.told.conn ≡ the_connection → old.told.state ≡ joined contents → old.told.count ≡ 1 → old.salting ≡ record { key = key_of seed; stream = the_connection.0; place = 0 }
    → IsServed uid (guid seed) from to sink behind old new how → Serves uid seed old.coming from to sink behind old.told.is_steady contents (status_of how)
serves contents uid seed from to sink behind old new how sound conn state count salting so =
    let run = handshake_run uid seed so.read in
    let text : concat run.answers ++ written old.told.conn old.told.state (single old.told.conn old.told.state so.asked) ≡ text_of contents run so.asked =
    λ i. concat run.answers ++ written (conn i) (state i) (single (conn i) (state i) so.asked) in
    let counted : old.told.count + length (turns old.told.conn old.told.state so.asked) ≡ length (events_until contents so.asked) =
    let same : length (turns old.told.conn old.told.state so.asked) ≡ length (turns the_connection (joined contents) so.asked) = λ i. length (turns (conn i) (state i) so.asked) in
    omega (arith, count, same) in
    record {
      read = so.read;
      took = so.took;
      asked = so.asked;
      sound = sound;
      legal = (joins contents, at-start contents old.told.conn old.told.state conn state (λ c s. Legal s (single c s so.asked)) (own-legal old.told.state (single old.told.conn old.told.state so.asked) so.recorded.answered));
      faultless = so.faultless;
      moments = have-moments old.coming new.coming so.asked so.refused so.late so.moments;
      how = how;
      finished = at-start contents old.told.conn old.told.state conn state (λ c s. HasFinished how c s so.asked []) (has-finished how old.told.conn old.told.state so.asked so.refused so.finished);
      fit = at-start contents old.told.conn old.told.state conn state (λ c s. HasFit how c s so.asked) so.fit;
      salts = have-salts seed new.salting so.asked so.refused (subst (λ s. GivesSalts s (map (λ (a : TimedRequest). a.salt) (so.asked ++ so.refused)) new.salting) salting so.salts);
      status_is = refl;
      cause = subst (λ n. HasCause how run so.asked n from to sink behind) counted so.cause;
      wrote = subst (λ t. HasWritten how sink behind t) text so.wrote;
    }

-- there was no memory before the first byte
pub serves-none : (contents : Contents) (uid : ℕ) (seed : List ℕ) (coming : Option (ℕ → ℕ)) (from : Input) (sink : Output) (steady : Bool)
    → AreSoundContents contents → Serves uid seed coming from from sink sink steady contents status.Memory
serves-none contents uid seed coming from sink steady sound =
    let text = text_of contents (handshake_run uid seed []) [] in
    record {
      read = [];
      took = record { consumed = Consumes-nil from.left; later = omega arith; steady = KeepsSteady-none from.is_steady from.faults; closed = refl };
      asked = [];
      sound = sound;
      legal = (joins contents, (there contents, tt));
      faultless = λ _. tt;
      moments = none-given coming;
      salts = tt;
      how = end.Memory;
      finished = tt;
      fit = tt;
      status_is = refl;
      cause = (inl refl, refl);
      wrote = record {
        appended = record { front = []; rest = text; whole = refl; put = Appends-nil sink.written };
        later = omega arith;
        steady = KeepsSteady-none sink.is_steady sink.faults;
        closed = refl;
      };
    }
  where
    none-given : (coming : Option (ℕ → ℕ)) → HaveMoments coming []
    none-given None = tt
    none-given (Some give) = tt

-- ---- no service was opened

-- a service that starts with nothing
pub nothing : Contents
nothing = record { collections = []; aliases = None; used = [] }

pub nothing-sound : AreSoundContents nothing
unfolding nothing
nothing-sound = record {
  collections = record { ordered = IsInOrder-nil CollectionRow; each = tt };
  aliases = tt;
  certain = refl;
  known = tt;
  stems = record { ordered = IsInOrder-nil CollectionRow; taken = tt };
}
