-- Each event keeps a sound state sound.
use Rattle.std.proofs.Common.{◌≡◌, Bool, true, false, cond, map, List, Result, Ok, Err, [], ◌∷◌, refl, ◌∙◌, arith}
use Rattle.std.specs.List.{AllByRecursion}
use Rattle.kr_base.specs.declared.ids.ConnId.{ConnId}
use Rattle.service_prompts.specs.secret_calls.specs.declared.call.Request.{Request}
use Rattle.service_prompts.specs.secret_calls.specs.declared.out.Body.{Body}
use Rattle.service_prompts.specs.secret_calls.specs.declared.out.ErrorName.{ErrorName}
use Rattle.service_prompts.specs.secret_calls.proofs.SizeLemmas.{error-fits, error-short, return-waits}
use Rattle.service_prompts.specs.secret_calls.specs.declared.out.Out.{Out}
use Rattle.service_prompts.specs.service_tables.specs.State.{State}
use Rattle.service_prompts.specs.service_tables.specs.signal_fanout.specs.declared.rows.ConnRow.{ConnRow}
use Rattle.service_events.specs.declared.event.Event.{Event}
use Rattle.service_events.specs.declared.event.Event.TheVariants as event
use Rattle.service_prompts.specs.service_tables.specs.Connections.{new_row, joined, has, changed, left, emptied, size_of, with_out}
use Rattle.service_prompts.specs.service_tables.specs.Sent.{Everyone, One, Recipient, Sent, is_for}
use Rattle.service_events.specs.declared.event.Recorded.{Recorded}
use Rattle.service_prompts.specs.service_tables.specs.Opened.{Contents, opened_state}
use Rattle.service_events.specs.Run.{asked}
use Rattle.service_events.specs.Step.{replies, with_rows, with_delivered, brought_by, message_of, served, put_out, puts_out, step, Fits, FitsRequest, finished}
use Rattle.service_events.specs.Replay.{replay, Legal}
use Rattle.service_prompts.specs.service_tables.specs.Sound.{CanWait, CanWaitFor, IsSpelled, WaitsWell, AreSoundContents, IsSound}
use Rattle.service_prompts.proofs.PromptLemmas.{prompts-among, prompts-gone, prompts-none}
use Rattle.service_prompts.specs.service_tables.proofs.EachLemmas.{each-append, each-weaker}
use Rattle.service_events.proofs.SmallLemmas.{IsSmall, answer-small}
use Rattle.service_events.proofs.RunLemmas.{plan_for}
use Rattle.service_prompts.specs.service_tables.proofs.TableLemmas.{KeepsNumber, after, after-number, after-well, connections-mapped, has-mapped, sessions-among, keeps-with_out, well-with_out, has-push, connections-joined, connections-without, sessions-without}
use Rattle.service_events.specs.declared.event.Derivation.{Derivation}
use Rattle.service_events.specs.Derivation.{derived}
use Rattle.service_events.specs.Step.{FitsDerivation, brought_derived, terms_of}
use Rattle.service_events.proofs.AllowedLemmas.{IsTypedAnswer, IsWell, well-run}
use Rattle.service_events.proofs.DerivedMayLemmas.{derived-may}
use Rattle.service_events.proofs.RowsMayLemmas.{may-run}

sound-mapped : (change : ConnRow → ConnRow) → KeepsNumber change → ((row : ConnRow) → WaitsWell row → WaitsWell (change row)) → (state : State) → IsSound state
    → IsSound (with_rows (map change state.connections.rows) state)
sound-mapped change keeps well state sound =
    let old = state.connections.rows in
    let new = map change old in
    let there : (owner : ConnId) → has owner old ≡ true → has owner new ≡ true = λ owner is. has-mapped owner change keeps old ∙ is in
    record {
      connections = connections-mapped change keeps well state.connections sound.connections;
      sessions = sessions-among old new there state.sessions sound.sessions;
      prompts = prompts-among old new there state.prompts sound.prompts;
      collections = sound.collections;
      aliases = sound.aliases;
      stems = sound.stems;
    }

pub sound-changed : (conn : ConnId) (change : ConnRow → ConnRow) → KeepsNumber change → ((row : ConnRow) → WaitsWell row → WaitsWell (change row)) → (state : State) → IsSound state
    → IsSound (with_rows (changed conn change state.connections.rows) state)
sound-changed conn change keeps well state sound = sound-mapped (after conn change) (after-number conn change keeps) (after-well conn change well) state sound

-- outputs on their way, each of which has a spelling unless it is too long to wait
abbrev pub AreSpelled : List Sent → Type 0
AreSpelled sent = AllByRecursion (λ one. IsSpelled one.out) sent

-- what can wait is so, whomever it is for
can-spelled : (to : Recipient) (out : Out) → CanWaitFor to out → IsSpelled out
can-spelled (One conn) out can = λ small. can.spelled
can-spelled Everyone out can = can

pub sound-delivered : (sent : List Sent) → AreSpelled sent → (state : State) → IsSound state → IsSound (with_delivered sent state)
sound-delivered [] spelled state sound = sound
sound-delivered (one ∷ more) spelled state sound =
    let change : ConnRow → ConnRow = λ row. cond (is_for one.to row.conn) (with_out one.out row) row in
    let keeps : KeepsNumber change =
    λ row. (let pass : (b : Bool) → (cond b (with_out one.out row) row).conn ≡ row.conn = elim [ true ↦ keeps-with_out one.out row | false ↦ refl ] in pass (is_for one.to row.conn)) in
    let well : (row : ConnRow) → WaitsWell row → WaitsWell (change row) =
    λ row is. (let pass : (b : Bool) → WaitsWell (cond b (with_out one.out row) row) = elim [ true ↦ well-with_out one.out spelled.0 row is | false ↦ is ] in pass (is_for one.to row.conn)) in
    sound-delivered more spelled.1 (with_rows (map change state.connections.rows) state) (sound-mapped change keeps well state sound)

-- ---- what a request puts out

-- the message of an answer whose values are of their types
message-waits : (caller : ConnId) (request : Request) (answer : Result Body ErrorName) → IsTypedAnswer answer → IsSmall answer → CanWait (record { to = One caller; out = message_of request.serial answer })
unfolding size_of
message-waits caller request (Ok body) typed small = record {
  spelled = record { typed = typed; short = omega (arith, small) };
  small = return-waits request.serial 1 body (omega (arith, small));
}
message-waits caller request (Err name) typed small = record { spelled = error-fits request.serial name; small = error-short request.serial 1 name }

replies-wait : (wanted : Bool) (sent : Sent) → CanWait sent → AllByRecursion CanWait (cond wanted (sent ∷ []) [])
replies-wait true sent waits = (waits, tt)
replies-wait false sent waits = tt

-- a request that fits leads to what is well
served-well : (came : Recorded) (state : State) → IsSound state → has came.arrival.conn state.connections.rows ≡ true → FitsRequest came state → IsWell (served came state)
served-well came state sound there fits =
    well-run came.arrival.conn (brought_by came.arrival) (plan_for came state) came.fates state there
    (may-run came.arrival.conn (brought_by came.arrival) came.arrival.salt state came.arrival.request.call sound fits.moment fits.salt fits.types refl) sound

-- the reply to a request, and all that it puts out
pub reply-waits : (came : Recorded) (state : State) → IsSound state → has came.arrival.conn state.connections.rows ≡ true → FitsRequest came state
    → CanWait (record { to = One came.arrival.conn; out = message_of came.arrival.request.serial (served came state).answer })
reply-waits came state sound there fits =
    message-waits came.arrival.conn came.arrival.request (served came state).answer (served-well came state sound there fits).typed (answer-small came state)

served-waits : (came : Recorded) (state : State) → IsSound state → has came.arrival.conn state.connections.rows ≡ true → FitsRequest came state
    → AllByRecursion CanWait (put_out came.arrival.conn came.arrival.request (served came state))
served-waits came state sound there fits =
    each-append CanWait (replies came.arrival.conn came.arrival.request (served came state).answer) (served came state).sends
    (replies-wait came.arrival.request.wants_reply _ (reply-waits came state sound there fits)) (served-well came state sound there fits).waits

-- ---- what a derived key puts out

finished-well : (came : Derivation) (state : State) → IsSound state → has came.conn state.connections.rows ≡ true → FitsDerivation came state → IsWell (finished came state)
finished-well came state sound there fits =
    let brought = brought_derived came in
    well-run came.conn brought (derived came.prompt came.round (terms_of came) (asked came.conn brought state)) came.fates state there
    (derived-may came.conn brought came.prompt fits.moment came.round (terms_of came) state sound fits.files) sound

-- ---- an event, a list of events

pub sound_start : (contents : Contents) → AreSoundContents contents → IsSound (opened_state contents)
sound_start contents sound = record {
  connections = record { joined = tt; apart = tt; few = omega arith; waiting = tt };
  sessions = record { opened = tt; once = λ number. omega arith; limited = λ owner. omega arith; owned = tt; numbered = omega arith };
  prompts = prompts-none [];
  collections = sound.collections;
  aliases = sound.aliases;
  stems = sound.stems;
}

pub sound_step : (state : State) (event : Event) → IsSound state → Fits state event → IsSound (step state event)
sound_step state (event.Connect conn) sound fits = record {
  connections = connections-joined conn state.connections fits.0 fits.1 sound.connections;
  sessions = sessions-among state.connections.rows (joined conn state.connections).rows (λ owner there. has-push owner state.connections.rows (new_row conn) there) state.sessions sound.sessions;
  prompts = prompts-among state.connections.rows (joined conn state.connections).rows (λ owner there. has-push owner state.connections.rows (new_row conn) there) state.prompts sound.prompts;
  collections = sound.collections;
  aliases = sound.aliases;
  stems = sound.stems;
}
sound_step state (event.Arrive came) sound fits =
    let ran = served came state in
    let sent = put_out came.arrival.conn came.arrival.request ran in
    sound-delivered sent (each-weaker CanWait (λ sent. IsSpelled sent.out) (λ sent can. can-spelled sent.to sent.out can) sent (served-waits came state sound fits.0 fits.1))
    ran.state (served-well came state sound fits.0 fits.1).sound
sound_step state (event.Derived came) sound fits =
    let ran = finished came state in
    sound-delivered ran.sends (each-weaker CanWait (λ sent. IsSpelled sent.out) (λ sent can. can-spelled sent.to sent.out can) ran.sends (finished-well came state sound fits.0 fits.1).waits)
    ran.state (finished-well came state sound fits.0 fits.1).sound
sound_step state (event.Leave conn) sound fits = sound-changed conn left (λ row. refl) (λ row well. record { within = well.within; spelled = well.spelled }) state sound
sound_step state (event.Take conn) sound fits = sound-changed conn emptied (λ row. refl) (λ row well. record { within = omega arith; spelled = tt }) state sound
sound_step state (event.Gone conn) sound fits = record {
  connections = connections-without conn state.connections sound.connections;
  sessions = sessions-without conn state.connections.rows state.sessions sound.sessions;
  prompts = prompts-gone conn state.connections.rows state.prompts sound.prompts;
  collections = sound.collections;
  aliases = sound.aliases;
  stems = sound.stems;
}

pub sound_replay : (state : State) (events : List Event) → IsSound state → Legal state events → IsSound (replay state events)
sound_replay state [] sound legal = sound
sound_replay state (event ∷ events) sound legal = sound_replay (step state event) events (sound_step state event sound legal.0) legal.1

-- what an event puts out can wait
pub waits_step : (state : State) (event : Event) → IsSound state → Fits state event → AllByRecursion CanWait (puts_out state event)
waits_step state (event.Connect conn) sound fits = tt
waits_step state (event.Arrive came) sound fits = served-waits came state sound fits.0 fits.1
waits_step state (event.Derived came) sound fits = (finished-well came state sound fits.0 fits.1).waits
waits_step state (event.Leave conn) sound fits = tt
waits_step state (event.Take conn) sound fits = tt
waits_step state (event.Gone conn) sound fits = tt
