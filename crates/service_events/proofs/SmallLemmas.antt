-- No reply is too large to wait for a connection for which nothing waits, whatever the state is.
use Rattle.std.proofs.Common.{◌≡◌, ◌^◌, ◌<◌, ◌≤◌, Bool, true, false, ◌||◌, nat_le, List, length, Result, Ok, Err, refl, arith}
use Rattle.std.proofs.lemmas.Bool.{le-leb, leb-false, leb-true}
use Rattle.dbus_marshal.specs.Wire.{number_bytes}
use Rattle.kr_base.specs.declared.ids.ConnId.{ConnId}
use Rattle.service_prompts.specs.secret_calls.specs.declared.call.Request.{Request}
use Rattle.service_prompts.specs.secret_calls.specs.declared.out.Body.{Body}
use Rattle.service_prompts.specs.secret_calls.specs.declared.out.Body.TheVariants as body
use Rattle.service_prompts.specs.secret_calls.specs.declared.out.ErrorName.{ErrorName}
use Rattle.service_prompts.specs.secret_calls.specs.Outs.{spelled_body, most_waiting}
use Rattle.service_prompts.specs.secret_calls.proofs.SizeLemmas.{error-short, return-waits, session-short}
use Rattle.session_table.specs.Sessions.{rows_of, is_full, most_sessions, last_session}
use Rattle.service_events.specs.declared.event.Recorded.{Recorded}
use Rattle.service_prompts.specs.service_tables.specs.Connections.{size_of}
use Rattle.service_prompts.specs.service_tables.specs.Limits.{most_body}
use Rattle.service_prompts.specs.service_tables.specs.Storing.{Brought}
use Rattle.service_prompts.specs.service_tables.specs.declared.fate.Fate.{Fate}
use Rattle.service_events.specs.CollectionCalls.{no_prompt}
use Rattle.service_events.specs.Plan.{Plan}
use Rattle.service_events.specs.PublicBody.{body_with}
use Rattle.service_events.specs.Run.{fits, is_small, run}
use Rattle.service_prompts.specs.service_tables.specs.State.{State}
use Rattle.service_events.specs.Step.{brought_by, message_of, served}
use Rattle.service_events.proofs.RunLemmas.{keeps-run, plan_for}

-- the caller can open a session: it has fewer than it may have, and a number is left
pub not-full : (few spent : Bool) → (few || spent) ≡ false → (few ≡ false) × (spent ≡ false)
not-full true spent is = let no : ⊥ = cc in absurd no
not-full false spent is = (refl, is)

-- the body of an answer isn't too large
abbrev pub IsSmall : Result Body ErrorName → Type 0
IsSmall (Ok body) = length (spelled_body body) ≤ most_body
IsSmall (Err name) = Unit {0}

-- an answer that passes the test of size is small, and one that is small passes it
small-fits : (answer : Result Body ErrorName) → fits answer ≡ true → IsSmall answer
small-fits (Ok body) is = leb-true (length (spelled_body body)) most_body is
small-fits (Err name) is = tt

pub fits-small : (answer : Result Body ErrorName) → IsSmall answer → fits answer ≡ true
fits-small (Ok body) small = le-leb (length (spelled_body body)) most_body small
fits-small (Err name) small = refl

-- an empty return is small
pub empty-small : is_small body.Empty ≡ true
empty-small = le-leb (length (spelled_body body.Empty)) most_body (omega arith)

-- so is the return of a call that needs no prompt
pub no_prompt-small : is_small (body_with no_prompt) ≡ true
unfolding number_bytes
no_prompt-small = le-leb (length (spelled_body (body_with no_prompt))) most_body (omega arith)

-- whatever a plan is, what it answers is small
pub small-run : (caller : ConnId) (brought : Brought) (plan : Plan) (fates : List Fate) (state : State) → IsSmall (run caller brought plan fates state).answer
small-run caller brought =
    keeps-run caller brought (λ before ran. IsSmall ran.answer)
    (record {
      ends = λ answer changes state small. small-fits _ small;
      fails = λ name state. tt;
      asks = λ demand ended state ran small. small;
      settles = λ reading ended state ran small. small;
      opens = λ stem terms state ran small. small;
    })

-- the return of a session is small
pub session-small : (caller : ConnId) (state : State) → is_full caller state.sessions ≡ false → length (spelled_body (body.Session (record { 0 = state.sessions.next }))) ≤ most_body
session-small caller state is =
    let room = not-full (nat_le most_sessions (length (rows_of caller state.sessions.rows))) (nat_le last_session state.sessions.next) is in
    let number : state.sessions.next < 2 ^ 64 = omega (arith, leb-false last_session state.sessions.next room.1) in
    omega (arith, session-short (record { 0 = state.sessions.next }) number)

-- ---- the reply

message-small : (request : Request) (answer : Result Body ErrorName) → IsSmall answer → size_of (message_of request.serial answer) ≤ most_waiting
unfolding size_of
message-small request (Ok body) small = return-waits request.serial 1 body (omega (arith, small))
message-small request (Err name) small = error-short request.serial 1 name

-- the answer to a request, and its reply
pub answer-small : (came : Recorded) (state : State) → IsSmall (served came state).answer
answer-small came state = small-run came.arrival.conn (brought_by came.arrival) (plan_for came state) came.fates state

pub reply-small : (came : Recorded) (state : State) → size_of (message_of came.arrival.request.serial (served came state).answer) ≤ most_waiting
reply-small came state = message-small came.arrival.request (served came state).answer (answer-small came state)
