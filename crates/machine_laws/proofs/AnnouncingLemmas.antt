-- What an event puts out is for everyone exactly if it announces a change.
use Rattle.std.proofs.Common.{◌≡◌, Bool, true, false, cond, List, [], ◌∷◌, Result, Ok, Err, refl, Contains}
use Rattle.std.specs.List.{AllByRecursion}
use Rattle.std.proofs.lemmas.List.Elements.{All-contains, All-from_recursion}
use Rattle.kr_base.specs.declared.ids.ConnId.{ConnId}
use Rattle.service_events.specs.secret_calls.specs.declared.call.Request.{Request}
use Rattle.service_events.specs.secret_calls.specs.declared.out.Body.{Body}
use Rattle.service_events.specs.secret_calls.specs.declared.out.ErrorName.{ErrorName}
use Rattle.service_events.specs.service_tables.specs.Sent.{One, Sent}
use Rattle.service_events.specs.service_tables.specs.State.{State}
use Rattle.service_events.specs.service_tables.proofs.EachLemmas.{each-append, each-weaker}
use Rattle.service_events.specs.Derivation.{derived}
use Rattle.service_events.specs.Run.{asked}
use Rattle.service_events.specs.Step.{brought_by, brought_derived, finished, message_of, puts_out, replies, served, terms_of}
use Rattle.service_events.specs.declared.event.Event.{Event}
use Rattle.service_events.specs.declared.event.Event.TheVariants as event
use Rattle.service_events.proofs.RunLemmas.{plan_for}
use Rattle.machine_laws.specs.Announcing.{announces, is_everyone}
use Rattle.machine_laws.proofs.SignalLemmas.{IsSignal, signal-run}

-- an output has the recipient that it is to have
abbrev IsDirected : Sent → Type 0
IsDirected sent = is_everyone sent.to ≡ announces sent.out

signals-directed : (sent : List Sent) → AllByRecursion IsSignal sent → AllByRecursion IsDirected sent
signals-directed = each-weaker IsSignal IsDirected (λ one is. is.2)

-- a reply goes to one connection
reply-directed : (caller : ConnId) (request : Request) (answer : Result Body ErrorName) → AllByRecursion IsDirected (replies caller request answer)
reply-directed caller request answer =
    let pass : (wanted : Bool) (answer : Result Body ErrorName) → AllByRecursion IsDirected (cond wanted (record { to = One caller; out = message_of request.serial answer } ∷ []) []) =
    elim [ true ↦ elim [ Ok body ↦ (refl, tt) | Err name ↦ (refl, tt) ] | false ↦ λ answer. tt ] in
    pass request.wants_reply answer

all-directed : (state : State) (event : Event) → AllByRecursion IsDirected (puts_out state event)
all-directed state (event.Connect conn) = tt
all-directed state (event.Arrive came) =
    let caller = came.arrival.conn in
    let ran = served came state in
    each-append IsDirected (replies caller came.arrival.request ran.answer) ran.sends (reply-directed caller came.arrival.request ran.answer)
    (signals-directed ran.sends (signal-run caller (brought_by came.arrival) (plan_for came state) came.fates state))
all-directed state (event.Derived came) =
    let brought = brought_derived came in
    signals-directed (finished came state).sends (signal-run came.conn brought (derived came.prompt came.round (terms_of came) (asked came.conn brought state)) came.fates state)
all-directed state (event.Leave conn) = tt
all-directed state (event.Take conn) = tt
all-directed state (event.Gone conn) = tt

pub goes_right : (state : State) (event : Event) (sent : Sent) → Contains (puts_out state event) sent → is_everyone sent.to ≡ announces sent.out
goes_right state event sent there =
    All-contains IsDirected (puts_out state event) sent (All-from_recursion IsDirected (puts_out state event) (all-directed state event)) there
