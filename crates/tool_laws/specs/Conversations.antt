-- A client's calls of the service, each made once the one before it is answered, while no other request is made and no key is brought.
use Rattle.std.specs.Prelude.{◌≡◌, List, [], ◌∷◌, ◌++◌, Option, Some, None, true, Ok}
use Rattle.std.specs.List.{AllByRecursion}
use Rattle.kr_base.specs.declared.ids.ConnId.{ConnId}
use Rattle.client_core.specs.declared.reply.Reply.{Reply}
use Rattle.client_core.specs.declared.reply.Reply.TheVariants as reply
use Rattle.service_events.specs.secret_calls.specs.declared.call.Call.{Call}
use Rattle.service_events.specs.secret_calls.specs.declared.out.Out.{Out}
use Rattle.service_events.specs.secret_calls.specs.declared.out.Out.TheVariants as out
use Rattle.service_events.specs.secret_calls.specs.Outs.{error_text}
use Rattle.service_events.specs.service_tables.specs.Sent.{One, Sent}
use Rattle.service_events.specs.service_tables.specs.State.{State}
use Rattle.service_events.specs.declared.event.Event.{Event}
use Rattle.service_events.specs.declared.event.Event.TheVariants as event
use Rattle.service_events.specs.declared.event.Recorded.{Recorded}
use Rattle.service_events.specs.Replay.{replay}
use Rattle.service_events.specs.Step.{puts_out}
use Rattle.tool_script.specs.declared.command.Command.{Command}
use Rattle.tool_script.specs.declared.steps.ToolStep.TheVariants as step
use Rattle.tool_script.specs.Script.{step_after}

-- the event makes no request and brings no key: what waits is taken, or a connection joins, leaves or is gone
abbrev pub IsQuiet : Event → Type 0
IsQuiet (event.Connect conn) = Unit {0}
IsQuiet (event.Arrive came) = ⊥
IsQuiet (event.Derived came) = ⊥
IsQuiet (event.Leave conn) = Unit {0}
IsQuiet (event.Take conn) = Unit {0}
IsQuiet (event.Gone conn) = Unit {0}

-- what a client reads in a message that answers its call
abbrev pub read_in : Out → Option Reply
read_in (out.Return serial body) = Some (reply.Return body)
read_in (out.Error serial name) = Some (reply.Error (error_text name))
read_in (out.Signal signal) = None

-- The call arrives as a request of the connection, at any moment and with any salt and fates. What this event puts out begins with a message
-- to the connection, and the reply is what is read in it. Before the next call there are quiet events alone, as that by which the message is taken.
pub record Answered (caller : ConnId) (state : State) (call : Call) (reply : Reply) (next : State) : Type 0 where
  pub came : Recorded
  pub from : came.arrival.conn ≡ caller
  pub asks : came.arrival.request.call ≡ Ok call
  pub wants : came.arrival.request.wants_reply ≡ true
  pub message : Out
  pub more : List Sent
  pub sent : puts_out state (event.Arrive came) ≡ record { to = One caller; out = message } ∷ more
  pub read : read_in message ≡ Some reply
  pub quiet : List Event
  pub are_quiet : AllByRecursion IsQuiet quiet
  pub after : next ≡ replay state (event.Arrive came ∷ quiet)

-- these calls are answered by these replies, one after the other, from one state to another
abbrev pub AreAnswered : ConnId → State → List Call → List Reply → State → Type 0
AreAnswered caller state [] [] last = last ≡ state
AreAnswered caller state (call ∷ calls) (reply ∷ replies) last = (next : State) × Answered caller state call reply next × AreAnswered caller next calls replies last
AreAnswered caller state _ _ last = ⊥

-- a reply is no error
abbrev pub IsReturn : Reply → Type 0
IsReturn (reply.Return body) = Unit {0}
IsReturn (reply.Error name) = ⊥

-- no reply is an error
abbrev pub AreReturns : List Reply → Type 0
AreReturns replies = AllByRecursion IsReturn replies

-- What a script says to do after these replies is to make a call; it is answered by the first of more replies, and so on, from one state to another.
abbrev pub AreSteps : Command → ConnId → List Reply → State → List Reply → State → Type 0
AreSteps command caller heard state [] last = last ≡ state
AreSteps command caller heard state (reply ∷ more) last =
    (call : Call)
    × (next : State)
    × (step_after command heard ≡ Some (step.Send call))
    × Answered caller state call reply next
    × AreSteps command caller (heard ++ reply ∷ []) next more last
