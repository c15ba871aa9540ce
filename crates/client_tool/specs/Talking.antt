-- The calls of a script over a dialer, and what answers them.
use Rattle.std.specs.Prelude.{◌≡◌, ℕ, suc, ◌<◌, ◌==◌, ◌++◌, false, List, [], ◌∷◌, length, slice_get, Option, Some, None, Result, Ok, Err, if◌then◌else◌}
use Rattle.std.specs.Io.KnownBytes.{IsAtEnd}
use Rattle.kr_outside.specs.Faults.{Rose}
use Rattle.dbus_framing.specs.Framers.{Framing}
use Rattle.dbus_framing.specs.Messages.{Parts}
use Rattle.dbus_framing.specs.Streams.{Cut, Stream, Breaks, BreaksNone}
use Rattle.secret_calls.specs.declared.call.Call.{Call}
use Rattle.client_core.specs.declared.reply.Reply.{Reply}
use Rattle.client_core.specs.declared.reply.ReplyFault.{ReplyFault}
use Rattle.client_core.specs.declared.reply.ReplyFault.TheVariants as fault
use Rattle.client_core.specs.Asked as asked
use Rattle.client_core.specs.Replies.{shape_of, reply_in}
use Rattle.kr_dialer.specs.Carrying.{LinkState, Carried, IsStill, IsFront}
use Rattle.tool_script.specs.declared.command.Command.{Command}
use Rattle.tool_script.specs.declared.steps.ScriptEnd.{ScriptEnd}
use Rattle.tool_script.specs.declared.steps.ToolStep.{ToolStep}
use Rattle.tool_script.specs.declared.steps.ToolStep.TheVariants as step
use Rattle.tool_script.specs.Script.{Course, script, print, step_after}
use Rattle.client_tool.specs.declared.status.BadReply.TheVariants as bad
use Rattle.client_tool.specs.declared.status.Stop.{Stop}
use Rattle.client_tool.specs.declared.status.Stop.TheVariants as stop

-- the most bytes of a message that is read (D-Bus Specification, "Message Format")
abbrev pub most_bytes : ℕ
most_bytes = 134217728

-- ---- what is sent

-- the messages of calls, with serials from this one on
abbrev pub spelled_from : ℕ → List Call → List ℕ
spelled_from serial [] = []
spelled_from serial (call ∷ calls) = asked.spelled call serial ++ spelled_from (suc serial) calls

-- those of a script, as far as these replies lead
abbrev pub sent : Command → List Reply → List ℕ
sent command replies = spelled_from 1 (script command replies)

-- ---- what is read

-- what a message is read as that comes after so many replies, while this call waits for its reply: the first call has serial 1
abbrev pub read_as : ℕ → Parts → Option Call → Result Reply ReplyFault
read_as place parts None = Err fault.NotAReply
read_as place parts (Some call) = reply_in (shape_of call) (suc place) parts

-- replies, and one more
abbrev pub with_read : List Reply → Result Reply ReplyFault → Result (List Reply) ReplyFault
with_read replies (Ok reply) = Ok (replies ++ reply ∷ [])
with_read replies (Err fault) = Err fault

-- the replies after one more message: a signal is none, and any other is the reply to the call that waits for it
abbrev pub after_message : Command → List Reply → Parts → Result (List Reply) ReplyFault
after_message command replies parts =
    if parts.kind == 4 then Ok replies else with_read replies (read_as (length replies) parts (slice_get (script command replies) (length replies)))

-- what follows, unless a message is no reply
abbrev pub and_then : (List Reply → Result (List Reply) ReplyFault) → Result (List Reply) ReplyFault → Result (List Reply) ReplyFault
and_then next (Ok replies) = next replies
and_then next (Err fault) = Err fault

-- the replies after these messages
abbrev pub after_messages : Command → List Reply → List Parts → Result (List Reply) ReplyFault
after_messages command replies [] = Ok replies
after_messages command replies (parts ∷ messages) = and_then (λ more. after_messages command more messages) (after_message command replies parts)

-- these replies are the ones in the first messages of the bytes, in order, and this rest is left over
pub record FirstReplies (command : Command) (bytes rest : List ℕ) (replies : List Reply) : Type 0 where
  pub messages : List Parts
  pub cut : Cut most_bytes bytes messages rest
  pub are : after_messages command [] messages ≡ Ok replies

-- the same, and no further message is complete
pub record AllReplies (command : Command) (bytes rest : List ℕ) (replies : List Reply) : Type 0 where
  pub messages : List Parts
  pub stream : Stream most_bytes bytes messages rest
  pub are : after_messages command [] messages ≡ Ok replies

-- after these replies comes a message that is none, for this cause
pub record NoReply (command : Command) (bytes : List ℕ) (replies : List Reply) (cause : ReplyFault) : Type 0 where
  pub messages : List Parts
  pub parts : Parts
  pub rest : List ℕ
  pub cut : Cut most_bytes bytes (messages ++ parts ∷ []) rest
  pub are : after_messages command [] messages ≡ Ok replies
  pub none : after_message command replies parts ≡ Err cause

-- ---- one step

-- the message of a call was sent, or a prefix of it; or it is too large
abbrev pub SendsCall : Call → ℕ → LinkState → LinkState → Result Unit Stop → Type 0
SendsCall call serial old new (Ok done) = Carried old new [] (asked.spelled call serial) × IsStill old new
SendsCall call serial old new (Err stop.LinkFault) = (front : List ℕ) × IsFront front (asked.spelled call serial) × Carried old new [] front × Rose old.faults new.faults
SendsCall call serial old new (Err stop.TooLarge) = (asked.most_bytes < length (asked.spelled call serial)) × (new ≡ old)
SendsCall call serial old new (Err stop.Memory) = new ≡ old
SendsCall call serial old new (Err _) = ⊥

-- the same of the call that a step is; at an end nothing is sent
abbrev pub SendsStep : ToolStep → ℕ → LinkState → LinkState → Result Unit Stop → Type 0
SendsStep (step.Send call) serial old new result = SendsCall call serial old new result
SendsStep (step.End end) serial old new (Ok done) = new ≡ old
SendsStep (step.End end) serial old new (Err why) = ⊥

-- the script goes on to its next call, which is sent, or to its end; or it stops there
abbrev pub SendsNext : Command → List Reply → ℕ → LinkState → LinkState → Result ToolStep Stop → Type 0
SendsNext command replies serial old new (Ok (step.Send call)) =
    (step_after command replies ≡ Some (step.Send call)) × Carried old new [] (asked.spelled call serial) × IsStill old new
SendsNext command replies serial old new (Ok (step.End end)) = (step_after command replies ≡ Some (step.End end)) × (new ≡ old)
SendsNext command replies serial old new (Err stop.LinkFault) =
    (call : Call) × (step_after command replies ≡ Some (step.Send call)) × (front : List ℕ) × IsFront front (asked.spelled call serial) × Carried old new [] front
    × Rose old.faults new.faults
SendsNext command replies serial old new (Err stop.TooLarge) =
    (call : Call) × (step_after command replies ≡ Some (step.Send call)) × (asked.most_bytes < length (asked.spelled call serial)) × (new ≡ old)
SendsNext command replies serial old new (Err stop.Memory) = new ≡ old
SendsNext command replies serial old new (Err _) = ⊥

-- a message is read as the reply to this call; or it isn't
abbrev pub ReadsReply : Call → ℕ → Parts → Result Reply Stop → Type 0
ReadsReply call serial parts (Ok reply) = reply_in (shape_of call) serial parts ≡ Ok reply
ReadsReply call serial parts (Err (stop.BadReply bad.NotAReply)) = reply_in (shape_of call) serial parts ≡ Err fault.NotAReply
ReadsReply call serial parts (Err (stop.BadReply bad.WrongShape)) = reply_in (shape_of call) serial parts ≡ Err fault.WrongShape
ReadsReply call serial parts (Err stop.Memory) = Unit {0}
ReadsReply call serial parts (Err _) = ⊥

-- ---- all steps

-- why a script stops after these replies, which are those in the first messages of the bytes
abbrev pub TalkStops : Command → List ℕ → List Reply → LinkState → LinkState → Stop → Type 0
TalkStops command bytes replies old new stop.LinkFault = Rose old.faults new.faults
-- no further message is complete, and the rest breaks a rule
TalkStops command bytes replies old new (stop.BadReply (bad.Violation cause)) =
    ((rest : List ℕ) × AllReplies command bytes rest replies × Breaks most_bytes rest cause) × IsStill old new
-- no further message is complete, the rest breaks no rule, and no more bytes come
TalkStops command bytes replies old new (stop.BadReply bad.Ended) =
    ((rest : List ℕ) × AllReplies command bytes rest replies × BreaksNone most_bytes rest) × IsAtEnd new.left × IsStill old new
-- the next message is no reply
TalkStops command bytes replies old new (stop.BadReply bad.NotAReply) = NoReply command bytes replies fault.NotAReply × IsStill old new
TalkStops command bytes replies old new (stop.BadReply bad.WrongShape) = NoReply command bytes replies fault.WrongShape × IsStill old new
-- the next call is too large
TalkStops command bytes replies old new stop.TooLarge =
    ((call : Call) × (step_after command replies ≡ Some (step.Send call)) × (asked.most_bytes < length (asked.spelled call (suc (length replies))))) × IsStill old new
TalkStops command bytes replies old new stop.Memory = IsStill old new
TalkStops command bytes replies old new _ = ⊥

-- the script has ended, and its calls were sent; or it stops, and a prefix of its calls was
abbrev pub TalkEnds : Command → List ℕ → List ℕ → List Reply → LinkState → LinkState → Result ScriptEnd Stop → Type 0
TalkEnds command bytes wrote replies old new (Ok end) = (print command replies ≡ Some end) × (wrote ≡ sent command replies) × IsStill old new
TalkEnds command bytes wrote replies old new (Err why) = IsFront wrote (sent command replies) × TalkStops command bytes replies old new why

-- what was read and written after a handshake, by which these bytes were left over, and how it ended
pub record Talks (command : Command) (before : List ℕ) (old new : LinkState) (result : Result ScriptEnd Stop) : Type 0 where
  pub read : List ℕ
  pub wrote : List ℕ
  pub carried : Carried old new read wrote
  pub replies : List Reply
  pub rest : List ℕ
  pub first : FirstReplies command (before ++ read) rest replies
  pub ends : TalkEnds command (before ++ read) wrote replies old new result

-- ---- one turn

-- So far: these replies came, the script's calls up to this one were sent, and it waits for its reply.
pub record Talking (command : Command) (before rest : List ℕ) (call : Call) (serial : ℕ) (replies : List Reply) (old now : LinkState) : Type 0 where
  pub read : List ℕ
  pub carried : Carried old now read (sent command replies)
  pub still : IsStill old now
  pub first : FirstReplies command (before ++ read) rest replies
  pub waits : slice_get (script command replies) (length replies) ≡ Some call
  pub serial_is : serial ≡ suc (length replies)
  pub long : length (script command replies) ≡ suc (length replies)

-- the next message is the reply to the call that waits
pub record HasReply (command : Command) (before left : List ℕ) (call : Call) (serial : ℕ) (replies : List Reply) (old now : LinkState) (reply : Reply) : Type 0 where
  pub rest : List ℕ
  pub parts : Parts
  pub talking : Talking command before rest call serial replies old now
  pub cut : Cut most_bytes rest (parts ∷ []) left
  pub no_signal : (parts.kind == 4) ≡ false
  pub is : reply_in (shape_of call) serial parts ≡ Ok reply

-- a signal was skipped, or more was read; or the reply came; or the script stops
abbrev pub TakesReply : Command → List ℕ → Framing → Call → ℕ → List Reply → LinkState → LinkState → Result (Option Reply) Stop → Type 0
TakesReply command before left call serial replies old now (Ok None) = (left.most ≡ most_bytes) × Talking command before left.rest call serial replies old now
TakesReply command before left call serial replies old now (Ok (Some reply)) = (left.most ≡ most_bytes) × HasReply command before left.rest call serial replies old now reply
TakesReply command before left call serial replies old now (Err why) = Talks command before old now (Err why)

-- the next call was sent; or the script has ended, or stops
abbrev pub GoesOn : Command → Course → List ℕ → List ℕ → Call → ℕ → LinkState → LinkState → Result (Option ScriptEnd) Stop → Type 0
GoesOn command course before rest call serial old now (Ok None) = (course.command ≡ command) × Talking command before rest call serial course.replies old now
GoesOn command course before rest call serial old now (Ok (Some end)) = Talks command before old now (Ok end)
GoesOn command course before rest call serial old now (Err why) = Talks command before old now (Err why)

-- the same after a message was taken
abbrev pub TakesTurn : Command → Course → List ℕ → Framing → Call → ℕ → LinkState → LinkState → Result (Option ScriptEnd) Stop → Type 0
TakesTurn command course before left call serial old now (Ok None) =
    (left.most ≡ most_bytes) × (course.command ≡ command) × Talking command before left.rest call serial course.replies old now
TakesTurn command course before left call serial old now (Ok (Some end)) = Talks command before old now (Ok end)
TakesTurn command course before left call serial old now (Err why) = Talks command before old now (Err why)
