-- What is counted over the bytes that answer a load (docs/SERVICE.md, "The load").
use Rattle.std.specs.Prelude.{◌≡◌, ℕ, zero, suc, ◌==◌, List, [], ◌∷◌, Option, Some, None, Result, Ok, Err, slice_get, if◌then◌else◌}
use Rattle.dbus_framing.specs.Messages.{Parts}
use Rattle.dbus_framing.specs.Streams.{Stream}
use Rattle.secret_calls.specs.declared.call.Call.{Call}
use Rattle.client_core.specs.declared.reply.Reply.{Reply}
use Rattle.client_core.specs.declared.reply.ReplyFault.{ReplyFault}
use Rattle.client_core.specs.Replies.{shape_of, reply_in}
use Rattle.load_plan.specs.declared.counts.Counts.{Counts}
use Rattle.load_plan.specs.Counts.{none, counted}

-- the most bytes of a message (D-Bus Specification, "Message Format"), so that no output of the service is too long
abbrev pub most_bytes : ℕ
most_bytes = 134217728

-- what follows the first line, which answers the handshake
abbrev pub behind_line : List ℕ → List ℕ
behind_line [] = []
behind_line (byte ∷ bytes) = if byte == 10 then bytes else behind_line bytes

-- the call that was sent with this serial: the first call has serial 1
abbrev pub call_with : List Call → ℕ → Option Call
call_with calls zero = None
call_with calls (suc place) = slice_get calls place

-- the counts with what a message was read as, if that is a reply
abbrev pub with_read : ℕ → Counts → Call → Result Reply ReplyFault → Counts
with_read seed counts call (Ok reply) = counted seed counts call reply
with_read seed counts call (Err fault) = counts

-- the counts with a message that names this call, if it names one
abbrev pub with_answer : ℕ → Counts → ℕ → Parts → Option Call → Counts
with_answer seed counts serial parts None = counts
with_answer seed counts serial parts (Some call) = with_read seed counts call (reply_in (shape_of call) serial parts)

-- the counts with a message that names this serial, if it names one
abbrev pub with_serial : ℕ → List Call → Counts → Parts → Option ℕ → Counts
with_serial seed calls counts parts None = counts
with_serial seed calls counts parts (Some serial) = with_answer seed counts serial parts (call_with calls serial)

-- the counts with one more message: a signal answers no call
abbrev pub with_message : ℕ → List Call → Counts → Parts → Counts
with_message seed calls counts parts = with_serial seed calls counts parts parts.reply_serial

-- the counts with these messages
abbrev pub with_messages : ℕ → List Call → Counts → List Parts → Counts
with_messages seed calls counts [] = counts
with_messages seed calls counts (parts ∷ messages) = with_messages seed calls (with_message seed calls counts parts) messages

-- these are the counts over all complete messages in these bytes
pub record CountsMessages (seed : ℕ) (calls : List Call) (bytes : List ℕ) (counts : Counts) : Type 0 where
  pub messages : List Parts
  pub rest : List ℕ
  pub stream : Stream most_bytes bytes messages rest
  pub counts_are : counts ≡ with_messages seed calls none messages

-- these are the counts over all that the service wrote to a client that sent these calls
abbrev pub CountsReplies : ℕ → List Call → List ℕ → Counts → Type 0
CountsReplies seed calls written = CountsMessages seed calls (behind_line written)
