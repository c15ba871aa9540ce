-- The calls of a script, one after the other, and what answers them.
use Rattle.std.proofs.lemmas.Bool.Decides.{nat_tests}
use Rattle.std.proofs.Common.{◌≡◌, ℕ, suc, ◌+◌, ◌<◌, ◌==◌, Bool, true, false, List, [], ◌∷◌, ◌++◌, length, slice_get, Option, Some, None, option_map, Result, Ok, Err, if◌then◌else◌, refl, sym, ◌∙◌, ap, arith, append_assoc, append-nil, subst}
use Rattle.std.specs.Option.{option_or}
use Rattle.dbus_framing.specs.declared.violation.Violation.{Violation}
use Rattle.dbus_framing.specs.Framers.{Framing, Refused}
use Rattle.dbus_framing.specs.Messages.{Parts}
use Rattle.dbus_framing.specs.Streams.{Cut, Stream, Breaks, BreaksNone}
use Rattle.dbus_framing.proofs.Cuts.{cut_none, cut_then, cut_more, stream_then}
use Rattle.secret_calls.specs.declared.call.Call.{Call}
use Rattle.secret_calls.specs.declared.call.Call.TheVariants as call
use Rattle.client_core.specs.declared.reply.Reply.{Reply}
use Rattle.client_core.specs.declared.reply.ReplyFault.{ReplyFault}
use Rattle.client_core.specs.declared.reply.ReplyFault.TheVariants as fault
use Rattle.client_core.specs.Asked.{spelled}
use Rattle.client_core.specs.Asked as asked
use Rattle.client_core.specs.Replies.{shape_of, reply_in}
use Rattle.kr_dialer.specs.Carrying.{LinkState, Carried, IsStill, IsFront}
use Rattle.kr_dialer.proofs.CarryingLemmas.{Carried-none}
use Rattle.tool_script.specs.declared.command.Command.{Command}
use Rattle.tool_script.specs.declared.command.Command.TheVariants as command
use Rattle.tool_script.specs.declared.steps.ScriptEnd.{ScriptEnd}
use Rattle.tool_script.specs.declared.steps.ToolStep.{ToolStep}
use Rattle.tool_script.specs.declared.steps.ToolStep.TheVariants as step
use Rattle.tool_script.specs.Script.{Course, heard, open_session, collections, script, print, step_of, step_after}
use Rattle.tool_script.proofs.ScriptLemmas.{sent-is, grows-sent, grows-ended}
use Rattle.client_tool.specs.declared.status.BadReply.TheVariants as bad
use Rattle.client_tool.specs.declared.status.Stop.{Stop}
use Rattle.client_tool.specs.declared.status.Stop.TheVariants as stop
use Rattle.client_tool.specs.Receiving.{ReceivesMore}
use Rattle.client_tool.specs.Talking.{most_bytes, spelled_from, sent, read_as, with_read, after_message, and_then, after_messages, FirstReplies, AllReplies, NoReply, SendsStep, SendsNext, ReadsReply, Talks, Talking, HasReply, TakesReply, GoesOn, TakesTurn}
use Rattle.kr_dialer.proofs.CarriedLemmas.{carried-read, carried-wrote, carried-still, rose-after, front-all, front-behind}

-- ---- messages and replies

messages-push : (command : Command) (replies : List Reply) (messages : List Parts) (parts : Parts)
    → after_messages command replies (messages ++ parts ∷ []) ≡ and_then (λ more. after_message command more parts) (after_messages command replies messages)
messages-push command replies [] parts = pass (after_message command replies parts)
  where
    pass : (r : Result (List Reply) ReplyFault) → and_then (λ more. Ok more) r ≡ r
    pass (Ok more) = refl
    pass (Err cause) = refl
messages-push command replies (one ∷ messages) parts = pass (after_message command replies one) (λ more. messages-push command more messages parts)
  where
    pass : (r : Result (List Reply) ReplyFault) → ((more : List Reply) → after_messages command more (messages ++ parts ∷ [])
        ≡ and_then (λ them. after_message command them parts) (after_messages command more messages))
        → and_then (λ more. after_messages command more (messages ++ parts ∷ [])) r
        ≡ and_then (λ more. after_message command more parts) (and_then (λ more. after_messages command more messages) r)
    pass (Ok more) each = each more
    pass (Err cause) each = refl

-- one more message was taken
first-push : (command : Command) (bytes rest left : List ℕ) (replies more : List Reply) (parts : Parts) → FirstReplies command bytes rest replies → Cut most_bytes rest (parts ∷ []) left
    → after_message command replies parts ≡ Ok more → FirstReplies command bytes left more
first-push command bytes rest left replies more parts so cut is = record {
  messages = so.messages ++ parts ∷ [];
  cut = cut_then most_bytes bytes rest left so.messages (parts ∷ []) so.cut cut;
  are = messages-push command [] so.messages parts ∙ ap (λ (r : Result (List Reply) ReplyFault). and_then (λ them. after_message command them parts) r) so.are ∙ is;
}

-- a signal is no reply
signal-is : (command : Command) (replies : List Reply) (parts : Parts) → (parts.kind == 4) ≡ true → after_message command replies parts ≡ Ok replies
signal-is command replies parts is = pass (parts.kind == 4) is
  where
    pass : (b : Bool) → b ≡ true
        → (if b then Ok replies else with_read replies (read_as (length replies) parts (slice_get (script command replies) (length replies)))) ≡ Ok replies
    pass true e = refl
    pass false e = cc

-- any other message is read as the reply to the call that waits
other-is : (command : Command) (replies : List Reply) (parts : Parts) (call : Call) (got : Result Reply ReplyFault) → (parts.kind == 4) ≡ false
    → slice_get (script command replies) (length replies) ≡ Some call → reply_in (shape_of call) (suc (length replies)) parts ≡ got → after_message command replies parts ≡ with_read replies got
other-is command replies parts call got not waits is = pass (parts.kind == 4) not
  where
    read : read_as (length replies) parts (slice_get (script command replies) (length replies)) ≡ got
    read = ap (λ (o : Option Call). read_as (length replies) parts o) waits ∙ is

    pass : (b : Bool) → b ≡ false
        → (if b then Ok replies else with_read replies (read_as (length replies) parts (slice_get (script command replies) (length replies)))) ≡ with_read replies got
    pass true e = cc
    pass false e = ap (λ (r : Result Reply ReplyFault). with_read replies r) read

-- ---- what is sent

spelled-push : (serial : ℕ) (calls : List Call) (call : Call) → spelled_from serial (calls ++ call ∷ []) ≡ spelled_from serial calls ++ spelled call (length calls + serial)
spelled-push serial [] call =
    let e : serial ≡ 0 + serial = omega arith in append-nil (spelled call serial) ∙ ap (λ (n : ℕ). spelled call n) e
spelled-push serial (one ∷ calls) call =
    let later : length calls + suc serial ≡ suc (length calls) + serial = omega arith in
    ap (λ (l : List ℕ). spelled one serial ++ l) (spelled-push (suc serial) calls call ∙ ap (λ (n : ℕ). spelled_from (suc serial) calls ++ spelled call n) later)
    ∙ sym (append_assoc (spelled one serial) (spelled_from (suc serial) calls) (spelled call (suc (length calls) + serial)))

length-push : (calls : List Call) (call : Call) → length (calls ++ call ∷ []) ≡ suc (length calls)
length-push [] call = refl
length-push (one ∷ calls) call = ap suc (length-push calls call)

length-reply : (replies : List Reply) (reply : Reply) → length (replies ++ reply ∷ []) ≡ suc (length replies)
length-reply [] reply = refl
length-reply (one ∷ replies) reply = ap suc (length-reply replies reply)

-- ---- steps

is-end : Option ToolStep → Bool
is-end (Some (step.Send call)) = false
is-end (Some (step.End end)) = true
is-end None = false

end-in : ScriptEnd → Option ToolStep → ScriptEnd
end-in other (Some (step.End end)) = end
end-in other _ = other

false-true : false ≡ true → ⊥
false-true e = cc

ended-with : (calls : List Call) (end : Option ScriptEnd) (place : ℕ) (it : ScriptEnd) → step_of calls end place ≡ Some (step.End it) → end ≡ Some it
unfolding is-end end-in
ended-with calls end place it is = pass (slice_get calls place) end is
  where
    pass : (o : Option Call) (e : Option ScriptEnd) → option_or (option_map (λ one. step.Send one) o) (option_map (λ one. step.End one) e) ≡ Some (step.End it) → e ≡ Some it
    pass (Some one) e same = absurd (false-true (ap is-end same))
    pass None None same = absurd (false-true (ap is-end same))
    pass None (Some end) same = ap (λ (o : Option ToolStep). Some (end-in it o)) same

-- before any reply there is one call, and no end
pub first-of : (command : Command) → (call : Call) × (script command [] ≡ call ∷ []) × (print command [] ≡ None)
first-of (command.Store label attributes secret) = (open_session, refl, refl)
first-of (command.Lookup wanted) = (open_session, refl, refl)
first-of (command.Search wanted) = (call.SearchItems wanted, refl, refl)
first-of (command.Clear wanted) = (call.SearchItems wanted, refl, refl)
first-of command.Lock = (collections, refl, refl)

head-of : Call → Option Call → Call
head-of other None = other
head-of other (Some it) = it

first-call : (command : Command) (it : Call) → step_after command [] ≡ Some (step.Send it) → script command [] ≡ it ∷ []
unfolding first-of head-of
first-call command it is =
    let one = first-of command in
    let got : Some one.0 ≡ Some it = ap (λ (l : List Call). slice_get l 0) (sym one.1) ∙ sent-is (script command []) (print command []) 0 it is in
    one.1 ∙ ap (λ (o : Option Call). head-of it o ∷ []) got

-- a script isn't at its end before its first call
pub never-ends : (command : Command) (end : ScriptEnd) → step_after command [] ≡ Some (step.End end) → ⊥
never-ends command end is =
    let one = first-of command in
    let none : None ≡ Some end = sym one.2 ∙ ended-with (script command []) (print command []) 0 end is in cc

-- ---- so far

none-taken : (command : Command) (before : List ℕ) → FirstReplies command (before ++ []) before []
none-taken command before =
    let e : before ++ [] ≡ before = append-nil before in
    record { messages = []; cut = subst (λ (l : List ℕ). Cut most_bytes l [] before) (sym e) (cut_none most_bytes before); are = refl }

-- the first call was sent
pub talking-begun : (command : Command) (before : List ℕ) (call : Call) (old now : LinkState) → step_after command [] ≡ Some (step.Send call) → Carried old now [] (spelled call 1)
    → IsStill old now → Talking command before before call 1 [] old now
talking-begun command before call old now is carried still =
    let one : script command [] ≡ call ∷ [] = first-call command call is in
    let whole : sent command [] ≡ spelled call 1 = ap (λ (l : List Call). spelled_from 1 l) one ∙ append-nil (spelled call 1) in
    record {
      read = [];
      carried = subst (λ (l : List ℕ). Carried old now [] l) (sym whole) carried;
      still = still;
      first = none-taken command before;
      waits = sent-is (script command []) (print command []) 0 call is;
      serial_is = refl;
      long = ap (λ (l : List Call). length l) one;
    }

-- it wasn't
pub unbegun : (command : Command) (before : List ℕ) (old new : LinkState) (why : Stop) → SendsNext command [] 1 old new (Err why) → Talks command before old new (Err why)
unbegun command before old new stop.LinkFault got =
    let whole : sent command [] ≡ spelled got.0 1 = ap (λ (l : List Call). spelled_from 1 l) (first-call command got.0 got.1) ∙ append-nil (spelled got.0 1) in
    record {
      read = [];
      wrote = got.2;
      carried = got.4;
      replies = [];
      rest = before;
      first = none-taken command before;
      ends = (subst (λ (l : List ℕ). IsFront got.2 l) (sym whole) got.3, got.5);
    }
unbegun command before old new stop.TooLarge got = record {
  read = [];
  wrote = [];
  carried = subst (λ (l : LinkState). Carried old l [] []) (sym got.3) (Carried-none old);
  replies = [];
  rest = before;
  first = none-taken command before;
  ends = ((sent command [], refl), ((got.0, got.1, got.2), ap (λ (l : LinkState). l.faults) got.3));
}
unbegun command before old new stop.Memory got = record {
  read = [];
  wrote = [];
  carried = subst (λ (l : LinkState). Carried old l [] []) (sym got) (Carried-none old);
  replies = [];
  rest = before;
  first = none-taken command before;
  ends = ((sent command [], refl), ap (λ (l : LinkState). l.faults) got);
}
unbegun command before old new _ got = absurd got

-- there was no memory
pub talk-memory : (command : Command) (before rest : List ℕ) (call : Call) (serial : ℕ) (replies : List Reply) (old now : LinkState)
    → Talking command before rest call serial replies old now → Talks command before old now (Err stop.Memory)
talk-memory command before rest call serial replies old now so = record {
  read = so.read;
  wrote = sent command replies;
  carried = so.carried;
  replies = replies;
  rest = rest;
  first = so.first;
  ends = (front-all (sent command replies), so.still);
}

-- messages of ignored types were skipped
pub talking-skipped : (command : Command) (before rest left : List ℕ) (call : Call) (serial : ℕ) (replies : List Reply) (old now : LinkState)
    → Talking command before rest call serial replies old now → Stream most_bytes rest [] left → Talking command before left call serial replies old now
talking-skipped command before rest left call serial replies old now so stream = record {
  read = so.read;
  carried = so.carried;
  still = so.still;
  first = record {
    messages = so.first.messages ++ [];
    cut = cut_then most_bytes (before ++ so.read) rest left so.first.messages [] so.first.cut stream.cut;
    are = ap (λ (m : List Parts). after_messages command [] m) (append-nil so.first.messages) ∙ so.first.are;
  };
  waits = so.waits;
  serial_is = so.serial_is;
  long = so.long;
}

-- a signal was skipped
pub talking-signal : (command : Command) (before rest left : List ℕ) (call : Call) (serial : ℕ) (replies : List Reply) (parts : Parts) (old now : LinkState)
    → Talking command before rest call serial replies old now → Cut most_bytes rest (parts ∷ []) left → (parts.kind == 4) ≡ true
    → Talking command before left call serial replies old now
talking-signal command before rest left call serial replies parts old now so cut is = record {
  read = so.read;
  carried = so.carried;
  still = so.still;
  first = first-push command (before ++ so.read) rest left replies replies parts so.first cut (signal-is command replies parts is);
  waits = so.waits;
  serial_is = so.serial_is;
  long = so.long;
}

-- more was read
pub talking-fed : (command : Command) (before rest left more : List ℕ) (call : Call) (serial : ℕ) (replies : List Reply) (old now next : LinkState)
    → Talking command before rest call serial replies old now → Carried now next more [] → left ≡ rest ++ more → IsStill now next
    → Talking command before left call serial replies old next
talking-fed command before rest left more call serial replies old now next so carried is still = record {
  read = so.read ++ more;
  carried = carried-read old now next so.read more (sent command replies) so.carried carried;
  still = still ∙ so.still;
  first = record {
    messages = so.first.messages;
    cut = rw (is, sym (append_assoc before so.read more)) (cut_more most_bytes (before ++ so.read) more rest so.first.messages so.first.cut);
    are = so.first.are;
  };
  waits = so.waits;
  serial_is = so.serial_is;
  long = so.long;
}

-- all messages so far are all that are complete
all-taken : (command : Command) (bytes rest left : List ℕ) (replies : List Reply) → FirstReplies command bytes rest replies → Stream most_bytes rest [] left → AllReplies command bytes left replies
all-taken command bytes rest left replies so stream = record {
  messages = so.messages ++ [];
  stream = stream_then most_bytes bytes rest left so.messages [] so.cut stream;
  are = ap (λ (m : List Parts). after_messages command [] m) (append-nil so.messages) ∙ so.are;
}

-- a violation shows
pub talk-broken : (command : Command) (before rest left : List ℕ) (call : Call) (serial : ℕ) (replies : List Reply) (cause : Violation) (old now : LinkState)
    → Talking command before rest call serial replies old now → Stream most_bytes rest [] left → Breaks most_bytes left cause
    → Talks command before old now (Err (stop.BadReply (bad.Violation cause)))
talk-broken command before rest left call serial replies cause old now so stream breaks = record {
  read = so.read;
  wrote = sent command replies;
  carried = so.carried;
  replies = replies;
  rest = rest;
  first = so.first;
  ends = (front-all (sent command replies), ((left, all-taken command (before ++ so.read) rest left replies so.first stream, breaks), so.still));
}

-- no more was read
pub talk-unfed : (command : Command) (before rest : List ℕ) (has left : Framing) (call : Call) (serial : ℕ) (replies : List Reply) (why : Stop) (old now next : LinkState)
    → Talking command before rest call serial replies old now → Stream most_bytes rest [] has.rest → BreaksNone most_bytes has.rest → ReceivesMore has left now next (Err why)
    → Talks command before old next (Err why)
talk-unfed command before rest has left call serial replies stop.LinkFault old now next so stream none got = record {
  read = so.read;
  wrote = sent command replies;
  carried = carried-still old now next so.read (sent command replies) so.carried got.0;
  replies = replies;
  rest = rest;
  first = so.first;
  ends = (front-all (sent command replies), rose-after old.faults now.faults next.faults so.still got.1);
}
talk-unfed command before rest has left call serial replies (stop.BadReply bad.Ended) old now next so stream none got = record {
  read = so.read;
  wrote = sent command replies;
  carried = carried-still old now next so.read (sent command replies) so.carried got.0;
  replies = replies;
  rest = rest;
  first = so.first;
  ends = (front-all (sent command replies), ((has.rest, all-taken command (before ++ so.read) rest has.rest replies so.first stream, none), got.1, got.2 ∙ so.still));
}
talk-unfed command before rest has left call serial replies stop.Memory old now next so stream none got =
    talk-memory command before (rest ++ got.0) call serial replies old next (talking-fed command before rest (rest ++ got.0) got.0 call serial replies old now next so got.1 refl got.2)
talk-unfed command before rest has left call serial replies _ old now next so stream none got = absurd got

no-reply : (command : Command) (before rest left : List ℕ) (call : Call) (serial : ℕ) (replies : List Reply) (parts : Parts) (cause : ReplyFault) (old now : LinkState)
    → (so : Talking command before rest call serial replies old now) → Cut most_bytes rest (parts ∷ []) left → (parts.kind == 4) ≡ false
    → reply_in (shape_of call) serial parts ≡ Err cause → NoReply command (before ++ so.read) replies cause
no-reply command before rest left call serial replies parts cause old now so cut not is = record {
  messages = so.first.messages;
  parts = parts;
  rest = left;
  cut = cut_then most_bytes (before ++ so.read) rest left so.first.messages (parts ∷ []) so.first.cut cut;
  are = so.first.are;
  none = other-is command replies parts call (Err cause) not so.waits (ap (λ (n : ℕ). reply_in (shape_of call) n parts) (sym so.serial_is) ∙ is);
}

-- a message is no reply
pub talk-unread : (command : Command) (before rest left : List ℕ) (call : Call) (serial : ℕ) (replies : List Reply) (parts : Parts) (why : Stop) (old now : LinkState)
    → Talking command before rest call serial replies old now → Cut most_bytes rest (parts ∷ []) left → (parts.kind == 4) ≡ false → ReadsReply call serial parts (Err why)
    → Talks command before old now (Err why)
talk-unread command before rest left call serial replies parts (stop.BadReply bad.NotAReply) old now so cut not got = record {
  read = so.read;
  wrote = sent command replies;
  carried = so.carried;
  replies = replies;
  rest = rest;
  first = so.first;
  ends = (front-all (sent command replies), (no-reply command before rest left call serial replies parts fault.NotAReply old now so cut not got, so.still));
}
talk-unread command before rest left call serial replies parts (stop.BadReply bad.WrongShape) old now so cut not got = record {
  read = so.read;
  wrote = sent command replies;
  carried = so.carried;
  replies = replies;
  rest = rest;
  first = so.first;
  ends = (front-all (sent command replies), (no-reply command before rest left call serial replies parts fault.WrongShape old now so cut not got, so.still));
}
talk-unread command before rest left call serial replies parts stop.Memory old now so cut not got = talk-memory command before rest call serial replies old now so
talk-unread command before rest left call serial replies parts _ old now so cut not got = absurd got

-- ---- a reply

-- the replies with this one are the first
replied : (command : Command) (before rest left : List ℕ) (call : Call) (serial : ℕ) (replies : List Reply) (reply : Reply) (parts : Parts) (old now : LinkState)
    → (so : Talking command before rest call serial replies old now) → Cut most_bytes rest (parts ∷ []) left → (parts.kind == 4) ≡ false
    → reply_in (shape_of call) serial parts ≡ Ok reply → FirstReplies command (before ++ so.read) left (replies ++ reply ∷ [])
replied command before rest left call serial replies reply parts old now so cut not is =
    first-push command (before ++ so.read) rest left replies (replies ++ reply ∷ []) parts so.first cut
    (other-is command replies parts call (Ok reply) not so.waits (ap (λ (n : ℕ). reply_in (shape_of call) n parts) (sym so.serial_is) ∙ is))

-- the calls of the script with the next one
sent-next : (command : Command) (replies : List Reply) (reply : Reply) (next : Call) (serial : ℕ) → length (script command replies) ≡ suc (length replies) → serial ≡ suc (suc (length replies))
    → step_after command (replies ++ reply ∷ []) ≡ Some (step.Send next) → sent command (replies ++ reply ∷ []) ≡ sent command replies ++ spelled next serial
sent-next command replies reply next serial long is goes =
    let place : length (script command replies) + 1 ≡ serial = omega (arith, long, is) in
    ap (λ (l : List Call). spelled_from 1 l) (grows-sent command replies reply next goes) ∙ spelled-push 1 (script command replies) next
    ∙ ap (λ (n : ℕ). sent command replies ++ spelled next n) place

-- a reply came, and the next call was sent
pub talking-on : (command : Command) (before rest left : List ℕ) (call next : Call) (serial more : ℕ) (replies : List Reply) (reply : Reply) (parts : Parts) (old now later : LinkState)
    → Talking command before rest call serial replies old now → Cut most_bytes rest (parts ∷ []) left → (parts.kind == 4) ≡ false
    → reply_in (shape_of call) serial parts ≡ Ok reply → more ≡ suc serial → SendsNext command (replies ++ reply ∷ []) more now later (Ok (step.Send next))
    → Talking command before left next more (replies ++ reply ∷ []) old later
talking-on command before rest left call next serial more replies reply parts old now later so cut not is one sends =
    let all = replies ++ reply ∷ [] in
    let count : length all ≡ suc (length replies) = length-reply replies reply in
    let numbered : more ≡ suc (suc (length replies)) = one ∙ ap suc so.serial_is in
    record {
      read = so.read;
      carried =
          subst (λ (l : List ℕ). Carried old later so.read l) (sym (sent-next command replies reply next more so.long numbered sends.0))
          (carried-wrote old now later so.read (sent command replies) (spelled next more) so.carried sends.1);
      still = sends.2 ∙ so.still;
      first = replied command before rest left call serial replies reply parts old now so cut not is;
      waits = sent-is (script command all) (print command all) (length all) next sends.0;
      serial_is = numbered ∙ ap suc (sym count);
      long = ap (λ (l : List Call). length l) (grows-sent command replies reply next sends.0) ∙ length-push (script command replies) next ∙ ap suc (so.long ∙ sym count);
    }

-- a reply came, and the script has ended
pub talk-ends : (command : Command) (before rest left : List ℕ) (call : Call) (serial more : ℕ) (replies : List Reply) (reply : Reply) (parts : Parts) (end : ScriptEnd) (old now later : LinkState)
    → Talking command before rest call serial replies old now → Cut most_bytes rest (parts ∷ []) left → (parts.kind == 4) ≡ false
    → reply_in (shape_of call) serial parts ≡ Ok reply → SendsNext command (replies ++ reply ∷ []) more now later (Ok (step.End end))
    → Talks command before old later (Ok end)
talk-ends command before rest left call serial more replies reply parts end old now later so cut not is ends =
    let all = replies ++ reply ∷ [] in
    let same : sent command all ≡ sent command replies = ap (λ (l : List Call). spelled_from 1 l) (grows-ended command replies reply end ends.0) in
    record {
      read = so.read;
      wrote = sent command replies;
      carried = subst (λ (l : LinkState). Carried old l so.read (sent command replies)) (sym ends.1) so.carried;
      replies = all;
      rest = left;
      first = replied command before rest left call serial replies reply parts old now so cut not is;
      ends = (ended-with (script command all) (print command all) (length all) end ends.0, sym same, ap (λ (l : LinkState). l.faults) ends.1 ∙ so.still);
    }

-- a reply came, and the next call wasn't sent
pub talk-unsent : (command : Command) (before rest left : List ℕ) (call : Call) (serial more : ℕ) (replies : List Reply) (reply : Reply) (parts : Parts) (why : Stop) (old now later : LinkState)
    → Talking command before rest call serial replies old now → Cut most_bytes rest (parts ∷ []) left → (parts.kind == 4) ≡ false
    → reply_in (shape_of call) serial parts ≡ Ok reply → more ≡ suc serial → SendsNext command (replies ++ reply ∷ []) more now later (Err why)
    → Talks command before old later (Err why)
talk-unsent command before rest left call serial more replies reply parts stop.LinkFault old now later so cut not is one got =
    let all = replies ++ reply ∷ [] in
    let numbered : more ≡ suc (suc (length replies)) = one ∙ ap suc so.serial_is in
    record {
      read = so.read;
      wrote = sent command replies ++ got.2;
      carried = carried-wrote old now later so.read (sent command replies) got.2 so.carried got.4;
      replies = all;
      rest = left;
      first = replied command before rest left call serial replies reply parts old now so cut not is;
      ends = (
        subst (λ (l : List ℕ). IsFront (sent command replies ++ got.2) l) (sym (sent-next command replies reply got.0 more so.long numbered got.1))
            (front-behind (sent command replies) got.2 (spelled got.0 more) got.3),
        rose-after old.faults now.faults later.faults so.still got.5,
      );
    }
talk-unsent command before rest left call serial more replies reply parts stop.TooLarge old now later so cut not is one got =
    let all = replies ++ reply ∷ [] in
    let numbered : more ≡ suc (suc (length replies)) = one ∙ ap suc so.serial_is in
    let place : more ≡ suc (length all) = numbered ∙ ap suc (sym (length-reply replies reply)) in
    record {
      read = so.read;
      wrote = sent command replies;
      carried = subst (λ (l : LinkState). Carried old l so.read (sent command replies)) (sym got.3) so.carried;
      replies = all;
      rest = left;
      first = replied command before rest left call serial replies reply parts old now so cut not is;
      ends = (
        (spelled got.0 more, sent-next command replies reply got.0 more so.long numbered got.1),
        (
          (got.0, got.1, subst (λ (n : ℕ). asked.most_bytes < length (spelled got.0 n)) place got.2),
          ap (λ (l : LinkState). l.faults) got.3 ∙ so.still,
        ),
      );
    }
talk-unsent command before rest left call serial more replies reply parts stop.Memory old now later so cut not is one got =
    subst (λ (l : LinkState). Talks command before old l (Err stop.Memory)) (sym got) (talk-memory command before rest call serial replies old now so)
talk-unsent command before rest left call serial more replies reply parts why old now later so cut not is one got = absurd got

-- ---- a step

-- what sending a step did is what sending the next step did
pub step-sent : (command : Command) (replies : List Reply) (it : ToolStep) (serial : ℕ) (old new : LinkState) → step_after command replies ≡ Some it → SendsStep it serial old new (Ok tt)
    → SendsNext command replies serial old new (Ok it)
step-sent command replies (step.Send call) serial old new is got = (is, got.0, got.1)
step-sent command replies (step.End end) serial old new is got = (is, got)

pub step-unsent : (command : Command) (replies : List Reply) (it : ToolStep) (serial : ℕ) (old new : LinkState) (why : Stop) → step_after command replies ≡ Some it
    → SendsStep it serial old new (Err why) → SendsNext command replies serial old new (Err why)
step-unsent command replies (step.Send call) serial old new stop.LinkFault is got = (call, is, got.0, got.1, got.2, got.3)
step-unsent command replies (step.Send call) serial old new stop.TooLarge is got = (call, is, got.0, got.1)
step-unsent command replies (step.Send call) serial old new stop.Memory is got = got
step-unsent command replies (step.Send call) serial old new stop.InputFault is got = absurd got
step-unsent command replies (step.Send call) serial old new (stop.BadReply cause) is got = absurd got
step-unsent command replies (step.End end) serial old new why is got = absurd got

-- sending a step dials nothing
pub sends-dialled : (command : Command) (replies : List Reply) (serial : ℕ) (old new : LinkState) (result : Result ToolStep Stop) → SendsNext command replies serial old new result
    → new.dialled ≡ old.dialled
sends-dialled command replies serial old new (Ok (step.Send call)) got = got.1.dialled
sends-dialled command replies serial old new (Ok (step.End end)) got = ap (λ (l : LinkState). l.dialled) got.1
sends-dialled command replies serial old new (Err stop.LinkFault) got = got.4.dialled
sends-dialled command replies serial old new (Err stop.TooLarge) got = ap (λ (l : LinkState). l.dialled) got.3
sends-dialled command replies serial old new (Err stop.Memory) got = ap (λ (l : LinkState). l.dialled) got
sends-dialled command replies serial old new (Err stop.InputFault) got = absurd got
sends-dialled command replies serial old new (Err (stop.BadReply cause)) got = absurd got

-- ---- what each function leaves

-- a law of every talk that is under way: what the function promises
abbrev FromTalking : List ℕ → Call → ℕ → LinkState → (Command → List ℕ → List Reply → LinkState → Type 0) → Type 0
FromTalking rest call serial now promise =
    (command : Command) (before : List ℕ) (replies : List Reply) (start : LinkState) → Talking command before rest call serial replies start now → promise command before replies start

-- more was read
pub takes-fed : (has mid left : Framing) (call : Call) (serial : ℕ) (now next : LinkState) → has.most ≡ most_bytes → mid.most ≡ has.most → Stream has.most has.rest [] mid.rest
    → ReceivesMore mid left now next (Ok tt) → FromTalking has.rest call serial now (λ command before replies start. TakesReply command before left call serial replies start next (Ok None))
takes-fed has mid left call serial now next most same stream got command before replies start so = (
  got.3 ∙ same ∙ most,
  talking-fed command before mid.rest left.rest got.0 call serial replies start now next
      (talking-skipped command before has.rest mid.rest call serial replies start now so (subst (λ (n : ℕ). Stream n has.rest [] mid.rest) most stream)) got.1 got.2 got.4,
)

-- no more was
pub takes-unfed : (has mid left : Framing) (call : Call) (serial : ℕ) (now next : LinkState) (why : Stop) → has.most ≡ most_bytes → Stream has.most has.rest [] mid.rest
    → BreaksNone has.most mid.rest → ReceivesMore mid left now next (Err why)
    → FromTalking has.rest call serial now (λ command before replies start. TakesReply command before left call serial replies start next (Err why))
takes-unfed has mid left call serial now next why most stream none got command before replies start so =
    talk-unfed command before has.rest mid left call serial replies why start now next so (subst (λ (n : ℕ). Stream n has.rest [] mid.rest) most stream)
    (subst (λ (n : ℕ). BreaksNone n mid.rest) most none) got

-- a violation shows
pub takes-broken : (has mid : Framing) (call : Call) (serial : ℕ) (now : LinkState) (cause : Violation) → has.most ≡ most_bytes → Refused has cause mid
    → FromTalking has.rest call serial now (λ command before replies start. TakesReply command before mid call serial replies start now (Err (stop.BadReply (bad.Violation cause))))
takes-broken has mid call serial now cause most broken command before replies start so =
    talk-broken command before has.rest mid.rest call serial replies cause start now so (subst (λ (n : ℕ). Stream n has.rest [] mid.rest) most broken.stream)
    (subst (λ (n : ℕ). Breaks n mid.rest cause) most broken.breaks)

-- there was no memory for the next message
pub takes-memory : (has left : Framing) (call : Call) (serial : ℕ) (now : LinkState)
    → FromTalking has.rest call serial now (λ command before replies start. TakesReply command before left call serial replies start now (Err stop.Memory))
takes-memory has left call serial now command before replies start so = talk-memory command before has.rest call serial replies start now so

-- a signal was skipped
pub takes-signal : (has left : Framing) (call : Call) (serial : ℕ) (now : LinkState) (parts : Parts) → has.most ≡ most_bytes → left.most ≡ has.most → Cut has.most has.rest (parts ∷ []) left.rest
    → (parts.kind == 4) ≡ true → FromTalking has.rest call serial now (λ command before replies start. TakesReply command before left call serial replies start now (Ok None))
takes-signal has left call serial now parts most same cut is command before replies start so =
    (same ∙ most, talking-signal command before has.rest left.rest call serial replies parts start now so (subst (λ (n : ℕ). Cut n has.rest (parts ∷ []) left.rest) most cut) is)

-- the reply came
pub takes-one : (has left : Framing) (call : Call) (serial : ℕ) (now : LinkState) (parts : Parts) (reply : Reply) → has.most ≡ most_bytes → left.most ≡ has.most
    → Cut has.most has.rest (parts ∷ []) left.rest → (parts.kind == 4) ≡ false → ReadsReply call serial parts (Ok reply)
    → FromTalking has.rest call serial now (λ command before replies start. TakesReply command before left call serial replies start now (Ok (Some reply)))
takes-one has left call serial now parts reply most same cut not is command before replies start so =
    (same ∙ most, record { rest = has.rest; parts = parts; talking = so; cut = subst (λ (n : ℕ). Cut n has.rest (parts ∷ []) left.rest) most cut; no_signal = not; is = is })

-- another message came
pub takes-none : (has left : Framing) (call : Call) (serial : ℕ) (now : LinkState) (parts : Parts) (why : Stop) → has.most ≡ most_bytes
    → Cut has.most has.rest (parts ∷ []) left.rest → (parts.kind == 4) ≡ false → ReadsReply call serial parts (Err why)
    → FromTalking has.rest call serial now (λ command before replies start. TakesReply command before left call serial replies start now (Err why))
takes-none has left call serial now parts why most cut not got command before replies start so =
    talk-unread command before has.rest left.rest call serial replies parts why start now so (subst (λ (n : ℕ). Cut n has.rest (parts ∷ []) left.rest) most cut) not got

-- what the test of a message's type says
pub is-four : (n : ℕ) → n ≡ 4 → (n == 4) ≡ true
is-four n is = rw is refl

pub is-other : (n : ℕ) → (n ≡ 4 → ⊥) → (n == 4) ≡ false
is-other n isnt = grind (arith, nat_tests, isnt)

-- a reading dials nothing
pub fed-dialled : (has left : Framing) (old new : LinkState) → ReceivesMore has left old new (Ok tt) → new.dialled ≡ old.dialled
fed-dialled has left old new got = got.1.dialled

pub unfed-dialled : (has left : Framing) (old new : LinkState) (why : Stop) → ReceivesMore has left old new (Err why) → new.dialled ≡ old.dialled
unfed-dialled has left old new stop.LinkFault got = got.0.dialled
unfed-dialled has left old new (stop.BadReply bad.Ended) got = got.0.dialled
unfed-dialled has left old new stop.Memory got = got.1.dialled
unfed-dialled has left old new _ got = absurd got

-- the numbers of 32 bits are spent
pub goes-spent : (command : Command) (course : Course) (before left : List ℕ) (call : Call) (serial : ℕ) (replies : List Reply) (start now : LinkState) (reply : Reply)
    → HasReply command before left call serial replies start now reply → GoesOn command course before left call serial start now (Err stop.Memory)
goes-spent command course before left call serial replies start now reply has = talk-memory command before has.rest call serial replies start now has.talking

-- the next call was sent
pub goes-next : (old new : Course) (before left : List ℕ) (call next : Call) (serial more : ℕ) (start now later : LinkState) (reply : Reply) → new ≡ heard old (Some reply) → more ≡ serial + 1
    → SendsNext (heard old (Some reply)).command (heard old (Some reply)).replies more now later (Ok (step.Send next))
    → HasReply old.command before left call serial old.replies start now reply → GoesOn old.command new before left next more start later (Ok None)
goes-next old new before left call next serial more start now later reply is one sends has = (
  ap (λ (course : Course). course.command) is,
  subst (λ (course : Course). Talking old.command before left next more course.replies start later) (sym is)
      (talking-on old.command before has.rest left call next serial more old.replies reply has.parts start now later has.talking has.cut has.no_signal has.is (omega (arith, one)) sends),
)

-- the script has ended
pub goes-end : (old new : Course) (before left : List ℕ) (call : Call) (serial more : ℕ) (start now later : LinkState) (reply : Reply) (end : ScriptEnd)
    → SendsNext (heard old (Some reply)).command (heard old (Some reply)).replies more now later (Ok (step.End end))
    → HasReply old.command before left call serial old.replies start now reply → GoesOn old.command new before left call more start later (Ok (Some end))
goes-end old new before left call serial more start now later reply end ends has =
    talk-ends old.command before has.rest left call serial more old.replies reply has.parts end start now later has.talking has.cut has.no_signal has.is ends

-- the next call wasn't sent
pub goes-unsent : (old new : Course) (before left : List ℕ) (call : Call) (serial more : ℕ) (start now later : LinkState) (reply : Reply) (why : Stop) → more ≡ serial + 1
    → SendsNext (heard old (Some reply)).command (heard old (Some reply)).replies more now later (Err why)
    → HasReply old.command before left call serial old.replies start now reply → GoesOn old.command new before left call more start later (Err why)
goes-unsent old new before left call serial more start now later reply why one got has =
    talk-unsent old.command before has.rest left call serial more old.replies reply has.parts why start now later has.talking has.cut has.no_signal has.is (omega (arith, one)) got

-- a turn that took no reply
pub turn-none : (course : Course) (before : List ℕ) (left : Framing) (call : Call) (serial : ℕ) (start now : LinkState)
    → TakesReply course.command before left call serial course.replies start now (Ok None) → TakesTurn course.command course before left call serial start now (Ok None)
turn-none course before left call serial start now got = (got.0, refl, got.1)

-- what was taken, once it is known whether that was a reply
pub took : (command : Command) (before : List ℕ) (left : Framing) (call : Call) (serial : ℕ) (replies : List Reply) (start now : LinkState) (one other : Option Reply) → one ≡ other
    → TakesReply command before left call serial replies start now (Ok one) → TakesReply command before left call serial replies start now (Ok other)
took command before left call serial replies start now one other is got = subst (λ (o : Option Reply). TakesReply command before left call serial replies start now (Ok o)) is got

-- one that took it
pub turn-one : (command : Command) (course : Course) (before : List ℕ) (left : Framing) (call : Call) (serial : ℕ) (start now : LinkState) (result : Result (Option ScriptEnd) Stop)
    → left.most ≡ most_bytes → GoesOn command course before left.rest call serial start now result → TakesTurn command course before left call serial start now result
turn-one command course before left call serial start now (Ok None) most got = (most, got.0, got.1)
turn-one command course before left call serial start now (Ok (Some end)) most got = got
turn-one command course before left call serial start now (Err why) most got = got

-- what a turn leaves keeps the loop's invariant
pub talks-on : (command : Command) (course mid : Course) (before : List ℕ) (left : Framing) (call : Call) (serial : ℕ) (start now : LinkState) → mid.command ≡ command
    → TakesTurn mid.command course before left call serial start now (Ok None)
    → (left.most ≡ most_bytes) × (course.command ≡ command) × Talking command before left.rest call serial course.replies start now
talks-on command course mid before left call serial start now same got =
    (got.0, got.1 ∙ same, subst (λ (c : Command). Talking c before left.rest call serial course.replies start now) same got.2)

-- ---- the loop

-- the first call of a script was sent
pub talk-begins : (old new : Course) (before : List ℕ) (call : Call) (start now : LinkState) → old.replies ≡ [] → new ≡ heard old None
    → SendsNext (heard old None).command (heard old None).replies 1 start now (Ok (step.Send call))
    → (new.command ≡ old.command) × Talking old.command before before call 1 new.replies start now
talk-begins old new before call start now begun is sends =
    let same : new.replies ≡ [] = ap (λ (course : Course). course.replies) is ∙ begun in
    let first = subst (λ (replies : List Reply). step_after old.command replies ≡ Some (step.Send call)) begun sends.0 in (
      ap (λ (course : Course). course.command) is,
      subst (λ (replies : List Reply). Talking old.command before before call 1 replies start now) (sym same) (talking-begun old.command before call start now first sends.1 sends.2),
    )

-- and the calls after it were made
pub talk-goes : (old new : Course) (before : List ℕ) (call : Call) (start now later : LinkState) (result : Result ScriptEnd Stop) → old.replies ≡ [] → new ≡ heard old None
    → SendsNext (heard old None).command (heard old None).replies 1 start now (Ok (step.Send call))
    → ((bytes : List ℕ) (first : LinkState) → Talking new.command bytes before call 1 new.replies first now → Talks new.command bytes first later result)
    → Talks old.command before start later result
talk-goes old new before call start now later result begun is sends goes =
    let begins = talk-begins old new before call start now begun is sends in
    subst (λ (c : Command). Talks c before start later result) begins.0
    (goes before start (subst (λ (c : Command). Talking c before before call 1 new.replies start now) (sym begins.0) begins.1))

-- it wasn't
pub talk-unbegun : (old : Course) (before : List ℕ) (start now : LinkState) (why : Stop) → old.replies ≡ [] → SendsNext (heard old None).command (heard old None).replies 1 start now (Err why)
    → Talks old.command before start now (Err why)
talk-unbegun old before start now why begun got =
    unbegun old.command before start now why (subst (λ (replies : List Reply). SendsNext old.command replies 1 start now (Err why)) begun got)

-- a script doesn't end before it
pub talk-never : (old : Course) (before : List ℕ) (start now : LinkState) (end : ScriptEnd) → old.replies ≡ []
    → SendsNext (heard old None).command (heard old None).replies 1 start now (Ok (step.End end)) → Talks old.command before start now (Ok end)
talk-never old before start now end begun got =
    absurd (never-ends old.command end (subst (λ (replies : List Reply). step_after old.command replies ≡ Some (step.End end)) begun got.0))

-- what a turn of the loop leaves
pub loop-turn : (command : Command) (mid course : Course) (before : List ℕ) (has left : Framing) (call next : Call) (serial more : ℕ) (start now later : LinkState)
    (result : Result (Option ScriptEnd) Stop) → mid.command ≡ command → Talking command before has.rest call serial mid.replies start now
    → ((bytes : List ℕ) (first : LinkState) → Talking mid.command bytes has.rest call serial mid.replies first now
    → TakesTurn mid.command course bytes left next more first later result)
    → TakesTurn command course before left next more start later result
loop-turn command mid course before has left call next serial more start now later result same so turn =
    subst (λ (c : Command). TakesTurn c course before left next more start later result) same
    (turn before start (subst (λ (c : Command). Talking c before has.rest call serial mid.replies start now) (sym same) so))

-- once it is known whether the script has ended
pub turned : (command : Command) (course : Course) (before : List ℕ) (left : Framing) (call : Call) (serial : ℕ) (start now : LinkState) (one other : Option ScriptEnd) → one ≡ other
    → TakesTurn command course before left call serial start now (Ok one) → TakesTurn command course before left call serial start now (Ok other)
turned command course before left call serial start now one other is got =
    subst (λ (o : Option ScriptEnd). TakesTurn command course before left call serial start now (Ok o)) is got
