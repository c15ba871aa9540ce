-- A run as the sum of its parts.
use Rattle.std.proofs.Common.{◌≡◌, ℕ, ◌≤◌, inl, inr, false, List, [], ◌++◌, IsTrue, Option, Some, None, option_map, Result, Ok, Err, refl, sym, ◌∙◌, ap, arith, subst}
use Rattle.std.specs.List.{concat}
use Rattle.std.specs.Option.{is_some}
use Rattle.std.specs.Io.KnownBytes.{Consumes, Appends}
use Rattle.std.proofs.KnownBytes.{Appends-nil, Consumes-nil}
use Rattle.kr_outside.specs.Faults.{Rose, KeepsSteady}
use Rattle.kr_outside.specs.Written.{AppendsFront}
use Rattle.kr_outside.proofs.FaultLemmas.{KeepsSteady-none, KeepsSteady-trans}
use Rattle.dbus_auth_client.specs.Hearing.{End, Talk, waiting, refused, opened, talk, resumed}
use Rattle.dbus_auth_client.specs.Openings.{opening}
use Rattle.dbus_auth_client.proofs.HearingLemmas.{talk-append}
use Rattle.dbus_framing.specs.Framers.{Framing}
use Rattle.dbus_framing.proofs.Cuts.{cut_none}
use Rattle.client_core.specs.declared.reply.Reply.{Reply}
use Rattle.kr_dialer.specs.Carrying.{LinkState, Carried, IsStill, IsFront}
use Rattle.kr_dialer.proofs.CarryingLemmas.{Carried-none, Carried-trans}
use Rattle.tool_script.specs.declared.command.Command.{Command}
use Rattle.tool_script.specs.declared.steps.ScriptEnd.{ScriptEnd}
use Rattle.tool_script.specs.declared.steps.ScriptStatus.{ScriptStatus}
use Rattle.tool_script.specs.declared.steps.ScriptStatus.TheVariants as script
use Rattle.tool_script.specs.Script.{Course, begun}
use Rattle.tool_script.specs.Words.{command_of}
use Rattle.client_tool.specs.declared.status.BadReply.TheVariants as bad
use Rattle.client_tool.specs.declared.status.Stop.{Stop}
use Rattle.client_tool.specs.declared.status.Stop.TheVariants as stop
use Rattle.client_tool.specs.declared.status.ToolStatus.{ToolStatus}
use Rattle.client_tool.specs.declared.status.ToolStatus.TheVariants as status
use Rattle.client_tool.specs.Status.{status_of, stopped_with}
use Rattle.client_tool.specs.Streams.{Input, Output, Took, Gave}
use Rattle.client_tool.specs.Lines.{IsLine, IsNoLine}
use Rattle.client_tool.specs.Secrets.{SecretStops}
use Rattle.dbus_opening.specs.Opening.{greeting}
use Rattle.client_tool.specs.Greeting.{Greets}
use Rattle.client_tool.specs.Talking.{most_bytes, sent, FirstReplies, Talks, TalkStops}
use Rattle.client_tool.specs.Running.{AreHeard, all_sent, ConverseStops, ConverseEnds, Converses, Prints, Linked, Traffic, Finished, Stopped, RunEnds, RunsScript, Gets, QuitsFor, ToolRuns}
use Rattle.client_tool.proofs.LineLemmas.{command-is}
use Rattle.kr_dialer.proofs.CarriedLemmas.{rose-after, front-all, front-more, front-behind, front-trans}
use Rattle.client_tool.proofs.TookLemmas.{Took-none}

-- ---- the connection

-- without replies none are heard, however far the handshake has come
none-heard : (command : Command) (how : End) → AreHeard command how []
none-heard command (waiting asked unfinished) = refl
none-heard command (refused fault) = refl
none-heard command (opened guid bytes) = (bytes, record { messages = []; cut = cut_none most_bytes bytes; are = refl })

-- nothing was read and written, for lack of memory
pub converse-never : (uid : ℕ) (command : Command) (old : LinkState) → Converses uid command old old (Err stop.Memory)
converse-never uid command old = record {
  read = [];
  wrote = [];
  carried = Carried-none old;
  replies = [];
  heard = none-heard command (talk false []).end;
  ends = ((all_sent uid command [] [], refl), refl);
}

-- a prefix of the handshake is one of all that is sent
front-greeting : (uid : ℕ) (command : Command) (read wrote : List ℕ) → IsFront wrote (greeting uid read) → IsFront wrote (all_sent uid command read [])
front-greeting uid command read wrote front = front-trans wrote (greeting uid read) (all_sent uid command read []) front (front-more (greeting uid read) (sent command []))

-- the handshake failed
pub converse-fails : (uid : ℕ) (command : Command) (old new : LinkState) (why : Stop) → Greets uid old new (Err why) → Converses uid command old new (Err why)
converse-fails uid command old new stop.LinkFault got = record {
  read = got.read;
  wrote = got.wrote;
  carried = got.carried;
  replies = [];
  heard = none-heard command (talk false got.read).end;
  ends = (front-greeting uid command got.read got.wrote got.ends.0, got.ends.1);
}
converse-fails uid command old new stop.Memory got = record {
  read = got.read;
  wrote = got.wrote;
  carried = got.carried;
  replies = [];
  heard = none-heard command (talk false got.read).end;
  ends = (front-greeting uid command got.read got.wrote got.ends.0, got.ends.1);
}
converse-fails uid command old new (stop.BadReply (bad.Handshake why)) got = record {
  read = got.read;
  wrote = got.wrote;
  carried = got.carried;
  replies = [];
  heard = none-heard command (talk false got.read).end;
  ends = (
    front-greeting uid command got.read got.wrote (subst (λ (l : List ℕ). IsFront got.wrote l) got.ends.1 (front-all got.wrote)),
    (got.ends.0, got.ends.2),
  );
}
converse-fails uid command old new _ got = absurd got.ends

-- more bytes after a handshake that is whole
heard-on : (read more guid rest : List ℕ) → (talk false read).end ≡ opened guid rest
    → talk false (read ++ more) ≡ record { said = (talk false read).said; end = opened guid (rest ++ more) }
heard-on read more guid rest is = talk-append false read more ∙ ap (λ (e : End). resumed (talk false read).said e more) is

stops-on : (command : Command) (read : List ℕ) (replies : List Reply) (guid bytes : List ℕ) (old mid new : LinkState) (why : Stop) → (talk false read).end ≡ opened guid bytes → IsStill old mid
    → TalkStops command bytes replies mid new why → ConverseStops command read replies old new why
stops-on command read replies guid bytes old mid new stop.LinkFault is still got = rose-after old.faults mid.faults new.faults still got
stops-on command read replies guid bytes old mid new stop.Memory is still got = got ∙ still
stops-on command read replies guid bytes old mid new stop.TooLarge is still got = (guid, bytes, is, (got.0, got.1 ∙ still))
stops-on command read replies guid bytes old mid new (stop.BadReply (bad.Violation cause)) is still got = (guid, bytes, is, (got.0, got.1 ∙ still))
stops-on command read replies guid bytes old mid new (stop.BadReply bad.Ended) is still got = (guid, bytes, is, (got.0, got.1, got.2 ∙ still))
stops-on command read replies guid bytes old mid new (stop.BadReply bad.NotAReply) is still got = (guid, bytes, is, (got.0, got.1 ∙ still))
stops-on command read replies guid bytes old mid new (stop.BadReply bad.WrongShape) is still got = (guid, bytes, is, (got.0, got.1 ∙ still))
stops-on command read replies guid bytes old mid new (stop.BadReply bad.OtherValues) is still got = absurd got
stops-on command read replies guid bytes old mid new (stop.BadReply (bad.Handshake fault)) is still got = absurd got
stops-on command read replies guid bytes old mid new stop.InputFault is still got = absurd got

-- the handshake is whole, and then the calls of the script
pub converse-on : (uid : ℕ) (command : Command) (old mid new : LinkState) (framing : Framing) (result : Result ScriptEnd Stop) → Greets uid old mid (Ok framing)
    → Talks command framing.rest mid new result → Converses uid command old new result
converse-on uid command old mid new framing result greets talks =
    let guid = greets.ends.0.0 in
    let opens = greets.ends.0.1 in
    let read = greets.read ++ talks.read in
    let wrote = greets.wrote ++ talks.wrote in
    let more = heard-on greets.read talks.read guid framing.rest opens in
    let how : (talk false read).end ≡ opened guid (framing.rest ++ talks.read) = ap (λ (t : Talk). t.end) more in
    let told : greeting uid read ≡ greets.wrote = ap (λ (t : Talk). opening uid ++ concat t.said) more ∙ sym greets.ends.2 in
    let whole : all_sent uid command read talks.replies ≡ greets.wrote ++ sent command talks.replies = ap (λ (l : List ℕ). l ++ sent command talks.replies) told in
    record {
      read = read;
      wrote = wrote;
      carried = Carried-trans old mid new greets.read talks.read greets.wrote talks.wrote greets.carried talks.carried;
      replies = talks.replies;
      heard = subst (λ (e : End). AreHeard command e talks.replies) (sym how) (talks.rest, talks.first);
      ends = pass result whole how talks.ends;
    }
  where
    pass : (r : Result ScriptEnd Stop) → all_sent uid command (greets.read ++ talks.read) talks.replies ≡ greets.wrote ++ sent command talks.replies
        → (talk false (greets.read ++ talks.read)).end ≡ opened greets.ends.0.0 (framing.rest ++ talks.read)
        → Rattle.client_tool.specs.Talking.TalkEnds command (framing.rest ++ talks.read) talks.wrote talks.replies mid new r
        → ConverseEnds uid command (greets.read ++ talks.read) (greets.wrote ++ talks.wrote) talks.replies old new r
    pass (Ok end) whole how got = (got.0, ap (λ (l : List ℕ). greets.wrote ++ l) got.1 ∙ sym whole, got.2 ∙ greets.ends.3)
    pass (Err why) whole how got = (
      subst (λ (l : List ℕ). IsFront (greets.wrote ++ talks.wrote) l) (sym whole) (front-behind greets.wrote talks.wrote (sent command talks.replies) got.0),
      stops-on command (greets.read ++ talks.read) talks.replies greets.ends.0.0 (framing.rest ++ talks.read) old mid new why how greets.ends.3 got.1,
    )

-- ---- printing

pub printed : (end : ScriptEnd) (old new : Output) (how : ToolStatus) → how ≡ status_of end.status → Appends old.written new.written end.text → new.faults ≡ old.faults
    → KeepsSteady old.is_steady new.is_steady old.faults new.faults → Prints end old new how
printed end old new how is put still steady = inl (is, record { appended = put; later = omega (arith, still); steady = steady }, still)

pub unprinted : (end : ScriptEnd) (old new : Output) → AppendsFront old.written new.written end.text → old.faults ≤ new.faults → Rose old.faults new.faults
    → KeepsSteady old.is_steady new.is_steady old.faults new.faults → Prints end old new status.OutputFault
unprinted end old new put later rose steady = inr (refl, put.front, (put.rest, put.whole), record { appended = put.put; later = later; steady = steady }, rose)

-- ---- a run from its dialling on

gave-none : (o : Output) → Gave o o []
gave-none o = record { appended = Appends-nil o.written; later = omega arith; steady = KeepsSteady-none o.is_steady o.faults }

-- it wasn't dialled
pub undialled : (path : List ℕ) (uid : ℕ) (command : Command) (out : Output) (old new : LinkState) (how : ToolStatus) (why : Stop) → how ≡ stopped_with why → new.dialled ≡ None
    → new.left ≡ old.left → new.written ≡ old.written → old.faults ≤ new.faults → KeepsSteady old.is_steady new.is_steady old.faults new.faults
    → RunEnds (record { uid = uid; command = command; read = []; wrote = []; printed = []; replies = [] }) out out old new how
    → RunsScript path uid command out out old new how
undialled path uid command out old new how why is none left written later steady ends = record {
  read = [];
  wrote = [];
  printed = [];
  replies = [];
  linked = record {
    dialled = inr (none, refl, refl);
    consumed = subst (λ (l : Option (List ℕ)). Consumes old.left l []) (sym left) (Consumes-nil old.left);
    appended = subst (λ (l : Option (List ℕ)). Appends old.written l []) (sym written) (Appends-nil old.written);
    later = later;
    steady = steady;
  };
  gave = gave-none out;
  heard = none-heard command (talk false []).end;
  ends = ends;
}

-- the dialer failed
pub undialled-fault : (path : List ℕ) (uid : ℕ) (command : Command) (out : Output) (old new : LinkState) → new.dialled ≡ None
    → new.left ≡ old.left → new.written ≡ old.written → old.faults ≤ new.faults → KeepsSteady old.is_steady new.is_steady old.faults new.faults → Rose old.faults new.faults
    → RunsScript path uid command out out old new status.LinkFault
undialled-fault path uid command out old new none left written later steady rose =
    undialled path uid command out old new status.LinkFault stop.LinkFault refl none left written later steady ((all_sent uid command [] [], refl), refl, rose, refl)

-- there was no memory to dial
pub undialled-memory : (path : List ℕ) (uid : ℕ) (command : Command) (out : Output) (old new : LinkState) → new.dialled ≡ None
    → new.left ≡ old.left → new.written ≡ old.written → old.faults ≤ new.faults → KeepsSteady old.is_steady new.is_steady old.faults new.faults → new.faults ≡ old.faults
    → RunsScript path uid command out out old new status.Memory
undialled-memory path uid command out old new none left written later steady still =
    undialled path uid command out old new status.Memory stop.Memory refl none left written later steady ((all_sent uid command [] [], refl), refl, still, refl)

-- a path that was dialled is there
pub some-dialled : (one : Option (List ℕ)) (path : List ℕ) → one ≡ Some path → IsTrue (is_some one)
some-dialled one path is = subst (λ (o : Option (List ℕ)). IsTrue (is_some o)) (sym is) refl

-- the path was dialled
linked-on : (path : List ℕ) (old mid new : LinkState) (read wrote : List ℕ) → mid.dialled ≡ Some path → mid.left ≡ old.left → mid.written ≡ old.written → mid.faults ≡ old.faults
    → KeepsSteady old.is_steady mid.is_steady old.faults mid.faults → Carried mid new read wrote → Linked path old new read wrote
linked-on path old mid new read wrote is left written still steady carried = record {
  dialled = inl (carried.dialled ∙ is);
  consumed = subst (λ (l : Option (List ℕ)). Consumes l new.left read) left carried.consumed;
  appended = subst (λ (l : Option (List ℕ)). Appends l new.written wrote) written carried.appended;
  later = omega (arith, still, carried.later);
  steady = KeepsSteady-trans old.is_steady mid.is_steady new.is_steady old.faults mid.faults new.faults steady carried.steady;
}

-- a stop, with the counts of the dialer before it dialled
stops-from : (command : Command) (read : List ℕ) (replies : List Reply) (old mid new : LinkState) (why : Stop) → mid.faults ≡ old.faults → ConverseStops command read replies mid new why
    → ConverseStops command read replies old new why
stops-from command read replies old mid new stop.LinkFault still got = rose-after old.faults mid.faults new.faults still got
stops-from command read replies old mid new stop.Memory still got = got ∙ still
stops-from command read replies old mid new stop.TooLarge still got = (got.0, got.1, got.2, (got.3.0, got.3.1 ∙ still))
stops-from command read replies old mid new (stop.BadReply (bad.Violation cause)) still got = (got.0, got.1, got.2, (got.3.0, got.3.1 ∙ still))
stops-from command read replies old mid new (stop.BadReply bad.Ended) still got = (got.0, got.1, got.2, (got.3.0, got.3.1, got.3.2 ∙ still))
stops-from command read replies old mid new (stop.BadReply bad.NotAReply) still got = (got.0, got.1, got.2, (got.3.0, got.3.1 ∙ still))
stops-from command read replies old mid new (stop.BadReply bad.WrongShape) still got = (got.0, got.1, got.2, (got.3.0, got.3.1 ∙ still))
stops-from command read replies old mid new (stop.BadReply bad.OtherValues) still got = absurd got.3
stops-from command read replies old mid new (stop.BadReply (bad.Handshake fault)) still got = (got.0, got.1 ∙ still)
stops-from command read replies old mid new stop.InputFault still got = absurd got.3

-- why it stopped is its status
stopped-ends : (run : Traffic) (out : Output) (old new : LinkState) (why : Stop) → Stopped run out out old new why → RunEnds run out out old new (stopped_with why)
stopped-ends run out old new stop.LinkFault got = got
stopped-ends run out old new stop.Memory got = got
stopped-ends run out old new stop.TooLarge got = got
stopped-ends run out old new (stop.BadReply (bad.Violation cause)) got = got
stopped-ends run out old new (stop.BadReply bad.Ended) got = got
stopped-ends run out old new (stop.BadReply bad.NotAReply) got = got
stopped-ends run out old new (stop.BadReply bad.WrongShape) got = got
stopped-ends run out old new (stop.BadReply bad.OtherValues) got = absurd got.2.3
stopped-ends run out old new (stop.BadReply (bad.Handshake fault)) got = got
stopped-ends run out old new stop.InputFault got = absurd got.2.3

-- it stopped
pub run-stops : (path : List ℕ) (uid : ℕ) (command : Command) (out : Output) (old mid new : LinkState) (why : Stop) → mid.dialled ≡ Some path → mid.left ≡ old.left → mid.written ≡ old.written
    → mid.faults ≡ old.faults → KeepsSteady old.is_steady mid.is_steady old.faults mid.faults → Converses uid command mid new (Err why)
    → RunsScript path uid command out out old new (stopped_with why)
run-stops path uid command out old mid new why is left written still steady got = record {
  read = got.read;
  wrote = got.wrote;
  printed = [];
  replies = got.replies;
  linked = linked-on path old mid new got.read got.wrote is left written still steady got.carried;
  gave = gave-none out;
  heard = got.heard;
  ends =
      stopped-ends (record { uid = uid; command = command; read = got.read; wrote = got.wrote; printed = []; replies = got.replies }) out old new why
      (got.ends.0, refl, stops-from command got.read got.replies old mid new why still got.ends.1, refl);
}

-- the status of the end is that of the replies
finished-ends : (run : Traffic) (out after : Output) (old new : LinkState) (how : ScriptStatus) → Finished run out after old new how → RunEnds run out after old new (status_of how)
finished-ends run out after old new script.Done got = got
finished-ends run out after old new script.NotFound got = got
finished-ends run out after old new script.Locked got = got
finished-ends run out after old new (script.Refused name) got = got
finished-ends run out after old new script.BadReply got = got

-- the script has ended, and its text was printed, or wasn't
pub run-ends : (path : List ℕ) (uid : ℕ) (command : Command) (out after : Output) (old mid new : LinkState) (end : ScriptEnd) (how : ToolStatus) → mid.dialled ≡ Some path
    → mid.left ≡ old.left → mid.written ≡ old.written → mid.faults ≡ old.faults → KeepsSteady old.is_steady mid.is_steady old.faults mid.faults
    → Converses uid command mid new (Ok end) → Prints end out after how → RunsScript path uid command out after old new how
run-ends path uid command out after old mid new end how is left written still steady got (inl prints) = record {
  read = got.read;
  wrote = got.wrote;
  printed = end.text;
  replies = got.replies;
  linked = linked-on path old mid new got.read got.wrote is left written still steady got.carried;
  gave = prints.1;
  heard = got.heard;
  ends =
      let run : Traffic = record { uid = uid; command = command; read = got.read; wrote = got.wrote; printed = end.text; replies = got.replies } in
      subst (λ (s : ToolStatus). RunEnds run out after old new s) (sym prints.0)
      (finished-ends run out after old new end.status (got.ends.0, got.ends.1, got.ends.2 ∙ still, prints.2));
}
run-ends path uid command out after old mid new end how is left written still steady got (inr prints) = record {
  read = got.read;
  wrote = got.wrote;
  printed = prints.1;
  replies = got.replies;
  linked = linked-on path old mid new got.read got.wrote is left written still steady got.carried;
  gave = prints.3;
  heard = got.heard;
  ends =
      let run : Traffic = record { uid = uid; command = command; read = got.read; wrote = got.wrote; printed = prints.1; replies = got.replies } in
      subst (λ (s : ToolStatus). RunEnds run out after old new s) (sym prints.0)
      (end, got.ends.0, got.ends.1, prints.2, got.ends.2 ∙ still, prints.4);
}

-- ---- with its words and its input

-- a run that stops doesn't say that the words are no line
pub stop-no-usage : (why : Stop) (how : ToolStatus) → how ≡ stopped_with why → how ≡ status.Usage → ⊥
stop-no-usage stop.InputFault how is usage = let e : status.InputFault ≡ status.Usage = sym is ∙ usage in cc
stop-no-usage stop.LinkFault how is usage = let e : status.LinkFault ≡ status.Usage = sym is ∙ usage in cc
stop-no-usage (stop.BadReply cause) how is usage = let e : status.BadReply cause ≡ status.Usage = sym is ∙ usage in cc
stop-no-usage stop.Memory how is usage = let e : status.Memory ≡ status.Usage = sym is ∙ usage in cc
stop-no-usage stop.TooLarge how is usage = let e : status.TooLarge ≡ status.Usage = sym is ∙ usage in cc

-- neither does one that has dialled
pub run-no-usage : (path : List ℕ) (uid : ℕ) (command : Command) (out after : Output) (old new : LinkState) (how : ToolStatus) → RunsScript path uid command out after old new how
    → how ≡ status.Usage → ⊥
run-no-usage path uid command out after old new how got usage = (subst (λ (s : ToolStatus). RunsScript path uid command out after old new s) usage got).ends

-- the command was run
pub ran : (words rest : List (List ℕ)) (path secret : List ℕ) (uid : ℕ) (from to : Input) (out after : Output) (old new : LinkState) (how : ToolStatus) (course : Course)
    → IsLine words path uid rest → Gets rest from to (Ok secret) → Some course ≡ option_map begun (command_of rest secret)
    → RunsScript path uid course.command out after old new how → ToolRuns words from to out after old new how
ran words rest path secret uid from to out after old new how course line got is runs = inr (record {
  path = path;
  uid = uid;
  rest = rest;
  line = line;
  secret = secret;
  input = got;
  command = course.command;
  is = (command-is (command_of rest secret) course is).0;
  runs = runs;
})

-- the words are no line
pub quits-usage : (words : List (List ℕ)) (input : Input) (out : Output) (link : LinkState) → IsNoLine words → ToolRuns words input input out out link link status.Usage
quits-usage words input out link none = inl (record { given = []; took = Took-none input; output = refl; link = refl; cause = (none, refl) })

-- nothing was read, written and printed
pub quits-untouched : (words : List (List ℕ)) (input : Input) (out : Output) (link : LinkState) (how : ToolStatus) → QuitsFor words [] input input how
    → ToolRuns words input input out out link link how
quits-untouched words input out link how cause = inl (record { given = []; took = Took-none input; output = refl; link = refl; cause = cause })

-- the secret wasn't read
pub quits-unread : (words : List (List ℕ)) (path : List ℕ) (uid : ℕ) (rest : List (List ℕ)) (from to : Input) (out : Output) (link : LinkState) (why : Stop) → IsLine words path uid rest
    → Gets rest from to (Err why) → ToolRuns words from to out out link link (stopped_with why)
quits-unread words path uid rest from to out link why line got = inl (record {
  given = got.1.0;
  took = got.1.1;
  output = refl;
  link = refl;
  cause = pass why got.1.2;
})
  where
    pass : (s : Stop) → SecretStops got.1.0 from to s → QuitsFor words got.1.0 from to (stopped_with s)
    pass stop.InputFault is = ((path, uid, rest, line, got.0), is)
    pass stop.TooLarge is = ((path, uid, rest, line, got.0), is.0, is.1)
    pass stop.Memory is = is
    pass stop.LinkFault is = absurd is
    pass (stop.BadReply cause) is = absurd is

-- it was read, and then there was no memory
pub quits-later : (words rest : List (List ℕ)) (from to : Input) (out : Output) (link : LinkState) (secret : List ℕ) → Gets rest from to (Ok secret)
    → ToolRuns words from to out out link link status.Memory
quits-later words rest from to out link secret (inl got) = inl (record { given = secret; took = got.1.0; output = refl; link = refl; cause = got.1.3 })
quits-later words rest from to out link secret (inr got) =
    inl (record {
      given = [];
      took = subst (λ (i : Input). Took from i []) (sym got.2) (Took-none from);
      output = refl;
      link = refl;
      cause = ap (λ (i : Input). i.faults) got.2;
    })
