-- A whole run of the tool: what it read and wrote, what it printed, and why it ended so (docs/secret_tool.1).
use Rattle.std.specs.Prelude.{◌≡◌, ℕ, ◌<◌, ◌≤◌, ◌⊎◌, ◌++◌, true, false, List, [], length, Some, None, Result, Ok, Err}
use Rattle.std.specs.Io.KnownBytes.{Appends, Consumes}
use Rattle.kr_outside.specs.Faults.{Rose, KeepsSteady}
use Rattle.dbus_auth_client.specs.Hearing as hearing
use Rattle.client_core.specs.declared.reply.Reply.{Reply}
use Rattle.kr_dialer.specs.Carrying.{LinkState, Carried, IsStill, IsFront}
use Rattle.tool_script.specs.declared.command.Command.{Command}
use Rattle.tool_script.specs.declared.steps.ScriptEnd.{ScriptEnd}
use Rattle.tool_script.specs.declared.steps.ScriptStatus.{ScriptStatus}
use Rattle.tool_script.specs.declared.steps.ScriptStatus.TheVariants as script
use Rattle.tool_script.specs.Script.{print}
use Rattle.tool_script.specs.Words.{command_of}
use Rattle.client_tool.specs.declared.status.BadReply.TheVariants as bad
use Rattle.client_tool.specs.declared.status.Stop.{Stop}
use Rattle.client_tool.specs.declared.status.Stop.TheVariants as stop
use Rattle.client_tool.specs.declared.status.ToolStatus.{ToolStatus}
use Rattle.client_tool.specs.declared.status.ToolStatus.TheVariants as status
use Rattle.client_tool.specs.Status.{status_of}
use Rattle.client_tool.specs.Streams.{Input, Output, Took, Gave}
use Rattle.client_tool.specs.Lines.{IsLine, IsNoLine, stores}
use Rattle.client_tool.specs.Secrets.{ReadsSecret, most_secret}
use Rattle.dbus_opening.specs.Opening.{greeting, FailsFor}
use Rattle.client_tool.specs.Talking.{sent, FirstReplies, TalkStops}

-- ---- the connection

-- these replies are the ones in the first messages after the handshake; without a whole handshake there are none
abbrev pub AreHeard : Command → hearing.End → List Reply → Type 0
AreHeard command (hearing.waiting asked unfinished) replies = replies ≡ []
AreHeard command (hearing.refused fault) replies = replies ≡ []
AreHeard command (hearing.opened guid bytes) replies = (rest : List ℕ) × FirstReplies command bytes rest replies

-- the handshake and the messages of the script of the replies, to a service that sent these bytes
abbrev pub all_sent : ℕ → Command → List ℕ → List Reply → List ℕ
all_sent uid command read replies = greeting uid read ++ sent command replies

-- why the connection stops before the end of the script, after it has read these bytes with these replies in them
abbrev pub ConverseStops : Command → List ℕ → List Reply → LinkState → LinkState → Stop → Type 0
ConverseStops command read replies old new stop.LinkFault = Rose old.faults new.faults
ConverseStops command read replies old new stop.Memory = IsStill old new
ConverseStops command read replies old new (stop.BadReply (bad.Handshake why)) = FailsFor (hearing.talk false read).end new why × IsStill old new
ConverseStops command read replies old new why =
    (guid : List ℕ) × (bytes : List ℕ) × ((hearing.talk false read).end ≡ hearing.opened guid bytes) × TalkStops command bytes replies old new why

-- all was sent, and the script has ended; or a prefix was
abbrev pub ConverseEnds : ℕ → Command → List ℕ → List ℕ → List Reply → LinkState → LinkState → Result ScriptEnd Stop → Type 0
ConverseEnds uid command read wrote replies old new (Ok end) = (print command replies ≡ Some end) × (wrote ≡ all_sent uid command read replies) × IsStill old new
ConverseEnds uid command read wrote replies old new (Err why) = IsFront wrote (all_sent uid command read replies) × ConverseStops command read replies old new why

-- the handshake and the calls of a script
pub record Converses (uid : ℕ) (command : Command) (old new : LinkState) (result : Result ScriptEnd Stop) : Type 0 where
  pub read : List ℕ
  pub wrote : List ℕ
  pub carried : Carried old new read wrote
  pub replies : List Reply
  pub heard : AreHeard command (hearing.talk false read).end replies
  pub ends : ConverseEnds uid command read wrote replies old new result

-- ---- what is printed

-- the text of the end was printed, and the status is its own; or the output failed after a prefix of the text
abbrev pub Prints : ScriptEnd → Output → Output → ToolStatus → Type 0
Prints end old new how =
    ((how ≡ status_of end.status) × Gave old new end.text × (new.faults ≡ old.faults))
    ⊎ ((how ≡ status.OutputFault) × (front : List ℕ) × IsFront front end.text × Gave old new front × Rose old.faults new.faults)

-- ---- a run

-- the path was dialled, these bytes were read, and these were written; or it wasn't, and none were
pub record Linked (path : List ℕ) (old new : LinkState) (read wrote : List ℕ) : Type 0 where
  pub dialled : (new.dialled ≡ Some path) ⊎ ((new.dialled ≡ None) × (read ≡ []) × (wrote ≡ []))
  pub consumed : Consumes old.left new.left read
  pub appended : Appends old.written new.written wrote
  pub later : old.faults ≤ new.faults
  pub steady : KeepsSteady old.is_steady new.is_steady old.faults new.faults

-- what a run has read, written and printed by its end
pub record Traffic : Type 0 where
  pub uid : ℕ
  pub command : Command
  pub read : List ℕ
  pub wrote : List ℕ
  pub printed : List ℕ
  pub replies : List Reply

-- all was sent, and what is printed and the status are those of the replies
abbrev pub Finished : Traffic → Output → Output → LinkState → LinkState → ScriptStatus → Type 0
Finished run out after old new how =
    (print run.command run.replies ≡ Some (record { status = how; text = run.printed })) × (run.wrote ≡ all_sent run.uid run.command run.read run.replies) × IsStill old new
    × (after.faults ≡ out.faults)

-- a prefix was sent, and nothing is printed
abbrev pub Stopped : Traffic → Output → Output → LinkState → LinkState → Stop → Type 0
Stopped run out after old new why =
    IsFront run.wrote (all_sent run.uid run.command run.read run.replies) × (run.printed ≡ []) × ConverseStops run.command run.read run.replies old new why × (after.faults ≡ out.faults)

-- all was sent, and the output failed after a prefix of what is to be printed
abbrev pub Unprinted : Traffic → Output → Output → LinkState → LinkState → Type 0
Unprinted run out after old new =
    (end : ScriptEnd) × (print run.command run.replies ≡ Some end) × (run.wrote ≡ all_sent run.uid run.command run.read run.replies) × IsFront run.printed end.text × IsStill old new
    × Rose out.faults after.faults

-- why a run that began to dial ended so
abbrev pub RunEnds : Traffic → Output → Output → LinkState → LinkState → ToolStatus → Type 0
RunEnds run out after old new status.Done = Finished run out after old new script.Done
RunEnds run out after old new status.NotFound = Finished run out after old new script.NotFound
RunEnds run out after old new status.Locked = Finished run out after old new script.Locked
RunEnds run out after old new (status.Refused name) = Finished run out after old new (script.Refused name)
RunEnds run out after old new (status.BadReply bad.OtherValues) = Finished run out after old new script.BadReply
RunEnds run out after old new (status.BadReply cause) = Stopped run out after old new (stop.BadReply cause)
RunEnds run out after old new status.LinkFault = Stopped run out after old new stop.LinkFault
RunEnds run out after old new status.TooLarge = Stopped run out after old new stop.TooLarge
RunEnds run out after old new status.Memory = Stopped run out after old new stop.Memory
RunEnds run out after old new status.OutputFault = Unprinted run out after old new
RunEnds run out after old new status.Usage = ⊥
RunEnds run out after old new status.InputFault = ⊥

-- a run from its dialling on
pub record RunsScript (path : List ℕ) (uid : ℕ) (command : Command) (out after : Output) (old new : LinkState) (how : ToolStatus) : Type 0 where
  pub read : List ℕ
  pub wrote : List ℕ
  pub printed : List ℕ
  pub replies : List Reply
  pub linked : Linked path old new read wrote
  pub gave : Gave out after printed
  pub heard : AreHeard command (hearing.talk false read).end replies
  pub ends : RunEnds (record { uid = uid; command = command; read = read; wrote = wrote; printed = printed; replies = replies }) out after old new how

-- ---- with its words and its input

-- the secret for these words of a command: all of the input for `store`, and nothing for any other, which doesn't read it
abbrev pub Gets : List (List ℕ) → Input → Input → Result (List ℕ) Stop → Type 0
Gets command old new (Ok secret) = ((stores command ≡ true) × ReadsSecret old new (Ok secret)) ⊎ ((stores command ≡ false) × (secret ≡ []) × (new ≡ old))
Gets command old new (Err why) = (stores command ≡ true) × ReadsSecret old new (Err why)

-- the words are a line of `store`
abbrev pub IsStoreLine : List (List ℕ) → Type 0
IsStoreLine words = (path : List ℕ) × (uid : ℕ) × (rest : List (List ℕ)) × IsLine words path uid rest × (stores rest ≡ true)

-- why a run ended before it dialled, when these bytes of the input were read
abbrev pub QuitsFor : List (List ℕ) → List ℕ → Input → Input → ToolStatus → Type 0
QuitsFor words given from to status.Usage = IsNoLine words × (to ≡ from)
QuitsFor words given from to status.InputFault = IsStoreLine words × Rose from.faults to.faults
QuitsFor words given from to status.TooLarge = IsStoreLine words × (most_secret < length given) × (to.faults ≡ from.faults)
QuitsFor words given from to status.Memory = to.faults ≡ from.faults
QuitsFor words given from to _ = ⊥

-- it dialled nothing and printed nothing
pub record Quits (words : List (List ℕ)) (from to : Input) (out after : Output) (old new : LinkState) (how : ToolStatus) : Type 0 where
  pub given : List ℕ
  pub took : Took from to given
  pub output : after ≡ out
  pub link : new ≡ old
  pub cause : QuitsFor words given from to how

-- it ran the command that its words are, with its secret
pub record Ran (words : List (List ℕ)) (from to : Input) (out after : Output) (old new : LinkState) (how : ToolStatus) : Type 0 where
  pub path : List ℕ
  pub uid : ℕ
  pub rest : List (List ℕ)
  pub line : IsLine words path uid rest
  pub secret : List ℕ
  pub input : Gets rest from to (Ok secret)
  pub command : Command
  pub is : command_of rest secret ≡ Some command
  pub runs : RunsScript path uid command out after old new how

-- a whole run
abbrev pub ToolRuns : List (List ℕ) → Input → Input → Output → Output → LinkState → LinkState → ToolStatus → Type 0
ToolRuns words from to out after old new how = Quits words from to out after old new how ⊎ Ran words from to out after old new how
