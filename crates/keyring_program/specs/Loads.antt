-- One run of `load`: what its client sent, what was written to it, and what was counted over that.
use Rattle.std.specs.Prelude.{◌≡◌, ℕ, true, List, [], Option, Some}
use Rattle.std.specs.Io.KnownBytes.{Appends}
use Rattle.kr_outside.specs.Faults.{Rose}
use Rattle.kr_outside.specs.Written.{AppendsFront}
use Rattle.lone_desk.specs.service_history.specs.service_machine.specs.Rows.{no_contents}
use Rattle.lone_desk.specs.service_events.specs.Replay.{Legal}
use Rattle.lone_desk.specs.service_events.specs.Single.{AllFaultless, AreFinished, TimedRequest, requests_of}
use Rattle.lone_desk.specs.service_tables.specs.Opened.{opened_state}
use Rattle.lone_desk.specs.service_tables.specs.Sound.{AreSoundContents}
use Rattle.service_hub.specs.connection_worker.specs.Arrivals.{FirstRequests}
use Rattle.service_hub.specs.connection_worker.specs.Fitting.{FitTogether}
use Rattle.service_hub.specs.connection_worker.specs.Handshakes.{most_bytes}
use Rattle.service_hub.specs.connection_worker.specs.Streams.{Input, Output}
use Rattle.load_plan.specs.declared.counts.Counts.{Counts}
use Rattle.load_plan.specs.Plan.{plan}
use Rattle.load_plan.specs.Sending.{conversation}
use Rattle.load_plan.specs.Answered.{CountsReplies}
use Rattle.load_plan.specs.Lines.{summary}
use Rattle.load_laws.specs.Outputs.{all_counted}
use Rattle.keyring_program.specs.Events.{events_of, joined, the_connection}
use Rattle.keyring_program.specs.Serves.{Serves}
use Rattle.keyring_program.specs.declared.status.Status.{Status}
use Rattle.keyring_program.specs.declared.status.Status.TheVariants as status

-- the user of the client
abbrev pub the_user : ℕ
the_user = 0

-- Over a service that starts with nothing, and on a disk that doesn't fail, the outputs of the first requests in these bytes can wait together.
abbrev pub FitsLoad : List ℕ → Type 0
FitsLoad bytes =
    (asked : List TimedRequest) → FirstRequests most_bytes bytes (requests_of asked) → AreSoundContents no_contents → Legal (opened_state no_contents) (events_of no_contents asked) → AllFaultless asked
    → AreFinished the_connection (joined no_contents) asked → FitTogether the_connection (joined no_contents) asked

-- A service whose disk is steady, and which started with nothing, served a client to its end, as its only connection and under this seed: the
-- client sent the first bytes, and the second ones were written to it.
pub record HasTalked (seed sent written : List ℕ) : Type 0 where
  pub coming : Option (ℕ → ℕ)
  pub from : Input
  pub to : Input
  pub sink : Output
  pub after : Output
  pub sends : from.left ≡ Some sent
  pub starts : sink.written ≡ Some []
  pub wrote : after.written ≡ Some written
  pub serves : Serves the_user seed coming from to sink after true no_contents status.Done

-- These are the four lines about a load of so many items with this number as its seed: what was counted over all that was written to a
-- client that sent its calls. That is all of them: each item was made, found and read as it was stored, and no error was returned.
pub record Loads (items number : ℕ) (seed text : List ℕ) : Type 0 where
  pub written : List ℕ
  pub counts : Counts
  pub talked : HasTalked seed (conversation the_user (plan items number)) written
  pub counted : CountsReplies number (plan items number) written counts
  pub all : counts ≡ all_counted items
  pub text_is : text ≡ summary counts

-- Done: the four lines were written. WriteFault: the output's count of faults rose, and a prefix of them was written. Otherwise nothing was
-- written, and memory ran out.
abbrev pub LoadEnds : ℕ → ℕ → List ℕ → Output → Output → Status → Type 0
LoadEnds items number seed old new status.Done = (text : List ℕ) × Loads items number seed text × Appends old.written new.written text
LoadEnds items number seed old new status.WriteFault =
    (text : List ℕ) × Loads items number seed text × AppendsFront old.written new.written text × Rose old.faults new.faults
LoadEnds items number seed old new ended = (new ≡ old) × (ended ≡ status.Memory)
