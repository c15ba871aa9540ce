-- What contracts see of a framer, and what its type guarantees.
use Rattle.std.specs.Prelude.{◌≡◌, ℕ, ◌+◌, ◌≤◌, ◌<◌, ◌^◌, List, [], ◌∷◌, length, drop, Option, Some, None, Result, Ok, Err}
use Rattle.dbus_types.specs.declared.message.Message.{Message}
use Rattle.dbus_framing.specs.declared.violation.Violation.{Violation}
use Rattle.dbus_framing.specs.declared.violation.FrameRefused.{FrameRefused}
use Rattle.dbus_framing.specs.declared.violation.FrameRefused.TheVariants as refused
use Rattle.dbus_framing.specs.declared.progress.Progress.{Progress}
use Rattle.dbus_framing.specs.declared.progress.Progress.TheVariants as progress
use Rattle.dbus_framing.specs.Messages.{Parts, parts_of, head_of}
use Rattle.dbus_framing.specs.Streams.{Breaks, BreaksNone, Stream}

-- the reader's limit on a message, the bytes that no message has consumed, the violation that was found, and how many
-- bytes are held
pub record Framing : Type 0 where
  pub most : ℕ
  pub rest : List ℕ
  pub broken : Option Violation
  pub held : ℕ

-- a framer with this limit that was fed only these bytes, before they are looked at
abbrev pub just_fed : ℕ → List ℕ → Framing
just_fed most bytes = record { most = most; rest = bytes; broken = None; held = length bytes }

-- at most twice as many bytes are held as no message has consumed
abbrev pub HoldsFew : Framing → Type 0
HoldsFew framing = framing.held ≤ length framing.rest + length framing.rest

-- the violation that was found
abbrev pub broken_in : Progress → Option Violation
broken_in progress.Nothing = None
broken_in (progress.Begun head) = None
broken_in (progress.Broken cause) = Some cause

-- what is known of the bytes that no message has consumed
abbrev pub IsKnown : ℕ → List ℕ → Progress → Type 0
IsKnown most rest progress.Nothing = Unit {0}
IsKnown most rest (progress.Begun head) = (16 ≤ length rest) × (head_of most rest ≡ Ok head)
IsKnown most rest (progress.Broken cause) = Breaks most rest cause

-- What a framer guarantees: the limit, the bytes that it holds, how many of them messages have consumed, which are
-- at most half of them, and what is known of the others.
pub record IsKept (most : ℕ) (fed : List ℕ) (start : ℕ) (progress : Progress) : Type 0 where
  pub few : start + start ≤ length fed
  pub limited : most < 2 ^ 32
  pub known : IsKnown most (drop start fed) progress

-- a framer before and after a violation
pub record Refused (old : Framing) (cause : Violation) (new : Framing) : Type 0 where
  pub stream : Stream old.most old.rest [] new.rest
  pub breaks : Breaks old.most new.rest cause
  pub kept : new.broken ≡ Some cause
  pub most : new.most ≡ old.most

-- If memory runs out, nothing changes. A violation is after the messages of ignored types.
abbrev pub IsRefusal : Framing → FrameRefused → Framing → Type 0
IsRefusal old refused.OutOfMemory new = new ≡ old
IsRefusal old (refused.Violation cause) new = Refused old cause new

-- ---- when each answer comes

-- no messages are complete except those of ignored types, and no violation shows after them
pub record Waits (most : ℕ) (bytes : List ℕ) : Type 0 where
  pub rest : List ℕ
  pub stream : Stream most bytes [] rest
  pub no_violation : BreaksNone most rest

-- no messages are complete except those of ignored types, and this violation shows after them
pub record Stops (most : ℕ) (bytes : List ℕ) (cause : Violation) : Type 0 where
  pub rest : List ℕ
  pub stream : Stream most bytes [] rest
  pub breaks : Breaks most rest cause

-- None is returned, unless memory ran out
abbrev pub NoneComes : Result (Option Message) FrameRefused → Type 0
NoneComes (Ok None) = Unit {0}
NoneComes (Ok (Some message)) = ⊥
NoneComes (Err refused.OutOfMemory) = Unit {0}
NoneComes (Err (refused.Violation cause)) = ⊥

-- the violation is returned, unless memory ran out
abbrev pub ViolationComes : Violation → Result (Option Message) FrameRefused → Type 0
ViolationComes cause (Ok found) = ⊥
ViolationComes cause (Err refused.OutOfMemory) = Unit {0}
ViolationComes cause (Err (refused.Violation other)) = other ≡ cause

-- the message is returned, unless memory ran out
abbrev pub MessageComes : Parts → Result (Option Message) FrameRefused → Type 0
MessageComes parts (Ok None) = ⊥
MessageComes parts (Ok (Some message)) = parts_of message ≡ parts
MessageComes parts (Err refused.OutOfMemory) = Unit {0}
MessageComes parts (Err (refused.Violation cause)) = ⊥

-- Each answer comes whenever it may: None if no message is complete, a violation if it shows, and otherwise
-- the first message.
pub record IsExact (most : ℕ) (bytes : List ℕ) (result : Result (Option Message) FrameRefused) : Type 0 where
  pub none : Waits most bytes → NoneComes result
  pub violation : (cause : Violation) → Stops most bytes cause → ViolationComes cause result
  pub message : (first : Parts) (further : List Parts) (rest : List ℕ) → Stream most bytes (first ∷ further) rest → MessageComes first result
