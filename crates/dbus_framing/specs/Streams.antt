-- A stream of messages (D-Bus Specification, "Message Format"): spellings one after the other, and a rest.
use Rattle.std.specs.Prelude.{◌≡◌, ℕ, ◌≤◌, nat_le, List, [], ◌∷◌, ◌++◌, length, take, filter, Bool, Ok, Err}
use Rattle.dbus_framing.specs.declared.violation.Violation.{Violation}
use Rattle.dbus_framing.specs.declared.head.Head.{Head}
use Rattle.dbus_framing.specs.Messages.{Parts, IsMessage, head_of, message_at}

-- lists one after the other
abbrev pub joined : List (List ℕ) → List ℕ
joined [] = []
joined (spelling ∷ spellings) = spelling ++ joined spellings

-- each spelling is that of the message with the same index
abbrev pub AreMessages : ℕ → List (List ℕ) → List Parts → Type 0
AreMessages most [] [] = Unit {0}
AreMessages most (spelling ∷ spellings) (parts ∷ messages) = IsMessage most spelling parts × AreMessages most spellings messages
AreMessages most [] (parts ∷ messages) = ⊥
AreMessages most (spelling ∷ spellings) [] = ⊥

-- the types 1 to 4 are those of a call, a return, an error and a signal; messages of other types are ignored
abbrev pub is_kept : Parts → Bool
is_kept parts = nat_le parts.kind 4

-- The bytes are spellings one after the other, and then the rest. The messages are those of the spellings
-- that aren't ignored.
pub record Cut (most : ℕ) (bytes : List ℕ) (messages : List Parts) (rest : List ℕ) : Type 0 where
  pub spellings : List (List ℕ)
  pub spelled : List Parts
  pub parted : bytes ≡ joined spellings ++ rest
  pub each : AreMessages most spellings spelled
  pub kept : messages ≡ filter is_kept spelled

-- no prefix of the bytes is a message
abbrev pub BeginsNone : ℕ → List ℕ → Type 0
BeginsNone most bytes = (spelling behind : List ℕ) (parts : Parts) → bytes ≡ spelling ++ behind → IsMessage most spelling parts → ⊥

-- The stream of the bytes: all complete messages in it, and the rest.
pub record Stream (most : ℕ) (bytes : List ℕ) (messages : List Parts) (rest : List ℕ) : Type 0 where
  pub cut : Cut most bytes messages rest
  pub no_more : BeginsNone most rest

-- The cause is the first violation of the bytes: from the first 16 bytes if it shows there, otherwise from the
-- whole message, whose length they say.
pub data Breaks (most : ℕ) (bytes : List ℕ) (cause : Violation) : Type 0 where
  early : 16 ≤ length bytes → head_of most bytes ≡ Err cause → Breaks most bytes cause
  late : (head : Head) → 16 ≤ length bytes → head_of most bytes ≡ Ok head → head.size ≤ length bytes
      → message_at head.endian (take head.size bytes) ≡ Err cause → Breaks most bytes cause

-- the bytes show no violation
abbrev pub BreaksNone : ℕ → List ℕ → Type 0
BreaksNone most bytes = (cause : Violation) → Breaks most bytes cause → ⊥

-- one call of a framer: a piece was fed, or these messages, one or none, were returned
pub data Turn : Type 0 where
  fed : List ℕ → Turn
  answered : List Parts → Turn

-- all bytes that were fed, the last turn first
abbrev pub fed_in : List Turn → List ℕ
fed_in [] = []
fed_in (fed piece ∷ before) = fed_in before ++ piece
fed_in (answered messages ∷ before) = fed_in before

-- all messages that were returned, the last turn first
abbrev pub answered_in : List Turn → List Parts
answered_in [] = []
answered_in (fed piece ∷ before) = answered_in before
answered_in (answered messages ∷ before) = answered_in before ++ messages

-- A framer to which nothing was fed went through these turns, the last one first, each as its call promises it, and
-- has these bytes left.
abbrev pub LeavesRest : ℕ → List Turn → List ℕ → Type 0
LeavesRest most [] rest = rest ≡ []
LeavesRest most (fed piece ∷ before) rest = (left : List ℕ) × LeavesRest most before left × (rest ≡ left ++ piece)
LeavesRest most (answered messages ∷ before) rest = (left : List ℕ) × LeavesRest most before left × Cut most left messages rest
