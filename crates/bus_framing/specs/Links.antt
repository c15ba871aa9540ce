-- What is heard on a link, message by message.
use Rattle.std.specs.Prelude.{◌≡◌, ◌≢◌, ℕ, ◌+◌, ◌-◌, ◌≤◌, nat_eq, ◌&&◌, Bool, List, [], ◌∷◌, ◌++◌, length, drop}
use Rattle.dbus_framing.specs.declared.violation.FrameRefused.{FrameRefused}
use Rattle.dbus_framing.specs.declared.violation.FrameRefused.TheVariants as refused
use Rattle.bus_framing.specs.Looks.{Said, waits, breaks, passes, hears, look_at}

-- the bytes that no message has consumed, and how many of the next bytes belong to a body that is skipped
pub record Linking : Type 0 where
  pub left : List ℕ
  pub debt : ℕ

-- nothing was fed
abbrev pub at_start : Linking
at_start = record { left = []; debt = 0 }

-- more bytes come
abbrev pub fed_with : List ℕ → Linking → Linking
fed_with piece from = record { left = from.left ++ drop from.debt piece; debt = from.debt - length piece }

-- what is after a message of this many bytes, of which some may not have come yet
abbrev pub beyond : (size : ℕ) → List ℕ → Linking
beyond size bytes = record { left = drop size bytes; debt = size - length bytes }

-- while a body is skipped, no byte is held
abbrev pub IsLinked : Linking → Type 0
IsLinked it = it.debt ≢ 0 → it.left ≡ []

-- what a framer guarantees of the bytes that it holds, of how many of them messages have consumed, and of how many are skipped
pub record IsHeld (fed : List ℕ) (start skipped : ℕ) : Type 0 where
  pub within : start ≤ length fed
  pub linked : skipped ≢ 0 → drop start fed ≡ []

-- all bytes are those of complete messages
abbrev pub is_between : Linking → Bool
is_between it = nat_eq it.debt 0 && nat_eq (length it.left) 0

-- messages that aren't heard are passed over
pub data Passes (from : Linking) : Linking → Type 0 where
  here : Passes from from
  on : (mid : Linking) (size : ℕ) → Passes from mid → look_at mid.left ≡ passes size → Passes from (beyond size mid.left)

-- more bytes are awaited
pub record Waits (from to : Linking) : Type 0 where
  pub passed : Passes from to
  pub awaits : look_at to.left ≡ waits

-- a message is heard
pub record HearsNext (from : Linking) (said : Said) (to : Linking) : Type 0 where
  pub mid : Linking
  pub size : ℕ
  pub passed : Passes from mid
  pub heard : look_at mid.left ≡ hears size said
  pub behind : to ≡ beyond size mid.left

-- a violation shows after the messages that aren't heard, or memory ran out
abbrev pub IsRefusal : Linking → FrameRefused → Linking → Type 0
IsRefusal from refused.OutOfMemory to = Passes from to
IsRefusal from (refused.Violation cause) to = Passes from to × (look_at to.left ≡ breaks cause)

-- what is heard, one message after the other
pub data AreHeard (from : Linking) : List Said → Linking → Type 0 where
  none : (to : Linking) → Passes from to → AreHeard from [] to
  next : (mid to : Linking) (saids : List Said) (said : Said) → AreHeard from saids mid → HearsNext mid said to → AreHeard from (saids ++ said ∷ []) to
