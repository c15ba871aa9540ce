-- What a look at the next message finds, and what is found after messages of ignored types.
use Rattle.std.specs.Prelude.{◌≡◌, ℕ, ◌≤◌, List, [], ◌∷◌, length, take, drop, None}
use Rattle.dbus_types.specs.declared.message.Message.{Message}
use Rattle.dbus_framing.specs.declared.violation.Violation.{Violation}
use Rattle.dbus_framing.specs.declared.progress.Progress.{Progress}
use Rattle.dbus_framing.specs.declared.framer.Look.{Look}
use Rattle.dbus_framing.specs.declared.framer.Look.TheVariants as looks
use Rattle.dbus_framing.specs.declared.framer.Found.{Found}
use Rattle.dbus_framing.specs.Messages.{Parts, parts_of, IsMessage}
use Rattle.dbus_framing.specs.Streams.{Cut, BeginsNone, Breaks, BreaksNone}
use Rattle.dbus_framing.specs.Framers.{IsKnown, broken_in}

-- the bytes don't begin with a complete message, and no violation shows
pub record SeesNothing (most : ℕ) (bytes : List ℕ) (progress : Progress) : Type 0 where
  pub no_message : BeginsNone most bytes
  pub no_violation : BreaksNone most bytes
  pub known : IsKnown most bytes progress
  pub unbroken : broken_in progress ≡ None

-- the bytes break a rule
pub record SeesViolation (most : ℕ) (bytes : List ℕ) (cause : Violation) : Type 0 where
  pub no_message : BeginsNone most bytes
  pub breaks : Breaks most bytes cause

-- the bytes begin with a complete message
pub record SeesMessage (most : ℕ) (bytes : List ℕ) (message : Message) : Type 0 where
  pub fits : message.length ≤ length bytes
  pub spelled : IsMessage most (take message.length bytes) (parts_of message)

-- what a look at the bytes sees
abbrev pub Sees : ℕ → List ℕ → Look → Type 0
Sees most bytes (looks.Waits progress) = SeesNothing most bytes progress
Sees most bytes (looks.Broken cause) = SeesViolation most bytes cause
Sees most bytes (looks.Whole message) = SeesMessage most bytes message

-- the messages that a look returns
abbrev pub seen_in : Look → List Parts
seen_in (looks.Waits progress) = []
seen_in (looks.Broken cause) = []
seen_in (looks.Whole message) = parts_of message ∷ []

-- what a look finds after the messages that were consumed
abbrev pub SeesBehind : ℕ → List ℕ → Look → Type 0
SeesBehind most bytes (looks.Waits progress) = SeesNothing most bytes progress
SeesBehind most bytes (looks.Broken cause) = SeesViolation most bytes cause
SeesBehind most bytes (looks.Whole message) = Unit {0}

-- This many bytes are the messages of ignored types, and the message that is returned, if there is one.
pub record Finds (most : ℕ) (bytes : List ℕ) (found : Found) : Type 0 where
  pub fits : found.taken ≤ length bytes
  pub cut : Cut most bytes (seen_in found.look) (drop found.taken bytes)
  pub sees : SeesBehind most (drop found.taken bytes) found.look
