-- What was read from the tool's input and written to its output between two moments.
use Rattle.std.specs.Prelude.{◌≡◌, ℕ, ◌≤◌, ◌++◌, Bool, List, Option}
use Rattle.std.specs.Io.KnownBytes.{Appends, Consumes}
use Rattle.kr_outside.specs.Faults.{KeepsSteady}

-- a source, as contracts see it
pub record Input : Type 0 where
  pub left : Option (List ℕ)
  pub faults : ℕ
  pub is_steady : Bool
  pub is_closed : Bool

-- a sink, as contracts see it
pub record Output : Type 0 where
  pub written : Option (List ℕ)
  pub faults : ℕ
  pub is_steady : Bool

-- a source, by the meanings of its type
abbrev pub input_of : {S : Type 0} → (S → Option (List ℕ)) → (S → ℕ) → (S → Bool) → (S → Bool) → S → Input
input_of left faults is_steady is_closed source = record { left = left source; faults = faults source; is_steady = is_steady source; is_closed = is_closed source }

-- a sink, by the meanings of its type
abbrev pub output_of : {S : Type 0} → (S → Option (List ℕ)) → (S → ℕ) → (S → Bool) → S → Output
output_of written faults is_steady sink = record { written = written sink; faults = faults sink; is_steady = is_steady sink }

-- the most bytes that are read at a time
abbrev pub most_read : ℕ
most_read = 65536

-- these bytes were read; the source was neither closed nor opened
pub record Took (old new : Input) (bytes : List ℕ) : Type 0 where
  pub consumed : Consumes old.left new.left bytes
  pub later : old.faults ≤ new.faults
  pub steady : KeepsSteady old.is_steady new.is_steady old.faults new.faults
  pub closed : new.is_closed ≡ old.is_closed

-- these bytes were written
pub record Gave (old new : Output) (bytes : List ℕ) : Type 0 where
  pub appended : Appends old.written new.written bytes
  pub later : old.faults ≤ new.faults
  pub steady : KeepsSteady old.is_steady new.is_steady old.faults new.faults
