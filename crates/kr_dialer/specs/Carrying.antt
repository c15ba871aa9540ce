-- What was read from a dialer and written to it between two moments.
use Rattle.std.specs.Prelude.{◌≡◌, ℕ, ◌≤◌, ◌++◌, Bool, List, [], length, take, Option, Result, Ok, Err}
use Rattle.std.specs.Io.KnownBytes.{Appends, Consumes, IsAtEnd}
use Rattle.kr_outside.specs.Faults.{Rose, KeepsSteady}

-- a dialer, as contracts see it
pub record LinkState : Type 0 where
  pub dialled : Option (List ℕ)
  pub left : Option (List ℕ)
  pub written : Option (List ℕ)
  pub faults : ℕ
  pub is_steady : Bool

-- a dialer, by the meanings of its type
abbrev pub link_of : {D : Type 0} → (D → Option (List ℕ)) → (D → Option (List ℕ)) → (D → Option (List ℕ)) → (D → ℕ) → (D → Bool) → D → LinkState
link_of dialled left written faults is_steady dialer =
    record { dialled = dialled dialer; left = left dialer; written = written dialer; faults = faults dialer; is_steady = is_steady dialer }

-- these bytes were read and these were written; nothing was dialled
pub record Carried (old new : LinkState) (read wrote : List ℕ) : Type 0 where
  pub consumed : Consumes old.left new.left read
  pub appended : Appends old.written new.written wrote
  pub dialled : new.dialled ≡ old.dialled
  pub later : old.faults ≤ new.faults
  pub steady : KeepsSteady old.is_steady new.is_steady old.faults new.faults

-- no call failed: the count of faults didn't rise
abbrev pub IsStill : LinkState → LinkState → Type 0
IsStill old new = new.faults ≡ old.faults

-- all of the piece was written; or a write failed after a prefix of it
abbrev pub SendsAll : {E : Type 0} → List ℕ → LinkState → LinkState → Result Unit E → Type 0
SendsAll piece old new (Ok done) = Carried old new [] piece × IsStill old new
SendsAll piece old new (Err failed) = (front : List ℕ) × (rest : List ℕ) × (piece ≡ front ++ rest) × Carried old new [] front × Rose old.faults new.faults

-- the first bytes of the piece were read, none of them only at the end of the input; or a read failed
abbrev pub ReadsPiece : {E : Type 0} → List ℕ → LinkState → LinkState → Result ℕ E → Type 0
ReadsPiece piece old new (Ok count) = (count ≤ length piece) × Carried old new (take count piece) [] × IsStill old new × (count ≡ 0 → IsAtEnd new.left)
ReadsPiece piece old new (Err failed) = Carried old new [] [] × Rose old.faults new.faults

-- the list begins with these
abbrev pub IsFront : List ℕ → List ℕ → Type 0
IsFront front whole = (rest : List ℕ) × (whole ≡ front ++ rest)
