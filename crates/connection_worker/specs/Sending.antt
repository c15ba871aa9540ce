-- Outputs that were taken, made into bytes and written.
use Rattle.std.specs.Prelude.{◌≡◌, ℕ, ◌+◌, ◌%◌, List, length, Result, Ok, Err}
use Rattle.kr_outside.specs.Faults.{Rose}
use Rattle.service_desk.specs.secret_calls.specs.declared.out.Out.{Out}
use Rattle.service_desk.specs.secret_calls.specs.Serials.{last_serial}
use Rattle.connection_worker.specs.declared.ending.End.{End}
use Rattle.connection_worker.specs.declared.ending.End.TheVariants as end
use Rattle.connection_worker.specs.Streams.{Output, StaysAsOpen, Gave, GaveFront}
use Rattle.connection_worker.specs.Written.{spelled_behind}

-- the serials are those after this many outputs
abbrev pub AreBehind : ℕ → ℕ → Type 0
AreBehind taken serials = serials ≡ taken % last_serial

-- the bytes are the messages of the outputs, whatever number of outputs came before them
abbrev pub Spells : List Out → ℕ → ℕ → List ℕ → Type 0
Spells outs old new bytes = (taken : ℕ) → AreBehind taken old → (bytes ≡ spelled_behind taken outs) × AreBehind (taken + length outs) new

-- The outputs were written; or a prefix of them, because of a fault of the sink or for lack of memory.
abbrev pub Sends : List Out → ℕ → ℕ → Output → Output → Result Unit End → Type 0
Sends outs old new from to (Ok done) =
    StaysAsOpen from to × ((taken : ℕ) → AreBehind taken old → Gave from to (spelled_behind taken outs) × AreBehind (taken + length outs) new)
Sends outs old new from to (Err end.WriteFault) = Rose from.faults to.faults × ((taken : ℕ) → AreBehind taken old → GaveFront from to (spelled_behind taken outs))
Sends outs old new from to (Err end.Memory) = (taken : ℕ) → AreBehind taken old → GaveFront from to (spelled_behind taken outs)
Sends outs old new from to (Err _) = ⊥
