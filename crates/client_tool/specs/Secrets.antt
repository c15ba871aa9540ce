-- Reading the secret: all bytes of the input, read to its end.
use Rattle.std.specs.Prelude.{◌≡◌, ℕ, ◌<◌, ◌≤◌, ◌++◌, Bool, true, false, List, [], length, Result, Ok, Err}
use Rattle.std.specs.Io.KnownBytes.{IsAtEnd}
use Rattle.kr_outside.specs.Faults.{Rose}
use Rattle.client_tool.specs.declared.status.Stop.{Stop}
use Rattle.client_tool.specs.declared.status.Stop.TheVariants as stop
use Rattle.client_tool.specs.Streams.{Input, Took}

-- the most bytes of a secret
abbrev pub most_secret : ℕ
most_secret = 524288

-- one piece was read and appended, or the input has ended; or the source failed, or no memory was left
abbrev pub ReadsSome : List ℕ → List ℕ → Input → Input → Result Bool Stop → Type 0
ReadsSome has left old new (Ok true) = (more : List ℕ) × Took old new more × (left ≡ has ++ more) × (new.faults ≡ old.faults)
ReadsSome has left old new (Ok false) = Took old new [] × (left ≡ has) × IsAtEnd new.left × (new.faults ≡ old.faults)
ReadsSome has left old new (Err stop.InputFault) = Took old new [] × Rose old.faults new.faults
ReadsSome has left old new (Err stop.Memory) = (more : List ℕ) × Took old new more × (new.faults ≡ old.faults)
ReadsSome has left old new (Err _) = ⊥

-- why the secret, of which these bytes were read, wasn't read
abbrev pub SecretStops : List ℕ → Input → Input → Stop → Type 0
SecretStops given old new stop.InputFault = Rose old.faults new.faults
SecretStops given old new stop.TooLarge = (most_secret < length given) × (new.faults ≡ old.faults)
SecretStops given old new stop.Memory = new.faults ≡ old.faults
SecretStops given old new _ = ⊥

-- the secret is all that was left; or it wasn't read, and some bytes were
abbrev pub ReadsSecret : Input → Input → Result (List ℕ) Stop → Type 0
ReadsSecret old new (Ok secret) = Took old new secret × IsAtEnd new.left × (length secret ≤ most_secret) × (new.faults ≡ old.faults)
ReadsSecret old new (Err why) = (given : List ℕ) × Took old new given × SecretStops given old new why
