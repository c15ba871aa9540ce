-- The bytes of a secret.
use Rattle.std.proofs.Common.{ℕ, ◌<◌, List, [], ◌∷◌, get_or, suc}
use Rattle.dbus_marshal.specs.Wire.{AreBytes}

-- each element is a byte
pub each_byte : (bytes : List ℕ) → ((i : ℕ) → get_or bytes i 0 < 256) → AreBytes bytes
each_byte [] fit = tt
each_byte (byte ∷ bytes) fit = (fit 0, each_byte bytes (λ i. fit (suc i)))
