-- What a writer leaves: the bytes that it found, and after them the spelling.
use Rattle.std.specs.Prelude.{ℕ, ◌≡◌, Bool, true, false, List, ◌++◌, Result, Ok, Err}
use Rattle.dbus_marshal.specs.declared.refused.MarshalFault.{MarshalFault}
use Rattle.dbus_marshal.specs.declared.refused.MarshalFault.TheVariants.{TooLong, OutOfMemory}

-- the bytes were written after the old ones, and no array is too long; or one is; or memory ran out
abbrev pub Writes : {X : Type 0} → Result X MarshalFault → List ℕ → Bool → List ℕ → List ℕ → Type 0
Writes (Ok x) bytes short old new = (new ≡ old ++ bytes) × (short ≡ true)
Writes (Err TooLong) bytes short old new = short ≡ false
Writes (Err OutOfMemory) bytes short old new = Unit {0}
