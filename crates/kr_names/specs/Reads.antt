-- What a reading of a text returns.
use Rattle.std.specs.Prelude.{Option, Some, None}

-- a value that is returned has the property, and None is returned only if no value has it
abbrev pub Reads : {T : Type 0} → (T → Type 0) → Option T → Type 0
Reads Is None = (value : _) → Is value → ⊥
Reads Is (Some value) = Is value
