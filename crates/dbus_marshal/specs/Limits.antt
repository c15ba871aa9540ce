-- D-Bus Specification, "Marshaling", "Type System": how long an array may be, and how deep a value. Each number is
-- written here alone.
use Rattle.std.specs.Prelude.{ℕ}

-- the most bytes that the elements of an array may have
abbrev pub array_limit : ℕ
array_limit = 67108864

-- how many arrays, structs, dict entries and variants may be open at once
abbrev pub depth_limit : ℕ
depth_limit = 64
