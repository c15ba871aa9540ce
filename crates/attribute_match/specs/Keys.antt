-- A key of texts: 64 bits of theirs, so that two rarely have the same key by chance. A search by a key compares few others.
use Rattle.std.specs.Prelude.{ℕ, ◌+◌, ◌*◌, ◌%◌, List, [], ◌∷◌}

-- a key with a number mixed in
unfoldable pub mixed_in : ℕ → ℕ → ℕ
mixed_in key number = (key * 1099511628211 + number) % 18446744073709551616

-- a key with bytes mixed in, one after another
abbrev pub mixed : ℕ → List ℕ → ℕ
mixed key [] = key
mixed key (byte ∷ bytes) = mixed (mixed_in key byte) bytes
