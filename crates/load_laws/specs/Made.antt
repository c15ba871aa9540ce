-- The values of a function on numbers.
use Rattle.std.specs.Prelude.{ℕ, zero, suc, List, [], ◌∷◌}

-- so many of the values of a function on numbers, from this number on
abbrev pub made : {A : Type 0} → (ℕ → A) → ℕ → ℕ → List A
made f start zero = []
made f start (suc n) = f start ∷ made f (suc start) n
