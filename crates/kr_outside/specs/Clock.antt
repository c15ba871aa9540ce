-- The moments of a clock that reports them.
use Rattle.std.specs.Prelude.{◌≡◌, ℕ, ◌+◌, ⊤, Option, None, Some}

-- of the moments that are reported, the first was returned, and the rest are still to come
abbrev pub GivesFirst : Option (ℕ → ℕ) → ℕ → Option (ℕ → ℕ) → Type 0
GivesFirst None moment new = ⊤
GivesFirst (Some coming) moment None = ⊥
GivesFirst (Some coming) moment (Some rest) = (moment ≡ coming 0) × ((k : ℕ) → rest k ≡ coming (k + 1))
