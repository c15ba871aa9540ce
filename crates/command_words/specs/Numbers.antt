-- Numbers on a command line (docs/SERVICE.md, "Command line").
use Rattle.std.specs.Prelude.{◌≡◌, ℕ, ◌^◌, ◌<◌, List, decimal}

-- the text is a number of so many bits in decimal digits, without a sign or a leading zero
pub record IsNumber (bits number : ℕ) (text : List ℕ) : Type 0 where
  pub fits : number < 2 ^ bits
  pub digits : text ≡ decimal number

-- the text is no such number
abbrev pub IsNoNumber : ℕ → List ℕ → Type 0
IsNoNumber bits text = (number : ℕ) → ¬ (IsNumber bits number text)
