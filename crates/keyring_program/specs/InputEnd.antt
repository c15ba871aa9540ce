-- The end of an input.
use Rattle.std.specs.Prelude.{◌≡◌, ℕ, List, [], Option, Some}

-- no bytes are left, as far as the source reports them
abbrev pub HasEnded : Option (List ℕ) → Type 0
HasEnded left = (bytes : List ℕ) → left ≡ Some bytes → bytes ≡ []
