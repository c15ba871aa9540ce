-- Reading the first line of an input.
use Rattle.std.proofs.Common.{◌≡◌, ℕ, ◌≤◌, ◌<◌, ◌⊎◌, Bool, IsFalse, List, [], ◌∷◌, ◌++◌, Option, length, Contains, inl, inr, arith, length-append}
use Rattle.std.proofs.lemmas.List.Elements.{Contains-push_cases}
use Rattle.std.specs.Io.KnownBytes.{Consumes}
use Rattle.std.proofs.KnownBytes.{Consumes-nil, Consumes-trans}
use Rattle.kr_outside.specs.Faults.{KeepsSteady}
use Rattle.kr_outside.proofs.FaultLemmas.{KeepsSteady-none, KeepsSteady-trans}
use Rattle.keyring_program.specs.FirstLine.{IsOneLine}

-- these bytes were read, no line feed is among them, and the input is open
pub record HasRead (old new : Option (List ℕ)) (before now : ℕ) (was is is_closed : Bool) (line : List ℕ) : Type 0 where
  pub short : length line ≤ 4096
  pub one_line : IsOneLine line
  pub took : Consumes old new line
  pub later : before ≤ now
  pub steady : KeepsSteady was is before now
  pub is_open : IsFalse is_closed

pub HasRead-none : (old : Option (List ℕ)) (count : ℕ) (is is_closed : Bool) → IsFalse is_closed → HasRead old old count count is is is_closed []
HasRead-none old count is is_closed is_open = record {
  short = omega arith;
  one_line = λ has. grind (arith, has);
  took = Consumes-nil old;
  later = omega arith;
  steady = KeepsSteady-none is count;
  is_open = is_open;
}

-- a line feed is neither in the line nor after it
neither : (line : List ℕ) (byte : ℕ) → IsOneLine line → ¬ (byte ≡ 10) → Contains line 10 ⊎ (byte ≡ 10) → ⊥
neither line byte one other (inl before) = one before
neither line byte one other (inr it) = other it

one-more : (line : List ℕ) (byte : ℕ) → IsOneLine line → ¬ (byte ≡ 10) → IsOneLine (line ++ byte ∷ [])
one-more line byte one other = λ has. neither line byte one other (Contains-push_cases line byte 10 has)

-- one more byte was read, and it is no line feed
pub HasRead-more : (old mid new : Option (List ℕ)) (x y z : ℕ) (a b c was_closed is_closed : Bool) (line : List ℕ) (byte : ℕ)
    → HasRead old mid x y a b was_closed line → length line < 4096 → ¬ (byte ≡ 10) → Consumes mid new (byte ∷ []) → y ≤ z → KeepsSteady b c y z → IsFalse is_closed
    → HasRead old new x z a c is_closed (line ++ byte ∷ [])
HasRead-more old mid new x y z a b c was_closed is_closed line byte r few other took later steady is_open = record {
  short = omega (arith, length-append line (byte ∷ []), few);
  one_line = one-more line byte r.one_line other;
  took = Consumes-trans old mid new line (byte ∷ []) r.took took;
  later = omega (arith, r.later);
  steady = KeepsSteady-trans a b c x y z r.steady steady;
  is_open = is_open;
}
