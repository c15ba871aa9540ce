-- A count of faults over several calls.
use Rattle.std.proofs.Common.{ℕ, Bool, refl, ◌∙◌}
use Rattle.kr_outside.specs.Faults.{KeepsSteady}

-- if no call was made
pub KeepsSteady-none : (is : Bool) (count : ℕ) → KeepsSteady is is count count
KeepsSteady-none is count = record { same = refl; still = λ _. refl }

-- one call after another
pub KeepsSteady-trans : (a b c : Bool) (x y z : ℕ) → KeepsSteady a b x y → KeepsSteady b c y z → KeepsSteady a c x z
KeepsSteady-trans a b c x y z p q = record {
  same = q.same ∙ p.same;
  still = λ s. q.still (p.same ∙ s) ∙ p.still s;
}
