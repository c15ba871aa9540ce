-- Reading the input, one piece after the other.
use Rattle.std.proofs.Common.{◌≡◌, ◌≤◌, ℕ, List, [], ◌++◌, arith, refl, sym, ◌∙◌, append-nil}
use Rattle.std.specs.Io.KnownBytes.{Keeps}
use Rattle.std.proofs.KnownBytes.{Consumes-kept, Consumes-nil, Consumes-trans}
use Rattle.kr_outside.specs.Faults.{KeepsSteady}
use Rattle.kr_outside.proofs.FaultLemmas.{KeepsSteady-none, KeepsSteady-trans}
use Rattle.client_tool.specs.Streams.{Input, Took}

pub Took-none : (i : Input) → Took i i []
Took-none i = record { consumed = Consumes-nil i.left; later = omega arith; steady = KeepsSteady-none i.is_steady i.faults; closed = refl }

pub Took-trans : (a b c : Input) (x y : List ℕ) → Took a b x → Took b c y → Took a c (x ++ y)
Took-trans a b c x y p q = record {
  consumed = Consumes-trans a.left b.left c.left x y p.consumed q.consumed;
  later = omega (arith, p.later, q.later);
  steady = KeepsSteady-trans a.is_steady b.is_steady c.is_steady a.faults b.faults c.faults p.steady q.steady;
  closed = q.closed ∙ p.closed;
}

pub Took-more : (a b c : Input) (x : List ℕ) → Took a b x → Took b c [] → Took a c x
Took-more a b c x p q = let e : x ++ [] ≡ x = append-nil x in rw (sym e) (Took-trans a b c x [] p q)

-- one reading that gave nothing
pub took-kept : (a b : Input) → Keeps a.left b.left → a.faults ≤ b.faults → KeepsSteady a.is_steady b.is_steady a.faults b.faults → b.is_closed ≡ a.is_closed → Took a b []
took-kept a b kept later steady closed = record {
  consumed = Consumes-kept a.left a.left b.left [] (Consumes-nil a.left) kept;
  later = later;
  steady = steady;
  closed = closed;
}
