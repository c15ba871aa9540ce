-- Readings and writings one after the other.
use Rattle.std.proofs.Common.{ℕ, ◌≤◌, List, [], ◌++◌, refl, sym, ◌∙◌, ap, arith, append_assoc, append-nil}
use Rattle.std.proofs.KnownBytes.{Appends-nil, Appends-trans, Consumes-nil, Consumes-trans}
use Rattle.kr_outside.proofs.FaultLemmas.{KeepsSteady-none, KeepsSteady-trans}
use Rattle.connection_worker.specs.Streams.{Input, Output, Took, Gave, GaveFront}

pub Took-none : (i : Input) → Took i i []
Took-none i = record { consumed = Consumes-nil i.left; later = omega arith; steady = KeepsSteady-none i.is_steady i.faults; closed = refl }

pub Took-trans : (a b c : Input) (x y : List ℕ) → Took a b x → Took b c y → Took a c (x ++ y)
Took-trans a b c x y p q = record {
  consumed = Consumes-trans a.left b.left c.left x y p.consumed q.consumed;
  later = omega (arith, p.later, q.later);
  steady = KeepsSteady-trans a.is_steady b.is_steady c.is_steady a.faults b.faults c.faults p.steady q.steady;
  closed = q.closed ∙ p.closed;
}

pub Gave-none : (o : Output) → Gave o o []
Gave-none o = record { appended = Appends-nil o.written; still = refl; steady = KeepsSteady-none o.is_steady o.faults; closed = refl }

pub Gave-trans : (a b c : Output) (x y : List ℕ) → Gave a b x → Gave b c y → Gave a c (x ++ y)
Gave-trans a b c x y p q = record {
  appended = Appends-trans a.written b.written c.written x y p.appended q.appended;
  still = q.still ∙ p.still;
  steady = KeepsSteady-trans a.is_steady b.is_steady c.is_steady a.faults b.faults c.faults p.steady q.steady;
  closed = q.closed ∙ p.closed;
}

-- the count of faults is no lower afterwards
pub Gave-later : (a b : Output) (x : List ℕ) → Gave a b x → a.faults ≤ b.faults
Gave-later a b x p = omega (arith, p.still)

-- all of the bytes are a prefix of them
pub GaveFront-whole : (a b : Output) (x : List ℕ) → Gave a b x → GaveFront a b x
GaveFront-whole a b x p = record {
  appended = record { front = x; rest = []; whole = sym (append-nil x); put = p.appended };
  later = Gave-later a b x p;
  steady = p.steady;
  closed = p.closed;
}

-- a prefix is one of more bytes
pub GaveFront-more : (a b : Output) (x y : List ℕ) → GaveFront a b x → GaveFront a b (x ++ y)
GaveFront-more a b x y p = record {
  appended = record {
    front = p.appended.front;
    rest = p.appended.rest ++ y;
    whole = ap (λ l. l ++ y) p.appended.whole ∙ append_assoc p.appended.front p.appended.rest y;
    put = p.appended.put;
  };
  later = p.later;
  steady = p.steady;
  closed = p.closed;
}

-- a prefix after bytes that were written completely
pub GaveFront-behind : (a b c : Output) (x y : List ℕ) → Gave a b x → GaveFront b c y → GaveFront a c (x ++ y)
GaveFront-behind a b c x y p q = record {
  appended = record {
    front = x ++ q.appended.front;
    rest = q.appended.rest;
    whole = ap (λ l. x ++ l) q.appended.whole ∙ sym (append_assoc x q.appended.front q.appended.rest);
    put = Appends-trans a.written b.written c.written x q.appended.front p.appended q.appended.put;
  };
  later = omega (arith, p.still, q.later);
  steady = KeepsSteady-trans a.is_steady b.is_steady c.is_steady a.faults b.faults c.faults p.steady q.steady;
  closed = q.closed ∙ p.closed;
}
