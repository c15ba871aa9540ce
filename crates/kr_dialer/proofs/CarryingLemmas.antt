-- Calls of a dialer, one after the other.
use Rattle.std.proofs.Common.{◌≡◌, ℕ, ◌≤◌, ◌-◌, List, [], ◌++◌, Option, take, drop, length, refl, sym, ap, ◌∙◌, arith, append_assoc, take-append-drop, length-drop, subst}
use Rattle.std.proofs.lemmas.List.{take_all}
use Rattle.std.specs.Io.KnownBytes.{Appends, Consumes}
use Rattle.std.proofs.KnownBytes.{Appends-nil, Appends-trans, Consumes-nil, Consumes-trans}
use Rattle.kr_outside.specs.Faults.{KeepsSteady}
use Rattle.kr_outside.proofs.FaultLemmas.{KeepsSteady-none, KeepsSteady-trans}
use Rattle.kr_dialer.specs.Carrying.{LinkState, Carried, IsStill}

-- no call was made
pub Carried-none : (l : LinkState) → Carried l l [] []
Carried-none l = record {
  consumed = Consumes-nil l.left;
  appended = Appends-nil l.written;
  dialled = refl;
  later = omega arith;
  steady = KeepsSteady-none l.is_steady l.faults;
}

pub Carried-trans : (a b c : LinkState) (r s x y : List ℕ) → Carried a b r x → Carried b c s y → Carried a c (r ++ s) (x ++ y)
Carried-trans a b c r s x y p q = record {
  consumed = Consumes-trans a.left b.left c.left r s p.consumed q.consumed;
  appended = Appends-trans a.written b.written c.written x y p.appended q.appended;
  dialled = q.dialled ∙ p.dialled;
  later = omega (arith, p.later, q.later);
  steady = KeepsSteady-trans a.is_steady b.is_steady c.is_steady a.faults b.faults c.faults p.steady q.steady;
}

-- all of the piece but this rest was written, and no write failed
pub record SentAllBut (old new : LinkState) (piece rest : List ℕ) : Type 0 where
  pub front : List ℕ
  pub whole : piece ≡ front ++ rest
  pub carried : Carried old new [] front
  pub still : IsStill old new

pub sent-none : (l : LinkState) (piece : List ℕ) → SentAllBut l l piece piece
sent-none l piece = record { front = []; whole = refl; carried = Carried-none l; still = refl }

-- what one write did, with the bytes left as they were
pub wrote-some : (a b : LinkState) (bytes : List ℕ) → Appends a.written b.written bytes → b.left ≡ a.left → b.dialled ≡ a.dialled → a.faults ≤ b.faults
    → KeepsSteady a.is_steady b.is_steady a.faults b.faults → Carried a b [] bytes
wrote-some a b bytes put left dialled later steady = record {
  consumed = subst (λ (l : Option (List ℕ)). Consumes a.left l []) (sym left) (Consumes-nil a.left);
  appended = put;
  dialled = dialled;
  later = later;
  steady = steady;
}

-- `&rest[n..]`, as it is seen
drop_whole : (n : ℕ) (rest : List ℕ) → take (length rest - n) (drop n rest) ≡ drop n rest
drop_whole n rest = take_all (length rest - n) (drop n rest) (omega (arith, length-drop n rest))

-- one more write took the first n bytes of the rest
pub sent-more : (a b c : LinkState) (piece rest : List ℕ) (n : ℕ) → SentAllBut a b piece rest → Carried b c [] (take n rest) → IsStill b c
    → SentAllBut a c piece (take (length rest - n) (drop n rest))
sent-more a b c piece rest n s carried still = record {
  front = s.front ++ take n rest;
  whole = rw (drop_whole n rest) (s.whole ∙ ap (λ l. s.front ++ l) (sym (take-append-drop n rest)) ∙ sym (append_assoc s.front (take n rest) (drop n rest)));
  carried = Carried-trans a b c [] [] s.front (take n rest) s.carried carried;
  still = still ∙ s.still;
}
