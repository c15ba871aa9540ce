-- Writing a piece by several calls.
use Rattle.std.proofs.Common.{◌≡◌, ℕ, ◌≤◌, Bool, IsFalse, List, [], ◌++◌, Option, take, drop, length, refl, sym, ◌∙◌, ap, append_assoc, take-append-drop, length-drop, ◌-◌, arith}
use Rattle.std.proofs.lemmas.List.{take_all}
use Rattle.std.specs.Io.KnownBytes.{Appends}
use Rattle.std.proofs.KnownBytes.{Appends-nil, Appends-trans}
use Rattle.kr_outside.specs.Faults.{KeepsSteady}
use Rattle.kr_outside.proofs.FaultLemmas.{KeepsSteady-none, KeepsSteady-trans}

-- all of the piece except this rest was written, without a failure, and the sink is open
pub record WroteAllBut (old new : Option (List ℕ)) (before now : ℕ) (was is is_closed : Bool) (piece rest : List ℕ) : Type 0 where
  pub front : List ℕ
  pub whole : piece ≡ front ++ rest
  pub put : Appends old new front
  pub later : before ≤ now
  pub still : now ≡ before
  pub steady : KeepsSteady was is before now
  pub is_open : IsFalse is_closed

pub WroteAllBut-none : (old : Option (List ℕ)) (count : ℕ) (is is_closed : Bool) (piece : List ℕ) → IsFalse is_closed
    → WroteAllBut old old count count is is is_closed piece piece
WroteAllBut-none old count is is_closed piece is_open = record {
  front = [];
  whole = refl;
  put = Appends-nil old;
  later = omega arith;
  still = refl;
  steady = KeepsSteady-none is count;
  is_open = is_open;
}

-- `&rest[n..]`, as it is seen
drop_whole : (n : ℕ) (rest : List ℕ) → take (length rest - n) (drop n rest) ≡ drop n rest
drop_whole n rest = take_all (length rest - n) (drop n rest) (omega (arith, length-drop n rest))

-- one more write took the first n bytes of the rest
pub WroteAllBut-more : (old mid new : Option (List ℕ)) (x y z : ℕ) (a b c was_closed is_closed : Bool) (piece rest : List ℕ) (n : ℕ)
    → WroteAllBut old mid x y a b was_closed piece rest → Appends mid new (take n rest) → y ≤ z → z ≡ y → KeepsSteady b c y z → IsFalse is_closed
    → WroteAllBut old new x z a c is_closed piece (take (length rest - n) (drop n rest))
WroteAllBut-more old mid new x y z a b c was_closed is_closed piece rest n w put later still steady is_open = record {
  front = w.front ++ take n rest;
  whole = rw (drop_whole n rest) (w.whole ∙ ap (λ l. w.front ++ l) (sym (take-append-drop n rest)) ∙ sym (append_assoc w.front (take n rest) (drop n rest)));
  put = Appends-trans old mid new w.front (take n rest) w.put put;
  later = omega (arith, w.later);
  still = still ∙ w.still;
  steady = KeepsSteady-trans a b c x y z w.steady steady;
  is_open = is_open;
}
