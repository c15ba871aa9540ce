-- What a call that succeeds gives, for whatever follows from it.
use Rattle.std.proofs.Common.{Result, Ok, Err, OnOk}

pub on_ok : {T E : Type 0} (r : Result T E) (P Q : Type 0) → OnOk r P → (P → Q) → OnOk r Q
on_ok (Ok v) P Q h go = go h
on_ok (Err e) P Q h go = tt
