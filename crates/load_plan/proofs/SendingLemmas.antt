-- What the client of a load sends.
use Rattle.std.proofs.Common.{◌≡◌, ℕ, suc, ◌<◌, ◌≤◌, Bool, true, false, List, [], ◌∷◌, ◌++◌, length, nat_le, if◌then◌else◌, refl, ap, sym, ◌∙◌, arith}
use Rattle.std.proofs.lemmas.Bool.Decides.{nat_tests}
use Rattle.secret_calls.specs.declared.call.Call.{Call}
use Rattle.client_core.specs.Asked.{spelled, most_bytes}
use Rattle.load_plan.specs.Sending.{sent, sent_from}

-- a message that isn't too large is sent
pub sent-whole : (call : Call) (serial : ℕ) → length (spelled call serial) ≤ most_bytes → sent call serial ≡ spelled call serial
unfolding sent
sent-whole call serial fits =
    let small : nat_le (length (spelled call serial)) most_bytes ≡ true = grind (arith, nat_tests, fits) in
    ap (λ (b : Bool). if b then spelled call serial else []) small

-- one that is isn't
pub sent-none : (call : Call) (serial : ℕ) → most_bytes < length (spelled call serial) → sent call serial ≡ []
unfolding sent
sent-none call serial large =
    let big : nat_le (length (spelled call serial)) most_bytes ≡ false = grind (arith, nat_tests, large) in
    ap (λ (b : Bool). if b then spelled call serial else []) big
