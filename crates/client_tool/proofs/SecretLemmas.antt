-- The secret is read piece by piece.
use Rattle.std.proofs.Common.{◌≡◌, ℕ, ◌≤◌, ◌<◌, true, false, List, [], ◌++◌, length, Ok, Err, refl, sym, ◌∙◌, arith, subst}
use Rattle.client_tool.specs.declared.status.Stop.{Stop}
use Rattle.client_tool.specs.declared.status.Stop.TheVariants as stop
use Rattle.client_tool.specs.Streams.{Input, Took}
use Rattle.client_tool.specs.Secrets.{most_secret, ReadsSome, ReadsSecret}
use Rattle.kr_dialer.proofs.CarriedLemmas.{rose-after}
use Rattle.client_tool.proofs.TookLemmas.{Took-none, Took-trans, Took-more}

-- nothing was read yet
pub secret-begins : (from : Input) (secret : List ℕ) → secret ≡ [] → Took from from secret × (length secret ≤ most_secret) × (from.faults ≡ from.faults)
secret-begins from secret none = (
  subst (λ (l : List ℕ). Took from from l) (sym none) (Took-none from),
  subst (λ (l : List ℕ). length l ≤ most_secret) (sym none) (omega arith),
  refl,
)

-- one more piece was read
pub secret-more : (from now next : Input) (secret left : List ℕ) → Took from now secret → now.faults ≡ from.faults → ReadsSome secret left now next (Ok true)
    → Took from next left × (next.faults ≡ from.faults)
secret-more from now next secret left took still got =
    (subst (λ (l : List ℕ). Took from next l) (sym got.2) (Took-trans from now next secret got.0 took got.1), got.3 ∙ still)

-- the secret isn't too long yet
pub secret-goes-on : (from now next : Input) (secret left : List ℕ) → Took from now secret → now.faults ≡ from.faults → ReadsSome secret left now next (Ok true) → length left ≤ most_secret
    → Took from next left × (length left ≤ most_secret) × (next.faults ≡ from.faults)
secret-goes-on from now next secret left took still got few =
    let more = secret-more from now next secret left took still got in
    (more.0, few, more.1)

-- it is
pub secret-long : (from now next : Input) (secret left : List ℕ) → Took from now secret → now.faults ≡ from.faults → ReadsSome secret left now next (Ok true) → most_secret < length left
    → ReadsSecret from next (Err stop.TooLarge)
secret-long from now next secret left took still got long =
    let more = secret-more from now next secret left took still got in
    (left, more.0, (long, more.1))

-- the input has ended
pub secret-ends : (from now next : Input) (secret left : List ℕ) → Took from now secret → length secret ≤ most_secret → now.faults ≡ from.faults → ReadsSome secret left now next (Ok false)
    → ReadsSecret from next (Ok left)
secret-ends from now next secret left took few still got = (
  subst (λ (l : List ℕ). Took from next l) (sym got.1) (Took-more from now next secret took got.0),
  got.2,
  subst (λ (l : List ℕ). length l ≤ most_secret) (sym got.1) few,
  got.3 ∙ still,
)

-- it has failed, or there was no memory
pub secret-stops : (from now next : Input) (secret left : List ℕ) (why : Stop) → Took from now secret → now.faults ≡ from.faults → ReadsSome secret left now next (Err why)
    → ReadsSecret from next (Err why)
secret-stops from now next secret left stop.InputFault took still got = (secret, Took-more from now next secret took got.0, rose-after from.faults now.faults next.faults still got.1)
secret-stops from now next secret left stop.Memory took still got = (secret ++ got.0, Took-trans from now next secret got.0 took got.1, got.2 ∙ still)
secret-stops from now next secret left _ took still got = absurd got

-- there was no memory to begin
pub secret-never : (from : Input) → ReadsSecret from from (Err stop.Memory)
secret-never from = ([], Took-none from, refl)
