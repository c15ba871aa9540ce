-- What a clock and a generator of salts returned one after the other, by position.
use Rattle.std.proofs.Common.{◌≡◌, ℕ, ◌+◌, ◌*◌, ◌%◌, ◌^◌, List, [], ◌∷◌, ◌++◌, map, Option, Some, None, refl, ◌∙◌, ap, subst, arith, append_assoc}
use Rattle.std.proofs.lemmas.List.Concat.{flat_map-append}
use Rattle.rand_chacha.specs.ChaCha.{key_of}
use Rattle.kr_outside.specs.Clock.{GivesFirst}
use Rattle.service_hub.specs.connection_worker.specs.Salts.{Salting, words_at, salt_of}
use Rattle.service_hub.specs.connection_worker.specs.Serving.{GivesMoments, GivesSalts, behind_salt}
use Rattle.lone_desk.specs.service_events.specs.Single.{TimedRequest, moments_of, moments_with}
use Rattle.keyring_program.specs.Events.{the_connection, AreGivenFrom, HaveMoments, HaveSalts}

-- a moment, and those after it
moments-next : (moment : ℕ) (moments all : List ℕ) (coming : ℕ → ℕ) (place : ℕ) (now : ℕ → ℕ) (behind : Option (ℕ → ℕ)) → ((k : ℕ) → now k ≡ coming (place + k))
    → ((next : ℕ → ℕ) → ((k : ℕ) → next k ≡ coming (place + 1 + k)) → GivesMoments (Some next) all behind → AreGivenFrom (place + 1) coming moments)
    → (next : Option (ℕ → ℕ)) → GivesFirst (Some now) moment next → GivesMoments next all behind → AreGivenFrom place coming (moment ∷ moments)
moments-next moment moments all coming place now behind is further None first more = absurd first
moments-next moment moments all coming place now behind is further (Some next) first more =
    let here : place + 0 ≡ place = omega arith in
    let shift : (k : ℕ) → place + (k + 1) ≡ place + 1 + k = λ k. omega arith in (
      first.0 ∙ is 0 ∙ ap coming here,
      further next (λ k. first.1 k ∙ is (k + 1) ∙ ap coming (shift k)) more,
    )

moments-from : (front more : List ℕ) (coming : ℕ → ℕ) (place : ℕ) (now : ℕ → ℕ) (behind : Option (ℕ → ℕ)) → ((k : ℕ) → now k ≡ coming (place + k))
    → GivesMoments (Some now) (front ++ more) behind → AreGivenFrom place coming front
moments-from [] more coming place now behind is gives = tt
moments-from (moment ∷ front) more coming place now behind is gives =
    moments-next moment front (front ++ more) coming place now behind is
    (λ next so rest. moments-from front more coming (place + 1) next behind so rest) gives.0 gives.1 gives.2

-- those of the requests that were recorded come first
moments-first : (asked refused : List TimedRequest) (late : List ℕ) → moments_of (asked ++ refused) ++ late ≡ moments_of asked ++ (moments_of refused ++ late)
moments-first asked refused late =
    ap (λ l. l ++ late) (flat_map-append (λ (a : TimedRequest). moments_with a.now a.key) asked refused) ∙ append_assoc (moments_of asked) (moments_of refused) late

-- the first moments of the clock
pub have-moments : (coming behind : Option (ℕ → ℕ)) (asked refused : List TimedRequest) (late : List ℕ) → GivesMoments coming (moments_of (asked ++ refused) ++ late) behind → HaveMoments coming asked
have-moments None behind asked refused late gives = tt
have-moments (Some coming) behind asked refused late gives =
    let here : (k : ℕ) → k ≡ 0 + k = λ k. omega arith in
    moments-from (moments_of asked) (moments_of refused ++ late) coming 0 coming behind (λ k. ap coming (here k))
    (subst (λ l. GivesMoments (Some coming) l behind) (moments-first asked refused late) gives)

-- two words further on
two-on : (k : ℕ) → (2 * k % 2 ^ 68 + 2) % 2 ^ 68 ≡ 2 * (k + 1) % 2 ^ 68
two-on k = omega arith

salts-from : (asked refused : List TimedRequest) (seed : List ℕ) (stream k : ℕ) (old new : Salting) → old.key ≡ key_of seed → old.stream ≡ stream → old.place ≡ 2 * k % 2 ^ 68
    → GivesSalts old (map (λ (a : TimedRequest). a.salt) (asked ++ refused)) new → AreGivenFrom k (salt_of seed stream) (map (λ (a : TimedRequest). a.salt) asked)
salts-from [] refused seed stream k old new key same place gives = tt
salts-from (a ∷ asked) refused seed stream k old new key same place gives = (
  gives.0 ∙ (λ i. words_at (key i) (same i) (place i)),
  salts-from asked refused seed stream (k + 1) (behind_salt old) new key same (ap (λ p. (p + 2) % 2 ^ 68) place ∙ two-on k) gives.1,
)

-- the first salts of the connection
pub have-salts : (seed : List ℕ) (new : Salting) (asked refused : List TimedRequest)
    → GivesSalts (record { key = key_of seed; stream = the_connection.0; place = 0 }) (map (λ (a : TimedRequest). a.salt) (asked ++ refused)) new → HaveSalts seed asked
have-salts seed new asked refused gives =
    salts-from asked refused seed the_connection.0 0 (record { key = key_of seed; stream = the_connection.0; place = 0 }) new refl refl refl gives
