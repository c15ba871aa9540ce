-- Lists of the values of a function on numbers.
use Rattle.std.proofs.Common.{◌≡◌, ℕ, zero, suc, ◌+◌, ◌<◌, ◌≤◌, false, [], ◌∷◌, ◌++◌, length, map, nat_eq, refl, ap, ◌∙◌, arith}
use Rattle.std.specs.List.{AllByRecursion, IsDistinct}
use Rattle.std.proofs.lemmas.Bool.Decides.{nat_tests}
use Rattle.std.proofs.lemmas.Map.Keys.{IsDistinct-cons}
use Rattle.load_laws.specs.Made.{made}

pub length-made : {A : Type 0} (f : ℕ → A) (start n : ℕ) → length (made f start n) ≡ n
length-made f start zero = refl
length-made f start (suc n) = let rest = length-made f (suc start) n in omega (arith, rest)

-- one more value stands at the end
pub made-more : {A : Type 0} (f : ℕ → A) (start n : ℕ) → made f start n ++ f (start + n) ∷ [] ≡ made f start (suc n)
made-more f start zero = ap (λ k. f k ∷ []) (let e : start + 0 ≡ start = omega arith in e)
made-more f start (suc n) =
    let e : start + suc n ≡ suc start + n = omega arith in
    ap (λ l. f start ∷ l) (ap (λ k. made f (suc start) n ++ f k ∷ []) e ∙ made-more f (suc start) n)

pub map-made : {A B : Type 0} (g : A → B) (f : ℕ → A) (start n : ℕ) → map g (made f start n) ≡ made (λ k. g (f k)) start n
map-made g f start zero = refl
map-made g f start (suc n) = ap (λ l. g (f start) ∷ l) (map-made g f (suc start) n)

-- what is true of each value from the start on is true of all
pub all-made : {A : Type 0} (P : A → Type 0) (f : ℕ → A) (start n : ℕ) → ((k : ℕ) → start ≤ k → k < start + n → P (f k)) → AllByRecursion P (made f start n)
all-made P f start zero each = tt
all-made P f start (suc n) each = (each start (omega arith) (omega arith), all-made P f (suc start) n (λ k le lt. each k (omega (arith, le)) (omega (arith, lt))))

no-keys : IsDistinct nat_eq []
unfolding IsDistinct
no-keys = tt

-- numbers that follow each other differ
pub distinct-made : (start n : ℕ) → IsDistinct nat_eq (made (λ k. k + 1) start n)
distinct-made start zero = no-keys
distinct-made start (suc n) =
    IsDistinct-cons nat_eq (start + 1) (made (λ k. k + 1) (suc start) n)
    (all-made (λ y. nat_eq (start + 1) y ≡ false) (λ k. k + 1) (suc start) n (λ k le lt. (let differs : start + 1 < k + 1 = omega (arith, le) in grind (arith, nat_tests, differs))))
    (distinct-made (suc start) n)
