-- A fact about each number below a numeral, as about every byte, is proved by computing it for all of them.
use Rattle.std.proofs.Common.{◌≡◌, ℕ, ◌<◌, true, eqb, ltb}
use Rattle.std.proofs.lemmas.Bool.{agree_below, agree_below_at, eqb-true, ltb-true}

-- two functions that compute to the same numbers below n are equal there
pub each_below : (n : ℕ) (f g : ℕ → ℕ) → agree_below (λ x. eqb (f x) (g x)) (λ _. true) n ≡ true
    → (x : ℕ) → x < n → f x ≡ g x
each_below n f g computed x lt =
    eqb-true (f x) (g x) (agree_below_at (λ y. eqb (f y) (g y)) (λ _. true) n x computed lt)

-- a function that computes to bytes below n has bytes as its values there
pub each_is_byte : (n : ℕ) (f : ℕ → ℕ) → agree_below (λ x. ltb (f x) 256) (λ _. true) n ≡ true
    → (x : ℕ) → x < n → f x < 256
each_is_byte n f computed x lt =
    ltb-true (f x) 256 (agree_below_at (λ y. ltb (f y) 256) (λ _. true) n x computed lt)
