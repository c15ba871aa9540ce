-- Two lists kept in one: what is left after one more.
use Rattle.std.proofs.Common.{◌≡◌, ◌∙◌, ℕ, ◌+◌, zero, suc, List, [], ◌∷◌, drop, refl, ap, arith}
use Rattle.prompt_state.specs.declared.targets.Target.{Target}
use Rattle.prompt_state.specs.Targets.{rest_of}

rest_of-suc : (n : ℕ) (list : List Target) → rest_of (drop n list) ≡ drop (suc n) list
rest_of-suc zero [] = refl
rest_of-suc zero (x ∷ xs) = refl
rest_of-suc (suc n) [] = refl
rest_of-suc (suc n) (x ∷ xs) = rest_of-suc n xs

pub rest_of-drop : (n : ℕ) (list : List Target) → rest_of (drop n list) ≡ drop (n + 1) list
rest_of-drop n list = let next : suc n ≡ n + 1 = omega arith in rest_of-suc n list ∙ ap (λ m. drop m list) next
