-- Of which files a crash can leave any bytes.
use Rattle.std.proofs.Common.{◌≡◌, ◌⊎◌, inl, inr, [], ◌∷◌, Some}
use Rattle.kr_outside.specs.RenameDisk.{Image, Only, LeavesAnyBytes}

-- two images aren't the files of three lengths
pub LeavesAnyBytes-pair : (old new : Image) (outcomes : Image → Type 0) → ((image : Image) → outcomes image → (image ≡ old) ⊎ (image ≡ new))
    → LeavesAnyBytes outcomes → ⊥
LeavesAnyBytes-pair old new outcomes one any =
    three (one (Some []) (any [])) (one (Some (0 ∷ [])) (any (0 ∷ []))) (one (Some (0 ∷ 0 ∷ [])) (any (0 ∷ 0 ∷ [])))
  where
    three : (Some [] ≡ old) ⊎ (Some [] ≡ new) → (Some (0 ∷ []) ≡ old) ⊎ (Some (0 ∷ []) ≡ new) → (Some (0 ∷ 0 ∷ []) ≡ old) ⊎ (Some (0 ∷ 0 ∷ []) ≡ new) → ⊥
    three (inl a) (inl b) c = cc
    three (inr a) (inr b) c = cc
    three (inl a) (inr b) (inl c) = cc
    three (inl a) (inr b) (inr c) = cc
    three (inr a) (inl b) (inl c) = cc
    three (inr a) (inl b) (inr c) = cc

-- nor is one
pub LeavesAnyBytes-only : (image : Image) (outcomes : Image → Type 0) → Only image outcomes → LeavesAnyBytes outcomes → ⊥
LeavesAnyBytes-only image outcomes only any = LeavesAnyBytes-pair image image outcomes (λ left is. inl (only left is)) any
