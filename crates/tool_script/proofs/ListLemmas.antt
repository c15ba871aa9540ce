-- Lists that are read element by element.
use Rattle.std.proofs.Common.{◌≡◌, List, [], ◌∷◌, ◌++◌, Option, Some, None, option_map, append_assoc, refl, sym, ap}

-- what was read so far, followed by what the rest is read as
abbrev pub followed : {A : Type 0} → List A → Option (List A) → Option (List A)
followed made more = option_map (λ them. made ++ them) more

-- one more was read
pub followed-one : {A : Type 0} (made : List A) (one : A) (more : Option (List A)) → followed (made ++ one ∷ []) more ≡ followed made (option_map (λ them. one ∷ them) more)
followed-one made one None = refl
followed-one made one (Some more) = ap Some (append_assoc made (one ∷ []) more)
