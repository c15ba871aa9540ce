-- A run of `check` has a folder that it checked, or none.
use Rattle.std.proofs.Common.{◌⊎◌, Option, Some, None, IsNone, IsSome, IfSome, inl, inr, refl}

-- what is said if there is no folder, and otherwise what is said of the folder, of the slots that were made of it, and of the password
pub none-or-some : {T A B W : Type 0} (checked : Option T) (folder : T → A) (looked : T → B) (N G E : Type 0) (Q : W → Type 0) (P : W → A → B → Type 0)
    → (IsNone checked → N) → (IsSome checked → G × E) → IfSome checked (λ one. (password : W) × Q password × P password (folder one) (looked one))
    → N ⊎ ((after : A) × (slots : B) × (password : W) × G × E × Q password × P password after slots)
none-or-some None folder looked N G E Q P none some is = inl (none refl)
none-or-some (Some one) folder looked N G E Q P none some is = inr (folder one, looked one, is.0, (some refl).0, (some refl).1, is.1, is.2)
