-- Fields one after the other, and lists of them. A form is a set of whole texts.
use Rattle.std.specs.Prelude.{◌≡◌, ℕ, Bool, List, [], ◌∷◌, ◌++◌, length, map}
use Rattle.std.specs.List.{IsDistinct}
use Rattle.keyring_text.specs.Fields.{SpellsNumber}

-- a text of the first form, and after it one of the second
pub record Joined (first second : List ℕ → Type 0) (bytes : List ℕ) : Type 0 where
  pub front : List ℕ
  pub back : List ℕ
  pub parts : bytes ≡ front ++ back
  pub is_first : first front
  pub is_second : second back

infixr 5 ◌⨾◌
-- the same, written between the two forms
abbrev pub ◌⨾◌ : (List ℕ → Type 0) → (List ℕ → Type 0) → List ℕ → Type 0
(first ⨾ second) bytes = Joined first second bytes

-- the given text and no other
abbrev pub Exactly : List ℕ → List ℕ → Type 0
Exactly text bytes = bytes ≡ text

-- one text for each element, in order
abbrev pub SpellsAll : {A : Type 0} → (A → List ℕ → Type 0) → List A → List ℕ → Type 0
SpellsAll spells [] bytes = bytes ≡ []
SpellsAll spells (x ∷ xs) bytes = Joined (spells x) (SpellsAll spells xs) bytes

-- the number of elements, and one text for each
abbrev pub SpellsList : {A : Type 0} → (A → List ℕ → Type 0) → List A → List ℕ → Type 0
SpellsList spells xs bytes = Joined (SpellsNumber (length xs)) (SpellsAll spells xs) bytes

-- such a list, in which no key occurs twice
pub record SpellsKeyed {A K : Type 0} (key : A → K) (same : K → K → Bool) (spells : A → List ℕ → Type 0) (xs : List A) (bytes : List ℕ) : Type 0 where
  pub distinct : IsDistinct same (map key xs)
  pub list : SpellsList spells xs bytes
