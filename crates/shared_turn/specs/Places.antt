-- Histories that begin with others, and positions in them.
use Rattle.std.specs.Prelude.{◌≡◌, ◌⊎◌, ℕ, zero, suc, ◌+◌, ◌≤◌, nat_le, if◌then◌else◌, List, [], ◌∷◌, ◌++◌, length}

-- the history begins with what was seen
abbrev pub StartsWith : {E : Type 0} → List E → List E → Type 0
StartsWith {E} log seen = (rest : List E) × (log ≡ seen ++ rest)

-- the longer of two lists, the first if they are equally long
abbrev pub longer : {E : Type 0} → List E → List E → List E
longer xs ys = if nat_le (length ys) (length xs) then xs else ys

-- the other one
abbrev pub shorter : {E : Type 0} → List E → List E → List E
shorter xs ys = if nat_le (length ys) (length xs) then ys else xs

-- positions that rise, from the first bound on and below the second
abbrev pub ArePlaces : ℕ → ℕ → List ℕ → Type 0
ArePlaces from below [] = from ≤ below
ArePlaces from below (place ∷ places) = (from ≤ place) × ArePlaces (place + 1) below places

-- this many positions, one after the other
abbrev pub places_from : ℕ → ℕ → List ℕ
places_from from zero = []
places_from from (suc number) = from ∷ places_from (from + 1) number

-- all positions of a history of this length
abbrev pub all_places : ℕ → List ℕ
all_places number = places_from 0 number

-- the position is one of these
abbrev pub IsIn : ℕ → List ℕ → Type 0
IsIn place [] = ⊥
IsIn place (first ∷ places) = (place ≡ first) ⊎ IsIn place places

-- one more position among positions that rise
abbrev pub inserted : ℕ → List ℕ → List ℕ
inserted place [] = place ∷ []
inserted place (first ∷ places) = if nat_le place first then place ∷ first ∷ places else first ∷ inserted place places

-- the positions of two such lists, as one list
abbrev pub merged : List ℕ → List ℕ → List ℕ
merged [] others = others
merged (place ∷ places) others = inserted place (merged places others)
