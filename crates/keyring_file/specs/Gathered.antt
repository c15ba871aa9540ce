-- The attributes of a file's list, put in byte order of their names. Of two equal names the later one would count; a file's
-- list has no equal names.
use Rattle.std.specs.Prelude.{ℕ, List, [], ◌∷◌}
use Rattle.std.specs.Cmp.Lexicographic.{slice_cmp}
use Rattle.std.specs.Ordering.{nat_cmp, match_ordering}

-- the list with the pair inserted at its place, unless an equal name is there
abbrev pub with_pair : {V : Type 0} → List ℕ × V → List (List ℕ × V) → List (List ℕ × V)
with_pair pair [] = pair ∷ []
with_pair pair (first ∷ more) = match_ordering (slice_cmp nat_cmp pair.0 first.0) (pair ∷ first ∷ more) (first ∷ more) (first ∷ with_pair pair more)

-- the pairs in order
unfoldable pub gathered : {V : Type 0} → List (List ℕ × V) → List (List ℕ × V)
gathered [] = []
gathered (pair ∷ more) = with_pair pair (gathered more)
