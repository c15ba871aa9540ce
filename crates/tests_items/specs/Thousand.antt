-- A thousand items, item i counted from 0: `group` is i modulo 10, and `number` is i.
use Rattle.std.specs.Prelude.{◌≡◌, ℕ, ◌%◌, ◌&&◌, Bool, List, [], ◌∷◌, codes, decimal, map}
use Rattle.std.specs.List.{list_any, range_with_len}
use Rattle.kr_base.specs.Attributes.{is_name}
use Rattle.attribute_match.specs.Match.{texts_of}
use Rattle.item_store.specs.Rows.{Rows, attributes_of}

-- what item i has
abbrev pub texts_at : ℕ → List (List ℕ × List ℕ)
texts_at i = (codes "group", decimal (i % 10)) ∷ (codes "number", decimal i) ∷ []

-- what each of the thousand items has
unfoldable pub thousand : List (List (List ℕ × List ℕ))
thousand = map texts_at (range_with_len 0 1000)

-- the rows are those of these items, in their order
abbrev pub IsThousand : Rows → Type 0
IsThousand rows = map (λ row. texts_of (attributes_of row.1)) rows ≡ thousand

-- whether one of the names has the text
abbrev pub has_texts : List ℕ → List ℕ → List (List ℕ × List ℕ) → Bool
has_texts name text pairs = list_any (λ pair. is_name name pair.0 && is_name text pair.1) pairs

-- `group` is 3
abbrev pub third_group : List (List ℕ × List ℕ)
third_group = (codes "group", codes "3") ∷ []

-- `group` is 3 and `number` is 13
abbrev pub thirteenth : List (List ℕ × List ℕ)
thirteenth = (codes "group", codes "3") ∷ (codes "number", codes "13") ∷ []

-- `group` is 10
abbrev pub tenth_group : List (List ℕ × List ℕ)
tenth_group = (codes "group", codes "10") ∷ []
