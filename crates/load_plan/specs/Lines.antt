-- The four lines about a load (docs/SERVICE.md, "The load").
use Rattle.std.specs.Prelude.{ℕ, List, [], ◌∷◌, ◌++◌, codes, decimal}
use Rattle.load_plan.specs.declared.counts.Counts.{Counts}

-- a line: a word, a number, and its end
abbrev pub line : List ℕ → ℕ → List ℕ
line word number = word ++ (decimal number ++ 10 ∷ [])

-- the four lines
abbrev pub summary : Counts → List ℕ
summary counts =
    line (codes "items ") counts.items ++ (line (codes "found ") counts.found ++ (line (codes "read ") counts.read ++ line (codes "errors ") counts.errors))
