use Rattle.std.proofs.Common.{◌≡◌, ℕ, List, [], ◌∷◌, ◌++◌, ◌+◌, ◌*◌, slice_index_or, ap}
use Rattle.load_plan.specs.Words.{cells}
use Rattle.load_plan.proofs.words.secret_of.Goals as goal

-- four bytes are those of their word
bytes-of : (seed stream place : ℕ) (found : List ℕ) → found ≡ cells seed stream place
    → slice_index_or found 0 0 ∷ slice_index_or found 1 0 ∷ slice_index_or found 2 0 ∷ slice_index_or found 3 0 ∷ [] ≡ cells seed stream place
unfolding cells
bytes-of seed stream place found is = ap (λ l. slice_index_or l 0 0 ∷ slice_index_or l 1 0 ∷ slice_index_or l 2 0 ∷ slice_index_or l 3 0 ∷ []) is

pub returns : goal.returns
returns c =
    let place : ℕ = 4 * c.args.item in
    let one = bytes-of c.args.seed 1 place c.cells.result c.cells.ensures in
    let two = bytes-of c.args.seed 1 (place + 1) c.cells-2.result c.cells-2.ensures in
    let three = bytes-of c.args.seed 1 (place + 2) c.cells-3.result c.cells-3.ensures in
    let four = bytes-of c.args.seed 1 (place + 3) c.cells-4.result c.cells-4.ensures in
    λ i. one i ++ (two i ++ (three i ++ four i))
