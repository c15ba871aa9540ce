-- How contracts see a branch of the tree of pairs.
use Rattle.std.specs.Prelude.{ℕ, ◌+◌, List, [], ◌∷◌, ◌++◌, if◌then◌else◌}
use Rattle.std.specs.Ordering.{is_lt}
use Rattle.attribute_index.specs.Index.{Names, pair_cmp}

-- a pair of a name and a text with its ids, the pairs before and after it, and the height of the higher of these two sides
pub record Around : Type 0 where
  pub before : Names
  pub name : List ℕ
  pub text : List ℕ
  pub ids : List ℕ
  pub after : Names
  pub under : ℕ

-- the height of a branch: how many pairs there are on the longest way down, with its own
abbrev pub height : Around → ℕ
height branch = branch.under + 1

-- the pair of the branch, with other pairs before and after it
abbrev pub between : Names → Around → Names → Names
between before own after = before ++ ((own.name, own.text), own.ids) ∷ after

-- all pairs of the branch, in order
abbrev pub all_of : Around → Names
all_of branch = between branch.before branch branch.after

-- the pairs with this one, after those that don't come after it
abbrev pub with_own : Around → Names → Names
with_own own [] = ((own.name, own.text), own.ids) ∷ []
with_own own (e ∷ es) = if is_lt (pair_cmp (own.name, own.text) e.0) then ((own.name, own.text), own.ids) ∷ e ∷ es else e ∷ with_own own es
