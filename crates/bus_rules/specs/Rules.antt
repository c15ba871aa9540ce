-- D-Bus Specification, "Match Rules": rules, the signals that they match, and which are kept.
use Rattle.std.specs.Prelude.{ℕ, Bool, true, ◌==◌, ◌&&◌, not, length, List, [], ◌∷◌, remove, position, Option, Some, None, is_some}
use Rattle.std.specs.List.{list_any, list_all}
use Rattle.bus_rules.specs.Pairs.{code_of, holds, is_admissible, is_same}
use Rattle.bus_rules.specs.declared.pair.Key.{Key}
use Rattle.bus_rules.specs.declared.pair.Key.TheVariants.{Path, PathNamespace}
use Rattle.bus_rules.specs.declared.pair.Pair.{Pair}
use Rattle.bus_rules.specs.declared.pair.Signal.{Signal}

-- Matches: each pair of the rule is true of the signal
abbrev pub matches : Signal → List Pair → Bool
matches signal rule = list_all (holds signal) rule

-- whether one of the pairs has the key
abbrev pub has_key : Key → List Pair → Bool
has_key key pairs = list_any (λ pair. code_of pair.key == code_of key) pairs

-- whether no key is twice among the pairs
abbrev pub are_distinct : List Pair → Bool
are_distinct [] = true
are_distinct (pair ∷ more) = not (has_key pair.key more) && are_distinct more

-- whether `path` is beside `path_namespace`
abbrev pub has_both_paths : List Pair → Bool
has_both_paths pairs = has_key Path pairs && has_key PathNamespace pairs

-- whether the pairs make a rule: each key may have its value, none is twice, and `path` isn't beside `path_namespace`
abbrev pub is_rule : List Pair → Bool
is_rule pairs = list_all is_admissible pairs && are_distinct pairs && not (has_both_paths pairs)

-- whether two pairs are the same
abbrev pub is_same_pair : Pair → Pair → Bool
is_same_pair one other = (code_of one.key == code_of other.key) && is_same one.value other.value

-- whether the pair is among the pairs
abbrev pub has_pair : List Pair → Pair → Bool
has_pair pairs pair = list_any (is_same_pair pair) pairs

-- whether two rules have the same pairs, in any order: as many of them, and each of one is in the other
abbrev pub is_equal : List Pair → List Pair → Bool
is_equal rule other = (length rule == length other) && list_all (has_pair other) rule

-- whether one of the rules is equal to this one
abbrev pub has_equal : List Pair → List (List Pair) → Bool
has_equal rule rules = is_some (position (is_equal rule) rules)

-- the most rules that are kept
abbrev pub most_rules : ℕ
most_rules = 512

-- the rules without the one at this place
abbrev pub without : List (List Pair) → Option ℕ → List (List Pair)
without rules None = rules
without rules (Some place) = remove rules place

-- the rules without the first one that is equal to this one
abbrev pub without_one : List Pair → List (List Pair) → List (List Pair)
without_one rule rules = without rules (position (is_equal rule) rules)
