-- How the table keeps its prompts: rows by their numbers, and in addition the pairs of an owner's and
-- a prompt's number.
use Rattle.std.specs.Prelude.{◌≡◌, ℕ, ◌+◌, ◌<◌, Bool, ◌&&◌, not, nat_eq, if◌then◌else◌, List, [], ◌∷◌, map, filter, min, Option}
use Rattle.std.specs.Ordering.{nat_cmp, ordering_then}
use Rattle.std.specs.List.{AllByRecursion}
use Rattle.std.specs.List.Sorted.{IsStrictlySortedBy}
use Rattle.std.specs.Map.{lookup, values_of}
use Rattle.std.specs.declared.cmp.Ordering.{Ordering}
use Rattle.kr_base.specs.declared.ids.ConnId.{ConnId}
use Rattle.prompt_state.specs.declared.row.PromptRow.{PromptRow}
use Rattle.prompt_state.specs.declared.row.Prompts.{Prompts}
use Rattle.prompt_state.specs.declared.row.Stage.{Stage}
use Rattle.prompt_state.specs.declared.row.Stage.TheVariants.{Made, Asked, Deriving}
use Rattle.prompt_state.specs.Prompts.{AreSound, last_round}

-- each prompt's row, with its number
abbrev pub Entries : Type 0
Entries = List (ℕ × PromptRow)

-- the prompts that the entries stand for
abbrev pub prompts_of : Entries → Option ConnId → ℕ → Prompts
prompts_of entries agent next = record { rows = values_of entries; agent = agent; next = next }

-- the row with a number
abbrev pub entry_at : ℕ → Entries → Option PromptRow
entry_at number entries = lookup (λ key. nat_eq key number) entries

-- the entries with that of one number changed
abbrev pub entries_changed : ℕ → (PromptRow → PromptRow) → Entries → Entries
entries_changed number change entries = map (λ e. if nat_eq e.0 number then (e.0, change e.1) else e) entries

-- the entries without that of one number
abbrev pub entries_without : ℕ → Entries → Entries
entries_without number entries = filter (λ e. not (nat_eq e.0 number)) entries

-- what a stage becomes once the agent is gone, defined even if no round is left, which never happens
abbrev pub unanswered_within : Stage → Stage
unanswered_within Made = Made
unanswered_within (Asked round) = Asked round
unanswered_within (Deriving round) = Asked (min (round + 1) last_round)

-- the order of pairs: by the owner, then by the prompt
abbrev pub pair_cmp : ℕ × ℕ → ℕ × ℕ → Ordering
pair_cmp a b = ordering_then (nat_cmp a.0 b.0) (nat_cmp a.1 b.1)

-- whether the pair is of this owner and this prompt
abbrev pub is_pair : ℕ → ℕ → ℕ × ℕ → Bool
is_pair owner number pair = nat_eq pair.0 owner && nat_eq pair.1 number

-- the pairs rise
abbrev pub AreInOrder : List (ℕ × ℕ) → Type 0
AreInOrder pairs = IsStrictlySortedBy pair_cmp pairs

-- each prompt's number in the pairs is below this one
abbrev pub AreBelow : ℕ → List (ℕ × ℕ) → Type 0
AreBelow next pairs = AllByRecursion (λ pair. pair.1 < next) pairs

-- the numbers of an owner's prompts in the pairs
abbrev pub numbers_at : ℕ → List (ℕ × ℕ) → List ℕ
numbers_at owner pairs = map (λ pair. pair.1) (filter (λ pair. nat_eq pair.0 owner) pairs)

-- the list begins with this number
abbrev pub IsFirst : ℕ → List ℕ → Type 0
IsFirst number [] = ⊥
IsFirst number (first ∷ more) = first ≡ number

-- the numbers of an owner's prompts in the rows
abbrev pub numbers_of : ℕ → List PromptRow → List ℕ
numbers_of owner rows = map (λ row. row.prompt.0) (filter (λ row. nat_eq row.owner.0 owner) rows)

-- each row is at its number
abbrev pub AreNumbered : Entries → Type 0
AreNumbered entries = AllByRecursion (λ e. e.1.prompt.0 ≡ e.0) entries

-- the pairs are those of the rows
pub record AreIndexed (rows : List PromptRow) (pairs : List (ℕ × ℕ)) : Type 0 where
  pub ordered : AreInOrder pairs
  pub same : (owner : ℕ) → numbers_at owner pairs ≡ numbers_of owner rows

-- what is always true of the table
pub record IsKept (prompts : Prompts) (entries : Entries) (pairs : List (ℕ × ℕ)) : Type 0 where
  pub sound : AreSound prompts
  pub numbered : AreNumbered entries
  pub indexed : AreIndexed (values_of entries) pairs
