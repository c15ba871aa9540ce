-- What was found among arguments so far: two operands at most, one value at most of each option, and one flag at most.
use Rattle.std.specs.Prelude.{◌≡◌, ℕ, ◌≤◌, List, [], ◌∷◌, ◌++◌, length, Option, Some, None}
use denote.Ref.{Bor}
use Rattle.command_words.specs.Arguments.{Argument, operand, option, flag, operand_in, uid_in, connections_in, flag_in, HasArguments}
use Rattle.command_words.specs.declared.beginning.OptionName.TheVariants.{Uid, Connections}
use Rattle.command_words.specs.declared.beginning.FlagName.{FlagName}
use Rattle.command_words.specs.declared.arguments.Found.{Found}
use Rattle.command_words.specs.declared.arguments.Operands.{Operands}
use Rattle.command_words.specs.declared.arguments.Operands.TheVariants.{Nothing, One, Two}

-- the operands, in order
abbrev pub listed : Operands → List (List ℕ)
listed Nothing = []
listed (One word) = word.now ∷ []
listed (Two first second) = first.now ∷ second.now ∷ []

-- the value of an option, if there is one
abbrev pub value_of : Option (Bor (List ℕ)) → List (List ℕ)
value_of None = []
value_of (Some value) = value.now ∷ []

-- the flag, if there is one
abbrev pub flag_of : Option FlagName → List FlagName
flag_of None = []
flag_of (Some name) = name ∷ []

-- the same with one more argument
pub record HasMore (before : Found) (argument : Argument) (after : Found) : Type 0 where
  pub operands_are : listed after.operands ≡ listed before.operands ++ operand_in argument
  pub uids_are : value_of after.uid ≡ value_of before.uid ++ uid_in argument
  pub connections_are : value_of after.connections ≡ value_of before.connections ++ connections_in argument
  pub flags_are : flag_of after.flag ≡ flag_of before.flag ++ flag_in argument

-- there is no place for the argument
abbrev pub IsFull : Found → Argument → Type 0
IsFull found (operand word) = length (listed found.operands) ≡ 2
IsFull found (option form Uid value) = length (value_of found.uid) ≡ 1
IsFull found (option form Connections value) = length (value_of found.connections) ≡ 1
IsFull found (flag name) = length (flag_of found.flag) ≡ 1

-- all arguments in the words were found
abbrev pub Finds : Found → List (List ℕ) → Type 0
Finds found words = HasArguments words (listed found.operands) (value_of found.uid) (value_of found.connections) (flag_of found.flag)

-- the words aren't arguments of which so much can be found
abbrev pub FindsNone : List (List ℕ) → Type 0
FindsNone words = (operands uids connections : List (List ℕ)) (flags : List FlagName) → length operands ≤ 2 → length uids ≤ 1 → length connections ≤ 1 → length flags ≤ 1
    → ¬ (HasArguments words operands uids connections flags)

-- the same with all words as operands
pub record HasAll (before : Found) (words : List (List ℕ)) (after : Found) : Type 0 where
  pub operands_are : listed after.operands ≡ listed before.operands ++ words
  pub uids_are : value_of after.uid ≡ value_of before.uid
  pub connections_are : value_of after.connections ≡ value_of before.connections
  pub flags_are : flag_of after.flag ≡ flag_of before.flag
