-- The first argument among words (docs/SERVICE.md, "Command line").
use Rattle.std.specs.Prelude.{◌≡◌, ◌≢◌, ℕ, List, [], ◌∷◌, ◌++◌, codes}
use Rattle.command_words.specs.Arguments.{Form, Argument, operand, option, flag, words_of, IsWritten}
use Rattle.command_words.specs.declared.beginning.OptionName.{OptionName}
use Rattle.command_words.specs.declared.beginning.Beginning.{Beginning}
use Rattle.command_words.specs.declared.beginning.Beginning.TheVariants.{Nothing, Operand, Option, Flag, End, Fault}

-- the words are those of this argument, followed by more
pub record IsFirst (argument : Argument) (more words : List (List ℕ)) : Type 0 where
  pub written : IsWritten argument
  pub words_are : words ≡ words_of argument ++ more

-- the words begin with this option and this value, in either form
abbrev pub IsOption : OptionName → List ℕ → List (List ℕ) → List (List ℕ) → Type 0
IsOption name value more words = (form : Form) × IsFirst (option form name value) more words

-- the words don't begin with this option and a value
abbrev pub IsOther : OptionName → List (List ℕ) → Type 0
IsOther name words = (value : List ℕ) → (more : List (List ℕ)) → ¬ (IsOption name value more words)

-- there are words, and they begin neither with an argument nor with `--`
pub record IsFault (words : List (List ℕ)) : Type 0 where
  pub no_argument : (argument : Argument) → (more : List (List ℕ)) → ¬ (IsFirst argument more words)
  pub no_end : (more : List (List ℕ)) → words ≢ codes "--" ∷ more
  pub some : words ≢ []

-- what the words begin with
abbrev pub Begins : Beginning → List (List ℕ) → Type 0
Begins Nothing words = words ≡ []
Begins (Operand word more) words = IsFirst (operand word.now) more.now words
Begins (Option name value more) words = IsOption name value.now more.now words
Begins (Flag name more) words = IsFirst (flag name) more.now words
Begins (End more) words = words ≡ codes "--" ∷ more.now
Begins Fault words = IsFault words
