-- The arguments of a command: its operands, its options and its flags (docs/SERVICE.md, "Command line").
use Rattle.std.specs.Prelude.{◌≡◌, ℕ, ◌==◌, Bool, true, not, IsTrue, List, [], ◌∷◌, ◌++◌, All, Option, Some, None, codes}
use Rattle.std.specs.List.{flat_map}
use Rattle.command_words.specs.declared.beginning.OptionName.{OptionName}
use Rattle.command_words.specs.declared.beginning.OptionName.TheVariants.{Uid, Connections}
use Rattle.command_words.specs.declared.beginning.FlagName.{FlagName}
use Rattle.command_words.specs.declared.beginning.FlagName.TheVariants.{UntilEof, Password}

-- the word that names an option
abbrev pub option_word : OptionName → List ℕ
option_word Uid = codes "--uid"
option_word Connections = codes "--connections"

-- the word that is a flag, an option without a value
abbrev pub flag_word : FlagName → List ℕ
flag_word UntilEof = codes "--until-eof"
flag_word Password = codes "--password"

-- how an option and its value are written: as two words, or as one word with `=` between them
pub data Form : Type 0 where
  two_words : Form
  one_word : Form

-- an argument: an operand, an option with its value, or a flag
pub data Argument : Type 0 where
  operand : List ℕ → Argument
  option : Form → OptionName → List ℕ → Argument
  flag : FlagName → Argument

-- the words that an argument is written as
abbrev pub words_of : Argument → List (List ℕ)
words_of (operand word) = word ∷ []
words_of (option two_words name value) = option_word name ∷ value ∷ []
words_of (option one_word name value) = (option_word name ++ 61 ∷ value) ∷ []
words_of (flag name) = flag_word name ∷ []

-- the operand that an argument is, if it is one
abbrev pub operand_in : Argument → List (List ℕ)
operand_in (operand word) = word ∷ []
operand_in (option form name value) = []
operand_in (flag name) = []

-- the value of `--uid` that an argument gives, if it is that option
abbrev pub uid_in : Argument → List (List ℕ)
uid_in (operand word) = []
uid_in (option form Uid value) = value ∷ []
uid_in (option form Connections value) = []
uid_in (flag name) = []

-- the value of `--connections` that an argument gives, if it is that option
abbrev pub connections_in : Argument → List (List ℕ)
connections_in (operand word) = []
connections_in (option form Uid value) = []
connections_in (option form Connections value) = value ∷ []
connections_in (flag name) = []

-- the flag that an argument is, if it is one
abbrev pub flag_in : Argument → List FlagName
flag_in (operand word) = []
flag_in (option form name value) = []
flag_in (flag name) = name ∷ []

-- whether the word doesn't begin with `-`, or is `-` alone
abbrev pub is_plain : List ℕ → Bool
is_plain [] = true
is_plain (c ∷ []) = true
is_plain (c ∷ d ∷ more) = not (c == 45)

-- what may be written before `--`: a plain operand, any option and any flag
abbrev pub IsWritten : Argument → Type 0
IsWritten (operand word) = IsTrue (is_plain word)
IsWritten (option form name value) = Unit {0}
IsWritten (flag name) = Unit {0}

-- the operands after `--`, if it is there
abbrev pub operands_after : Option (List (List ℕ)) → List (List ℕ)
operands_after None = []
operands_after (Some operands) = operands

-- the words of the end: none, or `--` and the operands after it
abbrev pub words_of_end : Option (List (List ℕ)) → List (List ℕ)
words_of_end None = []
words_of_end (Some operands) = codes "--" ∷ operands

-- the words after a command's name have these operands, these values of `--uid` and of `--connections`, and these flags, each in order
pub record HasArguments (words operands uids connections : List (List ℕ)) (flags : List FlagName) : Type 0 where
  pub arguments : List Argument
  pub after : Option (List (List ℕ))
  pub written : All IsWritten arguments
  pub words_are : words ≡ flat_map words_of arguments ++ words_of_end after
  pub operands_are : operands ≡ flat_map operand_in arguments ++ operands_after after
  pub uids_are : uids ≡ flat_map uid_in arguments
  pub connections_are : connections ≡ flat_map connections_in arguments
  pub flags_are : flags ≡ flat_map flag_in arguments
