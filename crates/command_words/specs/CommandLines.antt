-- The command lines of keyringd (docs/SERVICE.md, "Command line").
use Rattle.std.specs.Prelude.{◌≡◌, ℕ, ◌<◌, ◌≤◌, Bool, true, false, List, [], ◌∷◌, Option, Some, None, codes}
use Rattle.command_words.specs.Arguments.{HasArguments}
use Rattle.command_words.specs.Numbers.{IsNumber}
use Rattle.command_words.specs.declared.beginning.FlagName.{FlagName}
use Rattle.command_words.specs.declared.beginning.FlagName.TheVariants.{UntilEof, Password}
use Rattle.command_words.specs.declared.command_line.CommandLine.{CommandLine}
use Rattle.command_words.specs.declared.command_line.CommandLine.TheVariants.{Stdio, Serve, ServeUntilEof, Load, Check}

-- the values of an option that may be left out, and is there once at most: a number of 64 bits that is at least 1
abbrev pub IsCount : Option ℕ → List (List ℕ) → Type 0
IsCount None values = values ≡ []
IsCount (Some number) values = (text : List ℕ) × (values ≡ text ∷ []) × IsNumber 64 number text × (0 < number)

-- they are no such values
abbrev pub IsNoCount : List (List ℕ) → Type 0
IsNoCount values = (count : Option ℕ) → ¬ (IsCount count values)

-- the flags of a command that has this one alone: it is there once, or it isn't there
abbrev pub HasFlag : FlagName → Bool → List FlagName → Type 0
HasFlag name true flags = flags ≡ name ∷ []
HasFlag name false flags = flags ≡ []

-- they are no such flags
abbrev pub IsNoFlag : FlagName → List FlagName → Type 0
IsNoFlag name flags = (given : Bool) → ¬ (HasFlag name given flags)

-- `stdio`, then DIR and UID
pub record IsStdio (folder : List ℕ) (uid : ℕ) (name : List ℕ) (operands uids connections : List (List ℕ)) (flags : List FlagName) : Type 0 where
  pub user : List ℕ
  pub named : name ≡ codes "stdio"
  pub two : operands ≡ folder ∷ user ∷ []
  pub number : IsNumber 32 uid user
  pub no_uid : uids ≡ []
  pub no_connections : connections ≡ []
  pub no_flag : flags ≡ []

-- `serve`, then DIR and SOCKET, with the option `--uid U` once, the option `--connections N` at most once, and `--until-eof` or not
pub record IsServe (until_eof : Bool) (folder socket : List ℕ) (uid : ℕ) (count : Option ℕ) (name : List ℕ) (operands uids connections : List (List ℕ)) (flags : List FlagName) : Type 0 where
  pub user : List ℕ
  pub named : name ≡ codes "serve"
  pub two : operands ≡ folder ∷ socket ∷ []
  pub one_uid : uids ≡ user ∷ []
  pub number : IsNumber 32 uid user
  pub counted : IsCount count connections
  pub flagged : HasFlag UntilEof until_eof flags

-- `load`, then N and SEED
pub record IsLoad (items seed : ℕ) (name : List ℕ) (operands uids connections : List (List ℕ)) (flags : List FlagName) : Type 0 where
  pub amount : List ℕ
  pub start : List ℕ
  pub named : name ≡ codes "load"
  pub two : operands ≡ amount ∷ start ∷ []
  pub number : IsNumber 32 items amount
  pub some : 0 < items
  pub fits : items ≤ 1000
  pub seeded : IsNumber 64 seed start
  pub no_uid : uids ≡ []
  pub no_connections : connections ≡ []
  pub no_flag : flags ≡ []

-- `check`, then DIR, and `--password` or not
pub record IsCheck (folder : List ℕ) (password : Bool) (name : List ℕ) (operands uids connections : List (List ℕ)) (flags : List FlagName) : Type 0 where
  pub named : name ≡ codes "check"
  pub one : operands ≡ folder ∷ []
  pub no_uid : uids ≡ []
  pub no_connections : connections ≡ []
  pub flagged : HasFlag Password password flags

-- the command of this name, with these operands, these values of its options and these flags, as the table of commands says
abbrev pub IsCommand : CommandLine → List ℕ → List (List ℕ) → List (List ℕ) → List (List ℕ) → List FlagName → Type 0
IsCommand (Stdio folder uid) = IsStdio folder uid
IsCommand (Serve folder socket uid connections) = IsServe false folder socket uid connections
IsCommand (ServeUntilEof folder socket uid connections) = IsServe true folder socket uid connections
IsCommand (Load items seed) = IsLoad items seed
IsCommand (Check folder password) = IsCheck folder password

-- an answer is the command line of this name, these operands, these values and these flags, and None only if there is none
abbrev pub Answers : Option CommandLine → List ℕ → List (List ℕ) → List (List ℕ) → List (List ℕ) → List FlagName → Type 0
Answers None name operands uids connections flags = (line : CommandLine) → ¬ (IsCommand line name operands uids connections flags)
Answers (Some line) name operands uids connections flags = IsCommand line name operands uids connections flags

-- there is a command of this name, with these operands, these values of its options and these flags
abbrev pub HasCommand : List ℕ → List (List ℕ) → List (List ℕ) → List (List ℕ) → List FlagName → Type 0
HasCommand name operands uids connections flags = (line : CommandLine) × IsCommand line name operands uids connections flags

-- the words are a command's name and its arguments, and are this command line
pub record IsCommandLine (line : CommandLine) (words : List (List ℕ)) : Type 0 where
  pub name : List ℕ
  pub rest : List (List ℕ)
  pub operands : List (List ℕ)
  pub uids : List (List ℕ)
  pub connections : List (List ℕ)
  pub flags : List FlagName
  pub begins : words ≡ name ∷ rest
  pub has : HasArguments rest operands uids connections flags
  pub command : IsCommand line name operands uids connections flags

-- the words are a command line
abbrev pub HasCommandLine : List (List ℕ) → Type 0
HasCommandLine words = (line : CommandLine) × IsCommandLine line words

-- the words aren't a command line
abbrev pub IsNoCommandLine : List (List ℕ) → Type 0
IsNoCommandLine words = (line : CommandLine) → ¬ (IsCommandLine line words)
