-- The words of a command line of the tool: `SOCKET UID COMMAND` (docs/secret_tool.1, "SYNOPSIS").
use Rattle.std.specs.Prelude.{◌≡◌, ℕ, Bool, false, List, [], ◌∷◌, Some, codes}
use Rattle.std.specs.Str.{bytes_eq}
use Rattle.command_words.specs.Numbers.{IsNumber}
use Rattle.tool_script.specs.declared.command.Command.{Command}
use Rattle.tool_script.specs.Words.{command_of}

-- the words are a path, a user's number and the words of a command
pub record IsLine (words : List (List ℕ)) (path : List ℕ) (uid : ℕ) (command : List (List ℕ)) : Type 0 where
  pub user : List ℕ
  pub words_are : words ≡ path ∷ user ∷ command
  pub number : IsNumber 32 uid user

-- the words don't begin with a path and a user's number
abbrev pub HasNoUser : List (List ℕ) → Type 0
HasNoUser words = (path : List ℕ) (uid : ℕ) (command : List (List ℕ)) → IsLine words path uid command → ⊥

-- the words aren't a command line: they begin with no path and user, or what follows is no command
abbrev pub IsNoLine : List (List ℕ) → Type 0
IsNoLine words = (path : List ℕ) (uid : ℕ) (rest : List (List ℕ)) (secret : List ℕ) (command : Command) → IsLine words path uid rest → command_of rest secret ≡ Some command → ⊥

-- whether the words of a command are those of `store`, the only one that reads a secret
abbrev pub stores : List (List ℕ) → Bool
stores [] = false
stores (word ∷ words) = bytes_eq word (codes "store")
