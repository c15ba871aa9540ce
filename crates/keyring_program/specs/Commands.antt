-- The commands of the program (docs/SERVICE.md, "Command line").
use Rattle.std.specs.Prelude.{ℕ, Bool, true, false, IsTrue, List, Option}
use Rattle.command_words.specs.CommandLines.{IsCommandLine}
use Rattle.command_words.specs.declared.command_line.CommandLine.{CommandLine}
use Rattle.command_words.specs.declared.command_line.CommandLine.TheVariants.{Stdio, Serve, ServeUntilEof, Load, Check}

-- the command line of `serve`, with or without `--until-eof`
abbrev pub serve_line : Bool → List ℕ → List ℕ → ℕ → Option ℕ → CommandLine
serve_line true folder socket uid connections = ServeUntilEof folder socket uid connections
serve_line false folder socket uid connections = Serve folder socket uid connections

-- whether the command line has `--until-eof`
abbrev pub is_until_eof : CommandLine → Bool
is_until_eof (Stdio folder uid) = false
is_until_eof (Serve folder socket uid connections) = false
is_until_eof (ServeUntilEof folder socket uid connections) = true
is_until_eof (Load items seed) = false
is_until_eof (Check folder password) = false

-- the words are such a command line
abbrev pub IsUntilEof : List (List ℕ) → Type 0
IsUntilEof words = (line : CommandLine) × IsCommandLine line words × IsTrue (is_until_eof line)

-- a command line of a service over a folder of the host
abbrev pub ServesFolder : CommandLine → Type 0
ServesFolder (Stdio folder uid) = Unit {0}
ServesFolder (Serve folder socket uid connections) = Unit {0}
ServesFolder (ServeUntilEof folder socket uid connections) = Unit {0}
ServesFolder (Load items seed) = ⊥
ServesFolder (Check folder password) = ⊥

-- the words are such a command line
abbrev pub AsksForService : List (List ℕ) → Type 0
AsksForService words = (line : CommandLine) × IsCommandLine line words × ServesFolder line
