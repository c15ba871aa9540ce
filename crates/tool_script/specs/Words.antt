-- The words of a command of the client tool, those after its UID: `store LABEL (A V)+`, `lookup (A V)+`, `search (A V)+`,
-- `clear (A V)+` and `lock`. Each word besides the first is taken as it is.
use Rattle.std.specs.Prelude.{ℕ, Bool, List, [], ◌∷◌, Option, Some, None, codes, option_and_then, option_map, if◌then◌else◌}
use Rattle.std.specs.Str.{bytes_eq}
use Rattle.kr_base.specs.declared.attributes.AttrValue.{AttrValue}
use Rattle.call_arguments.specs.Arguments as arguments
use Rattle.client_core.specs.Askable.{AreTexts}
use Rattle.tool_script.specs.declared.command.Command.{Command}
use Rattle.tool_script.specs.declared.command.Command.TheVariants as command
use Rattle.tool_script.specs.declared.command.Verb.{Verb}
use Rattle.tool_script.specs.declared.command.Verb.TheVariants as verb

-- the first word of a command
abbrev pub verb_of : List ℕ → Option Verb
verb_of word =
    if bytes_eq word (codes "store") then Some verb.Store else
    if bytes_eq word (codes "lookup") then Some verb.Lookup else
    if bytes_eq word (codes "search") then Some verb.Search else
    if bytes_eq word (codes "clear") then Some verb.Clear else
    if bytes_eq word (codes "lock") then Some verb.Lock else None

-- words as pairs of a name and a value, if their number is even
abbrev pub pairs_of : List (List ℕ) → Option (List (List ℕ × List ℕ))
pairs_of [] = Some []
pairs_of (name ∷ []) = None
pairs_of (name ∷ value ∷ words) = option_map (λ pairs. (name, value) ∷ pairs) (pairs_of words)

-- the attributes that words are, if there is a pair at least; of two with one name the later counts
abbrev pub attributes_of : List (List ℕ) → Option (List (List ℕ × AttrValue))
attributes_of [] = None
attributes_of (word ∷ words) = option_map arguments.attributes_of (pairs_of (word ∷ words))

-- the words after `store`
abbrev pub store_of : List (List ℕ) → List ℕ → Option Command
store_of [] secret = None
store_of (label ∷ words) secret = option_map (λ attributes. command.Store label attributes secret) (attributes_of words)

-- the words after `lock`, which are none
abbrev pub lock_of : List (List ℕ) → Option Command
lock_of [] = Some command.Lock
lock_of (word ∷ words) = None

-- the words after the first
abbrev pub command_with : Verb → List (List ℕ) → List ℕ → Option Command
command_with verb.Store words secret = store_of words secret
command_with verb.Lookup words secret = option_map (λ wanted. command.Lookup wanted) (attributes_of words)
command_with verb.Search words secret = option_map (λ wanted. command.Search wanted) (attributes_of words)
command_with verb.Clear words secret = option_map (λ wanted. command.Clear wanted) (attributes_of words)
command_with verb.Lock words secret = lock_of words

-- the command that the words are, with the secret that `store` stores
abbrev pub command_of : List (List ℕ) → List ℕ → Option Command
command_of [] secret = None
command_of (word ∷ words) secret = option_and_then (λ verb. command_with verb words secret) (verb_of word)

-- the values of a command's attributes are texts
abbrev pub HasTexts : Command → Type 0
HasTexts (command.Store label attributes secret) = AreTexts attributes
HasTexts (command.Lookup wanted) = AreTexts wanted
HasTexts (command.Search wanted) = AreTexts wanted
HasTexts (command.Clear wanted) = AreTexts wanted
HasTexts command.Lock = Unit {0}
