-- The words of a command line, and that the words of a command are one with any secret or with none.
use Rattle.std.proofs.Common.{◌≡◌, ℕ, true, false, List, [], ◌∷◌, Option, Some, None, refl, sym, ap, ◌∙◌, option_map, option_and_then}
use Rattle.std.specs.Option.{is_some}
use Rattle.tool_script.specs.declared.command.Command.{Command}
use Rattle.tool_script.specs.declared.command.Command.TheVariants as command
use Rattle.tool_script.specs.declared.command.Verb.{Verb}
use Rattle.tool_script.specs.declared.command.Verb.TheVariants as verb
use Rattle.tool_script.specs.Script.{Course, begun}
use Rattle.tool_script.specs.Words.{verb_of, attributes_of, store_of, command_with, command_of}
use Rattle.client_tool.specs.Lines.{IsLine, HasNoUser, IsNoLine}

-- words that don't begin with a user are no line
pub no-user-no-line : (words : List (List ℕ)) → HasNoUser words → IsNoLine words
no-user-no-line words none path uid rest secret command line is = none path uid rest line

pub mapped : {A B : Type 0} (f g : A → B) (o : Option A) → is_some (option_map f o) ≡ is_some (option_map g o)
mapped f g None = refl
mapped f g (Some it) = refl

stored : (words : List (List ℕ)) (one other : List ℕ) → is_some (store_of words one) ≡ is_some (store_of words other)
stored [] one other = refl
stored (label ∷ words) one other = mapped (λ attributes. command.Store label attributes one) (λ attributes. command.Store label attributes other) (attributes_of words)

with-verb : (v : Verb) (words : List (List ℕ)) (one other : List ℕ) → is_some (command_with v words one) ≡ is_some (command_with v words other)
with-verb verb.Store words one other = stored words one other
with-verb verb.Lookup words one other = refl
with-verb verb.Search words one other = refl
with-verb verb.Clear words one other = refl
with-verb verb.Lock words one other = refl

pub any-secret : (words : List (List ℕ)) (one other : List ℕ) → is_some (command_of words one) ≡ is_some (command_of words other)
any-secret [] one other = refl
any-secret (word ∷ words) one other = pass (verb_of word)
  where
    pass : (o : Option Verb) → is_some (option_and_then (λ v. command_with v words one) o) ≡ is_some (option_and_then (λ v. command_with v words other) o)
    pass None = refl
    pass (Some v) = with-verb v words one other

false-true : false ≡ true → ⊥
false-true e = cc

-- the script, if there is one
abbrev unwrap : Course → Option Course → Course
unwrap other None = other
unwrap other (Some x) = x

-- a script that was made of words is that of their command, before its first call
pub command-is : (o : Option Command) (course : Course) → Some course ≡ option_map begun o → (o ≡ Some course.command) × (course.replies ≡ [])
command-is None course e = let absent : true ≡ false = ap is_some e in absurd (false-true (sym absent))
command-is (Some c) course e =
    let same : course ≡ begun c = ap (unwrap (begun c)) e in
    (ap (λ (x : Course). Some x.command) (sym same), ap (λ (x : Course). x.replies) same)

-- what follows two words
abbrev tail-of : List (List ℕ) → List (List ℕ)
tail-of [] = []
tail-of (one ∷ []) = []
tail-of (one ∷ two ∷ l) = l

-- a line whose command's words are none is no line
pub line-none : (words : List (List ℕ)) (path : List ℕ) (uid : ℕ) (rest : List (List ℕ)) → IsLine words path uid rest → is_some (command_of rest []) ≡ false → IsNoLine words
line-none words path uid rest line none other user more secret it also is =
    let same : rest ≡ more = ap tail-of (sym line.words_are ∙ also.words_are) in
    let there : is_some (command_of rest secret) ≡ true = ap is_some (ap (λ (l : List (List ℕ)). command_of l secret) same ∙ is) in
    false-true (sym none ∙ any-secret rest [] secret ∙ there)

-- a line is one with a command if its words are
pub line-some : (words : List (List ℕ)) (path : List ℕ) (uid : ℕ) (rest : List (List ℕ)) → IsLine words path uid rest → is_some (command_of rest []) ≡ true → IsNoLine words → ⊥
line-some words path uid rest line some none = pass (command_of rest []) some (λ command is. none path uid rest [] command line is)
  where
    pass : (o : Option Command) → is_some o ≡ true → ((command : Command) → o ≡ Some command → ⊥) → ⊥
    pass None e nothing = false-true e
    pass (Some command) e nothing = nothing command refl

-- whether words are a command, as a script that was made of them shows
pub made-some : (words : List (List ℕ)) (secret : List ℕ) (course : Course) → Some course ≡ option_map begun (command_of words secret) → true ≡ is_some (command_of words [])
made-some words secret course is = sym (any-secret words [] secret ∙ ap is_some (command-is (command_of words secret) course is).0)

pub made-none : (words : List (List ℕ)) (secret : List ℕ) → None ≡ option_map begun (command_of words secret) → false ≡ is_some (command_of words [])
made-none words secret is = sym (any-secret words [] secret ∙ pass (command_of words secret) is)
  where
    pass : (o : Option Command) → None ≡ option_map begun o → is_some o ≡ false
    pass None e = refl
    pass (Some c) e = let absent : false ≡ true = ap is_some e in absurd (false-true absent)

-- words that are a command with one secret are one with another
pub never-none : (words : List (List ℕ)) (secret : List ℕ) → is_some (command_of words []) ≡ true → None ≡ option_map begun (command_of words secret) → ⊥
never-none words secret some none = false-true (made-none words secret none ∙ some)
