-- Words begin with one argument at most, so they have their operands and their values in one way.
use Rattle.std.proofs.Common.{◌≡◌, ℕ, ◌+◌, true, false, List, [], ◌∷◌, ◌++◌, length, get_or, drop, Option, None, Some, refl, sym, ◌∙◌, ap, subst, arith, append_assoc, length-append}
use Rattle.std.specs.Prelude.{codes, IsTrue}
use Rattle.std.specs.List.{AllByRecursion, flat_map}
use Rattle.std.proofs.lemmas.List.{append_cancel_left, append-nil}
use Rattle.std.proofs.lemmas.List.Elements.{All-nil, All-from_recursion, recursion_from_All}
use Rattle.command_words.specs.declared.beginning.OptionName.{OptionName}
use Rattle.command_words.specs.declared.beginning.OptionName.TheVariants.{Uid, Connections}
use Rattle.command_words.specs.declared.beginning.FlagName.{FlagName}
use Rattle.command_words.specs.declared.beginning.FlagName.TheVariants.{UntilEof, Password}
use Rattle.command_words.specs.Arguments.{option_word, flag_word, Form, two_words, one_word, Argument, operand, option, flag, words_of, operand_in, uid_in, connections_in, flag_in, is_plain, IsWritten, operands_after, words_of_end, HasArguments}
use Rattle.command_words.specs.Beginning.{IsFirst, IsFault, IsOther}

-- words of a command line
abbrev pub Words : Type 0
Words = List (List ℕ)

abbrev pub Flags : Type 0
Flags = List FlagName

-- ---- the first word

first : Words → List ℕ
first words = get_or words 0 []

-- the fourth byte of an option or a flag says which it is
abbrev mark : OptionName → ℕ
mark Uid = 105
mark Connections = 111

abbrev flag_mark : FlagName → ℕ
flag_mark UntilEof = 110
flag_mark Password = 97

marked : (form : Form) (name : OptionName) (value : List ℕ) (more : Words) → get_or (get_or (words_of (option form name value) ++ more) 0 []) 3 0 ≡ mark name
marked two_words Uid value more = refl
marked two_words Connections value more = refl
marked one_word Uid value more = refl
marked one_word Connections value more = refl

flag_marked : (name : FlagName) → get_or (flag_word name) 3 0 ≡ flag_mark name
flag_marked UntilEof = refl
flag_marked Password = refl

-- neither an option nor a flag is plain
not_plain : (form : Form) (name : OptionName) (value : List ℕ) (more : Words) → is_plain (get_or (words_of (option form name value) ++ more) 0 []) ≡ false
not_plain two_words Uid value more = refl
not_plain two_words Connections value more = refl
not_plain one_word Uid value more = refl
not_plain one_word Connections value more = refl

flag_not_plain : (name : FlagName) → is_plain (flag_word name) ≡ false
flag_not_plain UntilEof = refl
flag_not_plain Password = refl

-- a plain word is no option's first word
plain_apart : (word : List ℕ) (rest more : Words) (form : Form) (name : OptionName) (value : List ℕ) → IsTrue (is_plain word) → word ∷ rest ≡ words_of (option form name value) ++ more → ⊥
plain_apart word rest more form name value plain same =
    let one : true ≡ false = sym plain ∙ ap (λ l. is_plain (get_or l 0 [])) same ∙ not_plain form name value more in
    cc

-- nor a flag
plain_no_flag : (word : List ℕ) (name : FlagName) → IsTrue (is_plain word) → word ≡ flag_word name → ⊥
plain_no_flag word name plain same =
    let one : true ≡ false = sym plain ∙ ap is_plain same ∙ flag_not_plain name in
    cc

-- an option's name and a flag are apart
marks_apart : (name : OptionName) (other : FlagName) → mark name ≡ flag_mark other → ⊥
marks_apart Uid UntilEof same = omega (arith, same)
marks_apart Uid Password same = omega (arith, same)
marks_apart Connections UntilEof same = omega (arith, same)
marks_apart Connections Password same = omega (arith, same)

pub no_flag_first : (form : Form) (name : OptionName) (value : List ℕ) (more rest : Words) (other : FlagName) → words_of (option form name value) ++ more ≡ flag_word other ∷ rest → ⊥
no_flag_first form name value more rest other same =
    marks_apart name other (sym (marked form name value more) ∙ ap (λ l. get_or (get_or l 0 []) 3 0) same ∙ flag_marked other)

same_flag_mark : (name other : FlagName) → flag_mark name ≡ flag_mark other → name ≡ other
same_flag_mark UntilEof UntilEof e = refl
same_flag_mark UntilEof Password e = absurd (omega (arith, e))
same_flag_mark Password UntilEof e = absurd (omega (arith, e))
same_flag_mark Password Password e = refl

same_flag : (name other : FlagName) → flag_word name ≡ flag_word other → name ≡ other
same_flag name other same = same_flag_mark name other (sym (flag_marked name) ∙ ap (λ l. get_or l 3 0) same ∙ flag_marked other)

flag_some : (name : FlagName) → 0 ≡ flag_mark name → ⊥
flag_some UntilEof same = omega (arith, same)
flag_some Password same = omega (arith, same)

-- an argument has a word
some_words : (a : Argument) (more : Words) → words_of a ++ more ≡ [] → ⊥
some_words (operand word) more same = cc
some_words (option two_words name value) more same = cc
some_words (option one_word name value) more same = cc
some_words (flag name) more same = cc

-- which isn't `--`
end_apart : (a : Argument) (more rest : Words) → IsWritten a → words_of a ++ more ≡ codes "--" ∷ rest → ⊥
end_apart (operand word) more rest plain same =
    let one : true ≡ false = sym plain ∙ ap (λ l. is_plain (get_or l 0 [])) same in
    cc
end_apart (option form Uid value) more rest _ same =
    let one : 105 ≡ 0 = sym (marked form Uid value more) ∙ ap (λ l. get_or (get_or l 0 []) 3 0) same in
    absurd (omega (arith, one))
end_apart (option form Connections value) more rest _ same =
    let one : 111 ≡ 0 = sym (marked form Connections value more) ∙ ap (λ l. get_or (get_or l 0 []) 3 0) same in
    absurd (omega (arith, one))
end_apart (flag name) more rest _ same = flag_some name (ap (λ l. get_or (get_or l 0 []) 3 0) (sym same) ∙ flag_marked name)

-- ---- one option at most

same_mark : (name other : OptionName) → mark name ≡ mark other → name ≡ other
same_mark Uid Uid e = refl
same_mark Uid Connections e = absurd (omega (arith, e))
same_mark Connections Uid e = absurd (omega (arith, e))
same_mark Connections Connections e = refl

same_name : (form also : Form) (name other : OptionName) (value text : List ℕ) (more rest : Words)
    → words_of (option form name value) ++ more ≡ words_of (option also other text) ++ rest → name ≡ other
same_name form also name other value text more rest same =
    same_mark name other (sym (marked form name value more) ∙ ap (λ l. get_or (get_or l 0 []) 3 0) same ∙ marked also other text rest)

longer : (name value : List ℕ) → name ≡ name ++ 61 ∷ value → ⊥
longer name value same =
    let lengths : length name ≡ length name + (1 + length value) = ap length same ∙ length-append name (61 ∷ value) ∙ omega arith in
    omega (arith, lengths)

-- the value, and the words after it
same_value : (form also : Form) (name : OptionName) (value text : List ℕ) (more rest : Words)
    → words_of (option form name value) ++ more ≡ words_of (option also name text) ++ rest → (value ≡ text) × (more ≡ rest)
same_value two_words two_words name value text more rest same = (ap (λ l. get_or l 1 []) same, ap (drop 2) same)
same_value two_words one_word name value text more rest same = absurd (longer (option_word name) text (ap (λ l. get_or l 0 []) same))
same_value one_word two_words name value text more rest same = absurd (longer (option_word name) value (sym (ap (λ l. get_or l 0 []) same)))
same_value one_word one_word name value text more rest same =
    let values : 61 ∷ value ≡ 61 ∷ text = append_cancel_left (option_word name) (61 ∷ value) (61 ∷ text) (ap (λ l. get_or l 0 []) same) in
    (ap (drop 1) values, ap (drop 1) same)

-- ---- what is left after the first argument

pub record Split (a : Argument) (more o u c : Words) (f : Flags) : Type 0 where
  pub p : Words
  pub v : Words
  pub n : Words
  pub g : Flags
  pub has : HasArguments more p v n g
  pub operands_are : o ≡ operand_in a ++ p
  pub uids_are : u ≡ uid_in a ++ v
  pub connections_are : c ≡ connections_in a ++ n
  pub flags_are : f ≡ flag_in a ++ g

-- the operands and values of the rest of the arguments
rest_has : (more : Words) (arguments : List Argument) (after : Option Words) → AllByRecursion IsWritten arguments → more ≡ flat_map words_of arguments ++ words_of_end after
    → HasArguments more (flat_map operand_in arguments ++ operands_after after) (flat_map uid_in arguments) (flat_map connections_in arguments) (flat_map flag_in arguments)
rest_has more arguments after written same = record {
  arguments = arguments;
  after = after;
  written = All-from_recursion IsWritten arguments written;
  words_are = same;
  operands_are = refl;
  uids_are = refl;
  connections_are = refl;
  flags_are = refl;
}

-- the same argument is first
split_same : (a b : Argument) (more : Words) (arguments : List Argument) (after : Option Words) → AllByRecursion IsWritten arguments
    → more ≡ flat_map words_of arguments ++ words_of_end after → operand_in b ≡ operand_in a → uid_in b ≡ uid_in a → connections_in b ≡ connections_in a → flag_in b ≡ flag_in a
    → Split a more (flat_map operand_in (b ∷ arguments) ++ operands_after after) (flat_map uid_in (b ∷ arguments)) (flat_map connections_in (b ∷ arguments)) (flat_map flag_in (b ∷ arguments))
split_same a b more arguments after written same operands uids counts flags = record {
  p = flat_map operand_in arguments ++ operands_after after;
  v = flat_map uid_in arguments;
  n = flat_map connections_in arguments;
  g = flat_map flag_in arguments;
  has = rest_has more arguments after written same;
  operands_are = append_assoc (operand_in b) (flat_map operand_in arguments) (operands_after after) ∙ ap (λ l. l ++ (flat_map operand_in arguments ++ operands_after after)) operands;
  uids_are = ap (λ l. l ++ flat_map uid_in arguments) uids;
  connections_are = ap (λ l. l ++ flat_map connections_in arguments) counts;
  flags_are = ap (λ l. l ++ flat_map flag_in arguments) flags;
}

split_at : (a : Argument) (more : Words) (arguments : List Argument) (after : Option Words) → IsWritten a → AllByRecursion IsWritten arguments
    → words_of a ++ more ≡ flat_map words_of arguments ++ words_of_end after
    → Split a more (flat_map operand_in arguments ++ operands_after after) (flat_map uid_in arguments) (flat_map connections_in arguments) (flat_map flag_in arguments)
split_at a more [] None is written same = absurd (some_words a more same)
split_at a more [] (Some rest) is written same = absurd (end_apart a more rest is same)
split_at (operand word) more (operand other ∷ arguments) after is (plain, written) same =
    split_same (operand word) (operand other) more arguments after written (ap (drop 1) same) (ap (λ l. get_or l 0 [] ∷ []) (sym same)) refl refl refl
split_at (operand word) more (option form name value ∷ arguments) after is (_, written) same =
    absurd (plain_apart word more (flat_map words_of arguments ++ words_of_end after) form name value is
    (same ∙ append_assoc (words_of (option form name value)) (flat_map words_of arguments) (words_of_end after)))
split_at (option form name value) more (operand other ∷ arguments) after is (plain, written) same =
    absurd (plain_apart other (flat_map words_of arguments ++ words_of_end after) more form name value plain (sym same))
split_at (option form name value) more (option also other text ∷ arguments) after is (_, written) same =
    let all = same ∙ append_assoc (words_of (option also other text)) (flat_map words_of arguments) (words_of_end after) in
    let names : name ≡ other = same_name form also name other value text more (flat_map words_of arguments ++ words_of_end after) all in
    let values = same_value form also name value text more (flat_map words_of arguments ++ words_of_end after)
    (subst (λ o. words_of (option form name value) ++ more ≡ words_of (option also o text) ++ (flat_map words_of arguments ++ words_of_end after)) (sym names) all) in
    split_same (option form name value) (option also other text) more arguments after written values.1
    refl (sym (λ i. uid_in (option form (names i) (values.0 i)))) (sym (λ i. connections_in (option form (names i) (values.0 i)))) refl
split_at (flag name) more (flag other ∷ arguments) after is (_, written) same =
    let names : other ≡ name = same_flag other name (ap (λ l. get_or l 0 []) (sym same)) in
    split_same (flag name) (flag other) more arguments after written (ap (drop 1) same) refl refl refl (ap (λ one. one ∷ []) names)
split_at (flag name) more (operand other ∷ arguments) after is (plain, written) same =
    absurd (plain_no_flag other name plain (ap (λ l. get_or l 0 []) (sym same)))
split_at (operand word) more (flag name ∷ arguments) after is (_, written) same =
    absurd (plain_no_flag word name is (ap (λ l. get_or l 0 []) same))
split_at (flag name) more (option also other text ∷ arguments) after is (_, written) same =
    absurd (no_flag_first also other text (flat_map words_of arguments ++ words_of_end after) more name
    (sym (same ∙ append_assoc (words_of (option also other text)) (flat_map words_of arguments) (words_of_end after))))
split_at (option form name value) more (flag other ∷ arguments) after is (_, written) same =
    absurd (no_flag_first form name value more (flat_map words_of arguments ++ words_of_end after) other same)

pub split : (a : Argument) (more words o u c : Words) (f : Flags) → IsFirst a more words → HasArguments words o u c f → Split a more o u c f
split a more words o u c f is has =
    rw (has.operands_are, has.uids_are, has.connections_are, has.flags_are)
    (split_at a more has.arguments has.after is.written (recursion_from_All IsWritten has.arguments has.written) (sym is.words_are ∙ has.words_are))

-- and the words with one argument before those of others
pub has_first : (a : Argument) (more words o u c : Words) (f : Flags) → IsFirst a more words → HasArguments more o u c f
    → HasArguments words (operand_in a ++ o) (uid_in a ++ u) (connections_in a ++ c) (flag_in a ++ f)
has_first a more words o u c f is has = record {
  arguments = a ∷ has.arguments;
  after = has.after;
  written = All-from_recursion IsWritten (a ∷ has.arguments) (is.written, recursion_from_All IsWritten has.arguments has.written);
  words_are = is.words_are ∙ ap (λ l. words_of a ++ l) has.words_are ∙ sym (append_assoc (words_of a) (flat_map words_of has.arguments) (words_of_end has.after));
  operands_are = ap (λ l. operand_in a ++ l) has.operands_are ∙ sym (append_assoc (operand_in a) (flat_map operand_in has.arguments) (operands_after has.after));
  uids_are = ap (λ l. uid_in a ++ l) has.uids_are;
  connections_are = ap (λ l. connections_in a ++ l) has.connections_are;
  flags_are = ap (λ l. flag_in a ++ l) has.flags_are;
}

-- ---- the end

-- no words
pub has_nothing : (words : Words) → words ≡ [] → HasArguments words [] [] [] []
has_nothing words none = record {
  arguments = [];
  after = None;
  written = All-nil IsWritten;
  words_are = none;
  operands_are = refl;
  uids_are = refl;
  connections_are = refl;
  flags_are = refl;
}

-- `--`
pub has_end : (more words : Words) → words ≡ codes "--" ∷ more → HasArguments words more [] [] []
has_end more words ends = record {
  arguments = [];
  after = Some more;
  written = All-nil IsWritten;
  words_are = ends;
  operands_are = refl;
  uids_are = refl;
  connections_are = refl;
  flags_are = refl;
}

-- these operands, and no option
pub record Only (operands o u c : Words) (f : Flags) : Type 0 where
  pub operands_are : o ≡ operands
  pub uids_are : u ≡ []
  pub connections_are : c ≡ []
  pub flags_are : f ≡ []

nothing_at : (arguments : List Argument) (after : Option Words) → [] ≡ flat_map words_of arguments ++ words_of_end after
    → Only [] (flat_map operand_in arguments ++ operands_after after) (flat_map uid_in arguments) (flat_map connections_in arguments) (flat_map flag_in arguments)
nothing_at [] None same = record { operands_are = refl; uids_are = refl; connections_are = refl; flags_are = refl }
nothing_at [] (Some rest) same = absurd cc
nothing_at (a ∷ arguments) after same =
    absurd (some_words a (flat_map words_of arguments ++ words_of_end after) (sym (same ∙ append_assoc (words_of a) (flat_map words_of arguments) (words_of_end after))))

pub only_nothing : (o u c : Words) (f : Flags) → HasArguments [] o u c f → Only [] o u c f
only_nothing o u c f has = rw (has.operands_are, has.uids_are, has.connections_are, has.flags_are) (nothing_at has.arguments has.after has.words_are)

end_at : (more : Words) (arguments : List Argument) (after : Option Words) → AllByRecursion IsWritten arguments → codes "--" ∷ more ≡ flat_map words_of arguments ++ words_of_end after
    → Only more (flat_map operand_in arguments ++ operands_after after) (flat_map uid_in arguments) (flat_map connections_in arguments) (flat_map flag_in arguments)
end_at more [] None written same = absurd cc
end_at more [] (Some rest) written same = record { operands_are = ap (drop 1) (sym same); uids_are = refl; connections_are = refl; flags_are = refl }
end_at more (a ∷ arguments) after (is, written) same =
    absurd (end_apart a (flat_map words_of arguments ++ words_of_end after) more is (sym (same ∙ append_assoc (words_of a) (flat_map words_of arguments) (words_of_end after))))

pub only_end : (more words o u c : Words) (f : Flags) → words ≡ codes "--" ∷ more → HasArguments words o u c f → Only more o u c f
only_end more words o u c f ends has =
    rw (has.operands_are, has.uids_are, has.connections_are, has.flags_are)
    (end_at more has.arguments has.after (recursion_from_All IsWritten has.arguments has.written) (sym ends ∙ has.words_are))

-- words that begin with a fault are no arguments
fault_at : (words : Words) (arguments : List Argument) (after : Option Words) → AllByRecursion IsWritten arguments → words ≡ flat_map words_of arguments ++ words_of_end after → IsFault words → ⊥
fault_at words [] None written same fault = fault.some same
fault_at words [] (Some rest) written same fault = fault.no_end rest same
fault_at words (a ∷ arguments) after (is, written) same fault =
    fault.no_argument a (flat_map words_of arguments ++ words_of_end after)
    (record { written = is; words_are = same ∙ append_assoc (words_of a) (flat_map words_of arguments) (words_of_end after) })

pub no_fault : (words o u c : Words) (f : Flags) → IsFault words → HasArguments words o u c f → ⊥
no_fault words o u c f fault has = fault_at words has.arguments has.after (recursion_from_All IsWritten has.arguments has.written) has.words_are fault

-- ---- one reading

-- the same operands and values
pub record Same (o u c p v n : Words) (f g : Flags) : Type 0 where
  pub operands_are : o ≡ p
  pub uids_are : u ≡ v
  pub connections_are : c ≡ n
  pub flags_are : f ≡ g

one_at : (arguments : List Argument) (after : Option Words) (words p v n : Words) (g : Flags) → AllByRecursion IsWritten arguments → words ≡ flat_map words_of arguments ++ words_of_end after
    → HasArguments words p v n g → Same (flat_map operand_in arguments ++ operands_after after) (flat_map uid_in arguments) (flat_map connections_in arguments) p v n (flat_map flag_in arguments) g
one_at [] None words p v n g written same has =
    let only = only_nothing p v n g (subst (λ w. HasArguments w p v n g) same has) in
    record { operands_are = sym only.operands_are; uids_are = sym only.uids_are; connections_are = sym only.connections_are; flags_are = sym only.flags_are }
one_at [] (Some rest) words p v n g written same has =
    let only = only_end rest words p v n g same has in
    record { operands_are = sym only.operands_are; uids_are = sym only.uids_are; connections_are = sym only.connections_are; flags_are = sym only.flags_are }
one_at (a ∷ arguments) after words p v n g (is, written) same has =
    let more : Words = flat_map words_of arguments ++ words_of_end after in
    let at = split a more words p v n g (record { written = is; words_are = same ∙ append_assoc (words_of a) (flat_map words_of arguments) (words_of_end after) }) has in
    let rest = one_at arguments after more at.p at.v at.n at.g written refl at.has in
    record {
      operands_are = append_assoc (operand_in a) (flat_map operand_in arguments) (operands_after after) ∙ ap (λ l. operand_in a ++ l) rest.operands_are ∙ sym at.operands_are;
      uids_are = ap (λ l. uid_in a ++ l) rest.uids_are ∙ sym at.uids_are;
      connections_are = ap (λ l. connections_in a ++ l) rest.connections_are ∙ sym at.connections_are;
      flags_are = ap (λ l. flag_in a ++ l) rest.flags_are ∙ sym at.flags_are;
    }

pub one_reading : (words o u c p v n : Words) (f g : Flags) → HasArguments words o u c f → HasArguments words p v n g → Same o u c p v n f g
one_reading words o u c p v n f g one other =
    rw (one.operands_are, one.uids_are, one.connections_are, one.flags_are)
    (one_at one.arguments one.after words p v n g (recursion_from_All IsWritten one.arguments one.written) one.words_are other)

-- ---- what words don't begin with

no_front_at : (form : Form) (name : OptionName) (word value : List ℕ) (more rest : Words) → ((tail : List ℕ) → word ≡ option_word name ++ tail → ⊥)
    → IsFirst (option form name value) rest (word ∷ more) → ⊥
no_front_at two_words name word value more rest none is = none [] (ap (λ l. get_or l 0 []) is.words_are ∙ sym (append-nil (option_word name)))
no_front_at one_word name word value more rest none is = none (61 ∷ value) (ap (λ l. get_or l 0 []) is.words_are)

-- the word doesn't begin with the option's name
pub no_front : (name : OptionName) (word : List ℕ) (more : Words) → ((tail : List ℕ) → word ≡ option_word name ++ tail → ⊥) → IsOther name (word ∷ more)
no_front name word more none = λ value rest is. no_front_at is.0 name word value more rest none is.1

no_value_at : (form : Form) (name : OptionName) (value : List ℕ) (rest : Words) → IsFirst (option form name value) rest (option_word name ∷ []) → ⊥
no_value_at two_words name value rest is = let one : [] ≡ value ∷ rest = ap (drop 1) is.words_are in cc
no_value_at one_word name value rest is = longer (option_word name) value (ap (λ l. get_or l 0 []) is.words_are)

-- the option's name is the last word
pub no_value : (name : OptionName) (word tail : List ℕ) (more : Words) → word ≡ option_word name ++ tail → tail ≡ [] → more ≡ [] → IsOther name (word ∷ more)
no_value name word tail more begins none last = λ value rest is.
    let whole : word ∷ more ≡ option_word name ∷ [] = (λ i. begins i ∷ last i) ∙ ap (λ l. (option_word name ++ l) ∷ []) none ∙ ap (λ l. l ∷ []) (append-nil (option_word name)) in
    no_value_at is.0 name value rest (rw whole at is.1)

no_sign_at : (form : Form) (name : OptionName) (word tail value : List ℕ) (more rest : Words) → word ≡ option_word name ++ tail → (tail ≡ [] → ⊥) → ((after : List ℕ) → tail ≡ 61 ∷ after → ⊥)
    → IsFirst (option form name value) rest (word ∷ more) → ⊥
no_sign_at two_words name word tail value more rest begins some none is =
    some (append_cancel_left (option_word name) tail [] (sym begins ∙ ap (λ l. get_or l 0 []) is.words_are ∙ sym (append-nil (option_word name))))
no_sign_at one_word name word tail value more rest begins some none is =
    none value (append_cancel_left (option_word name) tail (61 ∷ value) (sym begins ∙ ap (λ l. get_or l 0 []) is.words_are))

-- the option's name is followed by something else in its word
pub no_sign : (name : OptionName) (word tail : List ℕ) (more : Words) → word ≡ option_word name ++ tail → (tail ≡ [] → ⊥) → ((after : List ℕ) → tail ≡ 61 ∷ after → ⊥) → IsOther name (word ∷ more)
no_sign name word tail more begins some none = λ value rest is. no_sign_at is.0 name word tail value more rest begins some none is.1

fault_argument : (a : Argument) (word : List ℕ) (more rest : Words) → is_plain word ≡ false → IsOther Uid (word ∷ more) → IsOther Connections (word ∷ more)
    → ((name : FlagName) → word ≡ flag_word name → ⊥) → IsFirst a rest (word ∷ more) → ⊥
fault_argument (operand other) word more rest plain uid connections none is =
    let one : true ≡ false = sym is.written ∙ ap (λ l. is_plain (get_or l 0 [])) (sym is.words_are) ∙ plain in
    cc
fault_argument (option form Uid value) word more rest plain uid connections none is = uid value rest (form, is)
fault_argument (option form Connections value) word more rest plain uid connections none is = connections value rest (form, is)
fault_argument (flag name) word more rest plain uid connections none is = none name (ap (λ l. get_or l 0 []) is.words_are)

-- a word that can't be there
pub is_fault : (words : Words) (word : List ℕ) (more : Words) → words ≡ word ∷ more → is_plain word ≡ false → (word ≡ codes "--" → ⊥)
    → IsOther Uid (word ∷ more) → IsOther Connections (word ∷ more) → ((name : FlagName) → word ≡ flag_word name → ⊥) → IsFault words
is_fault words word more same plain no_end uid connections none = rw same record {
  no_argument = λ a rest is. fault_argument a word more rest plain uid connections none is;
  no_end = λ rest is. no_end (ap (λ l. get_or l 0 []) is);
  some = λ empty. cc;
}
