-- What was found of the arguments before some words, and what the rest adds.
use Rattle.std.proofs.Common.{◌≡◌, ℕ, ◌+◌, ◌<◌, List, [], ◌∷◌, ◌++◌, length, get_or, take, Option, None, Some, refl, sym, ◌∙◌, ap, arith, append_assoc, length-append}
use Rattle.std.specs.Prelude.{codes, MatchOption}
use Rattle.std.proofs.lemmas.List.{append-nil, take_more, length-take-le}
use Rattle.command_words.specs.declared.beginning.OptionName.TheVariants.{Uid, Connections}
use Rattle.command_words.specs.declared.beginning.OptionName.{OptionName}
use Rattle.command_words.specs.declared.arguments.Found.{Found}
use Rattle.command_words.specs.Arguments.{Form, two_words, Argument, operand, option, flag, operand_in, uid_in, connections_in, flag_in, HasArguments}
use Rattle.command_words.specs.Beginning.{IsFirst, IsFault}
use Rattle.command_words.specs.Found.{listed, value_of, flag_of, HasMore, HasAll, IsFull, Finds, FindsNone}
use Rattle.command_words.proofs.ArgumentLemmas.{Words, Flags, split, has_first, has_nothing, has_end, only_end, no_fault}

-- the words before the rest have these operands and values
pub record Reading (words rest o u c : Words) (f : Flags) : Type 0 where
  pub sound : (p v n : Words) (g : Flags) → HasArguments rest p v n g → HasArguments words (o ++ p) (u ++ v) (c ++ n) (f ++ g)
  pub only : (all uids counts : Words) (flags : Flags) → HasArguments words all uids counts flags
      → (p : Words) × (v : Words) × (n : Words) × (g : Flags) × HasArguments rest p v n g × (all ≡ o ++ p) × (uids ≡ u ++ v) × (counts ≡ c ++ n) × (flags ≡ f ++ g)

-- of what was found
abbrev pub ReadSo : Words → Words → Found → Type 0
ReadSo words rest found = Reading words rest (listed found.operands) (value_of found.uid) (value_of found.connections) (flag_of found.flag)

pub reading_start : (words : Words) → Reading words words [] [] [] []
reading_start words = record {
  sound = λ p v n g has. has;
  only = λ all uids counts flags has. (all, uids, counts, flags, has, refl, refl, refl, refl);
}

reading_more : (words rest more o u c : Words) (f : Flags) (a : Argument) → Reading words rest o u c f → IsFirst a more rest
    → Reading words more (o ++ operand_in a) (u ++ uid_in a) (c ++ connections_in a) (f ++ flag_in a)
reading_more words rest more o u c f a so is = record {
  sound = λ p v n g has. rw (append_assoc o (operand_in a) p, append_assoc u (uid_in a) v, append_assoc c (connections_in a) n, append_assoc f (flag_in a) g)
      (so.sound (operand_in a ++ p) (uid_in a ++ v) (connections_in a ++ n) (flag_in a ++ g) (has_first a more rest p v n g is has));
  only = λ all uids counts flags has.
      let found = so.only all uids counts flags has in
      let at = split a more rest found.0 found.1 found.2 found.3 is found.4 in (
        at.p,
        at.v,
        at.n,
        at.g,
        at.has,
        found.5 ∙ ap (λ l. o ++ l) at.operands_are ∙ sym (append_assoc o (operand_in a) at.p),
        found.6 ∙ ap (λ l. u ++ l) at.uids_are ∙ sym (append_assoc u (uid_in a) at.v),
        found.7 ∙ ap (λ l. c ++ l) at.connections_are ∙ sym (append_assoc c (connections_in a) at.n),
        found.8 ∙ ap (λ l. f ++ l) at.flags_are ∙ sym (append_assoc f (flag_in a) at.g),
      );
}

-- one more argument was found
pub read_more : (words rest more : Words) (a : Argument) (found after : Found) → ReadSo words rest found → IsFirst a more rest → HasMore found a after → ReadSo words more after
read_more words rest more a found after so is has =
    rw (has.operands_are, has.uids_are, has.connections_are, has.flags_are)
    (reading_more words rest more (listed found.operands) (value_of found.uid) (value_of found.connections) (flag_of found.flag) a so is)

-- the words are read to their end
pub read_whole : (words rest : Words) (found : Found) → ReadSo words rest found → rest ≡ [] → Finds found words
read_whole words rest found so none =
    rw (sym (append-nil (listed found.operands)), sym (append-nil (value_of found.uid)), sym (append-nil (value_of found.connections)), sym (append-nil (flag_of found.flag)))
    (so.sound [] [] [] [] (has_nothing rest none))

-- there is no place for an argument
pub read_full : (words rest more : Words) (a : Argument) (found : Found) → ReadSo words rest found → IsFirst a more rest → IsFull found a → FindsNone words
read_full words rest more (operand word) found so is full = λ o u c f few one some single has.
    let read = so.only o u c f has in
    let at = split (operand word) more rest read.0 read.1 read.2 read.3 is read.4 in
    let lengths : length o ≡ 2 + (1 + length at.p) = ap length (read.5 ∙ ap (λ l. listed found.operands ++ l) at.operands_are) ∙ length-append (listed found.operands) (word ∷ at.p) ∙ ap (λ k. k + length (word ∷ at.p)) full ∙ omega arith in
    omega (arith, few, lengths)
read_full words rest more (option form Uid value) found so is full = λ o u c f few one some single has.
    let read = so.only o u c f has in
    let at = split (option form Uid value) more rest read.0 read.1 read.2 read.3 is read.4 in
    let lengths : length u ≡ 1 + (1 + length at.v) = ap length (read.6 ∙ ap (λ l. value_of found.uid ++ l) at.uids_are) ∙ length-append (value_of found.uid) (value ∷ at.v) ∙ ap (λ k. k + length (value ∷ at.v)) full ∙ omega arith in
    omega (arith, one, lengths)
read_full words rest more (option form Connections value) found so is full = λ o u c f few one some single has.
    let read = so.only o u c f has in
    let at = split (option form Connections value) more rest read.0 read.1 read.2 read.3 is read.4 in
    let lengths : length c ≡ 1 + (1 + length at.n) = ap length (read.7 ∙ ap (λ l. value_of found.connections ++ l) at.connections_are) ∙ length-append (value_of found.connections) (value ∷ at.n) ∙ ap (λ k. k + length (value ∷ at.n)) full ∙ omega arith in
    omega (arith, some, lengths)
read_full words rest more (flag name) found so is full = λ o u c f few one some single has.
    let read = so.only o u c f has in
    let at = split (flag name) more rest read.0 read.1 read.2 read.3 is read.4 in
    let lengths : length f ≡ 1 + (1 + length at.g) = ap length (read.8 ∙ ap (λ l. flag_of found.flag ++ l) at.flags_are) ∙ length-append (flag_of found.flag) (name ∷ at.g) ∙ ap (λ k. k + length (name ∷ at.g)) full ∙ omega arith in
    omega (arith, single, lengths)

-- `--` and only operands
pub read_end : (words rest more : Words) (found all : Found) → ReadSo words rest found → rest ≡ codes "--" ∷ more → HasAll found more all → Finds all words
read_end words rest more found all so ends has =
    rw (has.operands_are, has.uids_are, has.connections_are, has.flags_are)
    (rw (append-nil (value_of found.uid), append-nil (value_of found.connections), append-nil (flag_of found.flag)) at (so.sound more [] [] [] (has_end more rest ends)))

pub read_end_full : (words rest more : Words) (found : Found) → ReadSo words rest found → rest ≡ codes "--" ∷ more → 2 < length (listed found.operands) + length more → FindsNone words
read_end_full words rest more found so ends full = λ o u c f few one some single has.
    let read = so.only o u c f has in
    let only = only_end more rest read.0 read.1 read.2 read.3 ends read.4 in
    let lengths : length o ≡ length (listed found.operands) + length more = ap length (read.5 ∙ ap (λ l. listed found.operands ++ l) only.operands_are) ∙ length-append (listed found.operands) more in
    omega (arith, few, lengths, full)

pub read_fault : (words rest : Words) (found : Found) → ReadSo words rest found → IsFault rest → FindsNone words
read_fault words rest found so fault = λ o u c f few one some single has.
    let read = so.only o u c f has in
    no_fault rest read.0 read.1 read.2 read.3 fault read.4

-- the form of an option makes no difference
pub any_form : (found after : Found) (form : Form) (name : OptionName) (value : List ℕ) → HasMore found (option two_words name value) after → HasMore found (option form name value) after
any_form found after form name value has = record { operands_are = has.operands_are; uids_are = has.uids_are; connections_are = has.connections_are; flags_are = has.flags_are }

-- what is found with the operands after `--`
pub end_found : (words rest more : Words) (found : Found) (r : Option Found) → ReadSo words rest found → rest ≡ codes "--" ∷ more
    → MatchOption r (2 < length (listed found.operands) + length more) (λ all. HasAll found more all) → MatchOption r (FindsNone words) (λ all. Finds all words)
end_found words rest more found None so ends full = read_end_full words rest more found so ends full
end_found words rest more found (Some all) so ends has = read_end words rest more found all so ends has

-- ---- all words as operands

pub all_none : (found : Found) (words : Words) → HasAll found (take 0 words) found
all_none found words = record { operands_are = sym (append-nil (listed found.operands)); uids_are = refl; connections_are = refl; flags_are = refl }

pub all_more : (found all more : Found) (words : Words) (k : ℕ) (word : List ℕ) → k < length words → word ≡ get_or words k word → HasAll found (take k words) all → HasMore all (operand word) more
    → HasAll found (take (k + 1) words) more
all_more found all more words k word below at has one = record {
  operands_are = one.operands_are ∙ ap (λ l. l ++ word ∷ []) has.operands_are ∙ append_assoc (listed found.operands) (take k words) (word ∷ [])
      ∙ ap (λ l. listed found.operands ++ l) (ap (λ w. take k words ++ w ∷ []) at ∙ sym (take_more words k word below));
  uids_are = one.uids_are ∙ append-nil (value_of all.uid) ∙ has.uids_are;
  connections_are = one.connections_are ∙ append-nil (value_of all.connections) ∙ has.connections_are;
  flags_are = one.flags_are ∙ append-nil (flag_of all.flag) ∙ has.flags_are;
}

-- a third operand
pub all_full : (found all : Found) (words : Words) (k : ℕ) → k < length words → HasAll found (take k words) all → length (listed all.operands) ≡ 2
    → 2 < length (listed found.operands) + length words
all_full found all words k below has full =
    let lengths : length (listed all.operands) ≡ length (listed found.operands) + length (take k words) = ap length has.operands_are ∙ length-append (listed found.operands) (take k words) in
    let so_far : length (take k words) ≡ k = length-take-le k words (omega (arith, below)) in
    omega (arith, full, lengths, so_far, below)
