-- The stem of a new collection (docs/SERVICE.md, "Names and paths").
use Rattle.std.specs.Prelude.{◌≡◌, ℕ, zero, suc, ◌+◌, ◌<◌, ◌≤◌, ◌==◌, true, false, List, [], ◌∷◌, ◌++◌, length, map, take, codes, decimal, if◌then◌else◌}
use Rattle.std.specs.Char.{is_ascii_alphanumeric}
use Rattle.stem_choice.specs.UsedStems.{is_used}

-- a byte of a label as a stem has it: a letter or a digit is itself, any other byte is `_`
abbrev pub stem_byte : ℕ → ℕ
stem_byte byte = if is_ascii_alphanumeric byte then byte else 95

-- the most bytes of a label that a stem keeps
abbrev pub label_limit : ℕ
label_limit = 64

-- `keyring` in place of no bytes
abbrev pub or_keyring : List ℕ → List ℕ
or_keyring [] = codes "keyring"
or_keyring (byte ∷ bytes) = byte ∷ bytes

-- the stem of a label while it isn't used
abbrev pub base_of : List ℕ → List ℕ
base_of label = or_keyring (take label_limit (map stem_byte label))

-- the candidate with a number, from 1 on: the stem itself, then with `_2`, `_3` and so on after it
abbrev pub numbered : List ℕ → ℕ → List ℕ
numbered base number = if number == 1 then base else base ++ 95 ∷ decimal number

-- the stem that a new collection gets: the candidate with the least number that isn't used
pub record IsChosen (label : List ℕ) (used : List (List ℕ)) (stem : List ℕ) : Type 0 where
  pub number : ℕ
  pub from_one : 1 ≤ number
  pub spelled : stem ≡ numbered (base_of label) number
  pub free : is_used stem used ≡ false
  pub least : (before : ℕ) → 1 ≤ before → before < number → is_used (numbered (base_of label) before) used ≡ true

-- the first candidate from this number on that isn't used; where so many of them are used, the one after them
abbrev pub free_from : List ℕ → List (List ℕ) → ℕ → ℕ → List ℕ
free_from base used number zero = numbered base number
free_from base used number (suc more) =
    if is_used (numbered base number) used then free_from base used (number + 1) more else numbered base number

-- The stem that a new collection gets, as a function: of all candidates one is free among the first n + 1, where n stems are used.
-- The law `the_chosen_stem_is_the_first_free_one` says that it is what the relation says.
unfoldable pub chosen : List ℕ → List (List ℕ) → List ℕ
chosen label used = free_from (base_of label) used 1 (length used)
