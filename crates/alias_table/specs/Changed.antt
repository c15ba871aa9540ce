-- What a change makes of the aliases (docs/SERVICE.md, "Aliases").
use Rattle.std.specs.Prelude.{◌≡◌, ℕ, ◌≤◌, ◌++◌, ◌∷◌, Bool, List, filter, length, nat_le, Option, None, Some, if◌then◌else◌}
use Rattle.std.specs.Cmp.Lexicographic.{slice_cmp}
use Rattle.std.specs.List.{list_any}
use Rattle.std.specs.Ordering.{nat_cmp, is_lt}
use Rattle.kr_base.specs.Attributes.{is_name}
use Rattle.alias_text.specs.Pairs.{longest}
use Rattle.alias_text.specs.Writing.{AreAliases, most_aliases, text_of}

-- the aliases: the name of each, and the stem of the collection that it stands for
abbrev pub Aliases : Type 0
Aliases = List (List ℕ × List ℕ)

-- the stem is that of a collection that exists
abbrev pub is_live : List (List ℕ) → List ℕ → Bool
is_live live stem = list_any (is_name stem) live

-- the stem, if its collection exists
abbrev pub live_only : List (List ℕ) → Option (List ℕ) → Option (List ℕ)
live_only live None = None
live_only live (Some stem) = if is_live live stem then Some stem else None

-- the aliases whose collection exists
abbrev pub kept : List (List ℕ) → Aliases → Aliases
kept live aliases = filter (λ alias. is_live live alias.1) aliases

-- the aliases whose names come before this one in byte order
abbrev pub before : List ℕ → Aliases → Aliases
before name aliases = filter (λ alias. is_lt (slice_cmp nat_cmp alias.0 name)) aliases

-- and those whose names come after it
abbrev pub after : List ℕ → Aliases → Aliases
after name aliases = filter (λ alias. is_lt (slice_cmp nat_cmp name alias.0)) aliases

-- the aliases with this one set to a stem, in its place, or removed
abbrev pub with_alias : List ℕ → Option (List ℕ) → Aliases → Aliases
with_alias name None aliases = before name aliases ++ after name aliases
with_alias name (Some stem) aliases = before name aliases ++ (name, stem) ∷ after name aliases

-- the aliases after a change: those whose collection is gone are dropped, and the alias is set or removed
abbrev pub changed : List ℕ → Option (List ℕ) → List (List ℕ) → Aliases → Aliases
changed name stem live aliases = with_alias name stem (kept live aliases)

-- the aliases, unless there are too many
abbrev pub few : Aliases → Option Aliases
few aliases = if nat_le (length aliases) most_aliases then Some aliases else None

-- the aliases can be stored: a file can contain them, and this is their text, which isn't too long to be read again
pub record IsStorable (aliases : Aliases) (text : List ℕ) : Type 0 where
  pub are : AreAliases aliases
  pub fits : length (text_of aliases) ≤ longest
  pub is : text ≡ text_of aliases
