-- The name of a path as a function: the way back from `path_text` (docs/SERVICE.md, "Names and paths"). The law
-- `a_path_is_that_of_its_name` says that it is the name with this path.
use Rattle.std.specs.Prelude.{ℕ, ◌^◌, ◌&&◌, ◌==◌, not, nat_eq, nat_lt, nat_le, Bool, true, List, [], ◌∷◌, length, get_or, drop, Option, Some, None, option_map, if◌then◌else◌}
use Rattle.std.specs.List.{list_all, list_any}
use Rattle.std.specs.Str.{bytes_eq, is_utf8}
use Rattle.std.specs.Str.Parse.{digits_value}
use Rattle.kr_base.specs.Stem.{stem_limit}
use Rattle.kr_names.specs.declared.object_name.ObjectName.{ObjectName}
use Rattle.kr_names.specs.declared.object_name.ObjectName.TheVariants.{Nothing, Service, Agent, Collection, Item, Alias, Session, Prompt}
use Rattle.kr_names.specs.Escape.{is_path_byte, unescaped}
use Rattle.kr_names.specs.Path.{alias_limit, path_text}

-- whether the bytes are a stem
abbrev pub is_stem : List ℕ → Bool
is_stem bytes = is_utf8 bytes && (not (list_any (nat_eq 0) bytes) && (nat_lt 0 (length bytes) && (nat_le (length bytes) stem_limit && not (list_any (nat_eq 47) bytes))))

-- whether the bytes are the name of an alias
abbrev pub is_alias : List ℕ → Bool
is_alias bytes = nat_lt 0 (length bytes) && (nat_le (length bytes) alias_limit && list_all is_path_byte bytes)

-- whether a session or a prompt may have the number
abbrev pub is_number : ℕ → Bool
is_number number = nat_lt 0 number && nat_lt number (2 ^ 64)

-- whether the name has a path
abbrev pub is_name : ObjectName → Bool
is_name (Collection stem) = is_stem stem
is_name (Item stem item) = is_stem stem && nat_lt item.0 (2 ^ 32)
is_name (Alias name) = is_alias name
is_name (Session session) = is_number session.0
is_name (Prompt prompt) = is_number prompt.0
is_name _ = true

-- the parts of a text before and after its first slash
abbrev pub halves : List ℕ → Option (List ℕ × List ℕ)
halves [] = None
halves (c ∷ cs) = if c == 47 then Some ([], cs) else option_map (λ parts. (c ∷ parts.0, parts.1)) (halves cs)

-- a collection, or an item after a slash
abbrev pub stored : List ℕ → Option (List ℕ × List ℕ) → ObjectName
stored rest None = Collection (unescaped rest)
stored rest (Some parts) = Item (unescaped parts.0) (record { 0 = digits_value 10 parts.1 })

-- the one name that may have the path: the letter at index 26 says which form it has
abbrev pub name_at : List ℕ → ObjectName
name_at path =
    if get_or path 26 0 == 111 then stored (drop 36 path) (halves (drop 36 path)) else
    if get_or path 26 0 == 108 then Alias (drop 33 path) else
    if get_or path 26 0 == 101 then Session (record { 0 = digits_value 10 (drop 34 path) }) else
    if get_or path 26 0 == 114 then Prompt (record { 0 = digits_value 10 (drop 33 path) }) else
    if get_or path 26 0 == 103 then Agent else
    if get_or path 1 0 == 111 then Service else Nothing

-- the name whose path this is, if there is one
unfoldable pub name_of_path : List ℕ → Option ObjectName
name_of_path path = if is_name (name_at path) && bytes_eq (path_text (name_at path)) path then Some (name_at path) else None
