-- The objects that calls name (Secret Service API draft 0.2, "Object Paths"): which of them are there, and their paths.
use Rattle.std.specs.Prelude.{◌≡◌, ℕ, ◌&&◌, Bool, false, if◌then◌else◌, List, [], ◌∷◌, ◌++◌, map, nat_eq, Option, Some, None}
use Rattle.std.specs.Cmp.Lexicographic.{pointwise}
use Rattle.std.specs.List.{fold, list_any}
use Rattle.std.specs.Option.{is_some, option_map}
use Rattle.kr_base.specs.declared.ids.ItemId.{ItemId}
use Rattle.kr_names.specs.declared.object_name.ObjectName.{ObjectName}
use Rattle.kr_names.specs.declared.object_name.ObjectName.TheVariants as name
use Rattle.kr_names.specs.Path.{path_text}
use Rattle.collection_table.specs.declared.matches.Matches.{Matches}
use Rattle.service_tables.specs.Questions.{CollectionQuestions}

-- ---- which objects are there

-- the stem, if this is true
abbrev pub stem_where : Bool → List ℕ → Option (List ℕ)
stem_where there stem = if there then Some stem else None

-- the collection that an object is, or that it stands for as an alias
abbrev pub collection_named : CollectionQuestions → ObjectName → Option (List ℕ)
collection_named asked (name.Collection stem) = stem_where (asked.has stem) stem
collection_named asked (name.Alias alias) = asked.alias alias
collection_named asked _ = None

-- the collection that is locked with an object: an item stands for the collection that it is in
abbrev pub collection_around : CollectionQuestions → ObjectName → Option (List ℕ)
collection_around asked (name.Item stem item) = stem_where (asked.has_item stem item) stem
collection_around asked object = collection_named asked object

-- What an alias is set to by the object that is given for it: its collection, or nothing if the object is none, so that the alias is removed.
-- None if there is no such collection; no path of the service is given then, or one of something else.
abbrev pub alias_target : CollectionQuestions → Option ObjectName → Option (Option (List ℕ))
alias_target asked None = None
alias_target asked (Some name.Nothing) = Some None
alias_target asked (Some object) = option_map Some (collection_named asked object)

-- whether the object is a collection, an alias of one or an item
abbrev pub is_there : CollectionQuestions → ObjectName → Bool
is_there asked object = is_some (collection_around asked object)

-- whether the object is an item of an unlocked collection
abbrev pub is_open_item : CollectionQuestions → ObjectName → Bool
is_open_item asked (name.Item stem item) = asked.has_item stem item && asked.is_open stem
is_open_item asked _ = false

-- ---- lists of objects

-- the paths of objects
abbrev pub paths_of : List ObjectName → List (List ℕ)
paths_of objects = map path_text objects

-- whether a path is among these
abbrev pub is_listed : List ℕ → List (List ℕ) → Bool
is_listed path paths = list_any (pointwise nat_eq path) paths

-- the list with one more object, unless its path is in it already
abbrev pub with_object : List ObjectName → ObjectName → List ObjectName
with_object listed object = if is_listed (path_text object) (paths_of listed) then listed else listed ++ object ∷ []

-- the objects with each path once, at its first place
abbrev pub once : List ObjectName → List ObjectName
once objects = fold with_object [] objects

-- the list with one more path, unless it is in it already
abbrev pub with_path : List (List ℕ) → List ℕ → List (List ℕ)
with_path listed path = if is_listed path listed then listed else listed ++ path ∷ []

-- the same paths are among these and those, whatever their order is
abbrev pub HaveSamePaths : List (List ℕ) → List (List ℕ) → Type 0
HaveSamePaths these those = (path : List ℕ) → is_listed path these ≡ is_listed path those

-- ---- what a search finds

-- the paths of items of one collection
abbrev pub item_paths : List ℕ → List ItemId → List (List ℕ)
item_paths stem ids = map (λ id. path_text (name.Item stem id)) ids

-- the paths of collections
abbrev pub collection_paths : List (List ℕ) → List (List ℕ)
collection_paths stems = map (λ stem. path_text (name.Collection stem)) stems

-- the paths of the items that were found in one collection
abbrev pub paths_in : Matches → List (List ℕ)
paths_in matches = item_paths matches.stem matches.ids

-- the paths of those in unlocked collections
abbrev pub unlocked_paths : List Matches → List (List ℕ)
unlocked_paths [] = []
unlocked_paths (matches ∷ found) = (if matches.is_open then paths_in matches else []) ++ unlocked_paths found

-- the paths of those in locked collections
abbrev pub locked_paths : List Matches → List (List ℕ)
locked_paths [] = []
locked_paths (matches ∷ found) = (if matches.is_open then [] else paths_in matches) ++ locked_paths found
