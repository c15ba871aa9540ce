-- What becomes of the objects that are to be unlocked (Secret Service API draft 0.2, Service.Unlock): those that are unlocked already, and
-- the targets of the prompt for the others.
use Rattle.std.specs.Prelude.{ℕ, Bool, false, if◌then◌else◌, List, [], ◌∷◌, ◌++◌, map, filter, Option, Some, None}
use Rattle.std.specs.List.{fold, filter_map}
use Rattle.std.specs.Option.{option_and_then, option_map_or}
use Rattle.kr_names.specs.declared.object_name.ObjectName.{ObjectName}
use Rattle.kr_names.specs.Path.{path_text}
use Rattle.prompt_state.specs.declared.targets.Target.{Target}
use Rattle.service_tables.specs.Objects.{collection_around, is_listed, once, paths_of}
use Rattle.service_tables.specs.Questions.{CollectionQuestions}

-- ---- those that are unlocked already

-- whether the object is there, and the collection that it is, stands for or is in is unlocked
abbrev pub is_unlocked : CollectionQuestions → ObjectName → Bool
is_unlocked asked object = option_map_or asked.is_open (collection_around asked object) false

-- the paths of the objects that are there and unlocked, each once
abbrev pub unlocked_there : CollectionQuestions → List ObjectName → List (List ℕ)
unlocked_there asked objects = paths_of (once (filter (is_unlocked asked) objects))

-- ---- the others

-- a target with this path and this collection, unless the collection is unlocked
abbrev pub target_unless : Bool → ObjectName → List ℕ → Option Target
target_unless unlocked object stem = if unlocked then None else Some (record { given = path_text object; stem = stem })

-- the target for an object, if the object is there and locked
abbrev pub target_of : CollectionQuestions → ObjectName → Option Target
target_of asked object = option_and_then (λ stem. target_unless (asked.is_open stem) object stem) (collection_around asked object)

-- the paths that were given for targets
abbrev pub given_of : List Target → List (List ℕ)
given_of targets = map (λ (target : Target). target.given) targets

-- the list with one more target, unless there is one with its path already
abbrev pub with_target : List Target → Target → List Target
with_target listed target = if is_listed target.given (given_of listed) then listed else listed ++ target ∷ []

-- the same for an optional target
abbrev pub with_some : List Target → Option Target → List Target
with_some listed None = listed
with_some listed (Some target) = with_target listed target

-- the targets for the objects that are there and locked, each path once, at its first place
abbrev pub targets_of : CollectionQuestions → List ObjectName → List Target
targets_of asked objects = fold with_target [] (filter_map (target_of asked) objects)
