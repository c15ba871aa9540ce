-- The rows of the table of calls for the aliases (Secret Service API draft 0.2, "org.freedesktop.Secret.Service", the methods ReadAlias and
-- SetAlias). The refusals are in their order.
use Rattle.std.specs.Prelude.{ℕ, if◌then◌else◌, List, [], Option, Some, None}
use Rattle.kr_names.specs.declared.object_name.ObjectName.{ObjectName}
use Rattle.kr_names.specs.declared.object_name.ObjectName.TheVariants as object
use Rattle.kr_names.specs.Path.{path_text}
use Rattle.service_events.specs.PublicBody.{PublicBody}
use Rattle.service_events.specs.PublicBody as public
use Rattle.service_prompts.specs.secret_calls.specs.declared.out.ErrorName.TheVariants as name
use Rattle.service_prompts.specs.service_tables.specs.Objects.{alias_target}
use Rattle.service_events.specs.CollectionCalls.{by_fate}
use Rattle.service_events.specs.Plan.{Questions, Plan, Asks, Resolves, Set_alias, Aliases_file, refused, answered}

-- the return for an alias: the path of the collection that it stands for, or that of no object
abbrev pub alias_body : Option (List ℕ) → PublicBody
alias_body None = public.Object (path_text object.Nothing)
alias_body (Some stem) = public.Object (path_text (object.Collection stem))

-- ReadAlias: the collection that the alias stands for
abbrev pub read_alias : List ℕ → Questions → Plan
read_alias alias asked = answered (alias_body (asked.collections.alias alias)) []

-- An alias is set to a stem or removed, and stored: LimitsExceeded if there would be too many aliases, or their file is too long, and IOError
-- if the disk fails.
abbrev pub alias_stored : List ℕ → Option (List ℕ) → Questions → Plan
alias_stored alias stem asked = if asked.aliases.can_set alias stem then Asks (Set_alias alias stem) (by_fate public.Empty) else refused name.LimitsExceeded

-- the same, after the file was read again if it is in doubt: IOError if it couldn't be
abbrev pub alias_settled : List ℕ → Option (List ℕ) → Plan
alias_settled alias stem = Resolves Aliases_file (refused name.IOError) (alias_stored alias stem)

-- what is done with what an alias is set to: NoSuchObject if there is no such collection
abbrev pub on_target : Option (Option (List ℕ)) → (Option (List ℕ) → Plan) → Plan
on_target None next = refused name.NoSuchObject
on_target (Some stem) next = next stem

-- SetAlias: the alias is set to the collection, or removed if no object is given for it
abbrev pub set_alias : List ℕ → Option ObjectName → Questions → Plan
set_alias alias object asked = on_target (alias_target asked.collections object) (alias_settled alias)
