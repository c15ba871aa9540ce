-- The rows of the table of calls for the interface Collection (Secret Service API draft 0.2,
-- "org.freedesktop.Secret.Collection"). The refusals are in their order.
use Rattle.std.specs.Prelude.{ℕ, nat_le, if◌then◌else◌, List, [], length, Option, Some, None}
use Rattle.kr_base.specs.declared.attributes.AttrValue.{AttrValue}
use Rattle.kr_base.specs.declared.ids.ItemId.{ItemId}
use Rattle.kr_base.specs.declared.ids.SessionId.{SessionId}
use Rattle.kr_names.specs.declared.object_name.ObjectName.{ObjectName}
use Rattle.kr_names.specs.declared.object_name.ObjectName.TheVariants as object
use Rattle.kr_names.specs.Path.{path_text}
use Rattle.service_prompts.specs.collection_store.specs.declared.change.Changed.{Changed}
use Rattle.service_events.specs.PublicBody.{PublicBody}
use Rattle.service_events.specs.PublicBody as public
use Rattle.service_prompts.specs.secret_calls.specs.declared.out.ErrorName.TheVariants as name
use Rattle.service_prompts.specs.service_tables.specs.declared.fate.StoreFate.{StoreFate}
use Rattle.service_prompts.specs.service_tables.specs.declared.fate.StoreFate.TheVariants as fate
use Rattle.service_prompts.specs.service_tables.specs.Limits.{most_content}
use Rattle.service_prompts.specs.service_tables.specs.Objects.{collection_named, item_paths}
use Rattle.service_prompts.specs.service_tables.specs.Storing.{Edit, item_in}
use Rattle.service_events.specs.Plan.{Questions, Plan, Asks, Store, Erase, refused, answered}
use Rattle.service_events.specs.SessionCalls.{with_session}

-- what is done with the collection that a call is made on, or that the alias stands for: NoSuchObject if it isn't there
abbrev pub on_collection : Option (List ℕ) → (List ℕ → Plan) → Plan
on_collection None next = refused name.NoSuchObject
on_collection (Some stem) next = next stem

-- SearchItems: the items of the collection that match
abbrev pub search_collection : ObjectName → List (List ℕ × AttrValue) → Questions → Plan
search_collection collection wanted asked =
    on_collection (collection_named asked.collections collection) (λ stem. answered (public.Objects (item_paths stem (asked.collections.found_in stem wanted))) [])

-- what is done with a collection that is there: IsLocked unless it is unlocked
abbrev pub if_open : List ℕ → Questions → Plan → Plan
if_open stem asked next = if asked.collections.is_open stem then next else refused name.IsLocked

-- what is answered once the disk was asked: IOError unless it did what was asked
abbrev pub by_fate : PublicBody → StoreFate → Plan
by_fate body fate.Stored = answered body []
by_fate body fate.Before = refused name.IOError
by_fate body fate.Unsure = refused name.IOError

-- An edit of an unlocked collection is stored: LimitsExceeded if a limit is in the way, and IOError if the disk fails.
abbrev pub storing : List ℕ → Edit → (Changed → PublicBody) → Option Changed → Plan
storing stem edit returned None = refused name.LimitsExceeded
storing stem edit returned (Some answer) = Asks (Store stem edit) (by_fate (returned answer))

-- the same for an edit that brings a secret with this content type, which may be too long
abbrev pub storing_secret : List ℕ → List ℕ → Edit → (Changed → PublicBody) → Questions → Plan
storing_secret content stem edit returned asked =
    if nat_le (length content) most_content
    then storing stem edit returned (asked.storable stem edit)
    else refused name.LimitsExceeded

-- the same for a session of the caller, if the collection is unlocked
abbrev pub secret_stored : Option SessionId → List ℕ → List ℕ → Edit → (Changed → PublicBody) → Questions → Plan
secret_stored session stem content edit returned asked =
    with_session session asked (λ own. if_open stem asked (storing_secret content stem edit returned asked))

-- the return of a call that needs no prompt
abbrev pub no_prompt : PublicBody
no_prompt = public.Object (path_text object.Nothing)

-- the item of what an edit does, as an object
abbrev pub item_named : List ℕ → Option ItemId → ObjectName
item_named stem None = object.Nothing
item_named stem (Some item) = object.Item stem item

-- the return of an item that was made or replaced
abbrev pub made : List ℕ → Changed → PublicBody
made stem answer = public.ObjectAndPrompt (path_text (item_named stem (item_in answer))) None

-- CreateItem: an item is added or replaced
abbrev pub create_item : ObjectName → Edit → Option SessionId → List ℕ → Questions → Plan
create_item collection edit session content asked =
    on_collection (collection_named asked.collections collection)
    (λ stem. secret_stored session stem content edit (made stem) asked)

-- Delete: the file of the collection is removed, and the collection with it
abbrev pub delete_collection : ObjectName → Questions → Plan
delete_collection collection asked =
    on_collection (collection_named asked.collections collection)
    (λ stem. if_open stem asked (Asks (Erase stem) (by_fate no_prompt)))
