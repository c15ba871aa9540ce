-- The rows of the table of calls for the interface Item (Secret Service API draft 0.2, "org.freedesktop.Secret.Item").
-- The refusals are in their order.
use Rattle.std.specs.Prelude.{ℕ, if◌then◌else◌, List, Option}
use Rattle.kr_base.specs.declared.ids.ItemId.{ItemId}
use Rattle.kr_base.specs.declared.ids.SessionId.{SessionId}
use Rattle.service_events.specs.PublicBody as public
use Rattle.service_prompts.specs.secret_calls.specs.declared.out.ErrorName.TheVariants as name
use Rattle.service_prompts.specs.service_tables.specs.Storing.{Set_secret, Remove_item}
use Rattle.service_events.specs.CollectionCalls.{if_open, no_prompt, secret_stored, storing}
use Rattle.service_events.specs.Plan.{Questions, Plan, Secret_of, refused, given}
use Rattle.service_events.specs.SessionCalls.{with_session}

-- the secret of an item, if its collection is unlocked
abbrev pub secret_if_open : List ℕ → ItemId → Questions → SessionId → Plan
secret_if_open stem item asked session = if asked.collections.is_open stem then given (Secret_of session stem item) else refused name.IsLocked

-- GetSecret: the secret of the item, for a session of the caller
abbrev pub get_secret : List ℕ → ItemId → Option SessionId → Questions → Plan
get_secret stem item session asked =
    if asked.collections.has_item stem item
    then with_session session asked (secret_if_open stem item asked)
    else refused name.NoSuchObject

-- Delete: the item is removed
abbrev pub delete_item : List ℕ → ItemId → Questions → Plan
delete_item stem item asked =
    if asked.collections.has_item stem item
    then if_open stem asked (storing stem (Remove_item item) (λ _. no_prompt) (asked.storable stem (Remove_item item)))
    else refused name.NoSuchObject

-- SetSecret: the item gets another secret
abbrev pub set_secret : List ℕ → ItemId → Option SessionId → List ℕ → Questions → Plan
set_secret stem item session content asked =
    if asked.collections.has_item stem item
    then secret_stored session stem content (Set_secret item content) (λ _. public.Empty) asked
    else refused name.NoSuchObject
