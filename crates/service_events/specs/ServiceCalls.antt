-- The rows of the table of calls for the interface Service (Secret Service API draft 0.2,
-- "org.freedesktop.Secret.Service"). The refusals are in their order.
use Rattle.std.specs.Prelude.{ℕ, Bool, true, if◌then◌else◌, nat_le, List, [], ◌∷◌, codes, filter, map, nat_eq, Option, Some, None}
use Rattle.std.specs.Cmp.Lexicographic.{pointwise}
use Rattle.std.specs.List.{filter_map, fold}
use Rattle.std.specs.Option.{option_and_then, option_map_or}
use Rattle.kr_base.specs.declared.attributes.AttrValue.{AttrValue}
use Rattle.kr_base.specs.declared.ids.PromptId.{PromptId}
use Rattle.kr_base.specs.declared.ids.SessionId.{SessionId}
use Rattle.kr_names.specs.declared.object_name.ObjectName.{ObjectName}
use Rattle.kr_names.specs.declared.object_name.ObjectName.TheVariants as object
use Rattle.kr_names.specs.Path.{path_text}
use Rattle.service_prompts.specs.folder_store.specs.Limits.{the_limits}
use Rattle.prompt_state.specs.declared.row.PromptKind.{PromptKind}
use Rattle.prompt_state.specs.declared.row.PromptKind.TheVariants as kind
use Rattle.prompt_state.specs.declared.targets.Target.{Target}
use Rattle.prompt_state.specs.Targets.{all_left}
use Rattle.stem_choice.specs.UsedStems.{with_stem}
use Rattle.service_events.specs.PublicBody.{PublicBody}
use Rattle.service_events.specs.PublicBody as public
use Rattle.service_prompts.specs.secret_calls.specs.declared.out.ErrorName.TheVariants as name
use Rattle.service_prompts.specs.service_tables.specs.Objects.{collection_around, is_there, is_open_item, once, paths_of, unlocked_paths, locked_paths}
use Rattle.service_prompts.specs.service_tables.specs.Targets.{are_light}
use Rattle.service_prompts.specs.Unlocking.{targets_of, unlocked_there}
use Rattle.service_events.specs.Plan.{Questions, Change, Plan, Begin_prompt, Open_session, Lock_collection, Secrets_of, refused, answered, given}
use Rattle.service_events.specs.SessionCalls.{with_session}

-- whether the algorithm is the one that needs no encryption
abbrev pub is_plain : List ℕ → Bool
is_plain algorithm = pointwise nat_eq algorithm (codes "plain")

-- OpenSession: the caller's next session
abbrev pub open_session : List ℕ → Questions → Plan
open_session algorithm asked =
    if is_plain algorithm
    then (if asked.sessions.is_full
    then refused name.LimitsExceeded
    else answered (public.Session (record { 0 = asked.sessions.next })) (Open_session ∷ []))
    else refused name.NotSupported

-- SearchItems: the items that match, of unlocked collections and of locked ones
abbrev pub search_items : List (List ℕ × AttrValue) → Questions → Plan
search_items wanted asked = answered (public.Found (unlocked_paths (asked.collections.found wanted)) (locked_paths (asked.collections.found wanted))) []

-- these stems in byte order, each once
abbrev pub in_order : List (List ℕ) → List (List ℕ)
in_order stems = fold (λ listed stem. with_stem stem listed) [] stems

-- the changes that lock the collections of these objects, in byte order of their stems
abbrev pub locks : List ObjectName → Questions → List Change
locks objects asked = map Lock_collection (in_order (filter_map (collection_around asked.collections) objects))

-- Lock: the objects that are there, whose collections are locked
abbrev pub lock : List ObjectName → Questions → Plan
lock objects asked = answered (public.ObjectsAndPrompt (paths_of (once (filter (is_there asked.collections) objects))) None) (locks objects asked)

-- GetSecrets: the secrets of the items that are there and whose collections are unlocked
abbrev pub get_secrets : List ObjectName → Option SessionId → Questions → Plan
get_secrets items session asked = with_session session asked (λ own. given (Secrets_of own (once (filter (is_open_item asked.collections) items))))

-- ---- calls that begin a prompt

-- the number of the caller's next prompt
abbrev pub next_prompt : Questions → PromptId
next_prompt asked = record { 0 = asked.prompts.next }

-- A prompt of this kind begins, and is returned: LimitsExceeded, with no change, if the caller can begin none, or if what it would complete
-- with is too large.
abbrev pub with_new_prompt : Bool → (Option PromptId → PublicBody) → PromptKind → Questions → Plan
with_new_prompt fits returned kind asked =
    if asked.prompts.is_full
    then refused name.LimitsExceeded
    else (if fits
    then answered (returned (Some (next_prompt asked))) (Begin_prompt kind ∷ [])
    else refused name.LimitsExceeded)

-- Unlock returns these objects, which are unlocked. Those that aren't are the targets of a prompt, if there are any.
abbrev pub unlocking : List (List ℕ) → List Target → Questions → Plan
unlocking paths [] asked = answered (public.ObjectsAndPrompt paths None) []
unlocking paths (target ∷ targets) asked =
    with_new_prompt (are_light (target ∷ targets)) (public.ObjectsAndPrompt paths) (kind.Unlock (all_left (target ∷ targets))) asked

-- Unlock: the objects that are there and whose collections are unlocked, and a prompt for those whose collections are locked
abbrev pub unlock : List ObjectName → Questions → Plan
unlock objects asked = unlocking (unlocked_there asked.collections objects) (targets_of asked.collections objects) asked

-- the return of CreateCollection before the prompt completes: no collection
abbrev pub no_collection : Option PromptId → PublicBody
no_collection prompt = public.ObjectAndPrompt (path_text object.Nothing) prompt

-- a prompt that creates a collection begins: LimitsExceeded if there are as many collections as there may be
abbrev pub creating : List ℕ → Option (List ℕ) → List ℕ → Questions → Plan
creating label alias salt asked =
    if nat_le the_limits.collections asked.collections.count
    then refused name.LimitsExceeded
    else with_new_prompt true no_collection (kind.Create label (option_map_or (λ name. name) alias []) salt) asked

-- the return of CreateCollection for a collection that is there
abbrev pub there_already : Option (List ℕ) → Plan → Plan
there_already None next = next
there_already (Some stem) next = answered (public.ObjectAndPrompt (path_text (object.Collection stem)) None) []

-- CreateCollection: the collection that the alias stands for, if there is one, or a prompt that creates one with this label, alias and salt
abbrev pub create_collection : List ℕ → Option (List ℕ) → List ℕ → Questions → Plan
create_collection label alias salt asked = there_already (option_and_then asked.collections.alias alias) (creating label alias salt asked)
