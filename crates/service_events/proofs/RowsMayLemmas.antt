-- The plan of each row of the table of calls may be run in a sound state.
use Rattle.std.proofs.Common.{◌≡◌, ℕ, ◌+◌, ◌^◌, ◌<◌, ◌⊎◌, ◌==◌, Bool, true, false, ◌&&◌, nat_le, cond, IfSome, IsSome, List, Result, Ok, Err, [], ◌∷◌, length, filter, map, Option, Some, None, refl, ap, sym, subst, ◌∙◌, arith, inl, inr}
use Rattle.std.specs.List.{AllByRecursion, cons_option, filter_map, list_any}
use Rattle.std.specs.Option.{option_and_then, option_map, option_map_or}
use Rattle.std.proofs.lemmas.Bool.{eqb-true, or_cases, leb-false, leb-true}
use Rattle.kr_base.specs.declared.ids.ConnId.{ConnId}
use Rattle.kr_base.specs.declared.attributes.AttrValue.{AttrValue}
use Rattle.kr_base.specs.declared.ids.ItemId.{ItemId}
use Rattle.kr_base.specs.declared.ids.PromptId.{PromptId}
use Rattle.kr_base.specs.declared.ids.SessionId.{SessionId}
use Rattle.kr_names.specs.declared.object_name.ObjectName.{ObjectName}
use Rattle.kr_names.specs.declared.object_name.ObjectName.TheVariants as object
use Rattle.kr_base.specs.Stem.{IsStem}
use Rattle.kr_names.specs.Path.{IsAliasName, IsName, path_text}
use Rattle.service_prompts.specs.folder_store.specs.Limits.{the_limits}
use Rattle.prompt_state.specs.Prompts as prompts
use Rattle.prompt_state.specs.Prompts.{is_agent, is_made, is_taken, last_round, next_round, refusal, round_of, row_at}
use Rattle.prompt_state.specs.Targets.{all_left}
use Rattle.prompt_state.specs.declared.row.PromptKind.{PromptKind}
use Rattle.prompt_state.specs.declared.row.PromptKind.TheVariants as kind
use Rattle.prompt_state.specs.declared.row.PromptRow.{PromptRow}
use Rattle.prompt_state.specs.declared.row.Prompts.{Prompts}
use Rattle.prompt_state.specs.declared.row.Stage.{Stage}
use Rattle.prompt_state.specs.declared.row.Stage.TheVariants.{Made, Asked, Deriving}
use Rattle.prompt_state.specs.declared.table.PromptRefused.{PromptRefused}
use Rattle.prompt_state.specs.declared.targets.Target.{Target}
use Rattle.service_prompts.specs.Unlocking.{targets_of, unlocked_there}
use Rattle.service_prompts.specs.collection_table.specs.Rows.{has as has_collection, has_item, is_open}
use Rattle.session_table.specs.declared.row.SessionRow.{SessionRow}
use Rattle.service_prompts.specs.secret_calls.specs.declared.call.Call.{Call}
use Rattle.service_prompts.specs.secret_calls.specs.declared.call.Call.TheVariants as call
use Rattle.service_prompts.specs.secret_calls.specs.declared.call.CallFault.{CallFault}
use Rattle.service_prompts.specs.secret_calls.specs.declared.out.ErrorName.{ErrorName}
use Rattle.service_prompts.specs.secret_calls.specs.declared.out.ErrorName.TheVariants as name
use Rattle.service_prompts.specs.secret_calls.specs.declared.property.Property.{Property}
use Rattle.service_prompts.specs.secret_calls.specs.declared.property.Property.TheVariants as property
use Rattle.service_prompts.specs.secret_calls.specs.declared.property.PropertyValue.{PropertyValue}
use Rattle.service_prompts.specs.secret_calls.specs.declared.property.ShownProperty.{ShownProperty}
use Rattle.service_prompts.specs.secret_calls.specs.declared.secret.ReturnedSecret.{ReturnedSecret}
use Rattle.service_prompts.specs.secret_calls.specs.Outs.{ArePaths, AreShown, AreTyped, IsShown}
use Rattle.session_table.specs.Sessions.{is_of, owns, rows_of, is_full, most_sessions, last_session}
use Rattle.service_prompts.specs.service_tables.specs.State.{State}
use Rattle.service_prompts.specs.service_tables.specs.Connections.{left}
use Rattle.service_prompts.specs.service_tables.specs.Targets.{are_light, weight}
use Rattle.service_prompts.specs.service_tables.specs.Limits.{most_content, most_weight}
use Rattle.service_events.specs.AgentCalls.{refuse, unless_refused}
use Rattle.service_events.specs.AliasCalls.{alias_body, alias_settled, alias_stored, on_target}
use Rattle.service_events.specs.CollectionCalls.{by_fate, if_open, item_named, made, no_prompt, on_collection, secret_stored, storing, storing_secret}
use Rattle.service_events.specs.ItemCalls.{get_secret, secret_if_open}
use Rattle.service_prompts.specs.service_tables.specs.Objects.{alias_target, collection_around, collection_named, is_open_item, is_there, item_paths, once}
use Rattle.service_prompts.specs.service_tables.specs.Opened.{contents_of}
use Rattle.service_prompts.specs.service_tables.specs.TablesReading.{alias_of, asked_collections, secret_of}
use Rattle.service_events.specs.Plan.{Open_session, Close_session, Lock_collection, Begin_prompt, Derive_key, Go_on, End_prompt, Become_agent, Leave_agent, Demand, Store, Erase, Set_alias, Aliases_file, Collection_file, Gift, Secret_of, Secrets_of, Plan, Asks, refused, answered, given}
use Rattle.service_events.specs.PromptCalls.{first_advance}
use Rattle.service_events.specs.PublicBody as public
use Rattle.service_events.specs.PublicBody.{PublicBody, body_with}
use Rattle.service_events.specs.Run.{asked, demanded, performed, secret_returned, session_of, settled, with_gift, with_own_gift}
use Rattle.service_prompts.specs.collection_store.specs.declared.change.Changed.{Changed}
use Rattle.service_prompts.specs.service_tables.proofs.ShownLemmas.{item-attributes-typed, item-label-typed, item-times-typed, stems-typed, times-typed}
use Rattle.service_events.specs.declared.holder.Holder.{Holder}
use Rattle.service_events.specs.declared.holder.Holder.TheVariants as holder
use Rattle.service_events.specs.KeyringCalls.{the_prompt}
use Rattle.service_events.specs.PropertyCalls.{editing, editing_item, holder_of, on_holder, shown_by, value_of, value_returned}
use Rattle.service_events.specs.ServiceCalls.{creating, in_order, is_plain, lock, get_secrets, next_prompt, no_collection, there_already, unlocking, with_new_prompt}
use Rattle.service_events.specs.SessionCalls.{with_session}
use Rattle.service_events.specs.Step.{HasTypes, IsSalt, IsTypedName, plan_of, value_in}
use Rattle.service_prompts.specs.service_tables.specs.Storing.{AreEditTypes, Brought, Edit, Add_item, Set_secret, Remove_item, Set_attributes, Set_label, Set_name, item_in, storable_edit}
use Rattle.service_prompts.specs.service_tables.specs.declared.fate.StoreFate.{StoreFate}
use Rattle.service_prompts.specs.service_tables.specs.declared.fate.StoreFate.TheVariants as stored
use Rattle.service_prompts.specs.service_tables.specs.Sound.{AreSecretTypes, HasLeft, IsSoundKind, IsSoundTarget, IsTypedAlias, IsTypedText, AreOpened, IsSound}
use Rattle.service_prompts.specs.service_tables.proofs.CollectionLemmas.{alias-named, target-stem, path-of, found-in-paths, found-locked, found-unlocked, named-paths, named-stem, once-each, open-named, secret-typed, secrets-typed, there-named}
use Rattle.service_prompts.proofs.UnlockingLemmas.{targets-sound, unlocked-paths}
use Rattle.service_prompts.specs.service_tables.proofs.AliasLemmas.{is-alias}
use Rattle.service_prompts.specs.service_tables.proofs.StoredLemmas.{storable-named}
use Rattle.service_events.proofs.SmallLemmas.{not-full}
use Rattle.std.proofs.Common.{nat_eq}
use Rattle.std.proofs.lemmas.Bool.Decides.{nat_tests}
use Rattle.prompt_state.specs.Prompts.{IsStage, is_asked_in, refusal_of}
use Rattle.prompt_state.specs.declared.table.PromptRefused.TheVariants as refused_by
use Rattle.service_prompts.proofs.SignalLemmas.{found-row, label-text}
use Rattle.service_prompts.specs.service_tables.specs.Sound.{IsSoundPrompt}
use Rattle.service_events.specs.AnswerCalls.{answer_prompt, deriving_key, going_on, kind_answered, left_answered, row_answered, target_answered}
use Rattle.service_events.proofs.AllowedLemmas.{AreAllowed, HasMore, IsAllowed, IsStorable, IsTypedAnswer, IsTypedDemand, MayRun, ask-round, some-same}

module _ (caller : ConnId) (brought : Brought) where
  -- ---- the table of calls

  opened-may : (state : State) (plain : Bool)
      → MayRun caller brought (cond plain (cond (is_full caller state.sessions) (refused name.LimitsExceeded) (answered (public.Session (record { 0 = state.sessions.next })) (Open_session ∷ []))) (refused name.NotSupported)) state
  opened-may state false = (tt, tt)
  opened-may state true =
      let pass : (full : Bool) → is_full caller state.sessions ≡ full
      → MayRun caller brought (cond full (refused name.LimitsExceeded) (answered (public.Session (record { 0 = state.sessions.next })) (Open_session ∷ []))) state =
      elim [
        | true ↦ λ is. (tt, tt)
        | false ↦ λ is.
            let room = not-full (nat_le most_sessions (length (rows_of caller state.sessions.rows))) (nat_le last_session state.sessions.next) is in
            ((is, tt), omega (arith, leb-false last_session state.sessions.next room.1))
      ] in
      pass (is_full caller state.sessions) refl

  closed-may : (session : SessionId) (state : State) (owns : Bool) → MayRun caller brought (cond owns (answered public.Empty (Close_session session ∷ [])) (refused name.NoSession)) state
  closed-may session state true = ((tt, tt), tt)
  closed-may session state false = (tt, tt)

  -- any collections may be locked
  locks-allowed : (stems : List (List ℕ)) (state : State) → AreAllowed caller (map Lock_collection stems) state
  locks-allowed [] state = tt
  locks-allowed (stem ∷ stems) state = (tt, locks-allowed stems (performed caller (Lock_collection stem) state))

  lock-may : (objects : List ObjectName) (state : State) → IsSound state → MayRun caller brought (lock objects (asked caller brought state)) state
  lock-may objects state sound =
      let there = once (filter (is_there (asked_collections (contents_of state))) objects) in
      let paths = named-paths there (once-each IsName (is_there (asked_collections (contents_of state))) (there-named (contents_of state) sound.collections) objects) in
      (locks-allowed (in_order (filter_map (collection_around (asked_collections (contents_of state))) objects)) state, (paths, tt))

  -- a session that is owned has a number of its type
  and-second : (a b : Bool) → (a && b) ≡ true → b ≡ true
  and-second true b is = is
  and-second false b is = absurd (let no : false ≡ true = is in cc)

  owned-given : (session : SessionId) (next : ℕ) (rows : List SessionRow) → AreOpened next rows → list_any (is_of caller session) rows ≡ true → session.0 < next
  owned-given session next [] all there = absurd (let no : false ≡ true = there in cc)
  owned-given session next (row ∷ rows) all there =
      elim (or_cases (is_of caller session row) (list_any (is_of caller session) rows) there) [
        | inl here ↦ subst (λ n. n < next) (eqb-true row.session.0 session.0 (and-second (row.owner.0 == caller.0) (row.session.0 == session.0) here)) all.0
        | inr later ↦ owned-given session next rows all.1 later
      ]

  owned-small : (session : SessionId) (state : State) → IsSound state → owns caller session state.sessions ≡ true → session.0 < 2 ^ 64
  owned-small session state sound is = omega (arith, owned-given session state.sessions.next state.sessions.rows sound.sessions.opened is, sound.sessions.numbered)

  -- what is done with a session of the caller may be done
  session-may : (session : Option SessionId) (next : SessionId → Plan) (state : State)
      → ((own : SessionId) → owns caller own state.sessions ≡ true → MayRun caller brought (next own) state) → MayRun caller brought (with_session session (asked caller brought state) next) state
  session-may None next state may = (tt, tt)
  session-may (Some session) next state may =
      let pass : (b : Bool) → owns caller session state.sessions ≡ b → MayRun caller brought (cond b (next session) (refused name.NoSession)) state =
      elim [ true ↦ λ is. may session is | false ↦ λ is. (tt, tt) ] in
      pass (owns caller session state.sessions) refl

  -- what is given to a session of the caller has its types
  gift-typed : (gift : Gift) (state : State) → IsTypedAnswer (with_own_gift state gift) → IsTypedAnswer (with_gift caller state gift)
  gift-typed gift state typed =
      let pass : (b : Bool) → IsTypedAnswer (cond b (with_own_gift state gift) (Err name.NoSession)) = elim [ true ↦ typed | false ↦ tt ] in
      pass (owns caller (session_of gift) state.sessions)

  secrets-may : (items : List ObjectName) (session : Option SessionId) (state : State) → IsSound state → MayRun caller brought (get_secrets items session (asked caller brought state)) state
  secrets-may items session state sound =
      session-may session _ state
      (λ own is. (
        tt,
        gift-typed (Secrets_of own (once (filter (is_open_item (asked_collections (contents_of state))) items))) state
            (secrets-typed own state.collections (once (filter (is_open_item (asked_collections (contents_of state))) items)) (owned-small own state sound is) sound.collections
            (once-each IsName (is_open_item (asked_collections (contents_of state))) (open-named (contents_of state) sound.collections) items)),
      ))

  returned-typed : (session : SessionId) (state : State) (stem : List ℕ) (item : ItemId) → session.0 < 2 ^ 64 → IsSound state → IsTypedAnswer (secret_returned (secret_of session state.collections stem item))
  returned-typed session state stem item small sound =
      let pass : (o : Option ReturnedSecret) → secret_of session state.collections stem item ≡ o → IsTypedAnswer (secret_returned o) =
      elim [
        | None ↦ λ is. tt
        | Some secret ↦ λ is. secret-typed session state.collections stem item secret small sound.collections is
      ] in
      pass (secret_of session state.collections stem item) refl

  one-typed : (session : SessionId) (stem : List ℕ) (item : ItemId) (state : State) → session.0 < 2 ^ 64 → IsSound state → IsTypedAnswer (with_own_gift state (Secret_of session stem item))
  one-typed session stem item state small sound =
      let pass : (b : Bool) → IsTypedAnswer (cond b (secret_returned (secret_of session state.collections stem item)) (Err name.IsLocked)) =
      elim [ true ↦ returned-typed session state stem item small sound | false ↦ tt ] in
      pass (is_open stem state.collections)

  open-may : (session : SessionId) (stem : List ℕ) (item : ItemId) (state : State) → session.0 < 2 ^ 64 → IsSound state
      → MayRun caller brought (secret_if_open stem item (asked caller brought state) session) state
  open-may session stem item state small sound =
      let pass : (b : Bool) → MayRun caller brought (cond b (given (Secret_of session stem item)) (refused name.IsLocked)) state =
      elim [ true ↦ (tt, gift-typed (Secret_of session stem item) state (one-typed session stem item state small sound)) | false ↦ (tt, tt) ] in
      pass (is_open stem state.collections)

  secret-may : (stem : List ℕ) (item : ItemId) (session : Option SessionId) (state : State) → IsSound state → MayRun caller brought (get_secret stem item session (asked caller brought state)) state
  secret-may stem item session state sound =
      let pass : (b : Bool) → MayRun caller brought (cond b (with_session session (asked caller brought state) (secret_if_open stem item (asked caller brought state))) (refused name.NoSuchObject)) state =
      elim [
        | true ↦ session-may session (secret_if_open stem item (asked caller brought state)) state
            (λ own is. open-may own stem item state (owned-small own state sound is) sound)
        | false ↦ (tt, tt)
      ] in
      pass (has_item stem item.0 state.collections)

  collection-may : (wanted : List (List ℕ × AttrValue)) (state : State) → IsSound state → (named : Option (List ℕ))
      → MayRun caller brought (on_collection named (λ stem. answered (public.Objects (item_paths stem ((asked caller brought state).collections.found_in stem wanted))) [])) state
  collection-may wanted state sound None = (tt, tt)
  collection-may wanted state sound (Some stem) = (tt, found-in-paths stem wanted state.collections sound.collections)

  -- what is answered once the disk was asked
  by-fate-may : (body : PublicBody) (some : StoreFate) (state : State) → AreTyped (body_with body) → MayRun caller brought (by_fate body some) state
  by-fate-may body stored.Stored state typed = (tt, typed)
  by-fate-may body stored.Before state typed = (tt, tt)
  by-fate-may body stored.Unsure state typed = (tt, tt)

  asks-may : (demand : Demand) (body : PublicBody) (state : State) → IsTypedDemand brought demand → IsStorable brought demand state → AreTyped (body_with body)
      → MayRun caller brought (Asks demand (by_fate body)) state
  asks-may demand body state given can typed = (given, can, λ ended. by-fate-may body ended (demanded brought demand ended state) typed)

  if-may : (b : Bool) (plan : Plan) (error : ErrorName) (state : State) → MayRun caller brought plan state → MayRun caller brought (cond b plan (refused error)) state
  if-may true plan error state may = may
  if-may false plan error state may = (tt, tt)

  stored-may : (stem : List ℕ) (edit : Edit) (returned : Changed → PublicBody) (answer : Option Changed) (state : State) → storable_edit brought state.collections stem edit ≡ answer → IsTypedDemand brought (Store stem edit)
      → IfSome answer (λ made. AreTyped (body_with (returned made))) → MayRun caller brought (storing stem edit returned answer) state
  stored-may stem edit returned None state is given typed = (tt, tt)
  stored-may stem edit returned (Some answer) state is given typed =
      asks-may (Store stem edit) (returned answer) state given (subst IsSome (sym is) refl) typed

  kept-may : (session : Option SessionId) (stem content : List ℕ) (edit : Edit) (returned : Changed → PublicBody) (state : State) → IsTypedDemand brought (Store stem edit)
      → IfSome (storable_edit brought state.collections stem edit) (λ made. AreTyped (body_with (returned made))) → MayRun caller brought (secret_stored session stem content edit returned (asked caller brought state)) state
  kept-may session stem content edit returned state given typed =
      let answer = storable_edit brought state.collections stem edit in
      session-may session _ state
      (λ own is. if-may (is_open stem state.collections) (storing_secret content stem edit returned (asked caller brought state)) name.IsLocked state
      (if-may (nat_le (length content) most_content) (storing stem edit returned answer) name.LimitsExceeded state (stored-may stem edit returned answer state refl given typed)))

  -- the path of an item that can be stored
  item-typed : (stem : List ℕ) (item : Option ItemId) → IfSome item (λ it. IsName (object.Item stem it)) → IsName (item_named stem item)
  item-typed stem None is = tt
  item-typed stem (Some item) is = is

  made-typed : (stem : List ℕ) (edit : Edit) (state : State) → IsSound state → IsTypedDemand brought (Store stem edit)
      → IfSome (storable_edit brought state.collections stem edit) (λ answer. AreTyped (body_with (made stem answer)))
  made-typed stem edit state sound given =
      let pass : (o : Option Changed) → storable_edit brought state.collections stem edit ≡ o → IfSome o (λ answer. AreTyped (body_with (made stem answer))) =
      elim [
        | None ↦ λ is. tt
        | Some answer ↦ λ is. (
          path-of (item_named stem (item_in answer)) (item-typed stem (item_in answer) (storable-named brought.now given.0 edit brought.value given.1 stem state.collections answer sound.collections is)),
          tt,
        )
      ] in
      pass (storable_edit brought state.collections stem edit) refl

  prompt-typed : AreTyped (body_with no_prompt)
  prompt-typed = path-of object.Nothing tt

  -- whatever is answered, it is typed
  each-typed : {A : Type 0} (o : Option A) (P : A → Type 0) → ((x : A) → P x) → IfSome o P
  each-typed None P all = tt
  each-typed (Some x) P all = all x

  -- ---- properties

  object-may : (held : Result Holder ErrorName) (next : Holder → Plan) (state : State) → ((it : Holder) → MayRun caller brought (next it) state) → MayRun caller brought (on_holder held next) state
  object-may (Ok it) next state may = may it
  object-may (Err error) next state may = (tt, tt)

  -- what is shown has its types
  value-typed : (held : Holder) (it : Property) (state : State) → IsSound state → IfSome (value_of (asked_collections (contents_of state)) held it) IsShown
  value-typed holder.Service property.Collections state sound = stems-typed state.collections sound.collections
  value-typed holder.Service _ state sound = tt
  value-typed (holder.Collection stem) property.Items state sound = found-in-paths stem [] state.collections sound.collections
  value-typed (holder.Collection stem) property.Label state sound = label-text stem state.collections sound.collections
  value-typed (holder.Collection stem) property.Created state sound = (times-typed stem state.collections sound.collections).0
  value-typed (holder.Collection stem) property.Modified state sound = (times-typed stem state.collections sound.collections).1
  value-typed (holder.Collection stem) _ state sound = tt
  value-typed (holder.Item stem item) property.Label state sound = item-label-typed stem item state.collections sound.collections
  value-typed (holder.Item stem item) property.Attributes state sound = item-attributes-typed stem item state.collections sound.collections
  value-typed (holder.Item stem item) property.Created state sound = (item-times-typed stem item state.collections sound.collections).0
  value-typed (holder.Item stem item) property.Modified state sound = (item-times-typed stem item state.collections sound.collections).1
  value-typed (holder.Item stem item) _ state sound = tt
  value-typed holder.Nothing it state sound = tt

  value-may : (value : Option PropertyValue) (state : State) → IfSome value IsShown → MayRun caller brought (value_returned value) state
  value-may None state typed = (tt, tt)
  value-may (Some value) state typed = (tt, typed)

  -- one more property that is shown
  more-shown : (it : Property) (value : Option PropertyValue) (more : List ShownProperty) → IfSome value IsShown → AreShown more
      → AreShown (cons_option (option_map (λ value. record { property = it; value = value }) value) more)
  more-shown it None more typed all = all
  more-shown it (Some value) more typed all = (typed, all)

  all-shown : (held : Holder) (properties : List Property) (state : State) → IsSound state → AreShown (filter_map (shown_by (asked_collections (contents_of state)) held) properties)
  all-shown held [] state sound = tt
  all-shown held (it ∷ properties) state sound =
      more-shown it (value_of (asked_collections (contents_of state)) held it) _ (value-typed held it state sound) (all-shown held properties state sound)

  editing-may : (stem : List ℕ) (edit : Edit) (state : State) → IsTypedDemand brought (Store stem edit) → MayRun caller brought (editing stem edit (asked caller brought state)) state
  editing-may stem edit state given =
      let answer = storable_edit brought state.collections stem edit in
      if-may (is_open stem state.collections) (storing stem edit (λ _. public.Empty) answer) name.IsLocked state
      (stored-may stem edit (λ _. public.Empty) answer state refl given (each-typed answer _ (λ made. tt)))

  named-may : (label : List ℕ) (state : State) (named : Option (List ℕ)) → (brought.now < 2 ^ 64) × IsTypedText label
      → MayRun caller brought (on_collection named (λ stem. editing stem (Set_name label) (asked caller brought state))) state
  named-may label state None given = (tt, tt)
  named-may label state (Some stem) given = editing-may stem (Set_name label) state given

  edited-may : (stem : List ℕ) (item : ItemId) (edit : Edit) (state : State) → IsTypedDemand brought (Store stem edit) → MayRun caller brought (editing_item stem item edit (asked caller brought state)) state
  edited-may stem item edit state given = if-may (has_item stem item.0 state.collections) (editing stem edit (asked caller brought state)) name.NoSuchObject state (editing-may stem edit state given)

  created-may : (edit : Edit) (session : Option SessionId) (content : List ℕ) (state : State) → IsSound state → (brought.now < 2 ^ 64) × AreEditTypes brought.value edit → (named : Option (List ℕ))
      → MayRun caller brought (on_collection named (λ stem. secret_stored session stem content edit (made stem) (asked caller brought state))) state
  created-may edit session content state sound given None = (tt, tt)
  created-may edit session content state sound given (Some stem) = kept-may session stem content edit (made stem) state given (made-typed stem edit state sound given)

  erased-may : (state : State) (named : Option (List ℕ)) → MayRun caller brought (on_collection named (λ stem. if_open stem (asked caller brought state) (Asks (Erase stem) (by_fate no_prompt)))) state
  erased-may state None = (tt, tt)
  erased-may state (Some stem) = if-may (is_open stem state.collections) (Asks (Erase stem) (by_fate no_prompt)) name.IsLocked state (asks-may (Erase stem) no_prompt state tt tt prompt-typed)

  -- the return for an alias
  alias-typed : (alias : List ℕ) (state : State) → IsSound state → AreTyped (body_with (alias_body (alias_of alias (contents_of state))))
  alias-typed alias state sound =
      let pass : (o : Option (List ℕ)) → alias_of alias (contents_of state) ≡ o → AreTyped (body_with (alias_body o)) =
      elim [
        | None ↦ λ is. prompt-typed
        | Some stem ↦ λ is. path-of (object.Collection stem) (alias-named (contents_of state) sound.collections alias stem is)
      ] in
      pass (alias_of alias (contents_of state)) refl

  -- an alias is set to the stem of a collection, or removed
  set-may : (alias : List ℕ) (stem : Option (List ℕ)) (state : State) → IsAliasName alias × IfSome stem IsStem → MayRun caller brought (alias_stored alias stem (asked caller brought state)) state
  set-may alias stem state typed =
      let pass : (b : Bool) → MayRun caller brought (cond b (Asks (Set_alias alias stem) (by_fate public.Empty)) (refused name.LimitsExceeded)) state =
      elim [ true ↦ asks-may (Set_alias alias stem) public.Empty state typed tt tt | false ↦ (tt, tt) ] in
      pass ((asked caller brought state).aliases.can_set alias stem)

  pub settled-may : (alias : List ℕ) (stem : Option (List ℕ)) (state : State) → IsAliasName alias × IfSome stem IsStem → MayRun caller brought (alias_settled alias stem) state
  settled-may alias stem state typed = (λ ended. ((tt, tt), set-may alias stem (settled Aliases_file ended state) typed), set-may alias stem state typed)

  target-may : (alias : List ℕ) (state : State) (target : Option (Option (List ℕ))) → IsAliasName alias → ((stem : Option (List ℕ)) → target ≡ Some stem → IfSome stem IsStem)
      → MayRun caller brought (on_target target (alias_settled alias)) state
  target-may alias state None named stems = (tt, tt)
  target-may alias state (Some stem) named stems = settled-may alias stem state (named, stems stem refl)

  -- ---- calls of prompts

  -- a number that is left has its type
  prompt-number : (state : State) → IsSound state → (0 < state.prompts.next) × (state.prompts.next < 2 ^ 64)
  prompt-number state sound = (sound.prompts.kept.first, omega (arith, sound.prompts.kept.numbered))

  new-may : (fits : Bool) (returned : Option PromptId → PublicBody) (kind : PromptKind) (state : State) → ((prompt : PromptId) → (0 < prompt.0) × (prompt.0 < 2 ^ 64) → AreTyped (body_with (returned (Some prompt)))) → IsSound state
      → (fits ≡ true → IsSoundKind kind) → MayRun caller brought (with_new_prompt fits returned kind (asked caller brought state)) state
  new-may fits returned kind state typed sound is =
      let next = next_prompt (asked caller brought state) in
      let body = returned (Some next) in
      let inner : (full : Bool) → prompts.is_full caller state.prompts ≡ full → (b : Bool) → fits ≡ b
      → MayRun caller brought (cond full (refused name.LimitsExceeded) (cond b (answered body (Begin_prompt kind ∷ [])) (refused name.LimitsExceeded))) state =
      elim [
        | true ↦ λ full b fit. (tt, tt)
        | false ↦ λ full. elim [
          | true ↦ λ fit. (((full, is fit), tt), typed next (prompt-number state sound))
          | false ↦ λ fit. (tt, tt)
        ]
      ] in
      inner (prompts.is_full caller state.prompts) refl fits refl

  unlocking-may : (paths : List (List ℕ)) (targets : List Target) (state : State) → IsSound state → ArePaths paths → AllByRecursion IsSoundTarget targets
      → MayRun caller brought (unlocking paths targets (asked caller brought state)) state
  unlocking-may paths [] state sound typed each = (tt, (typed, tt))
  unlocking-may paths (target ∷ targets) state sound typed each =
      new-may (are_light (target ∷ targets)) (public.ObjectsAndPrompt paths) (kind.Unlock (all_left (target ∷ targets))) state (λ prompt number. (typed, number.1)) sound
      (λ light. record { done = tt; left = each; light = omega (arith, leb-true (weight (target ∷ targets)) most_weight light) })

  alias-text : (alias : Option (List ℕ)) → IsTypedName alias → (option_map_or (λ (name : List ℕ). name) alias [] ≡ []) ⊎ IsTypedAlias (option_map_or (λ (name : List ℕ). name) alias [])
  alias-text None typed = inl refl
  alias-text (Some alias) typed = inr typed

  creating-may : (label : List ℕ) (alias : Option (List ℕ)) (salt : List ℕ) (state : State) → IsSound state → IsSalt salt → IsTypedText label × IsTypedName alias
      → MayRun caller brought (creating label alias salt (asked caller brought state)) state
  creating-may label alias salt state sound random typed =
      let name_ = option_map_or (λ (name : List ℕ). name) alias [] in
      let new = kind.Create label name_ salt in
      let may = new-may true no_collection new state (λ prompt number. (path-of object.Nothing tt, number.1)) sound
      (λ fits. record { label = typed.0; alias = alias-text alias typed.1; salt = random.eight; each = random.bytes }) in
      let pass : (b : Bool) → MayRun caller brought (cond b (refused name.LimitsExceeded) (with_new_prompt true no_collection new (asked caller brought state))) state =
      elim [ true ↦ (tt, tt) | false ↦ may ] in
      pass (nat_le the_limits.collections (asked_collections (contents_of state)).count)

  -- the password of a collection that is there
  change-may : (salt : List ℕ) (state : State) → IsSound state → IsSalt salt → (named : Option (List ℕ)) → ((stem : List ℕ) → named ≡ Some stem → IsStem stem)
      → MayRun caller brought (on_collection named (λ stem. if_open stem (asked caller brought state) (with_new_prompt true the_prompt (kind.Change stem salt) (asked caller brought state)))) state
  change-may salt state sound random None stems = (tt, tt)
  change-may salt state sound random (Some stem) stems =
      if-may (is_open stem state.collections) (with_new_prompt true the_prompt (kind.Change stem salt) (asked caller brought state)) name.IsLocked state
      (new-may true the_prompt (kind.Change stem salt) state (λ prompt number. path-of (object.Prompt prompt) number) sound (λ fits. record { stem = stems stem refl; salt = random.eight; each = random.bytes }))

  alias-stem : (state : State) → IsSound state → (alias : Option (List ℕ)) (stem : List ℕ) → option_and_then (asked_collections (contents_of state)).alias alias ≡ Some stem → IsStem stem
  alias-stem state sound None stem is = absurd (let no : None ≡ Some stem = is in cc)
  alias-stem state sound (Some alias) stem is = alias-named (contents_of state) sound.collections alias stem is

  already-may : (state : State) (plan : Plan) (named : Option (List ℕ)) → ((stem : List ℕ) → named ≡ Some stem → AreTyped (body_with (public.ObjectAndPrompt (path_text (object.Collection stem)) None))) → MayRun caller brought plan state
      → MayRun caller brought (there_already named plan) state
  already-may state plan None typed may = may
  already-may state plan (Some stem) typed may = (tt, typed stem refl)

  unless-may : (why : Option PromptRefused) (plan : Plan) (state : State) → MayRun caller brought plan state → MayRun caller brought (unless_refused why plan) state
  unless-may None plan state may = may
  unless-may (Some why) plan state may = (tt, tt)

  round-may : (prompt : Option PromptId) (round : ℕ) (state : State) → MayRun caller brought (refuse prompt round (asked caller brought state)) state
  round-may None round state =
      let pass : (b : Bool) → MayRun caller brought (cond b (refused name.NoSuchObject) (refused name.AccessDenied)) state = elim [ true ↦ (tt, tt) | false ↦ (tt, tt) ] in
      pass (is_agent caller state.prompts)
  round-may (Some prompt) round state = unless-may (refusal prompt round caller state.prompts) (answered public.Empty (End_prompt prompt true None ∷ [])) state ((tt, tt), tt)

  -- a prompt on which Prompt wasn't called yet advances
  first-may : (prompt : PromptId) (state : State) (row : Option PromptRow) → row_at prompt state.prompts ≡ row → AreAllowed caller (first_advance prompt row) state
  first-may prompt state None found = tt
  first-may prompt state (Some row) found =
      let pass : (b : Bool) → is_made row.stage ≡ b → AreAllowed caller (cond b (Go_on prompt ∷ []) []) state =
      elim [ true ↦ λ made. (ask-round prompt state row found made, tt) | false ↦ λ made. tt ] in
      pass (is_made row.stage) refl

  -- ---- the agent's answer

  stage-asked : (round : ℕ) (stage : Stage) → is_asked_in round stage ≡ true → stage ≡ Asked round
  stage-asked round Made is = absurd (let no : false ≡ true = is in cc)
  stage-asked round (Asked other) is = ap Asked (eqb-true other round is)
  stage-asked round (Deriving other) is = absurd (let no : false ≡ true = is in cc)

  -- a prompt that isn't refused is asked in the round
  not-refused : (prompt : PromptId) (round : ℕ) (table : Prompts) (row : PromptRow) → row_at prompt table ≡ Some row → refusal prompt round caller table ≡ None → is_asked_in round row.stage ≡ true
  not-refused prompt round table row found is =
      let inner : (b : Bool) → is_asked_in round row.stage ≡ b → cond b None (Some refused_by.OldRound) ≡ None → is_asked_in round row.stage ≡ true =
      elim [ true ↦ λ at none. at | false ↦ λ at none. absurd (let no : Some refused_by.OldRound ≡ None = none in cc) ] in
      let pass : (b : Bool) → cond b (refusal_of round (row_at prompt table)) (Some refused_by.NotAgent) ≡ None → is_asked_in round row.stage ≡ true =
      elim [
        | true ↦ λ none. inner (is_asked_in round row.stage) refl (sym (ap (refusal_of round) found) ∙ none)
        | false ↦ λ none. absurd (let no : Some refused_by.NotAgent ≡ None = none in cc)
      ] in
      pass (is_agent caller table) is

  unless-none-may : (why : Option PromptRefused) (plan : Plan) (state : State) → (why ≡ None → MayRun caller brought plan state) → MayRun caller brought (unless_refused why plan) state
  unless-none-may None plan state may = may refl
  unless-none-may (Some why) plan state may = (tt, tt)

  target-answered-may : (prompt : PromptId) (round : ℕ) (stem : List ℕ) (state : State) → IsAllowed caller (Derive_key prompt round) state → IsAllowed caller (Go_on prompt) state
      → MayRun caller brought (target_answered prompt round stem (asked caller brought state)) state
  target-answered-may prompt round stem state derive go =
      let pass : (there unlocked : Bool) → MayRun caller brought (cond there (cond unlocked (going_on prompt) (deriving_key prompt round)) (going_on prompt)) state =
      elim [
        | true ↦ elim [ true ↦ ((go, tt), tt) | false ↦ ((derive, tt), tt) ]
        | false ↦ λ unlocked. ((go, tt), tt)
      ] in
      pass (has_collection stem state.collections) (is_open stem state.collections)

  left-answered-may : (prompt : PromptId) (round : ℕ) (left : List Target) (state : State) → IsAllowed caller (Derive_key prompt round) state → IsAllowed caller (Go_on prompt) state
      → MayRun caller brought (left_answered prompt round left) state
  left-answered-may prompt round [] state derive go = ((go, tt), tt)
  left-answered-may prompt round (target ∷ left) state derive go =
      (λ ended. ((tt, tt), target-answered-may prompt round target.stem (settled (Collection_file target.stem) ended state) derive go), target-answered-may prompt round target.stem state derive go)

  kind-answered-may : (prompt : PromptId) (round : ℕ) (k : PromptKind) (state : State) → IsAllowed caller (Derive_key prompt round) state → IsAllowed caller (Go_on prompt) state
      → MayRun caller brought (kind_answered prompt round k (asked_collections (contents_of state))) state
  kind-answered-may prompt round (kind.Unlock targets) state derive go = left-answered-may prompt round targets.left state derive go
  kind-answered-may prompt round (kind.Create label alias salt) state derive go = ((derive, tt), tt)
  kind-answered-may prompt round (kind.Change stem salt) state derive go =
      let pass : (b : Bool) → MayRun caller brought (cond b (deriving_key prompt round) (going_on prompt)) state = elim [ true ↦ ((derive, tt), tt) | false ↦ ((go, tt), tt) ] in
      pass (is_open stem state.collections)

  row-answered-may : (prompt : PromptId) (round : ℕ) (row : PromptRow) (state : State) → IsSound state → row_at prompt state.prompts ≡ Some row → row.stage ≡ Asked round
      → MayRun caller brought (row_answered prompt round (Some row) (asked_collections (contents_of state))) state
  row-answered-may prompt round row state sound found stage =
      let is : IsStage (Asked round) = subst IsStage stage (found-row (λ (row : PromptRow). IsStage row.stage) prompt state.prompts row sound.prompts.kept.rounds found) in
      let left : HasLeft row.kind = (found-row IsSoundPrompt prompt state.prompts row sound.prompts.each found).left (ap is_made stage) in
      let more : HasMore prompt state = λ other at. subst (λ (r : PromptRow). HasLeft r.kind) (some-same row other (sym found ∙ at)) left in
      let next : next_round (row_at prompt state.prompts) ≡ round + 1 = ap next_round found ∙ ap (λ s. round_of s + 1) stage in
      let pass : (b : Bool) → nat_eq round last_round ≡ b
      → MayRun caller brought (cond b (answered public.Empty (End_prompt prompt true None ∷ [])) (kind_answered prompt round row.kind (asked_collections (contents_of state)))) state =
      elim [
        | true ↦ λ at. ((tt, tt), tt)
        | false ↦ λ at.
            let below : round < last_round = grind (arith, nat_tests, is.1) in
            kind-answered-may prompt round row.kind state (is.0, below, more) (omega (arith, next, below))
      ] in
      pass (nat_eq round last_round) refl

  answer-may : (prompt : Option PromptId) (round : ℕ) (state : State) → IsSound state → MayRun caller brought (answer_prompt prompt round (asked caller brought state)) state
  answer-may None round state sound =
      let pass : (b : Bool) → MayRun caller brought (cond b (refused name.NoSuchObject) (refused name.AccessDenied)) state = elim [ true ↦ (tt, tt) | false ↦ (tt, tt) ] in
      pass (is_agent caller state.prompts)
  answer-may (Some prompt) round state sound =
      let pass : (o : Option PromptRow) → row_at prompt state.prompts ≡ o → refusal prompt round caller state.prompts ≡ None
      → MayRun caller brought (row_answered prompt round o (asked_collections (contents_of state))) state =
      elim [
        | None ↦ λ found none. (tt, tt)
        | Some row ↦ λ found none. row-answered-may prompt round row state sound found (stage-asked round row.stage (not-refused prompt round state.prompts row found none))
      ] in
      unless-none-may (refusal prompt round caller state.prompts) (row_answered prompt round (row_at prompt state.prompts) (asked_collections (contents_of state))) state
      (pass (row_at prompt state.prompts) refl)

  -- each row's plan may be run
  pub may-run : (salt : List ℕ) (state : State) (call : Result Call CallFault) → IsSound state → brought.now < 2 ^ 64 → IsSalt salt → HasTypes call → brought.value ≡ value_in call
      → MayRun caller brought (plan_of salt call (asked caller brought state)) state
  may-run salt state (Ok (call.OpenSession algorithm)) sound small random types same = opened-may state (is_plain algorithm)
  may-run salt state (Ok (call.CloseSession session)) sound small random types same = closed-may session state ((asked caller brought state).sessions.owns session)
  may-run salt state (Ok (call.SearchItems wanted)) sound small random types same =
      (tt, (found-unlocked wanted state.collections sound.collections, found-locked wanted state.collections sound.collections))
  may-run salt state (Ok (call.ReadAlias alias)) sound small random types same = (tt, alias-typed alias state sound)
  may-run salt state (Ok (call.SetAlias alias given)) sound small random types same =
      target-may alias state (alias_target (asked_collections (contents_of state)) given) (is-alias alias types) (target-stem (contents_of state) sound.collections given)
  may-run salt state (Ok (call.Lock objects)) sound small random types same = lock-may objects state sound
  may-run salt state (Ok (call.GetSecrets items session)) sound small random types same = secrets-may items session state sound
  may-run salt state (Ok (call.SearchCollection collection wanted)) sound small random types same = collection-may wanted state sound (collection_named (asked_collections (contents_of state)) collection)
  may-run salt state (Ok (call.GetSecret stem item session)) sound small random types same = secret-may stem item session state sound
  may-run salt state (Ok (call.CreateItem collection label attributes secret replace)) sound small random types same =
      created-may (Add_item label attributes secret.content replace) secret.session secret.content state sound
      (small, (types.0, subst (λ value. AreSecretTypes value secret.content) (sym same) types.1)) (collection_named (asked_collections (contents_of state)) collection)
  may-run salt state (Ok (call.DeleteCollection collection)) sound small random types same = erased-may state (collection_named (asked_collections (contents_of state)) collection)
  may-run salt state (Ok (call.ChangePassword collection)) sound small random types same =
      change-may salt state sound random (collection_named (asked_collections (contents_of state)) collection) (named-stem (contents_of state) sound.collections collection)
  may-run salt state (Ok (call.DeleteItem stem item)) sound small random types same =
      let edit = Remove_item item in
      let given = storable_edit brought state.collections stem edit in
      if-may (has_item stem item.0 state.collections) (if_open stem (asked caller brought state) (storing stem edit (λ _. no_prompt) given)) name.NoSuchObject state
      (if-may (is_open stem state.collections) (storing stem edit (λ _. no_prompt) given) name.IsLocked state
      (stored-may stem edit (λ _. no_prompt) given state refl (small, tt) (each-typed given _ (λ made. prompt-typed))))
  may-run salt state (Ok (call.SetSecret stem item secret)) sound small random types same =
      let edit = Set_secret item secret.content in
      if-may (has_item stem item.0 state.collections) (secret_stored secret.session stem secret.content edit (λ _. public.Empty) (asked caller brought state)) name.NoSuchObject state
      (kept-may secret.session stem secret.content edit (λ _. public.Empty) state (small, subst (λ value. AreSecretTypes value secret.content) (sym same) types)
      (each-typed (storable_edit brought state.collections stem edit) _ (λ made. tt)))
  may-run salt state (Ok (call.CreateCollection label alias)) sound small random types same =
      already-may state (creating label alias salt (asked caller brought state)) (option_and_then (asked_collections (contents_of state)).alias alias)
      (λ stem is. (path-of (object.Collection stem) (alias-stem state sound alias stem is), tt)) (creating-may label alias salt state sound random types)
  may-run salt state (Ok (call.Unlock objects)) sound small random types same =
      let asks = asked_collections (contents_of state) in
      unlocking-may (unlocked_there asks objects) (targets_of asks objects) state sound (unlocked-paths (contents_of state) sound.collections objects) (targets-sound (contents_of state) sound.collections objects)
  may-run salt state (Ok (call.Get target property)) sound small random types same =
      let asks = asked_collections (contents_of state) in
      object-may (holder_of target (asked caller brought state)) _ state (λ held. value-may (value_of asks held property) state (value-typed held property state sound))
  may-run salt state (Ok (call.GetAll target properties)) sound small random types same =
      object-may (holder_of target (asked caller brought state)) _ state (λ held. (tt, all-shown held properties state sound))
  may-run salt state (Ok (call.SetCollectionLabel collection label)) sound small random types same =
      named-may label state (collection_named (asked_collections (contents_of state)) collection) (small, types)
  may-run salt state (Ok (call.SetItemLabel stem item label)) sound small random types same = edited-may stem item (Set_label item label) state (small, types)
  may-run salt state (Ok (call.SetAttributes stem item attributes)) sound small random types same = edited-may stem item (Set_attributes item attributes) state (small, types)
  may-run salt state (Ok (call.Prompt prompt)) sound small random types same =
      let asks = asked_collections (contents_of state) in
      if-may (prompts.owns caller prompt state.prompts) (answered public.Empty (first_advance prompt (row_at prompt state.prompts))) name.NoSuchObject state
      (first-may prompt state (row_at prompt state.prompts) refl, tt)
  may-run salt state (Ok (call.Dismiss prompt)) sound small random types same =
      if-may (prompts.owns caller prompt state.prompts) (answered public.Empty (End_prompt prompt true None ∷ [])) name.NoSuchObject state ((tt, tt), tt)
  may-run salt state (Ok call.Register) sound small random types same =
      let pass : (b : Bool) → MayRun caller brought (cond b (refused name.AgentTaken) (answered public.Empty (Become_agent ∷ []))) state = elim [ true ↦ (tt, tt) | false ↦ ((tt, tt), tt) ] in
      pass (is_taken caller state.prompts.agent)
  may-run salt state (Ok call.Unregister) sound small random types same =
      if-may (is_agent caller state.prompts) (answered public.Empty (Leave_agent ∷ [])) name.AccessDenied state ((tt, tt), tt)
  may-run salt state (Ok (call.Refuse prompt round)) sound small random types same = round-may prompt round state
  may-run salt state (Ok (call.Answer prompt round password)) sound small random types same = answer-may prompt round state sound
  may-run salt state (Ok call.Ping) sound small random types same = (tt, tt)
  may-run salt state (Err fault) sound small random types same = (tt, tt)
