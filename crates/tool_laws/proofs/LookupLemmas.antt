-- What each call of `lookup` returns, unless it is refused, and what is printed of it.
use Rattle.std.proofs.Common.{◌≡◌, ℕ, ◌<◌, Bool, true, false, cond, List, [], ◌∷◌, map, Option, Some, None, Ok, Err, refl, sym, ap, subst, ◌∙◌, arith, codes, nat_lt}
use Rattle.std.specs.List.{AllByRecursion}
use Rattle.std.specs.Option.{option_and_then, option_map, option_map_or}
use Rattle.std.proofs.lemmas.Bool.Decides.{nat_tests}
use Rattle.std.proofs.lemmas.Option.{none-some, same_Some}
use Rattle.kr_base.specs.declared.attributes.AttrValue.{AttrValue}
use Rattle.kr_base.specs.declared.ids.ConnId.{ConnId}
use Rattle.kr_base.specs.declared.ids.ItemId.{ItemId}
use Rattle.kr_base.specs.declared.ids.SessionId.{SessionId}
use Rattle.keyring_file.specs.declared.area.FullItem.{FullItem}
use Rattle.session_table.specs.Sessions.{is_full, owns}
use Rattle.client_core.specs.declared.reply.Reply.{Reply}
use Rattle.client_core.specs.declared.reply.Reply.TheVariants as reply
use Rattle.service_events.specs.collection_table.specs.Rows.{Rows, content_of, found_in_all, has_item, is_open, item_of}
use Rattle.service_events.specs.secret_calls.specs.declared.call.Call.TheVariants as call
use Rattle.service_events.specs.secret_calls.specs.declared.out.Body.{Body}
use Rattle.service_events.specs.secret_calls.specs.declared.out.Body.TheVariants as body
use Rattle.service_events.specs.secret_calls.specs.declared.out.ErrorName.{ErrorName}
use Rattle.service_events.specs.secret_calls.specs.declared.out.ErrorName.TheVariants as name
use Rattle.service_events.specs.secret_calls.specs.declared.secret.ReturnedSecret.{ReturnedSecret}
use Rattle.service_events.specs.service_tables.specs.declared.fate.Fate.{Fate}
use Rattle.service_events.specs.service_tables.specs.Objects.{locked_paths, unlocked_paths}
use Rattle.service_events.specs.service_tables.specs.Opened.{Contents, contents_of}
use Rattle.service_events.specs.service_tables.specs.State.{State}
use Rattle.service_events.specs.service_tables.specs.Storing.{Brought}
use Rattle.service_events.specs.service_tables.specs.TablesReading.{secret_of}
use Rattle.service_events.specs.ItemCalls.{get_secret, secret_if_open}
use Rattle.service_events.specs.Plan.{Open_session, Secret_of, answered, given, refused}
use Rattle.service_events.specs.PublicBody as public
use Rattle.service_events.specs.Run.{asked, secret_returned, with_gift, with_own_gift}
use Rattle.service_events.specs.ServiceCalls.{is_plain, open_session, search_items}
use Rattle.service_events.specs.SessionCalls.{with_session}
use Rattle.tool_script.specs.declared.command.Command.TheVariants as command
use Rattle.tool_script.specs.declared.steps.ScriptEnd.{ScriptEnd}
use Rattle.tool_script.specs.declared.steps.ScriptStatus.TheVariants as status
use Rattle.tool_script.specs.Replies.{found_in, item_at, session_in, value_in}
use Rattle.tool_script.specs.Script as script
use Rattle.tool_script.specs.Script.{done, first_printed, get, get_first, print, silent, stopped, then_calls, then_ends, with_item}
use Rattle.tool_laws.specs.Conversations.{AreAnswered, AreReturns}
use Rattle.tool_laws.specs.Lookup.{IsLookedUp}
use Rattle.tool_laws.specs.Matches.{Item, locked_items, open_items}
use Rattle.tool_laws.specs.Ready.{IsReady}
use Rattle.tool_laws.proofs.AnswerLemmas.{PlanLeads, answered-with, err-ok, ok-same, leads-answered, leads-given, leads-if, leads-refused}
use Rattle.tool_laws.proofs.MatchLemmas.{AreRead, IsNamed, item-back, locked-listed, open-listed, open-named, path-of}

-- ---- the calls of `lookup`

-- a session is opened, and the collections and the aliases stay as they are
pub record IsOpening (state : State) (given : Body) (contents : Contents) : Type 0 where
  pub session : given ≡ body.Session (record { 0 = state.sessions.next })
  pub same : contents ≡ contents_of state

pub opens : (caller : ConnId) (brought : Brought) (fates : List Fate) (state : State)
    → PlanLeads (IsOpening state) caller brought fates state (open_session (codes "plain") (asked caller brought state))
opens caller brought fates state =
    let Is = IsOpening state in
    let shown = public.Session (record { 0 = state.sessions.next }) in
    let next = answered shown (Open_session ∷ []) in
    leads-if Is caller brought fates state (is_plain (codes "plain")) (cond (is_full caller state.sessions) (refused name.LimitsExceeded) next) (refused name.NotSupported)
    (λ _. leads-if Is caller brought fates state (is_full caller state.sessions) (refused name.LimitsExceeded) next (λ _. leads-refused Is caller brought fates state name.LimitsExceeded)
    (leads-answered Is caller brought fates state shown (Open_session ∷ []) (record { session = refl; same = refl })))
    (leads-refused Is caller brought fates state name.NotSupported)

-- a search finds what matches, and the collections and the aliases stay as they are
pub record IsSearch (wanted : List (List ℕ × AttrValue)) (state : State) (given : Body) (contents : Contents) : Type 0 where
  pub found : given ≡ body.Found (unlocked_paths (found_in_all wanted state.collections)) (locked_paths (found_in_all wanted state.collections))
  pub same : contents ≡ contents_of state

pub searches : (wanted : List (List ℕ × AttrValue)) (caller : ConnId) (brought : Brought) (fates : List Fate) (state : State)
    → PlanLeads (IsSearch wanted state) caller brought fates state (search_items wanted (asked caller brought state))
searches wanted caller brought fates state =
    let found = found_in_all wanted state.collections in
    leads-answered (IsSearch wanted state) caller brought fates state (public.Found (unlocked_paths found) (locked_paths found)) [] (record { found = refl; same = refl })

-- the value of an item
pub record HasValue (before : Rows) (stem : List ℕ) (item : ItemId) (given : Body) (contents : Contents) : Type 0 where
  pub full : FullItem
  pub there : item_of stem item.0 before ≡ Some full
  pub secret : ReturnedSecret
  pub is : given ≡ body.Secret secret
  pub value : secret.value ≡ full.value

-- the secret that an item and its content type make
abbrev made : SessionId → FullItem → Option (List ℕ) → Option ReturnedSecret
made session full content = option_map (λ c. record { session = session; value = full.value; content = c }) content

-- a secret that is read is that of the item
value-read : (before : Rows) (contents : Contents) (session : SessionId) (stem : List ℕ) (item : ItemId) (secret : ReturnedSecret) → secret_of session before stem item ≡ Some secret
    → HasValue before stem item (body.Secret secret) contents
value-read before contents session stem item secret e = pass (item_of stem item.0 before) (content_of stem item.0 before) refl e
  where
    pass : (full : Option FullItem) (content : Option (List ℕ)) → item_of stem item.0 before ≡ full → option_and_then (λ f. made session f content) full ≡ Some secret
        → HasValue before stem item (body.Secret secret) contents
    pass None content there e = absurd (none-some secret e)
    pass (Some full) None there e = absurd (none-some secret e)
    pass (Some full) (Some content) there e = record {
      full = full;
      there = there;
      secret = secret;
      is = refl;
      value = ap (λ (s : ReturnedSecret). s.value) (sym (same_Some (record { session = session; value = full.value; content = content }) secret e));
    }

-- the secret that is given is that of the item
gives : (caller : ConnId) (state : State) (session : SessionId) (stem : List ℕ) (item : ItemId) (given : Body) → with_gift caller state (Secret_of session stem item) ≡ Ok given
    → HasValue state.collections stem item given (contents_of state)
gives caller state session stem item given e = owned (owns caller session state.sessions) e
  where
    rows : Rows
    rows = state.collections

    shown : (found : Option ReturnedSecret) → secret_of session rows stem item ≡ found → secret_returned found ≡ Ok given → HasValue rows stem item given (contents_of state)
    shown None is e = absurd (err-ok name.NoSuchObject given e)
    shown (Some it) is e = subst (λ (b : Body). HasValue rows stem item b (contents_of state)) (ok-same (body.Secret it) given e) (value-read rows (contents_of state) session stem item it is)

    unlocked : (b : Bool) → cond b (secret_returned (secret_of session rows stem item)) (Err name.IsLocked) ≡ Ok given → HasValue rows stem item given (contents_of state)
    unlocked true e = shown (secret_of session rows stem item) refl e
    unlocked false e = absurd (err-ok name.IsLocked given e)

    owned : (b : Bool) → cond b (with_own_gift state (Secret_of session stem item)) (Err name.NoSession) ≡ Ok given → HasValue rows stem item given (contents_of state)
    owned true e = unlocked (is_open stem rows) e
    owned false e = absurd (err-ok name.NoSession given e)

-- a secret is read
reads : (stem : List ℕ) (item : ItemId) (session : SessionId) (caller : ConnId) (brought : Brought) (fates : List Fate) (state : State)
    → PlanLeads (HasValue state.collections stem item) caller brought fates state (get_secret stem item (Some session) (asked caller brought state))
reads stem item session caller brought fates state =
    let Is = HasValue state.collections stem item in
    let fails : (fault : ErrorName) → PlanLeads Is caller brought fates state (refused fault) = leads-refused Is caller brought fates state in
    let next = secret_if_open stem item (asked caller brought state) session in
    let gift : PlanLeads Is caller brought fates state next =
    leads-if Is caller brought fates state (is_open stem state.collections) (given (Secret_of session stem item)) (refused name.IsLocked)
    (λ _. leads-given Is caller brought fates state (Secret_of session stem item) (gives caller state session stem item)) (fails name.IsLocked) in
    leads-if Is caller brought fates state (has_item stem item.0 state.collections) (with_session (Some session) (asked caller brought state) (secret_if_open stem item (asked caller brought state)))
    (refused name.NoSuchObject) (λ _. leads-if Is caller brought fates state (owns caller session state.sessions) next (refused name.NoSession) (λ _. gift) (fails name.NoSession)) (fails name.NoSuchObject)

-- ---- the conversation, from its last call on

module _ (caller : ConnId) (rows : Rows) (last : State) (end : ScriptEnd) (are_read : AreRead) where
  -- the secret of the first match
  third : (state : State) (session : SessionId) (item : Item) (items locked : List Item) (replies : List Reply) → state.collections ≡ rows
      → AreAnswered caller state (get session (Some item)) replies last → AreReturns replies → then_ends value_in (λ value more. Some (done value)) replies ≡ Some end
      → IsLookedUp rows (item ∷ items) locked end
  third state session item items locked [] same answers returns ends = absurd (none-some end ends)
  third state session item items locked (reply.Error text ∷ more) same answers returns ends = absurd returns.0
  third state session item items locked (reply.Return given ∷ more) same answers returns ends =
      let its : HasValue state.collections item.0 item.1 given (contents_of answers.0) =
      answered-with (HasValue state.collections item.0 item.1) caller state answers.0 (call.GetSecret item.0 item.1 (Some session)) given answers.1
      (λ conn salt now fates. reads item.0 item.1 session conn (record { now = now; value = [] }) fates state) in
      let value : value_in given ≡ Some its.secret.value = ap value_in its.is in
      let printed : Some (done its.secret.value) ≡ Some end = subst (λ (o : Option (List ℕ)). option_map_or (λ (v : List ℕ). Some (done v)) o (Some (stopped (reply.Return given))) ≡ Some end) value ends in
      (its.full, ap (λ (r : Rows). item_of item.0 item.1.0 r) (sym same) ∙ its.there, sym (same_Some (done its.secret.value) end printed) ∙ ap done its.value)

  -- the matches
  matched : (state : State) (session : SessionId) (items locked : List Item) (replies : List Reply) → state.collections ≡ rows → AllByRecursion IsNamed items
      → AreAnswered caller state (get_first session (map path-of items)) replies last → AreReturns replies → first_printed (map path-of items) (map path-of locked) replies ≡ Some end
      → IsLookedUp rows items locked end
  matched state session [] [] replies same names answers returns ends = sym (same_Some (silent status.NotFound) end ends)
  matched state session [] (one ∷ locked) replies same names answers returns ends = sym (same_Some (silent status.Locked) end ends)
  matched state session (item ∷ items) locked replies same names answers returns ends =
      let back : item_at (path-of item) ≡ Some item = item-back are_read item names.0 in
      third state session item items locked replies same
      (subst (λ (o : Option Item). AreAnswered caller state (get session o) replies last) back answers) returns
      (subst (λ (o : Option Item). with_item o (then_ends value_in (λ value more. Some (done value)) replies) ≡ Some end) back ends)

  -- the search
  second : (state : State) (session : SessionId) (wanted : List (List ℕ × AttrValue)) (replies : List Reply) → state.collections ≡ rows → AllByRecursion IsNamed (open_items wanted rows)
      → AreAnswered caller state (call.SearchItems wanted ∷ then_calls found_in (λ found more. get_first session found.0) replies) replies last → AreReturns replies
      → then_ends found_in (λ found more. first_printed found.0 found.1 more) replies ≡ Some end → IsLookedUp rows (open_items wanted rows) (locked_items wanted rows) end
  second state session wanted [] same names answers returns ends = absurd (none-some end ends)
  second state session wanted (reply.Error text ∷ more) same names answers returns ends = absurd returns.0
  second state session wanted (reply.Return given ∷ more) same names answers returns ends =
      let its : IsSearch wanted state given (contents_of answers.0) =
      answered-with (IsSearch wanted state) caller state answers.0 (call.SearchItems wanted) given answers.1
      (λ conn salt now fates. searches wanted conn (record { now = now; value = [] }) fates state) in
      let unlocked : unlocked_paths (found_in_all wanted state.collections) ≡ map path-of (open_items wanted rows) =
      open-listed wanted state.collections ∙ ap (λ (r : Rows). map path-of (open_items wanted r)) same in
      let locked : locked_paths (found_in_all wanted state.collections) ≡ map path-of (locked_items wanted rows) =
      locked-listed wanted state.collections ∙ ap (λ (r : Rows). map path-of (locked_items wanted r)) same in
      let read : found_in given ≡ Some (map path-of (open_items wanted rows), map path-of (locked_items wanted rows)) =
      ap found_in its.found ∙ ap (λ (l : List (List ℕ)). Some (l, locked_paths (found_in_all wanted state.collections))) unlocked
      ∙ ap (λ (l : List (List ℕ)). Some (map path-of (open_items wanted rows), l)) locked in
      matched answers.0 session (open_items wanted rows) (locked_items wanted rows) more (ap (λ (c : Contents). c.collections) its.same ∙ same) names
      (subst (λ (o : Option (List (List ℕ) × List (List ℕ))). AreAnswered caller answers.0 (option_map_or (λ found. get_first session found.0) o []) more last) read answers.2) returns.1
      (subst (λ (o : Option (List (List ℕ) × List (List ℕ))). option_map_or (λ found. first_printed found.0 found.1 more) o (Some (stopped (reply.Return given))) ≡ Some end) read ends)

-- a session's number isn't 0
pub session-read : (session : SessionId) → 0 < session.0 → session_in (body.Session session) ≡ Some session
session-read session some = pass (nat_lt 0 session.0) (grind (arith, nat_tests, some))
  where
    pass : (b : Bool) → b ≡ true → cond b (Some session) None ≡ Some session
    pass true e = refl
    pass false e = cc

-- the whole of it
pub looked-up : AreRead → (caller : ConnId) (state last : State) (wanted : List (List ℕ × AttrValue)) (replies : List Reply) (end : ScriptEnd) → IsReady state
    → AreAnswered caller state (script.script (command.Lookup wanted) replies) replies last → AreReturns replies → print (command.Lookup wanted) replies ≡ Some end
    → IsLookedUp state.collections (open_items wanted state.collections) (locked_items wanted state.collections) end
looked-up are_read caller state last wanted [] end ready answers returns ends = absurd (none-some end ends)
looked-up are_read caller state last wanted (reply.Error text ∷ more) end ready answers returns ends = absurd returns.0
looked-up are_read caller state last wanted (reply.Return given ∷ more) end ready answers returns ends =
    let session : SessionId = record { 0 = state.sessions.next } in
    let its : IsOpening state given (contents_of answers.0) =
    answered-with (IsOpening state) caller state answers.0 script.open_session given answers.1 (λ conn salt now fates. opens conn (record { now = now; value = [] }) fates state) in
    let read : session_in given ≡ Some session = ap session_in its.session ∙ session-read session ready.numbered in
    second caller state.collections last end are_read answers.0 session wanted more (ap (λ (c : Contents). c.collections) its.same) (open-named wanted state.collections ready.sound.collections.each)
    (subst (λ (o : Option SessionId). AreAnswered caller answers.0 (option_map_or (λ s. call.SearchItems wanted ∷ then_calls found_in (λ found more. get_first s found.0) more) o []) more last) read answers.2) returns.1
    (subst (λ (o : Option SessionId). option_map_or (λ s. then_ends found_in (λ found more. first_printed found.0 found.1 more) more) o (Some (stopped (reply.Return given))) ≡ Some end) read ends)
