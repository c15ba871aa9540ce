-- Whatever a plan says, its answer has only secrets of items of unlocked collections, for sessions that its caller owns. Of the calls, GetSecret alone is answered by the secret of
-- one item, which is the one that it is called on.
use Rattle.std.proofs.Common.{◌≡◌, ⊎_elim, ℕ, ◌≤◌, ◌&&◌, Bool, true, false, cond, IsSomeAnd, List, [], ◌∷◌, length, slice_get, Contains, Option, Some, None, Result, Ok, Err, refl, sym, ap, subst, ◌∙◌, arith, is_some, filter}
use Rattle.std.specs.List.{AllByRecursion, cons_option, filter_map}
use Rattle.std.specs.Option.{option_and_then, option_map, option_map_or}
use Rattle.std.proofs.lemmas.Bool.{eqb-true, le-leb}
use Rattle.std.proofs.lemmas.List.Elements.{All-contains, All-from_recursion, Contains-append_cases, Contains-append_left, Contains-append_right, Contains-push_cases}
use Rattle.std.proofs.lemmas.Option.{none-some, same_Some}
use Rattle.kr_base.specs.Attributes.{value_at}
use Rattle.kr_base.specs.declared.ids.ConnId.{ConnId}
use Rattle.kr_base.specs.declared.ids.ItemId.{ItemId}
use Rattle.kr_base.specs.declared.ids.SessionId.{SessionId}
use Rattle.kr_names.specs.declared.object_name.ObjectName.{ObjectName}
use Rattle.kr_names.specs.declared.object_name.ObjectName.TheVariants as object
use Rattle.kr_names.specs.Path.{path_text}
use Rattle.service_events.specs.collection_store.specs.CollectionReading.{content_at, item_at}
use Rattle.service_events.specs.collection_store.specs.State.{Held}
use Rattle.service_events.specs.collection_table.specs.Rows.{CollectionRow, Rows, has_item, is_open, is_unlocked}
use Rattle.keyring_file.specs.declared.area.FullItem.{FullItem}
use Rattle.service_events.specs.secret_calls.specs.declared.call.Call.{Call}
use Rattle.service_events.specs.secret_calls.specs.declared.call.Call.TheVariants as call
use Rattle.service_events.specs.secret_calls.specs.declared.call.CallFault.{CallFault}
use Rattle.service_events.specs.secret_calls.specs.declared.out.Body.{Body}
use Rattle.service_events.specs.secret_calls.specs.declared.out.Body.TheVariants as body
use Rattle.service_events.specs.secret_calls.specs.declared.out.ErrorName.{ErrorName}
use Rattle.service_events.specs.secret_calls.specs.declared.out.ErrorName.TheVariants as name
use Rattle.service_events.specs.secret_calls.specs.declared.out.Out.{Out}
use Rattle.service_events.specs.secret_calls.specs.declared.out.Out.TheVariants as out
use Rattle.service_events.specs.secret_calls.specs.declared.secret.ItemSecret.{ItemSecret}
use Rattle.service_events.specs.secret_calls.specs.declared.secret.ReturnedSecret.{ReturnedSecret}
use Rattle.service_events.specs.secret_calls.specs.declared.serial.Serial.{Serial}
use Rattle.service_events.specs.secret_calls.specs.Outs.{spelled_body}
use Rattle.session_table.specs.Sessions.{owns}
use Rattle.service_events.specs.service_tables.specs.declared.fate.Fate.{Fate}
use Rattle.service_events.specs.service_tables.specs.declared.fate.Fate.TheVariants as fate
use Rattle.service_events.specs.service_tables.specs.declared.fate.ReadFate.{ReadFate}
use Rattle.service_events.specs.service_tables.specs.declared.fate.ReadFate.TheVariants as read
use Rattle.service_events.specs.service_tables.specs.declared.fate.StoreFate.TheVariants as stored
use Rattle.service_events.specs.service_tables.specs.Limits.{most_body}
use Rattle.service_events.specs.service_tables.specs.Objects.{is_open_item, once}
use Rattle.service_events.specs.service_tables.specs.TablesReading.{item_secret, secret_of}
use Rattle.service_events.specs.service_tables.specs.Sent.{One, Sent, is_for}
use Rattle.service_events.specs.service_tables.specs.State.{State}
use Rattle.service_events.specs.service_tables.specs.Storing.{Brought}
use Rattle.service_events.specs.service_tables.specs.Opened.{contents_of}
use Rattle.service_events.specs.service_tables.specs.Sound.{IsSound}
use Rattle.service_events.specs.service_tables.specs.TablesReading.{asked_collections}
use Rattle.service_events.specs.service_tables.proofs.CollectionLemmas.{once-each}
use Rattle.service_events.specs.service_tables.proofs.EachLemmas.{each-append, each-weaker}
use Rattle.service_events.specs.service_tables.proofs.HeldLemmas.{secret-there}
use Rattle.service_events.specs.declared.event.Event.{Event}
use Rattle.service_events.specs.declared.event.Event.TheVariants as event
use Rattle.service_events.specs.declared.event.Recorded.{Recorded}
use Rattle.service_events.specs.Derivation.{derived}
use Rattle.service_events.specs.ItemCalls.{get_secret, secret_if_open}
use Rattle.service_events.specs.Plan.{Answer, Returns, Gives, Refuses, Gift, Secret_of, Secrets_of, Plan, Ends, Asks, Resolves, Opens, given, refused}
use Rattle.service_events.specs.PublicBody.{PublicBody, body_with}
use Rattle.service_events.specs.PublicBody as public
use Rattle.service_events.specs.Run.{Ran, asked, by_read, by_reading, by_test, demanded, failing, filled, given_if_open, if_fits, is_in_doubt, promised, run, secret_returned, sending, sent_asked, sent_settled, session_of, settled, unlocked_with, with_gift, with_own_gift}
use Rattle.service_events.specs.ServiceCalls.{get_secrets}
use Rattle.service_events.specs.SessionCalls.{with_session}
use Rattle.service_events.specs.Step.{brought_by, brought_derived, finished, message_of, plan_of, puts_out, replies, served, terms_of}
use Rattle.service_events.proofs.EndLemmas.{AllEnds, GivesIf, IsEnd, IsLone, IsOfCall, call-ends, ends-either, ends-run}
use Rattle.service_events.proofs.RunLemmas.{fits-either, plan_for}
use Rattle.machine_laws.specs.Secrets.{AreOwnAndOpen, IsOfOpenItem, IsOwnAndOpen, IsReturnOf, Shows, ShowsAt, ended_in, item_asked, item_called, items_shown, secrets_in, secrets_shown, state_at}
use Rattle.machine_laws.proofs.SignalLemmas.{IsSignal, IsSignalOut, signal-run}

-- ---- what any plan answers

-- each of these is for a session of the caller, and that of an item of an unlocked collection
abbrev AreDue : ConnId → State → List ItemSecret → Type 0
AreDue caller state shown = AllByRecursion (IsOwnAndOpen caller state) shown

-- a secret is for the session that it was read for, and only an unlocked collection has it
secret-read : (session : SessionId) (id : ℕ) (row : Option CollectionRow) (secret : ReturnedSecret)
    → option_and_then
    (λ (full : FullItem). option_map (λ content. record { session = session; value = full.value; content = content }) (option_map_or (λ (row : CollectionRow). content_at id row.clear.items) row None))
    (option_map_or (λ (row : CollectionRow). item_at id row.held) row None)
    ≡ Some secret
    → (secret.session ≡ session) × (option_map_or is_unlocked row false ≡ true)
secret-read session id None secret is = absurd (none-some secret is)
secret-read session id (Some row) secret is =
    let of-content : (value : List ℕ) (content : Option (List ℕ)) → option_map (λ content. record { session = session; value = value; content = content }) content ≡ Some secret → secret.session ≡ session =
    λ value. elim [ None ↦ λ is. absurd (none-some secret is) | Some content ↦ λ is. ap (λ (s : ReturnedSecret). s.session) (sym (same_Some (record { session = session; value = value; content = content }) secret is)) ] in
    let of-item : (full : Option FullItem)
    → option_and_then (λ (full : FullItem). option_map (λ content. record { session = session; value = full.value; content = content }) (content_at id row.clear.items)) full ≡ Some secret → secret.session ≡ session =
    elim [ None ↦ λ is. absurd (none-some secret is) | Some full ↦ λ is. of-content full.value (content_at id row.clear.items) is ] in
    let of-held : (held : Option Held)
    → option_and_then (λ (full : FullItem). option_map (λ content. record { session = session; value = full.value; content = content }) (content_at id row.clear.items)) (item_at id held) ≡ Some secret
    → (secret.session ≡ session) × (is_some held ≡ true) =
    elim [ None ↦ λ is. absurd (none-some secret is) | Some held ↦ λ is. (of-item (item_at id (Some held)) is, refl) ] in
    of-held row.held is

due-read : (caller : ConnId) (state : State) (session : SessionId) (stem : List ℕ) (item : ItemId) (secret : ReturnedSecret) → owns caller session state.sessions ≡ true
    → secret_of session state.collections stem item ≡ Some secret → IsOwnAndOpen caller state (record { item = path_text (object.Item stem item); secret = secret })
due-read caller state session stem item secret own is =
    let read = secret-read session item.0 (value_at stem state.collections) secret is in (
      ap (λ s. owns caller s state.sessions) read.0 ∙ own,
      record {
        stem = stem;
        item = item;
        named = refl;
        unlocked = read.1;
        whose = ap (λ s. secret_of s state.collections stem item) read.0 ∙ is;
      },
    )

-- those of several items
due-items : (caller : ConnId) (state : State) (session : SessionId) → owns caller session state.sessions ≡ true → (items : List ObjectName) → AreDue caller state (filter_map (item_secret session state.collections) items)
due-items caller state session own [] = tt
due-items caller state session own (object.Item stem item ∷ items) =
    let path = path_text (object.Item stem item) in
    let rest = filter_map (item_secret session state.collections) items in
    let more = due-items caller state session own items in
    let pass : (o : Option ReturnedSecret) → secret_of session state.collections stem item ≡ o → AreDue caller state (cons_option (option_map (λ secret. record { item = path; secret = secret }) o) rest) =
    elim [ None ↦ λ is. more | Some secret ↦ λ is. (due-read caller state session stem item secret own is, more) ] in
    pass (secret_of session state.collections stem item) refl
due-items caller state session own (object.Nothing ∷ items) = due-items caller state session own items
due-items caller state session own (object.Service ∷ items) = due-items caller state session own items
due-items caller state session own (object.Agent ∷ items) = due-items caller state session own items
due-items caller state session own (object.Collection stem ∷ items) = due-items caller state session own items
due-items caller state session own (object.Alias alias ∷ items) = due-items caller state session own items
due-items caller state session own (object.Session other ∷ items) = due-items caller state session own items
due-items caller state session own (object.Prompt prompt ∷ items) = due-items caller state session own items

-- what is given, whatever a plan says: the step itself sees whose session it is, and what is unlocked
own-given : (caller : ConnId) (state : State) (gift : Gift) → owns caller (session_of gift) state.sessions ≡ true → AreOwnAndOpen caller state (with_own_gift state gift)
own-given caller state (Secret_of session stem item) own =
    let of-secret : (o : Option ReturnedSecret) → secret_of session state.collections stem item ≡ o → AreOwnAndOpen caller state (secret_returned o) =
    elim [ None ↦ λ none. tt | Some secret ↦ λ is. (path_text (object.Item stem item), due-read caller state session stem item secret own is) ] in
    let pass : (b : Bool) → AreOwnAndOpen caller state (cond b (secret_returned (secret_of session state.collections stem item)) (Err name.IsLocked)) =
    elim [ true ↦ of-secret (secret_of session state.collections stem item) refl | false ↦ tt ] in
    pass (is_open stem state.collections)
own-given caller state (Secrets_of session items) own = due-items caller state session own items

own-filled : (caller : ConnId) (state : State) (answer : Answer) → AreOwnAndOpen caller state (filled caller state answer)
own-filled caller state (Returns public.Empty) = tt
own-filled caller state (Returns (public.Session session)) = tt
own-filled caller state (Returns (public.Found unlocked locked)) = tt
own-filled caller state (Returns (public.ObjectsAndPrompt objects prompt)) = tt
own-filled caller state (Returns (public.Objects objects)) = tt
own-filled caller state (Returns (public.ObjectAndPrompt object prompt)) = tt
own-filled caller state (Returns (public.Object object)) = tt
own-filled caller state (Returns (public.Property value)) = tt
own-filled caller state (Returns (public.Properties properties)) = tt
own-filled caller state (Gives gift) =
    let pass : (b : Bool) → owns caller (session_of gift) state.sessions ≡ b → AreOwnAndOpen caller state (cond b (with_own_gift state gift) (Err name.NoSession)) =
    elim [ true ↦ λ own. own-given caller state gift own | false ↦ λ other. tt ] in
    pass (owns caller (session_of gift) state.sessions) refl
own-filled caller state (Refuses name) = tt

-- what a run answers is of the state in which the plan ends
module _ (caller : ConnId) (brought : Brought) where
  -- an answer of a run that ended in this state
  abbrev IsOwn : State → Ran → Type 0
  IsOwn state ran = AreOwnAndOpen caller state ran.answer

  pub own_run : (plan : Plan) (fates : List Fate) (state : State) → IsOwn (ended_in caller brought plan fates state) (run caller brought plan fates state)
  own_run (Ends answer changes) fates state = ends-either (IsOwn state) caller brought answer changes fates state (own-filled caller state answer) tt
  own_run (Asks demand next) [] state = fits-either (IsOwn state) (promised caller state (next stored.Stored)) (failing name.IOError state) (failing name.LimitsExceeded state) (λ small. tt) tt
  own_run (Asks demand next) (fate.Read ended ∷ rest) state = fits-either (IsOwn state) (promised caller state (next stored.Stored)) (failing name.IOError state) (failing name.LimitsExceeded state) (λ small. tt) tt
  own_run (Asks demand next) (fate.Store ended ∷ rest) state =
      let after = demanded brought demand ended state in
      fits-either (IsOwn (ended_in caller brought (next ended) rest after)) (promised caller state (next stored.Stored)) (sending (sent_asked brought demand ended state) (run caller brought (next ended) rest after))
      (failing name.LimitsExceeded state) (λ small. own_run (next ended) rest after) tt
  own_run (Resolves reading unread next) fates state =
      let after : ReadFate → State = λ ended. settled reading ended state in
      let first : ReadFate → List Fate → State = λ ended rest. ended_in caller brought unread rest (after ended) in
      let second : ReadFate → List Fate → State = λ ended rest. ended_in caller brought (next (asked caller brought (after ended))) rest (after ended) in
      let one : ReadFate → List Fate → Ran = λ ended rest. run caller brought unread rest (after ended) in
      let other : ReadFate → List Fate → Ran = λ ended rest. run caller brought (next (asked caller brought (after ended))) rest (after ended) in
      let by-ended : (ended : ReadFate) (rest : List Fate) → IsOwn (by_reading ended (first ended rest) (second ended rest)) (by_reading ended (one ended rest) (other ended rest)) =
      elim [
        | read.ReadFailed ↦ λ rest. own_run unread rest (after read.ReadFailed)
        | read.Old ↦ λ rest. own_run (next (asked caller brought (after read.Old))) rest (after read.Old)
        | read.New ↦ λ rest. own_run (next (asked caller brought (after read.New))) rest (after read.New)
        | read.Other ↦ λ rest. own_run (next (asked caller brought (after read.Other))) rest (after read.Other)
      ] in
      let by-fates : (fates : List Fate) → IsOwn (by_read state (λ ended rest. by_reading ended (first ended rest) (second ended rest)) fates)
      (by_read (failing name.IOError state) (λ ended rest. sending (sent_settled reading ended state) (by_reading ended (one ended rest) (other ended rest))) fates) =
      elim [ [] ↦ tt | fate.Store ended ∷ rest ↦ tt | fate.Read ended ∷ rest ↦ by-ended ended rest ] in
      let pass : (b : Bool) → IsOwn (by_test b (by_read state (λ ended rest. by_reading ended (first ended rest) (second ended rest)) fates) (ended_in caller brought (next (asked caller brought state)) fates state))
      (by_test b (by_read (failing name.IOError state) (λ ended rest. sending (sent_settled reading ended state) (by_reading ended (one ended rest) (other ended rest))) fates)
      (run caller brought (next (asked caller brought state)) fates state)) =
      elim [ true ↦ by-fates fates | false ↦ own_run (next (asked caller brought state)) fates state ] in
      pass (is_in_doubt reading state)
  own_run (Opens stem terms next) fates state = own_run next fates (unlocked_with brought stem terms state)

-- what it sends besides has none
secretless : (sent : Sent) → IsSignal sent → (path : List ℕ) → secrets_in path sent.out ≡ []
secretless sent is path =
    let pass : (o : Out) → IsSignalOut o → secrets_in path o ≡ [] = elim [ out.Return serial body ↦ λ no. absurd no | out.Error serial name ↦ λ no. absurd no | out.Signal signal ↦ λ its. refl ] in
    pass sent.out is.1

pub sends_none : (caller : ConnId) (brought : Brought) (plan : Plan) (fates : List Fate) (state : State) (sent : Sent) (path : List ℕ) → Contains (run caller brought plan fates state).sends sent
    → secrets_in path sent.out ≡ []
sends_none caller brought plan fates state sent path there =
    let sends = (run caller brought plan fates state).sends in
    secretless sent (All-contains IsSignal sends sent (All-from_recursion IsSignal sends (signal-run caller brought plan fates state)) there) path

-- ---- what a request is answered

module _ (caller : ConnId) (brought : Brought) (fates : List Fate) (state : State) (path : List ℕ) (serial : Serial) where
  -- each secret of a message that answers is due
  abbrev AnswersDue : Result Body ErrorName → Type 0
  AnswersDue answer = AreDue caller state (secrets_in path (message_of serial answer))

  -- the same of what a plan leads to
  abbrev LeadsDue : Plan → Type 0
  LeadsDue plan = AnswersDue (run caller brought plan fates state).answer

  -- a plan that gives no secret
  public-none : (body : PublicBody) → secrets_in path (message_of serial (Ok (body_with body))) ≡ []
  public-none public.Empty = refl
  public-none (public.Session session) = refl
  public-none (public.Found unlocked locked) = refl
  public-none (public.ObjectsAndPrompt objects prompt) = refl
  public-none (public.Objects objects) = refl
  public-none (public.ObjectAndPrompt object prompt) = refl
  public-none (public.Object object) = refl
  public-none (public.Property value) = refl
  public-none (public.Properties properties) = refl

  filled-none : (answer : Answer) → GivesIf false answer → (at : State) → secrets_in path (message_of serial (filled caller at answer)) ≡ []
  filled-none (Returns body) gives at = public-none body
  filled-none (Gives gift) gives at = absurd (let no : false ≡ true = gives in cc)
  filled-none (Refuses name) gives at = refl

  due-plan : (plan : Plan) → AllEnds (IsEnd false (IsLone IsOfCall)) plan → LeadsDue plan
  due-plan plan is =
      let none : secrets_in path (message_of serial (run caller brought plan fates state).answer) ≡ [] =
      ends-run (IsEnd false (IsLone IsOfCall)) caller brought (λ before ran. secrets_in path (message_of serial ran.answer) ≡ [])
      (record {
        ends = λ answer changes at is. filled-none answer is.0 at;
        fails = λ name at. refl;
        asks = λ demand ended at ran same. same;
        settles = λ reading ended at ran same. same;
        opens = λ stem terms at ran same. same;
      })
      plan fates state is in
      subst (AreDue caller state) (sym none) tt

  due-if : (b : Bool) (one other : Plan) → LeadsDue one → LeadsDue other → LeadsDue (cond b one other)
  due-if true one other first second = first
  due-if false one other first second = second

  due-session : (session : Option SessionId) (next : SessionId → Plan) → ((own : SessionId) → LeadsDue (next own)) → LeadsDue (with_session session (asked caller brought state) next)
  due-session None next due = tt
  due-session (Some session) next due = due-if (owns caller session state.sessions) (next session) (refused name.NoSession) (due session) tt

  -- what is given to a session of the caller
  due-given : (gift : Gift) → (owns caller (session_of gift) state.sessions ≡ true → AnswersDue (with_own_gift state gift)) → LeadsDue (given gift)
  due-given gift due =
      let pass : (b : Bool) → owns caller (session_of gift) state.sessions ≡ b → AnswersDue (cond b (with_own_gift state gift) (Err name.NoSession)) = elim [ true ↦ due | false ↦ λ other. tt ] in
      ends-either (λ (ran : Ran). AnswersDue ran.answer) caller brought (Gives gift) [] fates state (pass (owns caller (session_of gift) state.sessions) refl) tt

-- GetSecret of the item with the path
due-secret : (caller : ConnId) (brought : Brought) (fates : List Fate) (state : State) (serial : Serial) (stem : List ℕ) (item : ItemId) (session : Option SessionId)
    → LeadsDue caller brought fates state (path_text (object.Item stem item)) serial (get_secret stem item session (asked caller brought state))
due-secret caller brought fates state serial stem item session =
    let path = path_text (object.Item stem item) in
    let Leads : Plan → Type 0 = LeadsDue caller brought fates state path serial in
    let Answers : Result Body ErrorName → Type 0 = AnswersDue caller brought fates state path serial in
    let of-item : (own : SessionId) → owns caller own state.sessions ≡ true → Answers (given_if_open state stem (secret_of own state.collections stem item)) =
    λ own is.
    let returned : (o : Option ReturnedSecret) → secret_of own state.collections stem item ≡ o → Answers (secret_returned o) =
    elim [ None ↦ λ none. tt | Some secret ↦ λ some. (due-read caller state own stem item secret is some, tt) ] in
    let pass : (b : Bool) → Answers (cond b (secret_returned (secret_of own state.collections stem item)) (Err name.IsLocked)) =
    elim [ true ↦ returned (secret_of own state.collections stem item) refl | false ↦ tt ] in
    pass (is_open stem state.collections) in
    let next = secret_if_open stem item (asked caller brought state) in
    let if-open : (own : SessionId) → Leads (next own) =
    λ own. due-if caller brought fates state path serial (is_open stem state.collections) (given (Secret_of own stem item)) (refused name.IsLocked) (due-given caller brought fates state path serial (Secret_of own stem item) (of-item own)) tt in
    due-if caller brought fates state path serial (has_item stem item.0 state.collections) (with_session session (asked caller brought state) next) (refused name.NoSuchObject)
    (due-session caller brought fates state path serial session next if-open) tt

-- any request
due-call : (caller : ConnId) (brought : Brought) (fates : List Fate) (state : State) (serial : Serial) (salt : List ℕ) (call : Result Call CallFault)
    → LeadsDue caller brought fates state (item_called call) serial (plan_of salt call (asked caller brought state))
due-call caller brought fates state serial salt (Ok (call.GetSecret stem item session)) = due-secret caller brought fates state serial stem item session
due-call caller brought fates state serial salt (Ok (call.GetSecrets items session)) =
    let shown = once (filter (is_open_item (asked caller brought state).collections) items) in
    due-session caller brought fates state [] serial session _ (λ own. due-given caller brought fates state [] serial (Secrets_of own shown) (λ is. due-items caller state own is shown))
due-call caller brought fates state serial salt other =
    due-plan caller brought fates state [] serial (plan_of salt other (asked caller brought state)) (call-ends false salt other (asked caller brought state) tt)

-- ---- an event

-- what is true of a secret in a message that the event puts out
record IsShown (state : State) (event : Event) (sent : Sent) (shown : ItemSecret) : Type 0 where
  pub reply : IsReturnOf event sent
  pub owned : (conn : ConnId) → is_for sent.to conn ≡ true → owns conn shown.secret.session state.sessions ≡ true
  pub unlocked : IsOfOpenItem state.collections shown

-- the same of each secret in the message
abbrev AreShown : State → Event → Sent → Type 0
AreShown state event sent = AllByRecursion (IsShown state event sent) (secrets_in (item_asked event) sent.out)

shown-signal : (state : State) (event : Event) (sent : Sent) → IsSignal sent → AreShown state event sent
shown-signal state event sent is = subst (AllByRecursion (IsShown state event sent)) (sym (secretless sent is (item_asked event))) tt

-- a message that goes to one connection goes to no other
same-one : (caller conn : ConnId) → is_for (One caller) conn ≡ true → conn ≡ caller
same-one caller conn is = let same : conn.0 ≡ caller.0 = eqb-true conn.0 caller.0 is in λ i. record { 0 = same i }

shown-answer : (came : Recorded) (state : State) (answer : Result Body ErrorName)
    → AreDue came.arrival.conn state (secrets_in (item_called came.arrival.request.call) (message_of came.arrival.request.serial answer))
    → AreShown state (event.Arrive came) (record { to = One came.arrival.conn; out = message_of came.arrival.request.serial answer })
shown-answer came state (Err name) due = tt
shown-answer came state (Ok body) due =
    let caller = came.arrival.conn in
    let message = out.Return came.arrival.request.serial body in
    each-weaker (IsOwnAndOpen caller state) (IsShown state (event.Arrive came) (record { to = One caller; out = message }))
    (λ shown is. record {
      reply = (refl, refl);
      owned = λ conn its. ap (λ c. owns c shown.secret.session state.sessions) (same-one caller conn its) ∙ is.0;
      unlocked = is.1;
    })
    (secrets_in (item_called came.arrival.request.call) message) due

shown-reply : (came : Recorded) (state : State) (wanted : Bool)
    → AllByRecursion (AreShown state (event.Arrive came)) (cond wanted (record { to = One came.arrival.conn; out = message_of came.arrival.request.serial (served came state).answer } ∷ []) [])
shown-reply came state false = tt
shown-reply came state true =
    let due = due-call came.arrival.conn (brought_by came.arrival) came.fates state came.arrival.request.serial came.arrival.salt came.arrival.request.call in
    (shown-answer came state (served came state).answer due, tt)

shown-all : (state : State) (event : Event) → AllByRecursion (AreShown state event) (puts_out state event)
shown-all state (event.Connect conn) = tt
shown-all state (event.Arrive came) =
    let caller = came.arrival.conn in
    each-append (AreShown state (event.Arrive came)) (replies caller came.arrival.request (served came state).answer) (served came state).sends
    (shown-reply came state came.arrival.request.wants_reply)
    (each-weaker IsSignal (AreShown state (event.Arrive came)) (shown-signal state (event.Arrive came)) (served came state).sends
    (signal-run caller (brought_by came.arrival) (plan_for came state) came.fates state))
shown-all state (event.Derived came) =
    let brought = brought_derived came in
    let plan = derived came.prompt came.round (terms_of came) (asked came.conn brought state) in
    each-weaker IsSignal (AreShown state (event.Derived came)) (shown-signal state (event.Derived came)) (finished came state).sends (signal-run came.conn brought plan came.fates state)
shown-all state (event.Leave conn) = tt
shown-all state (event.Take conn) = tt
shown-all state (event.Gone conn) = tt

shown-is : (state : State) (event : Event) (sent : Sent) (shown : ItemSecret) → Shows state event sent shown → IsShown state event sent shown
shown-is state event sent shown shows =
    let message = All-contains (AreShown state event) (puts_out state event) sent (All-from_recursion (AreShown state event) (puts_out state event) (shown-all state event)) shows.0 in
    let secrets = secrets_in (item_asked event) sent.out in
    All-contains (IsShown state event sent) secrets shown (All-from_recursion (IsShown state event sent) secrets message) shows.1

pub reply : (state : State) (event : Event) (sent : Sent) (shown : ItemSecret) → Shows state event sent shown → IsReturnOf event sent
reply state event sent shown shows = (shown-is state event sent shown shows).reply

pub owned : (state : State) (event : Event) (sent : Sent) (shown : ItemSecret) (conn : ConnId) → Shows state event sent shown → is_for sent.to conn ≡ true → owns conn shown.secret.session state.sessions ≡ true
owned state event sent shown conn shows = (shown-is state event sent shown shows).owned conn

pub unlocked : (state : State) (event : Event) (sent : Sent) (shown : ItemSecret) → Shows state event sent shown → IsOfOpenItem state.collections shown
unlocked state event sent shown shows = (shown-is state event sent shown shows).unlocked

-- ---- an event of a list

-- what is true whatever event it is that is there
there : (P : Event → Type 0) (Q : Type 0) → ((event : Event) → P event → Q) → (o : Option Event) → IsSomeAnd o P → Q
there P Q leads None is = absurd is
there P Q leads (Some event) is = leads event is

pub reply_at : (start : State) (events : List Event) (place : ℕ) (sent : Sent) (shown : ItemSecret) → ShowsAt start events place sent shown → IsSomeAnd (slice_get events place) (λ event. IsReturnOf event sent)
reply_at start events place sent shown =
    let state = state_at start events place in
    let pass : (o : Option Event) → IsSomeAnd o (λ event. Shows state event sent shown) → IsSomeAnd o (λ event. IsReturnOf event sent) =
    elim [ None ↦ λ shows. absurd shows | Some event ↦ λ shows. reply state event sent shown shows ] in
    pass (slice_get events place)

pub owned_at : (start : State) (events : List Event) (place : ℕ) (sent : Sent) (shown : ItemSecret) (conn : ConnId) → ShowsAt start events place sent shown → is_for sent.to conn ≡ true
    → owns conn shown.secret.session (state_at start events place).sessions ≡ true
owned_at start events place sent shown conn shows its =
    let state = state_at start events place in
    there (λ event. Shows state event sent shown) (owns conn shown.secret.session state.sessions ≡ true) (λ event is. owned state event sent shown conn is its) (slice_get events place) shows

pub unlocked_at : (start : State) (events : List Event) (place : ℕ) (sent : Sent) (shown : ItemSecret) → ShowsAt start events place sent shown → IsOfOpenItem (state_at start events place).collections shown
unlocked_at start events place sent shown =
    let state = state_at start events place in
    there (λ event. Shows state event sent shown) (IsOfOpenItem state.collections shown) (λ event shows. unlocked state event sent shown shows) (slice_get events place)

-- ---- GetSecret by the owner of a session

-- a run that ends is answered by what is given, if that is small enough
given-fits : (caller : ConnId) (brought : Brought) (fates : List Fate) (state : State) (gift : Gift) (body : Body) → with_gift caller state gift ≡ Ok body → length (spelled_body body) ≤ most_body
    → (run caller brought (given gift) fates state).answer ≡ Ok body
given-fits caller brought fates state gift body is small =
    let ends : Result Body ErrorName → Ran = λ answer. record { answer = answer; state = state; sends = [] } in
    ap (λ answer. (if_fits answer (ends answer) (failing name.LimitsExceeded state)).answer) is
    ∙ ap (λ b. (by_test b (ends (Ok body)) (failing name.LimitsExceeded state)).answer) (le-leb (length (spelled_body body)) most_body small)

given-answer : (caller : ConnId) (brought : Brought) (fates : List Fate) (state : State) (stem : List ℕ) (item : ItemId) (session : SessionId) (secret : ReturnedSecret) → owns caller session state.sessions ≡ true
    → has_item stem item.0 state.collections ≡ true → secret_of session state.collections stem item ≡ Some secret → length (spelled_body (body.Secret secret)) ≤ most_body
    → (run caller brought (get_secret stem item (Some session) (asked caller brought state)) fates state).answer ≡ Ok (body.Secret secret)
given-answer caller brought fates state stem item session secret own there is small =
    let read = secret-read session item.0 (value_at stem state.collections) secret is in
    let gift = Secret_of session stem item in
    let plan : Bool → Bool → Bool → Plan = λ has owned unlocked. cond has (cond owned (cond unlocked (given gift) (refused name.IsLocked)) (refused name.NoSession)) (refused name.NoSuchObject) in
    let answer : Bool → Bool → Bool → Result Body ErrorName = λ has owned unlocked. (run caller brought (plan has owned unlocked) fates state).answer in
    let unlocked = is_open stem state.collections in
    let returned = secret_returned (secret_of session state.collections stem item) in
    let gives : with_gift caller state gift ≡ Ok (body.Secret secret) =
    ap (λ b. cond b (cond unlocked returned (Err name.IsLocked)) (Err name.NoSession)) own ∙ ap (λ b. cond b returned (Err name.IsLocked)) read.1 ∙ ap secret_returned is in
    ap (λ b. answer b (owns caller session state.sessions) unlocked) there
    ∙ ap (λ b. answer true b unlocked) own
    ∙ ap (answer true true) read.1
    ∙ given-fits caller brought fates state gift (body.Secret secret) gives small

pub shown_on_call : (state : State) (came : Recorded) (stem : List ℕ) (item : ItemId) (session : SessionId) (secret : ReturnedSecret)
    → came.arrival.request.call ≡ Ok (call.GetSecret stem item (Some session))
    → came.arrival.request.wants_reply ≡ true
    → owns came.arrival.conn session state.sessions ≡ true
    → has_item stem item.0 state.collections ≡ true
    → secret_of session state.collections stem item ≡ Some secret
    → length (spelled_body (body.Secret secret)) ≤ most_body
    → Shows state (event.Arrive came) (record { to = One came.arrival.conn; out = out.Return came.arrival.request.serial (body.Secret secret) }) (record { item = path_text (object.Item stem item); secret = secret })
shown_on_call state came stem item session secret call wanted own there is small =
    let caller = came.arrival.conn in
    let brought = brought_by came.arrival in
    let serial = came.arrival.request.serial in
    let shown : ItemSecret = record { item = path_text (object.Item stem item); secret = secret } in
    let message : Out = out.Return serial (body.Secret secret) in
    let sent : Sent = record { to = One caller; out = message } in
    let answer : (served came state).answer ≡ Ok (body.Secret secret) =
    ap (λ c. (run caller brought (plan_of came.arrival.salt c (asked caller brought state)) came.fates state).answer) call
    ∙ given-answer caller brought came.fates state stem item session secret own there is small in
    let answers : replies caller came.arrival.request (served came state).answer ≡ sent ∷ [] =
    ap (λ b. cond b (record { to = One caller; out = message_of serial (served came state).answer } ∷ []) []) wanted
    ∙ ap (λ a. record { to = One caller; out = message_of serial a } ∷ []) answer in
    let first : Contains (sent ∷ []) sent = (0, omega arith, refl) in
    let alone : Contains (shown ∷ []) shown = (0, omega arith, refl) in (
      Contains-append_left (replies caller came.arrival.request (served came state).answer) (served came state).sends sent (subst (λ l. Contains l sent) (sym answers) first),
      subst (λ c. Contains (secrets_in (item_called c) message) shown) (sym call) alone,
    )

-- in a sound state an item that an unlocked collection shows has a secret, which is shown
pub shown_if_open : (state : State) (came : Recorded) (stem : List ℕ) (item : ItemId) (session : SessionId) → IsSound state
    → came.arrival.request.call ≡ Ok (call.GetSecret stem item (Some session))
    → came.arrival.request.wants_reply ≡ true
    → owns came.arrival.conn session state.sessions ≡ true
    → is_open stem state.collections ≡ true
    → has_item stem item.0 state.collections ≡ true
    → (secret : ReturnedSecret) × (secret_of session state.collections stem item ≡ Some secret)
    × (length (spelled_body (body.Secret secret)) ≤ most_body
    → Shows state (event.Arrive came) (record { to = One came.arrival.conn; out = out.Return came.arrival.request.serial (body.Secret secret) }) (record { item = path_text (object.Item stem item); secret = secret }))
shown_if_open state came stem item session sound call wanted own unlocked there =
    let (secret, is) = secret-there session state.collections stem item sound.collections unlocked there in
    (secret, is, λ small. shown_on_call state came stem item session secret call wanted own there is small)

-- ---- GetSecrets by the owner of a session

-- an object whose secret is read gives it
gives-secret : (session : SessionId) (rows : Rows) (objects : List ObjectName) (object : ObjectName) (shown : ItemSecret) → Contains objects object → item_secret session rows object ≡ Some shown
    → Contains (filter_map (item_secret session rows) objects) shown
gives-secret session rows [] object shown there is = absurd (let none = there.1 in omega (arith, none))
gives-secret session rows (first ∷ objects) object shown there is =
    let rest = filter_map (item_secret session rows) objects in
    let here : first ≡ object → Contains (cons_option (item_secret session rows first) rest) shown =
    λ same. subst (λ o. Contains (cons_option o rest) shown) (sym (ap (item_secret session rows) same ∙ is)) (0, omega arith, refl) in
    let alone : Contains (first ∷ []) object → first ≡ object =
    λ one. ⊎_elim (λ (none : Contains [] object). absurd (let no = none.1 in omega (arith, no))) (λ (same : first ≡ object). same) (Contains-push_cases [] first object one) in
    let later : Contains objects object → Contains (cons_option (item_secret session rows first) rest) shown =
    λ behind.
    let more = gives-secret session rows objects object shown behind is in
    let pass : (o : Option ItemSecret) → Contains (cons_option o rest) shown = elim [ None ↦ more | Some other ↦ Contains-append_right (other ∷ []) rest shown more ] in
    pass (item_secret session rows first) in
    ⊎_elim (λ (one : Contains (first ∷ []) object). here (alone one)) later (Contains-append_cases (first ∷ []) objects object there)

given-answers : (caller : ConnId) (brought : Brought) (fates : List Fate) (state : State) (objects : List ObjectName) (session : SessionId) → owns caller session state.sessions ≡ true
    → length (spelled_body (body.Secrets (secrets_shown session state objects))) ≤ most_body
    → (run caller brought (get_secrets objects (Some session) (asked caller brought state)) fates state).answer ≡ Ok (body.Secrets (secrets_shown session state objects))
given-answers caller brought fates state objects session own small =
    let gift = Secrets_of session (items_shown state objects) in
    ap (λ b. (run caller brought (cond b (given gift) (refused name.NoSession)) fates state).answer) own
    ∙ given-fits caller brought fates state gift (body.Secrets (secrets_shown session state objects)) (ap (λ b. cond b (with_own_gift state gift) (Err name.NoSession)) own) small

pub shown_on_calls : (state : State) (came : Recorded) (objects : List ObjectName) (stem : List ℕ) (item : ItemId) (session : SessionId) (secret : ReturnedSecret)
    → came.arrival.request.call ≡ Ok (call.GetSecrets objects (Some session))
    → came.arrival.request.wants_reply ≡ true
    → owns came.arrival.conn session state.sessions ≡ true
    → Contains (items_shown state objects) (object.Item stem item)
    → secret_of session state.collections stem item ≡ Some secret
    → length (spelled_body (body.Secrets (secrets_shown session state objects))) ≤ most_body
    → Shows state (event.Arrive came) (record { to = One came.arrival.conn; out = out.Return came.arrival.request.serial (body.Secrets (secrets_shown session state objects)) })
    (record { item = path_text (object.Item stem item); secret = secret })
shown_on_calls state came objects stem item session secret call wanted own there is small =
    let caller = came.arrival.conn in
    let brought = brought_by came.arrival in
    let serial = came.arrival.request.serial in
    let path = path_text (object.Item stem item) in
    let shown : ItemSecret = record { item = path; secret = secret } in
    let secrets = secrets_shown session state objects in
    let message : Out = out.Return serial (body.Secrets secrets) in
    let sent : Sent = record { to = One caller; out = message } in
    let answer : (served came state).answer ≡ Ok (body.Secrets secrets) =
    ap (λ c. (run caller brought (plan_of came.arrival.salt c (asked caller brought state)) came.fates state).answer) call
    ∙ given-answers caller brought came.fates state objects session own small in
    let answers : replies caller came.arrival.request (served came state).answer ≡ sent ∷ [] =
    ap (λ b. cond b (record { to = One caller; out = message_of serial (served came state).answer } ∷ []) []) wanted
    ∙ ap (λ a. record { to = One caller; out = message_of serial a } ∷ []) answer in
    let first : Contains (sent ∷ []) sent = (0, omega arith, refl) in
    let read : item_secret session state.collections (object.Item stem item) ≡ Some shown = ap (option_map (λ (s : ReturnedSecret). record { item = path; secret = s })) is in
    let among : Contains secrets shown = gives-secret session state.collections (items_shown state objects) (object.Item stem item) shown there read in (
      Contains-append_left (replies caller came.arrival.request (served came state).answer) (served came state).sends sent (subst (λ l. Contains l sent) (sym answers) first),
      subst (λ c. Contains (secrets_in (item_called c) message) shown) (sym call) among,
    )

-- an item that is listed is one that an unlocked collection shows
open-listed : (state : State) (objects : List ObjectName) (stem : List ℕ) (item : ItemId) → Contains (items_shown state objects) (object.Item stem item)
    → (is_open stem state.collections ≡ true) × (has_item stem item.0 state.collections ≡ true)
open-listed state objects stem item listed =
    let asks = asked_collections (contents_of state) in
    let IsOpenItem : ObjectName → Type 0 = λ one. is_open_item asks one ≡ true in
    let each = once-each IsOpenItem (is_open_item asks) (λ one is. is) objects in
    let its : (has_item stem item.0 state.collections && is_open stem state.collections) ≡ true = All-contains IsOpenItem (items_shown state objects) (object.Item stem item) (All-from_recursion IsOpenItem (items_shown state objects) each) listed in
    let both : (a b : Bool) → (a && b) ≡ true → (b ≡ true) × (a ≡ true) = elim [ true ↦ λ b is. (is, refl) | false ↦ λ b is. absurd (let no : false ≡ true = is in cc) ] in
    both (has_item stem item.0 state.collections) (is_open stem state.collections) its

pub shown_if_listed : (state : State) (came : Recorded) (objects : List ObjectName) (stem : List ℕ) (item : ItemId) (session : SessionId) → IsSound state
    → came.arrival.request.call ≡ Ok (call.GetSecrets objects (Some session))
    → came.arrival.request.wants_reply ≡ true
    → owns came.arrival.conn session state.sessions ≡ true
    → Contains (items_shown state objects) (object.Item stem item)
    → length (spelled_body (body.Secrets (secrets_shown session state objects))) ≤ most_body
    → (secret : ReturnedSecret) × (secret_of session state.collections stem item ≡ Some secret)
    × Shows state (event.Arrive came) (record { to = One came.arrival.conn; out = out.Return came.arrival.request.serial (body.Secrets (secrets_shown session state objects)) })
    (record { item = path_text (object.Item stem item); secret = secret })
shown_if_listed state came objects stem item session sound call wanted own listed small =
    let (unlocked, there) = open-listed state objects stem item listed in
    let (secret, is) = secret-there session state.collections stem item sound.collections unlocked there in
    (secret, is, shown_on_calls state came objects stem item session secret call wanted own listed is small)
