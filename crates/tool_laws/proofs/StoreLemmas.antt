-- What each call of `store` leads to, unless it is refused.
use Rattle.std.proofs.Common.{◌≡◌, ℕ, ◌&&◌, Bool, true, false, cond, nat_eq, nat_le, nat_lt, List, [], ◌∷◌, ◌++◌, length, map, filter, Contains, Option, Some, None, Result, Ok, Err, refl, sym, ap, subst, ◌∙◌, arith, codes}
use Rattle.std.specs.Cmp.Lexicographic.{pointwise}
use Rattle.std.specs.Option.{option_map, option_map_or}
use Rattle.std.proofs.lemmas.List.Elements.{Contains-append_right, Contains-push}
use Rattle.std.proofs.lemmas.Map.Lookups.{exact_bytes}
use Rattle.std.proofs.lemmas.Option.{none-some, same_Some}
use Rattle.std.specs.Cmp.Lexicographic.{slice_cmp}
use Rattle.std.specs.Ordering.{nat_cmp}
use Rattle.kr_base.specs.Attributes.{is_name, value_at}
use Rattle.kr_base.specs.declared.attributes.AttrValue.{AttrValue}
use Rattle.kr_base.specs.declared.ids.ConnId.{ConnId}
use Rattle.kr_base.specs.declared.ids.SessionId.{SessionId}
use Rattle.kr_base.proofs.OrderedLemmas.{is_equal as is-equal}
use Rattle.kr_names.specs.declared.object_name.ObjectName.TheVariants as object
use Rattle.kr_names.specs.Path.{path_text}
use Rattle.attribute_match.specs.Match.{is_equal, is_same_pair, texts_of}
use Rattle.item_store.specs.Rows.{Row as StoreRow, first_id, has_just, ids_where, most_attributes, next_id}
use Rattle.item_store.specs.declared.fault.ItemFault.{ItemFault}
use Rattle.item_store.specs.declared.fault.ItemFault.TheVariants as item_fault
use Rattle.keyring_file.specs.Clear.{ClearPart}
use Rattle.keyring_seal.specs.Arranged.{Row, row_number, rows as rows_of_content}
use Rattle.keyring_seal.specs.declared.content.Content.{Content}
use Rattle.session_table.specs.Sessions.{owns}
use Rattle.client_core.specs.declared.reply.Reply.{Reply}
use Rattle.client_core.specs.declared.reply.Reply.TheVariants as reply
use Rattle.service_events.specs.collection_store.specs.Changes.{as_content, content_changed, content_stored, equal_id, made_added, made_new, new_row, replaced, rows_changed, rows_made, store_rows, within_most}
use Rattle.service_events.specs.collection_store.specs.State.{Held}
use Rattle.service_events.specs.collection_store.specs.declared.change.Change.{Change}
use Rattle.service_events.specs.collection_store.specs.declared.change.Change.TheVariants as change
use Rattle.service_events.specs.collection_store.specs.declared.change.Changed.{Changed}
use Rattle.service_events.specs.collection_store.specs.declared.change.Changed.TheVariants as changes
use Rattle.service_events.specs.collection_table.specs.Rows.{CollectionRow, is_open, stored}
use Rattle.service_events.specs.secret_calls.specs.declared.out.Body.{Body}
use Rattle.service_events.specs.secret_calls.specs.declared.out.Body.TheVariants as body
use Rattle.service_events.specs.secret_calls.specs.declared.out.ErrorName.TheVariants as name
use Rattle.service_events.specs.service_tables.specs.declared.fate.Fate.{Fate}
use Rattle.service_events.specs.service_tables.specs.declared.fate.StoreFate.TheVariants as fate
use Rattle.service_events.specs.service_tables.specs.Limits.{most_content}
use Rattle.service_events.specs.service_tables.specs.Opened.{Contents, contents_of}
use Rattle.service_events.specs.service_tables.specs.State.{State}
use Rattle.service_events.specs.service_tables.specs.Storing.{Add_item, Brought, Edit, item_in, row_after, row_changed, rows_stored, storable_edit}
use Rattle.service_events.specs.service_tables.specs.TablesReading.{alias_of}
use Rattle.service_events.specs.CollectionCalls.{create_item, if_open, item_named, made, on_collection, secret_stored, storing, storing_secret}
use Rattle.service_events.specs.Plan.{refused}
use Rattle.service_events.specs.Run.{asked}
use Rattle.tool_script.specs.declared.command.Command.TheVariants as command
use Rattle.tool_script.specs.declared.steps.ScriptEnd.{ScriptEnd}
use Rattle.tool_script.specs.Replies.{made_in, session_in}
use Rattle.tool_script.specs.Script as script
use Rattle.tool_script.specs.Script.{create, done, print, stopped, then_ends}
use Rattle.tool_laws.specs.Conversations.{AreAnswered, AreReturns}
use Rattle.tool_laws.specs.Ready.{IsReady}
use Rattle.tool_laws.specs.Store.{LeavesItem}
use Rattle.tool_laws.proofs.AnswerLemmas.{PlanLeads, answered-with, leads-if, leads-refused, leads-stored}
use Rattle.tool_laws.proofs.LookupLemmas.{IsOpening, opens, session-read}
use Rattle.tool_laws.proofs.RowLemmas.{IsMade, changed-here, eq-from, made-so, rows-stored, storable-is}

-- ---- attributes that are shown alike

both-true : (a b : Bool) → (a && b) ≡ true → (a ≡ true) × (b ≡ true)
both-true true true e = (refl, refl)
both-true true false e = absurd (let its : false ≡ true = e in cc)
both-true false b e = absurd (let its : false ≡ true = e in cc)

same-name : (x y : List ℕ) → is_name x y ≡ true → x ≡ y
same-name x y e = exact_bytes x y (is-equal (slice_cmp nat_cmp x y) e)

-- lists of names with texts that pass the test are equal
texts-same : (xs ys : List (List ℕ × List ℕ)) → pointwise is_same_pair xs ys ≡ true → xs ≡ ys
texts-same [] [] e = refl
texts-same [] (y ∷ ys) e = absurd (let its : false ≡ true = e in cc)
texts-same (x ∷ xs) [] e = absurd (let its : false ≡ true = e in cc)
texts-same (x ∷ xs) (y ∷ ys) e =
    let both = both-true (is_same_pair x y) (pointwise is_same_pair xs ys) e in
    let halves = both-true (is_name x.0 y.0) (is_name x.1 y.1) both.0 in
    let names = same-name x.0 y.0 halves.0 in
    let texts = same-name x.1 y.1 halves.1 in
    let rest = texts-same xs ys both.1 in
    λ i. (names i, texts i) ∷ rest i

-- no content, for this reason
abbrev failed : ItemFault → Result (Content × Changed) ItemFault
failed fault = Err fault

-- ---- the item among the rows

-- the rows have the item
pub record HasNew (called : List ℕ) (given : List (List ℕ × AttrValue)) (secret text : List ℕ) (these : List Row) : Type 0 where
  pub item : Row
  pub there : Contains these item
  pub label : item.1.label ≡ called
  pub attributes : texts_of item.1.attributes ≡ texts_of given
  pub value : item.1.value ≡ secret
  pub content : item.0.content ≡ text

module _ (called : List ℕ) (given : List (List ℕ × AttrValue)) (secret text : List ℕ) (now : ℕ) where
  -- the same of the rows after a change, if it can be made
  abbrev NewIn : Result (List Row × Changed) ItemFault → Type 0
  NewIn (Ok made) = HasNew called given secret text made.0
  NewIn (Err fault) = Unit {0}

  new-within : (rows : List Row) (answer : Changed) → HasNew called given secret text rows → NewIn (within_most given (rows, answer))
  new-within rows answer has = pass (nat_lt most_attributes (length given))
    where
      pass : (b : Bool) → NewIn (cond b (Err item_fault.TooManyAttributes) (Ok (rows, answer)))
      pass true = tt
      pass false = has

  -- a new item is the last row
  new-pushed : (rows : List Row) (id : ℕ) → HasNew called given secret text (rows ++ new_row id now called given secret text ∷ [])
  new-pushed rows id = record {
    item = new_row id now called given secret text;
    there = Contains-push rows (new_row id now called given secret text);
    label = refl;
    attributes = refl;
    value = refl;
    content = refl;
  }

  new-made : (rows : List Row) (id : Option ℕ) → NewIn (made_new id now called given secret text rows)
  new-made rows None = tt
  new-made rows (Some id) = new-within (rows ++ new_row id now called given secret text ∷ []) (changes.Made (record { 0 = id })) (new-pushed rows id)

  -- a row more at the front
  has-more : (row : Row) (rows : List Row) → HasNew called given secret text rows → HasNew called given secret text (row ∷ rows)
  has-more row rows has = record {
    item = has.item;
    there = Contains-append_right (row ∷ []) rows has.item has.there;
    label = has.label;
    attributes = has.attributes;
    value = has.value;
    content = has.content;
  }

  -- an item with exactly these attributes that was replaced
  has-replaced : (row : Row) (rows : List Row) → is_equal given row.1.attributes ≡ true → HasNew called given secret text (replaced now called secret text row ∷ rows)
  has-replaced row rows is = record {
    item = replaced now called secret text row;
    there = (0, omega arith, refl);
    label = refl;
    attributes = sym (texts-same (texts_of given) (texts_of row.1.attributes) is);
    value = refl;
    content = refl;
  }

  -- the item of the least id with exactly these attributes is replaced
  new-replaced : (id : ℕ) (rows : List Row) → first_id (ids_where (has_just given) (store_rows rows)) ≡ Some id
      → HasNew called given secret text (rows_changed id (replaced now called secret text) rows)
  new-replaced id [] e = absurd (none-some id e)
  new-replaced id (row ∷ rows) e =
      let f : Row → Row = replaced now called secret text in
      let rest : List Row = rows_changed id f rows in
      let more : List (ℕ × StoreRow) = filter (λ (r : ℕ × StoreRow). has_just given r.1) (store_rows rows) in
      let one : ℕ × StoreRow = (row_number row, record { kind = row.0.kind; item = row.1 }) in
      let pass : (b : Bool) → is_equal given row.1.attributes ≡ b → first_id (map (λ (r : ℕ × StoreRow). r.0) (cond b (one ∷ more) more)) ≡ Some id
      → HasNew called given secret text (cond (nat_eq (row_number row) id) (f row) row ∷ rest) =
      elim [
        | true ↦ λ is at.
            subst (λ (b : Bool). HasNew called given secret text (cond b (f row) row ∷ rest)) (sym (eq-from (row_number row) id (same_Some (row_number row) id at)))
            (has-replaced row rest is)
        | false ↦ λ off at. has-more (cond (nat_eq (row_number row) id) (f row) row) rest (new-replaced id rows at)
      ] in
      pass (is_equal given row.1.attributes) refl e

  new-added : (rows : List Row) → NewIn (rows_made (change.Add called given secret text true) now rows)
  new-added rows = pass (equal_id true given rows) refl
    where
      pass : (o : Option ℕ) → first_id (ids_where (has_just given) (store_rows rows)) ≡ o → NewIn (made_added o now called given secret text rows)
      pass None is = new-made rows (next_id (store_rows rows))
      pass (Some id) is = new-within (rows_changed id (replaced now called secret text) rows) (changes.Changed (record { 0 = id })) (new-replaced id rows is)

-- ---- the item in the collection

-- the content, if one is made
abbrev content-or : Content → Result (Content × Changed) ItemFault → Content
content-or other (Ok made) = made.0
content-or other (Err fault) = other

-- the content that is stored has the item
pub record HasStored (called : List ℕ) (given : List (List ℕ × AttrValue)) (secret text : List ℕ) (stored_one : Content) : Type 0 where
  pub these : List Row
  pub rows : rows_of_content stored_one ≡ these
  pub has : HasNew called given secret text these

stored-has : (called : List ℕ) (given : List (List ℕ × AttrValue)) (secret text : List ℕ) (now : ℕ) (front : ClearPart) (result : Result (List Row × Changed) ItemFault) (content : Content) (answer : Changed)
    → NewIn called given secret text now result → as_content now front result ≡ made-so content answer → HasStored called given secret text content
stored-has called given secret text now front (Ok made) content answer has e =
    let is : content_stored now front made.0 ≡ content = ap (content-or content) e in
    record { these = made.0; rows = ap rows_of_content (sym is) ∙ rows-stored now front made.0; has = has }
stored-has called given secret text now front (Err fault) content answer has e = absurd (err-made fault content answer e)
  where
    err-made : (fault : ItemFault) (content : Content) (answer : Changed) → failed fault ≡ made-so content answer → ⊥
    err-made fault content answer e = cc

-- ---- an item is created

-- the item is added to the collection of the alias `default`, or replaces an equal one, and stored so
pub record IsCreation (called : List ℕ) (given : List (List ℕ × AttrValue)) (secret : List ℕ) (state : State) (got : Body) (contents : Contents) : Type 0 where
  pub stem : List ℕ
  pub default : alias_of (codes "default") (contents_of state) ≡ Some stem
  pub now : ℕ
  pub answer : Changed
  pub path : List ℕ
  pub returned : got ≡ body.ObjectAndPrompt path None
  pub made : IsMade stem (change.Add called given secret (codes "text/plain") true) now state.collections answer
  pub after : contents.collections ≡ rows_stored stem (change.Add called given secret (codes "text/plain") true) now fate.Stored state.collections

module _ (called : List ℕ) (given : List (List ℕ × AttrValue)) (secret : List ℕ) (session : SessionId) (caller : ConnId) (now : ℕ) (fates : List Fate) (state : State) where
  -- what the request brings
  abbrev brings : Brought
  brings = record { now = now; value = secret }

  -- the edit
  abbrev adds : Edit
  adds = Add_item called given (codes "text/plain") true

  -- in this collection
  creates-at : (stem : List ℕ) → alias_of (codes "default") (contents_of state) ≡ Some stem
      → PlanLeads (IsCreation called given secret state) caller brings fates state
      (secret_stored (Some session) stem (codes "text/plain") adds (made stem) (asked caller brings state))
  creates-at stem is =
      let Is = IsCreation called given secret state in
      let storing-it = storing stem adds (made stem) (storable_edit brings state.collections stem adds) in
      let fitting = storing_secret (codes "text/plain") stem adds (made stem) (asked caller brings state) in
      let open-one = if_open stem (asked caller brings state) fitting in
      leads-if Is caller brings fates state (owns caller session state.sessions) open-one (refused name.NoSession)
      (λ _. leads-if Is caller brings fates state (is_open stem state.collections) fitting (refused name.IsLocked)
      (λ _. leads-if Is caller brings fates state (nat_le (length (codes "text/plain")) most_content) storing-it (refused name.LimitsExceeded)
      (λ _. leads-stored Is caller brings fates state stem adds (made stem) (storable_edit brings state.collections stem adds)
      (λ answer at. record {
        stem = stem;
        default = is;
        now = now;
        answer = answer;
        path = path_text (item_named stem (item_in answer));
        returned = refl;
        made = storable-is stem (change.Add called given secret (codes "text/plain") true) now state.collections answer at;
        after = refl;
      }))
      (leads-refused Is caller brings fates state name.LimitsExceeded))
      (leads-refused Is caller brings fates state name.IsLocked))
      (leads-refused Is caller brings fates state name.NoSession)

  creates : PlanLeads (IsCreation called given secret state) caller brings fates state
      (create_item (object.Alias (codes "default")) adds (Some session) (codes "text/plain") (asked caller brings state))
  creates = pass (alias_of (codes "default") (contents_of state)) refl
    where
      pass : (stem : Option (List ℕ)) → alias_of (codes "default") (contents_of state) ≡ stem
          → PlanLeads (IsCreation called given secret state) caller brings fates state
          (on_collection stem (λ at. secret_stored (Some session) at (codes "text/plain") adds (made at) (asked caller brings state)))
      pass None is = leads-refused (IsCreation called given secret state) caller brings fates state name.NoSuchObject
      pass (Some stem) is = creates-at stem is

-- what is left of it
creation-leaves : (called : List ℕ) (given : List (List ℕ × AttrValue)) (secret : List ℕ) (first before last : State) (got : Body) (contents : Contents) → contents_of before ≡ contents_of first
    → last.collections ≡ contents.collections → IsCreation called given secret before got contents → LeavesItem called given secret first last
creation-leaves called given secret first before last got contents same kept is =
    let text = codes "text/plain" in
    let it : Change = change.Add called given secret text true in
    let f : CollectionRow → CollectionRow = row_changed it is.now fate.Stored in
    let m = is.made in
    let row : CollectionRow = stored m.content m.held.key m.held.vector in
    let there : value_at is.stem (rows_stored is.stem it is.now fate.Stored before.collections) ≡ Some (f m.row) = changed-here is.stem f before.collections ∙ ap (option_map f) m.at in
    let unlocked : f m.row ≡ row_after fate.Stored m.held m.row (content_changed it is.now m.row.clear m.held.rows) =
    ap (λ (h : Option Held). option_map_or (λ (held : Held). row_after fate.Stored held m.row (content_changed it is.now m.row.clear held.rows)) h m.row) m.unlocked in
    let becomes : row_after fate.Stored m.held m.row (content_changed it is.now m.row.clear m.held.rows) ≡ row = ap (row_after fate.Stored m.held m.row) m.made in
    let has : HasStored called given secret text m.content =
    stored-has called given secret text is.now (record m.row.clear { name = m.row.clear.name }) (rows_made it is.now m.held.rows) m.content is.answer
    (new-added called given secret text is.now m.held.rows) m.made in
    record {
      stem = is.stem;
      default = ap (alias_of (codes "default")) (sym same) ∙ is.default;
      row = row;
      at = ap (value_at is.stem) (kept ∙ is.after) ∙ there ∙ ap (λ (r : CollectionRow). Some r) (unlocked ∙ becomes);
      held = record { key = m.held.key; vector = m.held.vector; rows = rows_of_content m.content };
      unlocked = refl;
      item = has.has.item;
      there = subst (λ (l : List Row). Contains l has.has.item) (sym has.rows) has.has.there;
      label = has.has.label;
      attributes = has.has.attributes;
      value = has.has.value;
      content = has.has.content;
    }

-- ---- the conversation, from its last call on

module _ (caller : ConnId) (called : List ℕ) (given : List (List ℕ × AttrValue)) (secret : List ℕ) (first last : State) (end : ScriptEnd) where
  second : (state : State) (session : SessionId) (replies : List Reply) → contents_of state ≡ contents_of first
      → AreAnswered caller state (create called given secret session ∷ []) replies last → AreReturns replies → then_ends made_in (λ path more. Some (done [])) replies ≡ Some end
      → LeavesItem called given secret first last × (end ≡ done [])
  second state session [] same answers returns ends = absurd (none-some end ends)
  second state session (reply.Error text ∷ more) same answers returns ends = absurd returns.0
  second state session (reply.Return got ∷ one ∷ more) same answers returns ends = absurd answers.2
  second state session (reply.Return got ∷ []) same answers returns ends =
      let its : IsCreation called given secret state got (contents_of answers.0) =
      answered-with (IsCreation called given secret state) caller state answers.0 (create called given secret session) got answers.1
      (λ conn salt now fates. creates called given secret session conn now fates state) in
      let read : made_in got ≡ Some its.path = ap made_in its.returned in
      let printed : Some (done []) ≡ Some end = subst (λ (o : Option (List ℕ)). option_map_or (λ it. Some (done [])) o (Some (stopped (reply.Return got))) ≡ Some end) read ends in
      (creation-leaves called given secret first state last got (contents_of answers.0) same (ap (λ (s : State). s.collections) answers.2) its, sym (same_Some (done []) end printed))

whole : (caller : ConnId) (state last : State) (called : List ℕ) (given : List (List ℕ × AttrValue)) (secret : List ℕ) (replies : List Reply) (end : ScriptEnd) → IsReady state
    → AreAnswered caller state (script.script (command.Store called given secret) replies) replies last → AreReturns replies → print (command.Store called given secret) replies ≡ Some end
    → LeavesItem called given secret state last × (end ≡ done [])
whole caller state last called given secret [] end ready answers returns ends = absurd (none-some end ends)
whole caller state last called given secret (reply.Error text ∷ more) end ready answers returns ends = absurd returns.0
whole caller state last called given secret (reply.Return got ∷ more) end ready answers returns ends =
    let session : SessionId = record { 0 = state.sessions.next } in
    let its : IsOpening state got (contents_of answers.0) =
    answered-with (IsOpening state) caller state answers.0 script.open_session got answers.1 (λ conn salt now fates. opens conn (record { now = now; value = [] }) fates state) in
    let read : session_in got ≡ Some session = ap session_in its.session ∙ session-read session ready.numbered in
    second caller called given secret state last end answers.0 session more its.same
    (subst (λ (o : Option SessionId). AreAnswered caller answers.0 (option_map_or (λ s. create called given secret s ∷ []) o []) more last) read answers.2) returns.1
    (subst (λ (o : Option SessionId). option_map_or (λ s. then_ends made_in (λ path rest. Some (done [])) more) o (Some (stopped (reply.Return got))) ≡ Some end) read ends)

pub item_left : (caller : ConnId) (state last : State) (called : List ℕ) (given : List (List ℕ × AttrValue)) (secret : List ℕ) (replies : List Reply) (end : ScriptEnd) → IsReady state
    → AreAnswered caller state (script.script (command.Store called given secret) replies) replies last → AreReturns replies → print (command.Store called given secret) replies ≡ Some end
    → LeavesItem called given secret state last
item_left caller state last called given secret replies end ready answers returns ends = (whole caller state last called given secret replies end ready answers returns ends).0

pub nothing_printed : (caller : ConnId) (state last : State) (called : List ℕ) (given : List (List ℕ × AttrValue)) (secret : List ℕ) (replies : List Reply) (end : ScriptEnd) → IsReady state
    → AreAnswered caller state (script.script (command.Store called given secret) replies) replies last → AreReturns replies → print (command.Store called given secret) replies ≡ Some end
    → end ≡ done []
nothing_printed caller state last called given secret replies end ready answers returns ends = (whole caller state last called given secret replies end ready answers returns ends).1
