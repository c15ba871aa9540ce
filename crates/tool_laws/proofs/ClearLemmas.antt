-- What each call of `clear` leads to, unless it is refused.
use Rattle.std.proofs.Common.{◌≡◌, ℕ, Bool, true, false, cond, not, nat_eq, List, [], ◌∷◌, filter, length, map, IfSome, Option, Some, None, Result, Ok, Err, refl, sym, ap, subst, ◌∙◌, codes}
use Rattle.std.specs.List.{AllByRecursion}
use Rattle.std.specs.Option.{option_map, option_map_or}
use Rattle.std.proofs.lemmas.List.{length-map}
use Rattle.std.proofs.lemmas.Option.{none-some, same_Some}
use Rattle.kr_base.specs.Attributes.{IsInOrder, value_at}
use Rattle.kr_base.specs.declared.attributes.AttrValue.{AttrValue}
use Rattle.kr_base.specs.declared.ids.ConnId.{ConnId}
use Rattle.kr_base.specs.declared.ids.ItemId.{ItemId}
use Rattle.item_store.specs.declared.fault.ItemFault.{ItemFault}
use Rattle.item_store.specs.declared.fault.ItemFault.TheVariants as item_fault
use Rattle.attribute_match.specs.Match.{matches}
use Rattle.keyring_seal.specs.Arranged.{Row, row_number}
use Rattle.keyring_seal.specs.declared.content.Content.{Content}
use Rattle.client_core.specs.declared.reply.Reply.{Reply}
use Rattle.client_core.specs.declared.reply.Reply.TheVariants as reply
use Rattle.service_events.specs.collection_store.specs.Changes.{as_content, has_row, rows_without}
use Rattle.service_events.specs.collection_store.specs.State.{Held}
use Rattle.service_events.specs.collection_store.specs.declared.change.Change.TheVariants as change
use Rattle.service_events.specs.collection_store.specs.declared.change.Changed.{Changed}
use Rattle.service_events.specs.collection_store.specs.declared.change.Changed.TheVariants as changes
use Rattle.service_events.specs.collection_table.specs.Rows.{CollectionRow, Rows, found_in_all, has_item, is_open, shows_item}
use Rattle.service_events.specs.secret_calls.specs.declared.call.Call.TheVariants as call
use Rattle.service_events.specs.secret_calls.specs.declared.out.Body.{Body}
use Rattle.service_events.specs.secret_calls.specs.declared.out.Body.TheVariants as body
use Rattle.service_events.specs.secret_calls.specs.declared.out.ErrorName.TheVariants as name
use Rattle.service_events.specs.service_tables.specs.declared.fate.Fate.{Fate}
use Rattle.service_events.specs.service_tables.specs.declared.fate.StoreFate.TheVariants as fate
use Rattle.service_events.specs.service_tables.specs.Objects.{locked_paths}
use Rattle.service_events.specs.service_tables.specs.Opened.{Contents, contents_of}
use Rattle.service_events.specs.service_tables.specs.State.{State}
use Rattle.service_events.specs.service_tables.specs.Storing.{Brought, Remove_item, row_after, row_changed, rows_stored, storable_edit}
use Rattle.service_events.specs.CollectionCalls.{if_open, no_prompt, storing}
use Rattle.service_events.specs.ItemCalls.{delete_item}
use Rattle.service_events.specs.Plan.{refused}
use Rattle.service_events.specs.Run.{asked}
use Rattle.tool_script.specs.declared.command.Command.TheVariants as command
use Rattle.tool_script.specs.declared.steps.ScriptEnd.{ScriptEnd}
use Rattle.tool_script.specs.Replies.{deleted_in, found_in, item_at}
use Rattle.tool_script.specs.Script.{cleared, counted, delete, deletes, done, print, script, stopped, with_item}
use Rattle.tool_laws.specs.Clear.{AreGone}
use Rattle.tool_laws.specs.Conversations.{AreAnswered, AreReturns}
use Rattle.tool_laws.specs.Matches.{Item, open_in, open_items}
use Rattle.tool_laws.specs.Ready.{IsReady}
use Rattle.tool_laws.proofs.AnswerLemmas.{PlanLeads, answered-with, leads-if, leads-refused, leads-stored}
use Rattle.tool_laws.proofs.LookupLemmas.{IsSearch, searches}
use Rattle.tool_laws.proofs.MatchLemmas.{AreRead, IsNamed, item-back, open-listed, open-named, path-of}
use Rattle.tool_laws.proofs.NoMatchLemmas.{each-at, each-fewer, matches-changed, none-matched, ordered-changed}
use Rattle.tool_laws.proofs.RowLemmas.{IsAbsent, IsMade, Lacks, rows-stored, changed-here, changed-keeps, fewer-lack, made-so, storable-is, stored-lacks, without-lack}

-- ---- an item is removed

-- the item is removed from the collections, and stored so
pub record IsRemoval (stem : List ℕ) (item : ItemId) (state : State) (given : Body) (contents : Contents) : Type 0 where
  pub now : ℕ
  pub answer : Changed
  pub returned : given ≡ body.Object (codes "/")
  pub made : IsMade stem (change.Remove item) now state.collections answer
  pub after : contents.collections ≡ rows_stored stem (change.Remove item) now fate.Stored state.collections

removes : (stem : List ℕ) (item : ItemId) (caller : ConnId) (brought : Brought) (fates : List Fate) (state : State)
    → PlanLeads (IsRemoval stem item state) caller brought fates state (delete_item stem item (asked caller brought state))
removes stem item caller brought fates state =
    let Is = IsRemoval stem item state in
    let storing-it = storing stem (Remove_item item) (λ _. no_prompt) (storable_edit brought state.collections stem (Remove_item item)) in
    leads-if Is caller brought fates state (has_item stem item.0 state.collections) (if_open stem (asked caller brought state) storing-it) (refused name.NoSuchObject)
    (λ _. leads-if Is caller brought fates state (is_open stem state.collections) storing-it (refused name.IsLocked)
    (λ _. leads-stored Is caller brought fates state stem (Remove_item item) (λ _. no_prompt) (storable_edit brought state.collections stem (Remove_item item))
    (λ answer is. record {
      now = brought.now;
      answer = answer;
      returned = refl;
      made = storable-is stem (change.Remove item) brought.now state.collections answer is;
      after = refl;
    }))
    (leads-refused Is caller brought fates state name.IsLocked))
    (leads-refused Is caller brought fates state name.NoSuchObject)

-- ---- an item that isn't there stays away

-- the rows without an item, if it is there
abbrev removed-in : ItemId → List Row → Bool → Result (List Row × Changed) ItemFault
removed-in item rows there = cond there (Ok (rows_without item.0 rows, changes.Removed item)) (Err item_fault.NoItem)

-- the content that is stored then
abbrev content-in : ItemId → ℕ → CollectionRow → Held → Bool → Result (Content × Changed) ItemFault
content-in item now row held there = as_content now (record row.clear { name = row.clear.name }) (removed-in item held.rows there)

-- a collection lacks an item once another one was removed and stored
removal-keeps : (id : ℕ) (item : ItemId) (now : ℕ) (row : CollectionRow) → Lacks id row → Lacks id (row_changed (change.Remove item) now fate.Stored row)
removal-keeps id item now row lacks = pass row.held lacks.kept
  where
    made : (held : Held) (there : Bool) → has_row id held.rows ≡ false → Lacks id (row_after fate.Stored held row (content-in item now row held there))
    made held true lack =
        stored-lacks id now (record row.clear { name = row.clear.name }) (rows_without item.0 held.rows) held.key held.vector
        (fewer-lack id (λ (r : Row). not (nat_eq (row_number r) item.0)) held.rows lack)
    made held false lack = lacks

    pass : (held : Option Held) → IfSome held (λ h. has_row id h.rows ≡ false)
        → Lacks id (option_map_or (λ (h : Held). row_after fate.Stored h row (content-in item now row h (has_row item.0 h.rows))) held row)
    pass None lack = lacks
    pass (Some held) lack = made held (has_row item.0 held.rows) lack

-- what is true of each match in a collection stays true of each once an item was removed and stored
removal-matches : (P : Item → Type 0) (wanted : List (List ℕ × AttrValue)) (item : ItemId) (now : ℕ) (at : List ℕ) (row : CollectionRow) → AllByRecursion P (open_in wanted at row.held)
    → AllByRecursion P (open_in wanted at (row_changed (change.Remove item) now fate.Stored row).held)
removal-matches P wanted item now at row are = pass row.held refl are
  where
    match : Row → Bool
    match r = matches wanted r.1.attributes

    to : Row → Item
    to r = (at, r.0.id)

    same : (held : Held) → row.held ≡ Some held → AllByRecursion P (open_in wanted at (Some held)) → AllByRecursion P (open_in wanted at row.held)
    same held is its = subst (λ (o : Option Held). AllByRecursion P (open_in wanted at o)) (sym is) its

    made : (held : Held) (there : Bool) → row.held ≡ Some held → AllByRecursion P (open_in wanted at (Some held))
        → AllByRecursion P (open_in wanted at (row_after fate.Stored held row (content-in item now row held there)).held)
    made held true is its =
        let front = record row.clear { name = row.clear.name } in
        subst (λ (l : List Row). AllByRecursion P (map to (filter match l))) (sym (rows-stored now front (rows_without item.0 held.rows)))
        (each-fewer P to match (λ (r : Row). not (nat_eq (row_number r) item.0)) held.rows its)
    made held false is its = same held is its

    pass : (held : Option Held) → row.held ≡ held → AllByRecursion P (open_in wanted at held)
        → AllByRecursion P (open_in wanted at (option_map_or (λ (h : Held). row_after fate.Stored h row (content-in item now row h (has_row item.0 h.rows))) held row).held)
    pass None is its = subst (λ (o : Option Held). AllByRecursion P (open_in wanted at o)) (sym is) its
    pass (Some held) is its = made held (has_row item.0 held.rows) is its

-- no content, since the item isn't there
abbrev no-item : Result (Content × Changed) ItemFault
no-item = Err item_fault.NoItem

err-made : (content : Content) (answer : Changed) → no-item ≡ made-so content answer → ⊥
err-made content answer e = cc

-- a collection lacks an item once it was removed and stored
removal-lacks : (item : ItemId) (now : ℕ) (stem : List ℕ) (rows : Rows) (answer : Changed) → IsMade stem (change.Remove item) now rows answer
    → IsAbsent (rows_stored stem (change.Remove item) now fate.Stored rows) (stem, item)
removal-lacks item now stem rows answer is =
    let f : CollectionRow → CollectionRow = row_changed (change.Remove item) now fate.Stored in
    let there : value_at stem (rows_stored stem (change.Remove item) now fate.Stored rows) ≡ Some (f is.row) = changed-here stem f rows ∙ ap (option_map f) is.at in
    let unlocked : f is.row ≡ row_after fate.Stored is.held is.row (content-in item now is.row is.held (has_row item.0 is.held.rows)) =
    ap (λ (h : Option Held). option_map_or (λ (it : Held). row_after fate.Stored it is.row (content-in item now is.row it (has_row item.0 it.rows))) h is.row) is.unlocked in
    subst (λ (o : Option CollectionRow). IfSome o (Lacks item.0)) (sym there) (subst (Lacks item.0) (sym unlocked) (pass (has_row item.0 is.held.rows) is.made))
  where
    pass : (b : Bool) → content-in item now is.row is.held b ≡ Ok (is.content, answer) → Lacks item.0 (row_after fate.Stored is.held is.row (content-in item now is.row is.held b))
    pass true e = stored-lacks item.0 now (record is.row.clear { name = is.row.clear.name }) (rows_without item.0 is.held.rows) is.held.key is.held.vector (without-lack item.0 is.held.rows)
    pass false e = absurd (err-made is.content answer e)

-- ---- the conversation, from its last call on

-- what holds of the collections at the end, by those that there are: these items are gone, and what was gone stays so. No other item comes to match
pub record AreCleared (before after : Rows) (items : List Item) : Type 0 where
  pub gone : AllByRecursion (IsAbsent after) items
  pub stays : (item : Item) → IsAbsent before item → IsAbsent after item
  pub matched : (wanted : List (List ℕ × AttrValue)) → AllByRecursion (IsAbsent after) (open_items wanted before) → AllByRecursion (IsAbsent after) (open_items wanted after)
  pub ordered : IsInOrder before → IsInOrder after

module _ (caller : ConnId) (last : State) (end : ScriptEnd) (all : ℕ) (are_read : AreRead) where
  all-cleared : (items : List Item) (state : State) (replies : List Reply) → AllByRecursion IsNamed items → AreAnswered caller state (deletes (map path-of items) replies) replies last
      → AreReturns replies → cleared all (map path-of items) replies ≡ Some end
      → AreCleared state.collections last.collections items × (end ≡ done (counted (codes "cleared") all))
  all-cleared [] state [] names answers returns ends = (
    record {
      gone = tt;
      stays = λ item is. subst (λ (s : State). IsAbsent s.collections item) (sym answers) is;
      matched = λ wanted are. subst (λ (s : State). AllByRecursion (IsAbsent last.collections) (open_items wanted s.collections)) (sym answers) are;
      ordered = λ are. subst (λ (s : State). IsInOrder s.collections) (sym answers) are;
    },
    sym (same_Some (done (counted (codes "cleared") all)) end ends),
  )
  all-cleared [] state (one ∷ more) names answers returns ends = absurd answers
  all-cleared (item ∷ items) state [] names answers returns ends =
      absurd (none-some end (subst (λ (o : Option Item). with_item o None ≡ Some end) (item-back are_read item names.0) ends))
  all-cleared (item ∷ items) state (reply.Error text ∷ more) names answers returns ends = absurd returns.0
  all-cleared (item ∷ items) state (reply.Return given ∷ more) names answers returns ends =
      let paths = map path-of items in
      let back : item_at (path-of item) ≡ Some item = item-back are_read item names.0 in
      let rest : List _ = option_map_or (λ it. deletes paths more) (deleted_in given) [] in
      let asked : AreAnswered caller state (call.DeleteItem item.0 item.1 ∷ rest) (reply.Return given ∷ more) last =
      subst (λ (o : Option Item). AreAnswered caller state (delete o rest) (reply.Return given ∷ more) last) back answers in
      let ended : option_map_or (λ it. cleared all paths more) (deleted_in given) (Some (stopped (reply.Return given))) ≡ Some end =
      subst (λ (o : Option Item). with_item o (option_map_or (λ it. cleared all paths more) (deleted_in given) (Some (stopped (reply.Return given)))) ≡ Some end) back ends in
      let its : IsRemoval item.0 item.1 state given (contents_of asked.0) =
      answered-with (IsRemoval item.0 item.1 state) caller state asked.0 (call.DeleteItem item.0 item.1) given asked.1
      (λ conn salt now fates. removes item.0 item.1 conn (record { now = now; value = [] }) fates state) in
      let read : deleted_in given ≡ Some (codes "/") = ap deleted_in its.returned in
      let more-answered : AreAnswered caller asked.0 (deletes paths more) more last =
      subst (λ (o : Option (List ℕ)). AreAnswered caller asked.0 (option_map_or (λ it. deletes paths more) o []) more last) read asked.2 in
      let more-ended : cleared all paths more ≡ Some end =
      subst (λ (o : Option (List ℕ)). option_map_or (λ it. cleared all paths more) o (Some (stopped (reply.Return given))) ≡ Some end) read ended in
      let next = all-cleared items asked.0 more names.1 more-answered returns.1 more-ended in
      let f : CollectionRow → CollectionRow = row_changed (change.Remove item.1) its.now fate.Stored in
      let goes : IsAbsent asked.0.collections item =
      subst (λ (r : Rows). IsAbsent r item) (sym its.after) (removal-lacks item.1 its.now item.0 state.collections its.answer its.made) in (
        record {
          gone = (next.0.stays item goes, next.0.gone);
          stays = λ other is. next.0.stays other (subst (λ (r : Rows). IsAbsent r other) (sym its.after)
              (changed-keeps item.0 f (Lacks other.1.0) (removal-keeps other.1.0 item.1 its.now) other.0 state.collections is));
          matched = λ wanted are. next.0.matched wanted (subst (λ (r : Rows). AllByRecursion (IsAbsent last.collections) (open_items wanted r)) (sym its.after)
              (matches-changed (IsAbsent last.collections) wanted item.0 f (removal-matches (IsAbsent last.collections) wanted item.1 its.now) state.collections are));
          ordered = λ are. next.0.ordered (subst (λ (r : Rows). IsInOrder r) (sym its.after) (ordered-changed item.0 f state.collections are));
        },
        next.1,
      )

-- the whole of it, by the collections at the end
pub all-gone : AreRead → (caller : ConnId) (state last : State) (wanted : List (List ℕ × AttrValue)) (replies : List Reply) (end : ScriptEnd) → IsReady state
    → AreAnswered caller state (script (command.Clear wanted) replies) replies last → AreReturns replies → print (command.Clear wanted) replies ≡ Some end
    → AreCleared state.collections last.collections (open_items wanted state.collections) × (end ≡ done (counted (codes "cleared") (length (open_items wanted state.collections))))
all-gone are_read caller state last wanted [] end ready answers returns ends = absurd (none-some end ends)
all-gone are_read caller state last wanted (reply.Error text ∷ more) end ready answers returns ends = absurd returns.0
all-gone are_read caller state last wanted (reply.Return given ∷ more) end ready answers returns ends =
    let rows = state.collections in
    let items = open_items wanted rows in
    let locked = locked_paths (found_in_all wanted rows) in
    let its : IsSearch wanted state given (contents_of answers.0) =
    answered-with (IsSearch wanted state) caller state answers.0 (call.SearchItems wanted) given answers.1
    (λ conn salt now fates. searches wanted conn (record { now = now; value = [] }) fates state) in
    let read : found_in given ≡ Some (map path-of items, locked) = ap found_in its.found ∙ ap (λ (l : List (List ℕ)). Some (l, locked)) (open-listed wanted rows) in
    let asked : AreAnswered caller answers.0 (deletes (map path-of items) more) more last =
    subst (λ (o : Option (List (List ℕ) × List (List ℕ))). AreAnswered caller answers.0 (option_map_or (λ found. deletes found.0 more) o []) more last) read answers.2 in
    let ended : cleared (length (map path-of items)) (map path-of items) more ≡ Some end =
    subst (λ (o : Option (List (List ℕ) × List (List ℕ))). option_map_or (λ found. cleared (length found.0) found.0 more) o (Some (stopped (reply.Return given))) ≡ Some end) read ends in
    let next = all-cleared caller last end (length (map path-of items)) are_read items answers.0 more (open-named wanted rows ready.sound.collections.each) asked returns.1 ended in
    (subst (λ (c : Contents). AreCleared c.collections last.collections items) its.same next.0, next.1 ∙ ap (λ n. done (counted (codes "cleared") n)) (length-map items path-of))

-- what is absent isn't shown
absent-gone : (rows : Rows) (item : Item) → IsAbsent rows item → has_item item.0 item.1.0 rows ≡ false
absent-gone rows item is = pass (value_at item.0 rows) is
  where
    pass : (row : Option CollectionRow) → IfSome row (Lacks item.1.0) → option_map_or (shows_item item.1.0) row false ≡ false
    pass None is = refl
    pass (Some row) is = is.shown

pub are-gone : (rows : Rows) (items : List Item) → AllByRecursion (IsAbsent rows) items → AreGone rows items
are-gone rows [] are = tt
are-gone rows (item ∷ items) are = (absent-gone rows item are.0, are-gone rows items are.1)

-- no match is left
pub none-left : (before after : Rows) (wanted : List (List ℕ × AttrValue)) → IsInOrder before → AreCleared before after (open_items wanted before) → open_items wanted after ≡ []
none-left before after wanted ordered are = none-matched wanted after after (each-at after (are.ordered ordered)) (are.matched wanted are.gone)
