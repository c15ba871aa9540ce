-- Without a fault no file comes to be in doubt.
use Rattle.std.proofs.Common.{ℕ, Bool, true, false, not, cond, List, [], ◌∷◌, filter, Option, Some, None, Result, Ok, Err}
use Rattle.std.specs.Cmp.Lexicographic.{slice_cmp}
use Rattle.std.specs.Option.{option_map_or}
use Rattle.std.specs.Ordering.{is_lt, nat_cmp}
use Rattle.kr_base.specs.Attributes.{is_name}
use Rattle.kr_base.specs.declared.ids.ConnId.{ConnId}
use Rattle.key_derivation.specs.Kdf.{Inputs, key_of, vector_of}
use Rattle.service_prompts.specs.collection_store.specs.Changes.{content_changed}
use Rattle.service_prompts.specs.collection_store.specs.State.{Held}
use Rattle.service_prompts.specs.collection_store.specs.declared.change.Change as content
use Rattle.service_prompts.specs.collection_table.specs.Entries.{changed, inserted, without}
use Rattle.service_prompts.specs.collection_table.specs.Rows.{CollectionRow, Rows, locked, stored}
use Rattle.service_prompts.specs.service_tables.specs.declared.fate.Fate.{Fate}
use Rattle.service_prompts.specs.service_tables.specs.declared.fate.Fate.TheVariants as fate
use Rattle.service_prompts.specs.service_tables.specs.declared.fate.ReadFate.{ReadFate}
use Rattle.service_prompts.specs.service_tables.specs.declared.fate.ReadFate.TheVariants as read_as
use Rattle.service_prompts.specs.service_tables.specs.declared.fate.StoreFate.{StoreFate}
use Rattle.service_prompts.specs.service_tables.specs.declared.fate.StoreFate.TheVariants as stored_as
use Rattle.service_prompts.specs.secret_calls.specs.declared.out.ErrorName.TheVariants as name
use Rattle.service_disk.specs.declared.opening.Opening.{Opening}
use Rattle.service_disk.specs.declared.opening.Opening.TheVariants as ends
use Rattle.service_disk.specs.Making as making
use Rattle.service_disk.specs.Making.{content_of, rows_made}
use Rattle.service_disk.specs.Opening.{opening_in, row_by, row_opened}
use Rattle.service_disk.specs.Rekeying.{held_rekeyed, row_rekeyed}
use Rattle.service_disk.specs.Resolving.{rows_resolved}
use Rattle.service_disk.proofs.ResolvingLemmas.{found-known}
use Rattle.service_prompts.specs.service_tables.specs.Sent.{Sent}
use Rattle.service_prompts.specs.service_tables.specs.Opened.{contents_of}
use Rattle.service_prompts.specs.service_tables.specs.Slots.{IsFault}
use Rattle.service_prompts.specs.service_tables.specs.Sound.{AreKnown}
use Rattle.service_prompts.specs.service_tables.specs.State.{State}
use Rattle.service_prompts.specs.service_tables.specs.Storing.{Brought, change_of, row_after, row_changed, rows_erased}
use Rattle.service_prompts.specs.service_tables.proofs.EachLemmas.{each-append, each-filter}
use Rattle.service_prompts.specs.service_tables.proofs.KeptLemmas.{certain-resolved, certain-set}
use Rattle.service_events.specs.declared.event.Event.{Event}
use Rattle.service_events.specs.declared.event.Event.TheVariants as event
use Rattle.service_events.specs.Fates.{AreFaultless, IsCertain, IsFaultless}
use Rattle.service_events.specs.Plan.{Change, Lock_collection, Demand, Store, Erase, Set_alias, Make, Rekey, Reading, Aliases_file, Collection_file, KeyTerms, Plan, Ends, Asks, Resolves, Opens}
use Rattle.service_events.specs.Run.{Ran, asked, by_read, by_reading, by_store, by_test, demanded, failing, filled, is_in_doubt, key_with, made_of, performed, performed_all, promised, run, sending, sent_asked, sent_settled, settled, unlocked_with}
use Rattle.service_events.specs.Step.{brought_by, put_out, step, with_delivered, brought_derived, terms_of}
use Rattle.service_events.proofs.RunLemmas.{fits-either, plan_for, reading-either}
use Rattle.service_events.specs.Derivation.{derived}

-- the file of this one isn't
abbrev IsKnownRow : CollectionRow → Type 0
IsKnownRow row = AreKnown (([], row) ∷ [])

-- a change leaves a known file known
abbrev KeepsKnown : (CollectionRow → CollectionRow) → Type 0
KeepsKnown change = (row : CollectionRow) → IsKnownRow row → IsKnownRow (change row)

known-either : (b : Bool) (change : CollectionRow → CollectionRow) (entry : List ℕ × CollectionRow) → KeepsKnown change → IsKnownRow entry.1 → IsKnownRow (cond b (entry.0, change entry.1) entry).1
known-either true change entry keeps known = keeps entry.1 known
known-either false change entry keeps known = known

known-changed : (stem : List ℕ) (change : CollectionRow → CollectionRow) (rows : Rows) → KeepsKnown change → AreKnown rows → AreKnown (changed stem change rows)
known-changed stem change [] keeps known = tt
known-changed stem change (entry ∷ rows) keeps known = ((known-either (is_name stem entry.0) change entry keeps (known.0, tt)).0, known-changed stem change rows keeps known.1)

-- one of them goes
known-without : (stem : List ℕ) (rows : Rows) → AreKnown rows → AreKnown (without stem rows)
known-without stem rows known = each-filter _ (λ entry. not (is_name stem entry.0)) rows known

-- one more is made
known-inserted : (stem : List ℕ) (row : CollectionRow) (rows : Rows) → IsKnownRow row → AreKnown rows → AreKnown (inserted stem row rows)
known-inserted stem row rows one known =
    let below : AreKnown (filter (λ entry. is_lt (slice_cmp nat_cmp entry.0 stem)) rows) = each-filter _ (λ entry. is_lt (slice_cmp nat_cmp entry.0 stem)) rows known in
    let above : AreKnown (filter (λ entry. is_lt (slice_cmp nat_cmp stem entry.0)) rows) = each-filter _ (λ entry. is_lt (slice_cmp nat_cmp stem entry.0)) rows known in
    each-append _ (filter (λ entry. is_lt (slice_cmp nat_cmp entry.0 stem)) rows) ((stem, row) ∷ filter (λ entry. is_lt (slice_cmp nat_cmp stem entry.0)) rows) below (one.0, above)

by-result : {A E : Type 0} (P : Result A E → Type 0) → ((a : A) → P (Ok a)) → ((e : E) → P (Err e)) → (r : Result A E) → P r
by-result P well ill (Ok a) = well a
by-result P well ill (Err e) = ill e

-- a change that is stored, or isn't
after-known : (change : content.Change) (now : ℕ) (some : StoreFate) (held : Held) (row : CollectionRow) → (IsFault (fate.Store some) → ⊥) → IsKnownRow row
    → IsKnownRow (row_after some held row (content_changed change now row.clear held.rows))
after-known change now stored_as.Stored held row well known =
    by-result (λ made. IsKnownRow (row_after stored_as.Stored held row made)) (λ made. (tt, tt)) (λ fault. known) (content_changed change now row.clear held.rows)
after-known change now stored_as.Before held row well known = absurd (well tt)
after-known change now stored_as.Unsure held row well known = absurd (well tt)

changed-known : (change : content.Change) (now : ℕ) (some : StoreFate) → (IsFault (fate.Store some) → ⊥) → KeepsKnown (row_changed change now some)
changed-known change now some well row known =
    let pass : (o : Option Held) → IsKnownRow (option_map_or (λ (held : Held). row_after some held row (content_changed change now row.clear held.rows)) o row) =
    elim [ None ↦ known | Some held ↦ after-known change now some held row well known ] in
    pass row.held

erased-known : (stem : List ℕ) (some : StoreFate) (rows : Rows) → (IsFault (fate.Store some) → ⊥) → AreKnown rows → AreKnown (rows_erased stem some rows)
erased-known stem stored_as.Stored rows well known = known-without stem rows known
erased-known stem stored_as.Before rows well known = known
erased-known stem stored_as.Unsure rows well known = absurd (well tt)

known-cond : (b : Bool) (one other : Rows) → AreKnown one → AreKnown other → AreKnown (cond b one other)
known-cond true one other first second = first
known-cond false one other first second = second

resolved-known : (stem : List ℕ) (some : ReadFate) (rows : Rows) → AreKnown rows → AreKnown (rows_resolved stem some rows)
resolved-known stem read_as.Old rows known = known-cond _ _ _ (known-changed stem _ rows (λ row is. (Prim.search (found-known), tt)) known) (known-without stem rows known)
resolved-known stem read_as.New rows known = known-cond _ _ _ (known-changed stem _ rows (λ row is. (Prim.search (found-known), tt)) known) (known-without stem rows known)
resolved-known stem read_as.Other rows known = known-without stem rows known
resolved-known stem read_as.ReadFailed rows known = known

made-known : (stem : List ℕ) (its : making.Plan) (some : StoreFate) (rows : Rows) → (IsFault (fate.Store some) → ⊥) → AreKnown rows → AreKnown (rows_made stem its some rows)
made-known stem its stored_as.Stored rows well known = known-inserted stem (stored (content_of its) (key_of its.key) (vector_of its.key)) rows (tt, tt) known
made-known stem its stored_as.Before rows well known = known
made-known stem its stored_as.Unsure rows well known = absurd (well tt)

-- a file that was stored under another key is known
rekeyed-known : (key : Inputs) (now : ℕ) (some : StoreFate) → (IsFault (fate.Store some) → ⊥) → (row : CollectionRow) → IsKnownRow row → IsKnownRow (row_rekeyed key now some row)
rekeyed-known key now some well row known =
    let its : (held : Held) (ended : StoreFate) → (IsFault (fate.Store ended) → ⊥) → IsKnownRow (held_rekeyed key now ended row held) =
    λ held. elim [ stored_as.Stored ↦ λ clean. (tt, tt) | stored_as.Before ↦ λ clean. known | stored_as.Unsure ↦ λ clean. absurd (clean tt) ] in
    let pass : (o : Option Held) → IsKnownRow (option_map_or (held_rekeyed key now some row) o row) = elim [ None ↦ known | Some held ↦ its held some well ] in
    pass row.held

-- an attempt to unlock leaves the file as it is
opened-known : (key : Inputs) (how : Opening) (row : CollectionRow) → IsKnownRow row → IsKnownRow (row_by key how row)
opened-known key ends.Settled row known = known
opened-known key ends.Unfit row known = known
opened-known key ends.WrongPassword row known = known
opened-known key ends.Damaged row known = known
opened-known key ends.Opened row known = known

pub opened-certain : (brought : Brought) (stem : List ℕ) (terms : KeyTerms) (state : State) → IsCertain state → IsCertain (unlocked_with brought stem terms state)
opened-certain brought stem terms state certain =
    let key = key_with brought terms in
    record {
      collections = known-changed stem (row_opened key) state.collections (λ row is. opened-known key (opening_in key row) row is) certain.collections;
      aliases = certain.aliases;
    }

performed-certain : (caller : ConnId) (change : Change) (state : State) → IsCertain state → IsCertain (performed caller change state)
performed-certain caller (Lock_collection stem) state certain = record { collections = known-changed stem locked state.collections (λ row is. is) certain.collections; aliases = certain.aliases }
performed-certain caller change state certain = record { collections = certain.collections; aliases = certain.aliases }

all-certain : (caller : ConnId) (changes : List Change) (state : State) → IsCertain state → IsCertain (performed_all caller changes state)
all-certain caller [] state certain = certain
all-certain caller (change ∷ changes) state certain = all-certain caller changes (performed caller change state) (performed-certain caller change state certain)

pub demanded-certain : (brought : Brought) (demand : Demand) (some : StoreFate) (state : State) → (IsFault (fate.Store some) → ⊥) → IsCertain state → IsCertain (demanded brought demand some state)
demanded-certain brought (Store stem edit) some state well certain =
    let change = change_of brought.value edit in
    record {
      collections = known-changed stem (row_changed change brought.now some) state.collections (changed-known change brought.now some well) certain.collections;
      aliases = certain.aliases;
    }
demanded-certain brought (Erase stem) some state well certain = record { collections = erased-known stem some state.collections well certain.collections; aliases = certain.aliases }
demanded-certain brought (Set_alias alias stem) some state well certain =
    record { collections = certain.collections; aliases = certain-set alias stem some (contents_of state) well certain.aliases }
demanded-certain brought (Make stem label terms) some state well certain =
    record { collections = made-known stem (made_of brought terms label) some state.collections well certain.collections; aliases = certain.aliases }
demanded-certain brought (Rekey stem terms) some state well certain =
    let key = key_with brought terms in
    record {
      collections = known-changed stem (row_rekeyed key brought.now some) state.collections (λ row is. rekeyed-known key brought.now some well row is) certain.collections;
      aliases = certain.aliases;
    }

settled-certain : (reading : Reading) (some : ReadFate) (state : State) → IsCertain state → IsCertain (settled reading some state)
settled-certain Aliases_file some state certain = record { collections = certain.collections; aliases = certain-resolved some state.aliases certain.aliases }
settled-certain (Collection_file stem) some state certain = record { collections = resolved-known stem some state.collections certain.collections; aliases = certain.aliases }

run-certain : (caller : ConnId) (brought : Brought) (its : Plan) (fates : List Fate) (state : State) → AreFaultless fates → IsCertain state → IsCertain (run caller brought its fates state).state
run-certain caller brought (Ends answer changes) fates state well certain =
    fits-either (λ (r : Ran). IsCertain r.state) (filled caller state answer) _ (failing name.LimitsExceeded state) (λ is. all-certain caller changes state certain) certain
run-certain caller brought (Asks demand next) fates state well certain =
    let After : List Fate → Ran = by_store (failing name.IOError state) (λ ended rest. sending (sent_asked brought demand ended state) (run caller brought (next ended) rest (demanded brought demand ended state))) in
    let asks : (these : List Fate) → AreFaultless these → IsCertain (After these).state =
    elim [
      | [] ↦ λ clean. certain
      | some ∷ rest ↦
          let first : (f : Fate) → AreFaultless (f ∷ rest) → IsCertain (After (f ∷ rest)).state =
          elim [
            | fate.Store ended ↦ λ clean. run-certain caller brought (next ended) rest (demanded brought demand ended state) clean.1 (demanded-certain brought demand ended state clean.0 certain)
            | fate.Read ended ↦ λ clean. certain
          ] in
          first some
    ] in
    fits-either (λ (r : Ran). IsCertain r.state) (promised caller state (next stored_as.Stored)) _ (failing name.LimitsExceeded state) (λ is. asks fates well) certain
run-certain caller brought (Resolves reading unread next) fates state well certain =
    let after : ReadFate → State = λ ended. settled reading ended state in
    let ran_unread : ReadFate → List Fate → Ran = λ ended rest. run caller brought unread rest (after ended) in
    let ran_known : ReadFate → List Fate → Ran = λ ended rest. run caller brought (next (asked caller brought (after ended))) rest (after ended) in
    let After : List Fate → Ran = by_read (failing name.IOError state) (λ ended rest. sending (sent_settled reading ended state) (by_reading ended (ran_unread ended rest) (ran_known ended rest))) in
    let reads : (these : List Fate) → AreFaultless these → IsCertain (After these).state =
    elim [
      | [] ↦ λ clean. certain
      | some ∷ rest ↦
          let first : (f : Fate) → AreFaultless (f ∷ rest) → IsCertain (After (f ∷ rest)).state =
          elim [
            | fate.Store ended ↦ λ clean. certain
            | fate.Read ended ↦ λ clean.
                let its : IsCertain (after ended) = settled-certain reading ended state certain in
                reading-either (λ (r : Ran). IsCertain r.state) ended (ran_unread ended rest) (ran_known ended rest)
                (run-certain caller brought unread rest (after ended) clean.1 its) (run-certain caller brought (next (asked caller brought (after ended))) rest (after ended) clean.1 its)
          ] in
          first some
    ] in
    let pass : (b : Bool) → IsCertain (by_test b (After fates) (run caller brought (next (asked caller brought state)) fates state)).state =
    elim [ true ↦ reads fates well | false ↦ run-certain caller brought (next (asked caller brought state)) fates state well certain ] in
    pass (is_in_doubt reading state)
run-certain caller brought (Opens stem terms next) fates state well certain =
    run-certain caller brought next fates (unlocked_with brought stem terms state) well (opened-certain brought stem terms state certain)

-- what is delivered leaves the files alone
delivered-certain : (sent : List Sent) (state : State) → IsCertain state → IsCertain (with_delivered sent state)
delivered-certain sent state certain = record { collections = certain.collections; aliases = certain.aliases }

pub step_certain : (state : State) (event : Event) → IsFaultless event → IsCertain state → IsCertain (step state event)
step_certain state (event.Connect conn) well certain = record { collections = certain.collections; aliases = certain.aliases }
step_certain state (event.Arrive came) well certain =
    let ran = run came.arrival.conn (brought_by came.arrival) (plan_for came state) came.fates state in
    delivered-certain (put_out came.arrival.conn came.arrival.request ran) ran.state
    (run-certain came.arrival.conn (brought_by came.arrival) (plan_for came state) came.fates state well certain)
step_certain state (event.Derived came) well certain =
    let brought = brought_derived came in
    let its = derived came.prompt came.round (terms_of came) (asked came.conn brought state) in
    let ran = run came.conn brought its came.fates state in
    delivered-certain ran.sends ran.state (run-certain came.conn brought its came.fates state well certain)
step_certain state (event.Leave conn) well certain = record { collections = certain.collections; aliases = certain.aliases }
step_certain state (event.Take conn) well certain = record { collections = certain.collections; aliases = certain.aliases }
step_certain state (event.Gone conn) well certain = record { collections = certain.collections; aliases = certain.aliases }
