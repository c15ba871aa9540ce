-- What a call leads to, by how its plan continues.
use Rattle.std.proofs.Common.{◌≡◌, ℕ, ◌^◌, ◌<◌, ◌≤◌, ◌==◌, Bool, true, false, cond, nat_le, IfOk, List, [], ◌∷◌, ◌++◌, length, Option, Some, None, Result, Ok, Err, refl, sym, ap, subst, ◌∙◌, append-nil, arith}
use Rattle.std.proofs.lemmas.Bool.{leb-true}
use Rattle.std.proofs.lemmas.Option.{none-some}
use Rattle.std.specs.Option.{option_map_or}
use Rattle.kr_base.specs.declared.ids.ConnId.{ConnId}
use Rattle.kr_outside.specs.RenameDisk.{Image}
use Rattle.service_events.specs.collection_store.specs.declared.change.Changed.{Changed}
use Rattle.service_events.specs.collection_table.specs.Rows.{Rows}
use Rattle.prompt_state.specs.Targets.{all_left}
use Rattle.prompt_state.specs.declared.row.PromptKind.TheVariants as kind
use Rattle.prompt_state.specs.declared.targets.Target.{Target}
use Rattle.service_events.specs.secret_calls.specs.declared.out.Body.{Body}
use Rattle.service_events.specs.secret_calls.specs.declared.out.ErrorName.{ErrorName}
use Rattle.service_events.specs.secret_calls.specs.declared.out.ErrorName.TheVariants as name
use Rattle.service_events.specs.service_tables.specs.declared.fate.Fate.{Fate}
use Rattle.service_events.specs.service_tables.specs.declared.fate.Fate.TheVariants as fate
use Rattle.service_events.specs.service_tables.specs.declared.fate.ReadFate.{ReadFate}
use Rattle.service_events.specs.service_tables.specs.declared.fate.ReadFate.TheVariants as read
use Rattle.service_events.specs.service_tables.specs.declared.fate.StoreFate.{StoreFate}
use Rattle.service_events.specs.service_tables.specs.declared.fate.StoreFate.TheVariants as stored
use Rattle.service_events.specs.secret_calls.specs.declared.out.Out.{Out}
use Rattle.service_events.specs.service_tables.specs.declared.rows.ConnRows.{ConnRows}
use Rattle.service_events.specs.service_tables.specs.signal_fanout.specs.declared.rows.Delivery.{Delivery}
use Rattle.service_events.specs.service_tables.specs.Connections.{AreDistinct, HasRoom, HasRoomFor, KeepRooms, Rooms, count_to, delivered, handed, has, outs_to, spread}
use Rattle.service_events.specs.service_tables.specs.Sent.{Sent}
use Rattle.service_events.specs.service_tables.proofs.RoomLemmas.{first-room, room-less, room-same, room-zero}
use Rattle.service_events.specs.service_tables.proofs.SpreadLemmas.{conns_of, handed-spread, spread-append}
use Rattle.service_events.specs.service_tables.specs.Disk.{DiskState}
use Rattle.service_events.specs.service_tables.specs.Opened.{contents_of}
use Rattle.service_events.specs.service_tables.specs.Slots.{IsReadFault, StoresAt}
use Rattle.service_events.specs.service_tables.specs.State.{State}
use Rattle.service_events.specs.service_tables.specs.Targets.{are_light}
use Rattle.service_events.specs.service_tables.specs.Storing.{Brought, Edit}
use Rattle.service_events.specs.declared.event.Arrival.{Arrival}
use Rattle.service_events.specs.declared.event.Output.TheVariants as output
use Rattle.service_calls.specs.declared.storing.Done.{Done}
use Rattle.service_events.specs.CollectionCalls.{by_fate, storing}
use Rattle.service_events.specs.Plan.{Aliases_file, Answer, Change, Collection_file, Plan, Questions, Ends, Asks, Resolves, Opens, Demand, Reading, Store, answered, refused}
use Rattle.service_events.specs.PublicBody.{PublicBody, body_with}
use Rattle.service_events.specs.PublicBody as public
use Rattle.service_events.specs.Run.{AreFates, AreNone, Ran, asked, bounded, by_reading, by_test, demanded, failing, filled, fits, is_in_doubt, is_small, performed_all, run, sending, sent_all, sent_asked, sent_settled, settled}
use Rattle.service_events.specs.PromptCalls.{are_none}
use Rattle.service_events.specs.ServiceCalls.{unlocking, with_new_prompt}
use Rattle.service_events.specs.Fates.{reads_of, stores_of, with_fates}
use Rattle.service_events.specs.Step.{Fits, HasTypes, IsSalt, brought_by, output_of, plan_of, replies, step, with_rows, work_of}
use Rattle.service_events.specs.Stored.{StoresDemand, StoresEvent, StoresOf, StoresReading}
use Rattle.service_calls.specs.Done.{HasRoomToReply, Leads, answer_by, fates_in, reads}
use Rattle.service_events.proofs.RunLemmas.{connections-run}

-- ---- what a plan leads to

-- one thing if this is so
by-true {ℓ} : {A : Type ℓ} (b : Bool) (one other : A) → b ≡ true → by_test b one other ≡ one
by-true b one other is = ap (λ b. by_test b one other) is

by-false {ℓ} : {A : Type ℓ} (b : Bool) (one other : A) → b ≡ false → by_test b one other ≡ other
by-false b one other is = ap (λ b. by_test b one other) is

held : (b : Bool) (one other : Type 0) → b ≡ true → one → by_test b one other
held b one other is it = subst (λ b. by_test b one other) (sym is) it

dropped : (b : Bool) (one other : Type 0) → b ≡ false → other → by_test b one other
dropped b one other is it = subst (λ b. by_test b one other) (sym is) it

-- a plan that ends answers what fits
pub answer-ends : (caller : ConnId) (brought : Brought) (answer : Answer) (changes : List Change) (fates : List Fate) (state : State)
    → (run caller brought (Ends answer changes) fates state).answer ≡ bounded (filled caller state answer)
answer-ends caller brought answer changes fates state =
    let its = filled caller state answer in
    let pass : (b : Bool)
    → (by_test b (record { answer = its; state = performed_all caller changes state; sends = sent_all caller changes state }) (failing name.LimitsExceeded state)).answer ≡ cond b its (Err name.LimitsExceeded) =
    elim [ true ↦ refl | false ↦ refl ] in
    pass (fits its)

-- one that changes nothing leaves the state as it is, and sends nothing
pub state-ends : (caller : ConnId) (brought : Brought) (answer : Answer) (fates : List Fate) (state : State) → (run caller brought (Ends answer []) fates state).state ≡ state
state-ends caller brought answer fates state =
    let its = filled caller state answer in
    let pass : (b : Bool) → (by_test b (record { answer = its; state = state; sends = [] }) (failing name.LimitsExceeded state)).state ≡ state = elim [ true ↦ refl | false ↦ refl ] in
    pass (fits its)

pub sends-ends : (caller : ConnId) (brought : Brought) (answer : Answer) (fates : List Fate) (state : State) → (run caller brought (Ends answer []) fates state).sends ≡ []
sends-ends caller brought answer fates state =
    let its = filled caller state answer in
    let pass : (b : Bool) → (by_test b (record { answer = its; state = state; sends = [] }) (failing name.LimitsExceeded state)).sends ≡ [] = elim [ true ↦ refl | false ↦ refl ] in
    pass (fits its)

-- a return that is small is answered, whatever changes
pub answered-run : (caller : ConnId) (brought : Brought) (its : PublicBody) (changes : List Change) (fates : List Fate) (state : State) → is_small (body_with its) ≡ true
    → run caller brought (answered its changes) fates state ≡ record { answer = Ok (body_with its); state = performed_all caller changes state; sends = sent_all caller changes state }
answered-run caller brought its changes fates state small =
    by-true (is_small (body_with its)) (record { answer = Ok (body_with its); state = performed_all caller changes state; sends = sent_all caller changes state }) (failing name.LimitsExceeded state) small

-- one that is too large isn't, and nothing changes
pub large-run : (caller : ConnId) (brought : Brought) (its : PublicBody) (changes : List Change) (fates : List Fate) (state : State) → is_small (body_with its) ≡ false
    → run caller brought (answered its changes) fates state ≡ failing name.LimitsExceeded state
large-run caller brought its changes fates state large =
    by-false (is_small (body_with its)) (record { answer = Ok (body_with its); state = performed_all caller changes state; sends = sent_all caller changes state }) (failing name.LimitsExceeded state) large

module _ (caller : ConnId) (brought : Brought) (demand : Demand) (its : PublicBody) (state : State) where
  -- what is asked of the disk is answered by how it ended
  asked-run : (some : StoreFate) → is_small (body_with its) ≡ true
      → run caller brought (Asks demand (by_fate its)) (fate.Store some ∷ []) state
      ≡ record { answer = answer_by (body_with its) some; state = demanded brought demand some state; sends = sent_asked brought demand some state }
  asked-run some small =
      let after = demanded brought demand some state in
      let said = sent_asked brought demand some state in
      by-true (is_small (body_with its)) (sending said (run caller brought (by_fate its some) [] after)) (failing name.LimitsExceeded state) small ∙ ap (sending said) (ended some)
      ∙ ap (λ sends. record { answer = answer_by (body_with its) some; state = after; sends = sends }) (append-nil said)
    where
      ended : (some : StoreFate) → run caller brought (by_fate its some) [] (demanded brought demand some state)
          ≡ record { answer = answer_by (body_with its) some; state = demanded brought demand some state; sends = [] }
      ended stored.Stored = answered-run caller brought its [] [] (demanded brought demand stored.Stored state) small
      ended stored.Before = refl
      ended stored.Unsure = refl

  -- a return that would be too large is refused before anything is asked
  asked-large : is_small (body_with its) ≡ false → run caller brought (Asks demand (by_fate its)) [] state ≡ failing name.LimitsExceeded state
  asked-large large = by-false (is_small (body_with its)) (failing name.IOError state) (failing name.LimitsExceeded state) large

  -- it has one fate
  asked-fates : (some : StoreFate) → AreFates caller brought (by_fate its some) [] (demanded brought demand some state)
  asked-fates stored.Stored = tt
  asked-fates stored.Before = tt
  asked-fates stored.Unsure = tt

module _ {F S : Type 0} (folder_honest folder_steady : F → Bool) (folder_faults : F → ℕ) (images : F → List ℕ → Image) (folder_leaves : F → List ℕ → Image → Type 0) (names_made : F → List (List ℕ)) (is_honest is_steady : S → Bool) (faults moment : S → ℕ) (left_since : S → ℕ → Image → Type 0) (may_leave : S → Image → Type 0) (caller : ConnId) (brought : Brought)
    (before after : State) (old new : DiskState F S) where
  -- what a plan leads to
  abbrev To : Plan → Done → Type 0
  To plan done = Leads folder_honest folder_steady folder_faults images folder_leaves names_made is_honest is_steady faults moment left_since may_leave caller brought plan before after old new done

  -- one plan is another
  pub leads-as : (plan other : Plan) (done : Done) → plan ≡ other → To other done → To plan done
  leads-as plan other done same to = subst (λ p. To p done) (sym same) to

  -- what was done is this
  pub leads-done : (plan : Plan) (done other : Done) → done ≡ other → To plan other → To plan done
  leads-done plan done other same to = subst (λ d. To plan d) (sym same) to

  -- a call that is refused changes nothing
  pub leads-refused : (error : ErrorName) → after ≡ before → new ≡ old → To (refused error) (record { answer = Err error; sends = []; read = None; fate = None })
  leads-refused error state disk = record { answer = refl; state = state; sends = refl; fates = tt; disk = disk }

  -- one that only answers does so unless its return is too large
  pub leads-answered : (answer : Answer) → after ≡ before → new ≡ old → To (Ends answer []) (record { answer = bounded (filled caller before answer); sends = []; read = None; fate = None })
  leads-answered answer state disk = record {
    answer = sym (answer-ends caller brought answer [] [] before);
    state = state ∙ sym (state-ends caller brought answer [] before);
    sends = sym (ap (spread before.connections.rows) (sends-ends caller brought answer [] before));
    fates = tt;
    disk = disk;
  }

  -- one whose return would be too large changes nothing
  pub leads-large : (its : PublicBody) (changes : List Change) → is_small (body_with its) ≡ false → after ≡ before → new ≡ old
      → To (answered its changes) (record { answer = Err name.LimitsExceeded; sends = []; read = None; fate = None })
  leads-large its changes large state disk =
      let ran = sym (large-run caller brought its changes [] before large) in
      record {
        answer = ap (λ (r : Ran). r.answer) ran;
        state = state ∙ ap (λ (r : Ran). r.state) ran;
        sends = ap (λ (r : Ran). spread before.connections.rows r.sends) ran;
        fates = tt;
        disk = disk;
      }

  -- one that asks for a storing is answered by how that ended
  pub leads-asked : (demand : Demand) (its : PublicBody) (some : StoreFate) (sends : List Delivery) → sends ≡ spread before.connections.rows (sent_asked brought demand some before) → is_small (body_with its) ≡ true → after ≡ demanded brought demand some before
      → StoresDemand folder_honest folder_steady folder_faults images folder_leaves names_made is_honest is_steady faults moment left_since may_leave demand some (contents_of before) (contents_of (demanded brought demand some before)) old new
      → To (Asks demand (by_fate its)) (record { answer = answer_by (body_with its) some; sends = sends; read = None; fate = Some some })
  leads-asked demand its some sends said small state at =
      let ran = sym (asked-run caller brought demand its before some small) in
      let ended : (some : StoreFate) → StoresOf folder_honest folder_steady folder_faults images folder_leaves names_made is_honest is_steady faults moment left_since may_leave caller brought (by_fate its some) [] (demanded brought demand some before) new new =
      elim [ stored.Stored ↦ refl | stored.Before ↦ refl | stored.Unsure ↦ refl ] in
      record {
        answer = ap (λ (r : Ran). r.answer) ran;
        state = state ∙ ap (λ (r : Ran). r.state) ran;
        sends = said ∙ ap (λ (r : Ran). spread before.connections.rows r.sends) ran;
        fates = held (is_small (body_with its)) _ _ small (asked-fates caller brought demand its before some);
        disk = held (is_small (body_with its)) _ _ small (new, at, ended some);
      }

  -- nothing is asked if its return would be too large
  pub leads-unasked : (demand : Demand) (its : PublicBody) → is_small (body_with its) ≡ false → after ≡ before → new ≡ old
      → To (Asks demand (by_fate its)) (record { answer = Err name.LimitsExceeded; sends = []; read = None; fate = None })
  leads-unasked demand its large state disk =
      let ran = sym (asked-large caller brought demand its before large) in
      record {
        answer = ap (λ (r : Ran). r.answer) ran;
        state = state ∙ ap (λ (r : Ran). r.state) ran;
        sends = ap (λ (r : Ran). spread before.connections.rows r.sends) ran;
        fates = dropped (is_small (body_with its)) _ _ large tt;
        disk = dropped (is_small (body_with its)) _ _ large disk;
      }

  -- one that only reads answers so unless its return is too large
  pub leads-read : (plan : Plan) (its : Result Body ErrorName) → reads caller before plan ≡ Some its → after ≡ before → new ≡ old → To plan (record { answer = bounded its; sends = []; read = None; fate = None })
  leads-read (Ends answer []) its is state disk =
      let same : filled caller before answer ≡ its = ap (λ o. option_map_or (λ a. a) o its) is in
      subst (λ a. To (Ends answer []) (record { answer = bounded a; sends = []; read = None; fate = None })) same (leads-answered answer state disk)
  leads-read (Ends answer (change ∷ changes)) its is state disk = absurd (none-some its is)
  leads-read (Asks demand next) its is state disk = absurd (none-some its is)
  leads-read (Resolves reading unread next) its is state disk = absurd (none-some its is)
  leads-read (Opens stem terms next) its is state disk = absurd (none-some its is)

  -- a call that changes something, and sends what its changes send
  pub leads-changes : (its : PublicBody) (changes : List Change) (done : Done) → done.answer ≡ Ok (body_with its) → done.sends ≡ spread before.connections.rows (sent_all caller changes before)
      → done.read ≡ None → done.fate ≡ None → is_small (body_with its) ≡ true → after ≡ performed_all caller changes before → new ≡ old → To (answered its changes) done
  leads-changes its changes done answer sends read fate small state disk =
      let none : fates_in done ≡ [] = λ i. reads_of (read i) ++ stores_of (fate i) in
      let ran = sym (answered-run caller brought its changes (fates_in done) before small) in
      record {
        answer = answer ∙ ap (λ (r : Ran). r.answer) ran;
        state = state ∙ ap (λ (r : Ran). r.state) ran;
        sends = sends ∙ ap (λ (r : Ran). spread before.connections.rows r.sends) ran;
        fates = subst AreNone (sym none) tt;
        disk = disk;
      }

-- ---- a file that is read again

connections-settled : (reading : Reading) (some : ReadFate) (state : State) → (settled reading some state).connections ≡ state.connections
connections-settled Aliases_file some state = refl
connections-settled (Collection_file stem) some state = refl

-- A plan that lets a file be read again: what it leads to where the file is known, and where it is in doubt.
module _ {F S : Type 0} (folder_honest folder_steady : F → Bool) (folder_faults : F → ℕ) (images : F → List ℕ → Image) (folder_leaves : F → List ℕ → Image → Type 0) (names_made : F → List (List ℕ)) (is_honest is_steady : S → Bool) (faults moment : S → ℕ) (left_since : S → ℕ → Image → Type 0) (may_leave : S → Image → Type 0) (caller : ConnId) (brought : Brought)
    (reading : Reading) (unread : Plan) (next : Questions → Plan) (before after : State) (old new : DiskState F S) where
  -- the plan
  abbrev its_plan : Plan
  its_plan = Resolves reading unread next

  -- what goes on after the file was read again
  abbrev after_read : ReadFate → Plan
  after_read some = by_reading some unread (next (asked caller brought (settled reading some before)))

  -- the file is known
  pub settles-known : (done : Done) → is_in_doubt reading before ≡ false
      → Leads folder_honest folder_steady folder_faults images folder_leaves names_made is_honest is_steady faults moment left_since may_leave caller brought (next (asked caller brought before)) before after old new done
      → Leads folder_honest folder_steady folder_faults images folder_leaves names_made is_honest is_steady faults moment left_since may_leave caller brought its_plan before after old new done
  settles-known done certain leads =
      let ran : run caller brought its_plan (fates_in done) before ≡ run caller brought (next (asked caller brought before)) (fates_in done) before = by-false (is_in_doubt reading before) _ _ certain in
      record {
        answer = leads.answer ∙ ap (λ (r : Ran). r.answer) (sym ran);
        state = leads.state ∙ ap (λ (r : Ran). r.state) (sym ran);
        sends = leads.sends ∙ ap (λ (r : Ran). spread before.connections.rows r.sends) (sym ran);
        fates = dropped (is_in_doubt reading before) _ _ certain leads.fates;
        disk = dropped (is_in_doubt reading before) _ _ certain leads.disk;
      }

  -- it is in doubt, and what goes on after it was read again leads to this
  module _ (mid : DiskState F S) (done : Done) (doubt : is_in_doubt reading before ≡ true) (none : done.read ≡ None) where
    only : fates_in done ≡ stores_of done.fate
    only = ap (λ r. reads_of r ++ stores_of done.fate) none

    ran-read : (some : ReadFate) → run caller brought its_plan (fate.Read some ∷ stores_of done.fate) before
        ≡ sending (sent_settled reading some before) (run caller brought (after_read some) (stores_of done.fate) (settled reading some before))
    ran-read some =
        by-true (is_in_doubt reading before) _ _ doubt
        ∙ ap (sending (sent_settled reading some before)) (pass some)
      where
        pass : (some : ReadFate) → by_reading some (run caller brought unread (stores_of done.fate) (settled reading some before))
            (run caller brought (next (asked caller brought (settled reading some before))) (stores_of done.fate) (settled reading some before))
            ≡ run caller brought (after_read some) (stores_of done.fate) (settled reading some before)
        pass read.Old = refl
        pass read.New = refl
        pass read.Other = refl
        pass read.ReadFailed = refl

    fates-read : (some : ReadFate) → AreFates caller brought (after_read some) (stores_of done.fate) (settled reading some before)
        → by_reading some (AreFates caller brought unread (stores_of done.fate) (settled reading some before))
        (AreFates caller brought (next (asked caller brought (settled reading some before))) (stores_of done.fate) (settled reading some before))
    fates-read read.Old are = are
    fates-read read.New are = are
    fates-read read.Other are = are
    fates-read read.ReadFailed are = are

    disk-read : (some : ReadFate) → StoresOf folder_honest folder_steady folder_faults images folder_leaves names_made is_honest is_steady faults moment left_since may_leave caller brought (after_read some) (stores_of done.fate) (settled reading some before) mid new
        → by_reading some (StoresOf folder_honest folder_steady folder_faults images folder_leaves names_made is_honest is_steady faults moment left_since may_leave caller brought unread (stores_of done.fate) (settled reading some before) mid new)
        (StoresOf folder_honest folder_steady folder_faults images folder_leaves names_made is_honest is_steady faults moment left_since may_leave caller brought (next (asked caller brought (settled reading some before))) (stores_of done.fate) (settled reading some before) mid new)
    disk-read read.Old stores = stores
    disk-read read.New stores = stores
    disk-read read.Other stores = stores
    disk-read read.ReadFailed stores = stores

    settles-doubt : (some : ReadFate) (sends : List Delivery) → sends ≡ spread before.connections.rows (sent_settled reading some before) ++ done.sends → StoresReading folder_honest folder_steady folder_faults images folder_leaves names_made is_honest is_steady faults moment left_since may_leave reading some (contents_of before) (contents_of (settled reading some before)) old mid
        → Leads folder_honest folder_steady folder_faults images folder_leaves names_made is_honest is_steady faults moment left_since may_leave caller brought (after_read some) (settled reading some before) after mid new done
        → Leads folder_honest folder_steady folder_faults images folder_leaves names_made is_honest is_steady faults moment left_since may_leave caller brought its_plan before after old new (record { answer = done.answer; sends = sends; read = Some some; fate = done.fate })
    settles-doubt some sends said stores leads =
        let after_state = settled reading some before in
        let its = after_read some in
        let ran : run caller brought its (fates_in done) after_state ≡ run caller brought its (stores_of done.fate) after_state = ap (λ f. run caller brought its f after_state) only in
        let whole = ran-read some in
        record {
          answer = leads.answer ∙ ap (λ (r : Ran). r.answer) ran ∙ ap (λ (r : Ran). r.answer) (sym whole);
          state = leads.state ∙ ap (λ (r : Ran). r.state) ran ∙ ap (λ (r : Ran). r.state) (sym whole);
          sends = said
              ∙ ap (λ ds. spread before.connections.rows (sent_settled reading some before) ++ ds)
              (leads.sends ∙ ap (λ (r : Ran). spread after_state.connections.rows r.sends) ran
              ∙ ap (λ (c : ConnRows). spread c.rows (run caller brought its (stores_of done.fate) after_state).sends) (connections-settled reading some before))
              ∙ sym (spread-append before.connections.rows (sent_settled reading some before) (run caller brought its (stores_of done.fate) after_state).sends)
              ∙ ap (λ (r : Ran). spread before.connections.rows r.sends) (sym whole);
          fates = held (is_in_doubt reading before) _ _ doubt (fates-read some (subst (λ f. AreFates caller brought its f after_state) only leads.fates));
          disk = held (is_in_doubt reading before) _ _ doubt
              (mid, stores, disk-read some (subst (λ f. StoresOf folder_honest folder_steady folder_faults images folder_leaves names_made is_honest is_steady faults moment left_since may_leave caller brought its f after_state mid new) only leads.disk));
        }

    -- it was read
    pub settles-read : (some : ReadFate) → (IsReadFault some → ⊥) → (sends : List Delivery) → sends ≡ spread before.connections.rows (sent_settled reading some before) ++ done.sends → StoresReading folder_honest folder_steady folder_faults images folder_leaves names_made is_honest is_steady faults moment left_since may_leave reading some (contents_of before) (contents_of (settled reading some before)) old mid
        → Leads folder_honest folder_steady folder_faults images folder_leaves names_made is_honest is_steady faults moment left_since may_leave caller brought (next (asked caller brought (settled reading some before))) (settled reading some before) after mid new done
        → Leads folder_honest folder_steady folder_faults images folder_leaves names_made is_honest is_steady faults moment left_since may_leave caller brought its_plan before after old new (record { answer = done.answer; sends = sends; read = Some some; fate = done.fate })
    settles-read read.Old well sends said stores leads = settles-doubt read.Old sends said stores leads
    settles-read read.New well sends said stores leads = settles-doubt read.New sends said stores leads
    settles-read read.Other well sends said stores leads = settles-doubt read.Other sends said stores leads
    settles-read read.ReadFailed well sends said stores leads = absurd (well tt)

    -- it couldn't be read
    pub settles-unread : (some : ReadFate) → some ≡ read.ReadFailed → (sends : List Delivery) → sends ≡ spread before.connections.rows (sent_settled reading some before) ++ done.sends → StoresReading folder_honest folder_steady folder_faults images folder_leaves names_made is_honest is_steady faults moment left_since may_leave reading some (contents_of before) (contents_of (settled reading some before)) old mid
        → Leads folder_honest folder_steady folder_faults images folder_leaves names_made is_honest is_steady faults moment left_since may_leave caller brought unread (settled reading some before) after mid new done
        → Leads folder_honest folder_steady folder_faults images folder_leaves names_made is_honest is_steady faults moment left_since may_leave caller brought its_plan before after old new (record { answer = done.answer; sends = sends; read = Some some; fate = done.fate })
    settles-unread some is sends said stores leads =
        let goes : after_read some ≡ unread = ap (λ s. by_reading s unread (next (asked caller brought (settled reading some before)))) is in
        settles-doubt some sends said stores (subst (λ p. Leads folder_honest folder_steady folder_faults images folder_leaves names_made is_honest is_steady faults moment left_since may_leave caller brought p (settled reading some before) after mid new done) (sym goes) leads)

-- ---- room for what is sent

-- what was sent is what room was made for
pub room-sent : (caller : ConnId) (lent sent sends : List Delivery) (rooms : Rooms) → lent ≡ sent → sends ≡ sent → HasRoomToReply caller lent rooms → HasRoomToReply caller sends rooms
room-sent caller lent sent sends rooms first second room = subst (λ s. HasRoomToReply caller s rooms) (first ∙ sym second) room

-- room that is kept is still there
pub room-keeps : (caller : ConnId) (sends : List Delivery) (old new : Rooms) → KeepRooms old new → HasRoomToReply caller sends old → HasRoomToReply caller sends new
room-keeps caller sends old new keeps room reply conn = keeps (count_to conn (record { to = caller; out = reply } ∷ sends)) conn (room reply conn)

-- room for one output is room for the reply alone
pub room-to-reply : (caller : ConnId) (rooms : Rooms) → HasRoom 1 caller rooms → HasRoomToReply caller [] rooms
room-to-reply caller rooms room reply conn =
    let pass : (b : Bool) → (caller.0 == conn.0) ≡ b → HasRoom (length (cond b (reply ∷ []) [])) conn rooms =
    elim [ true ↦ λ is. room-same 1 caller conn rooms is room | false ↦ λ is. room-zero conn rooms ] in
    pass (caller.0 == conn.0) refl

-- the same for a call that sends nothing else
pub room-silent : (caller : ConnId) (sends : List Delivery) (rooms : Rooms) → sends ≡ [] → HasRoom 1 caller rooms → HasRoomToReply caller sends rooms
room-silent caller sends rooms none room = subst (λ s. HasRoomToReply caller s rooms) (sym none) (room-to-reply caller rooms room)

-- where there is room for more, there is for the reply alone
pub room-alone : (caller : ConnId) (sends : List Delivery) (rooms : Rooms) → HasRoomToReply caller sends rooms → HasRoomToReply caller [] rooms
room-alone caller sends rooms room reply = room-to-reply caller rooms (first-room (record { to = caller; out = reply }) sends rooms (room reply)) reply

-- where there is room for the reply and more, there is for the rest
pub room-after : (caller : ConnId) (reply : Out) (sends : List Delivery) (rooms : Rooms) → HasRoomToReply caller sends rooms → HasRoomFor sends rooms
room-after caller reply sends rooms room conn =
    let pass : (b : Bool) → HasRoom (length (cond b (reply ∷ outs_to conn sends) (outs_to conn sends))) conn rooms → HasRoom (length (outs_to conn sends)) conn rooms =
    elim [ true ↦ λ has. room-less (length (outs_to conn sends)) (length (reply ∷ outs_to conn sends)) conn rooms (omega arith) has | false ↦ λ has. has ] in
    pass (caller.0 == conn.0) (room reply conn)

-- ---- a request whose call was performed, and whose reply waits

-- what a plan sends, delivered, is what becomes of the rows
pub sends-handed : (caller : ConnId) (brought : Brought) (plan : Plan) (fates : List Fate) (state : State) (first : List Sent) → AreDistinct state.connections.rows
    → handed (spread state.connections.rows first ++ spread state.connections.rows (run caller brought plan fates state).sends) (run caller brought plan fates state).state.connections.rows
    ≡ delivered (first ++ (run caller brought plan fates state).sends) (run caller brought plan fates state).state.connections.rows
sends-handed caller brought plan fates state first apart =
    let rows = state.connections.rows in
    let ran = run caller brought plan fates state in
    let same : ran.state.connections ≡ state.connections = connections-run caller brought plan fates state in
    ap (λ d. handed d ran.state.connections.rows) (sym (spread-append rows first ran.sends))
    ∙ handed-spread (first ++ ran.sends) rows ran.state.connections.rows apart (ap (λ (c : ConnRows). conns_of c.rows) (sym same))

module _ {F S : Type 0} (folder_honest folder_steady : F → Bool) (folder_faults : F → ℕ) (images : F → List ℕ → Image) (folder_leaves : F → List ℕ → Image → Type 0) (names_made : F → List (List ℕ)) (is_honest is_steady : S → Bool) (faults moment : S → ℕ) (left_since : S → ℕ → Image → Type 0) (may_leave : S → Image → Type 0) (arrival : Arrival) (done : Done)
    (old before after final : State) (disk disk' : DiskState F S) (same : before ≡ old) where
  -- what its call led to, in a state
  abbrev Led : State → Type 0
  Led state = Leads folder_honest folder_steady folder_faults images folder_leaves names_made is_honest is_steady faults moment left_since may_leave arrival.conn (brought_by arrival) (plan_of arrival.salt arrival.request.call (asked arrival.conn (brought_by arrival) state)) state after disk disk' done

  from-old : Led before → Led old
  from-old leads = subst Led same leads

  -- the reply and what is sent after it are delivered
  pub leads-stepped : AreDistinct old.connections.rows → Led before
      → final ≡ with_rows (handed (spread after.connections.rows (replies arrival.conn arrival.request done.answer) ++ done.sends) after.connections.rows) after
      → final ≡ step old (with_fates arrival (fates_in done))
  leads-stepped apart leads replied =
      let led_old = from-old leads in
      let plan = plan_of arrival.salt arrival.request.call (asked arrival.conn (brought_by arrival) old) in
      let ran = run arrival.conn (brought_by arrival) plan (fates_in done) old in
      let reply : List Sent = replies arrival.conn arrival.request ran.answer in
      replied
      ∙ (λ i. with_rows (handed (spread (led_old.state i).connections.rows (replies arrival.conn arrival.request (led_old.answer i)) ++ led_old.sends i) (led_old.state i).connections.rows) (led_old.state i))
      ∙ (λ i. with_rows (handed (spread (connections-run arrival.conn (brought_by arrival) plan (fates_in done) old i).rows reply ++ spread old.connections.rows ran.sends) ran.state.connections.rows) ran.state)
      ∙ ap (λ rows. with_rows rows ran.state) (sends-handed arrival.conn (brought_by arrival) plan (fates_in done) old reply apart)

  -- the key that is to be derived, by what the call answered
  pub leads-work : Led before → output.Arrived (record { work = work_of arrival.request.call done.answer after }) ≡ output_of old (with_fates arrival (fates_in done))
  leads-work leads =
      let led_old = from-old leads in
      (λ i. output.Arrived (record { work = work_of arrival.request.call (led_old.answer i) (led_old.state i) }))

  pub leads-fits : Led before → arrival.now < 2 ^ 64 → IsSalt arrival.salt → HasTypes arrival.request.call → has arrival.conn old.connections.rows ≡ true → Fits old (with_fates arrival (fates_in done))
  leads-fits leads small salt types there = (there, record { moment = small; salt = salt; types = types; fates = (from-old leads).fates })

  pub leads-stores : Led before → StoresEvent folder_honest folder_steady folder_faults images folder_leaves names_made is_honest is_steady faults moment left_since may_leave (with_fates arrival (fates_in done)) old disk disk'
  leads-stores leads = (from-old leads).disk

-- ---- what a call returned

pub map-ok : {A E : Type 0} (result : Result A E) (P Q : A → Type 0) → ((x : A) → P x → Q x) → IfOk result P → IfOk result Q
map-ok (Ok x) P Q weaker is = weaker x is
map-ok (Err e) P Q weaker is = tt

-- what was stored, from and to rows and disks that are equal
module _ {F S : Type 0} (is_honest is_steady : S → Bool) (faults moment : S → ℕ) (left_since : S → ℕ → Image → Type 0) (may_leave : S → Image → Type 0) (stem : List ℕ) (some : Fate) where
  abbrev At : Rows → Rows → DiskState F S → DiskState F S → Type 0
  At before after old new = StoresAt is_honest is_steady faults moment left_since may_leave stem some before after old new

  pub at-moved : (before before' after after' : Rows) (old old' new : DiskState F S) → before ≡ before' → after ≡ after' → old ≡ old' → At before after old new → At before' after' old' new
  at-moved before before' after after' old old' new first second third at =
      subst (λ b. At b after' old' new) first (subst (λ a. At before a old' new) second (subst (λ o. At before after o new) third at))

-- ---- the plan of an edit, by what it would do

pub plan-none : (stem : List ℕ) (edit : Edit) (returned : Changed → PublicBody) (answer : Option Changed) → answer ≡ None → storing stem edit returned answer ≡ refused name.LimitsExceeded
plan-none stem edit returned answer is = ap (storing stem edit returned) is

pub plan-some : (stem : List ℕ) (edit : Edit) (returned : Changed → PublicBody) (answer : Option Changed) (made : Changed) → answer ≡ Some made
    → storing stem edit returned answer ≡ Asks (Store stem edit) (by_fate (returned made))
plan-some stem edit returned answer made is = ap (storing stem edit returned) is

-- ---- the plans of calls that begin a prompt

-- there are none
pub none-are : (targets : List Target) → are_none targets ≡ true → targets ≡ []
none-are [] none = refl
none-are (target ∷ more) none = absurd (let no : false ≡ true = none in cc)

-- there are targets, so a prompt begins
pub plan-targets : (paths : List (List ℕ)) (targets : List Target) (asked : Questions) → are_none targets ≡ false
    → unlocking paths targets asked ≡ with_new_prompt (are_light targets) (public.ObjectsAndPrompt paths) (kind.Unlock (all_left targets)) asked
plan-targets paths [] asked some = absurd (let no : true ≡ false = some in cc)
plan-targets paths (target ∷ more) asked some = refl

-- fewer are fewer than the most
pub few-is : (most n : ℕ) → n < most → nat_le most n ≡ false
few-is most n less =
    let pass : (b : Bool) → nat_le most n ≡ b → nat_le most n ≡ false =
    elim [ true ↦ λ is. absurd (let more : most ≤ n = leb-true most n is in let no : ⊥ = omega (arith, less, more) in no) | false ↦ λ is. is ] in
    pass (nat_le most n) refl
