-- What a derived key leads to that changes a password: whether it can, how its prompt ends, and that the stems that aren't used stay free.
use Rattle.std.proofs.Common.{◌≡◌, ℕ, Bool, true, false, cond, Contains, IsTrue, IfNone, IfSome, List, [], ◌∷◌, Option, Some, None, Ok, refl, sym, ap, subst, ◌∙◌}
use Rattle.std.specs.List.{AllByRecursion}
use Rattle.std.specs.Option.{is_some, option_map_or}
use Rattle.std.proofs.lemmas.List.{append-nil}
use Rattle.std.proofs.lemmas.Map.Made.{is_member-Decides}
use Rattle.kr_base.specs.Attributes.{is_name, value_at}
use Rattle.kr_base.specs.declared.ids.ConnId.{ConnId}
use Rattle.kr_base.specs.declared.ids.PromptId.{PromptId}
use Rattle.kr_outside.specs.RenameDisk.{Image, Only}
use Rattle.key_derivation.specs.Kdf.{Inputs}
use Rattle.service_calls.specs.folder_store.specs.Loads.{IsFree}
use Rattle.service_calls.specs.folder_store.specs.Names.{IsRingName}
use Rattle.prompt_state.specs.Prompts as prompts
use Rattle.service_calls.specs.collection_store.specs.State.{Held}
use Rattle.service_calls.specs.collection_table.specs.Rows.{CollectionRow, Rows, has, is_open, is_unlocked, room_in}
use Rattle.service_calls.specs.secret_calls.specs.declared.out.Body.TheVariants as body
use Rattle.service_calls.specs.service_disk.specs.Making.{AreFree, IsFreeStem}
use Rattle.service_calls.specs.service_disk.specs.Rekeying.{can_rekey, can_rekey_row, fits_under}
use Rattle.service_calls.specs.service_events.specs.Derivation.{are_terms, changing_ended, completing, dismissing, password_changed, quietly, stored_under}
use Rattle.service_calls.specs.service_events.specs.Plan.{Change, End_prompt, KeyTerms, Questions}
use Rattle.service_calls.specs.service_events.specs.PublicBody as public
use Rattle.service_calls.specs.service_events.specs.Run.{performed_all, sent_all}
use Rattle.service_calls.specs.service_events.proofs.SmallLemmas.{empty-small}
use Rattle.service_calls.specs.service_prompts.specs.Prompting.{completed_sent}
use Rattle.service_calls.specs.service_tables.specs.Connections.{spread}
use Rattle.service_calls.specs.service_tables.specs.Disk.{DiskState}
use Rattle.service_calls.specs.service_tables.specs.Slots.{StoresAt, slot_at}
use Rattle.service_calls.specs.service_tables.specs.State.{State}
use Rattle.service_calls.specs.service_tables.specs.Storing.{Brought}
use Rattle.service_calls.specs.service_tables.specs.declared.fate.Fate.{Fate}
use Rattle.service_calls.specs.service_tables.specs.declared.fate.StoreFate.{StoreFate}
use Rattle.service_calls.specs.service_tables.specs.declared.fate.StoreFate.TheVariants as stored
use Rattle.service_calls.specs.service_tables.specs.signal_fanout.specs.declared.rows.Delivery.{Delivery}
use Rattle.stem_choice.specs.UsedStems.{is_used}
use Rattle.service_answers.specs.Settled.{Settles, ended_sent}
use Rattle.service_answers.specs.declared.derived_key.Settled.{Settled}
use Rattle.service_calls.specs.declared.storing.Done.{Done}
use Rattle.service_calls.proofs.LeadsLemmas.{leads-changes}
use Rattle.service_answers.proofs.DerivedLemmas.{settles-unmade}
use Rattle.service_answers.proofs.NewLemmas.{same-name, unlisted}

-- what is true if there is none
pub none-is : {A : Type 0} (P : Type 0) (o : Option A) → o ≡ None → IfNone o P → P
none-is P o is holds = subst (λ o. IfNone o P) is holds

-- ---- which plan it is

module _ (prompt : PromptId) (stem salt : List ℕ) (terms : KeyTerms) (asks : Questions) where
  pub changed-fit : are_terms salt terms ≡ true → password_changed prompt stem salt terms asks ≡ stored_under prompt stem terms asks
  changed-fit is = ap (λ b. cond b (stored_under prompt stem terms asks) (dismissing prompt)) is

  pub changed-unfit : are_terms salt terms ≡ false → password_changed prompt stem salt terms asks ≡ dismissing prompt
  changed-unfit is = ap (λ b. cond b (stored_under prompt stem terms asks) (dismissing prompt)) is

-- ---- a collection that can be stored is there and unlocked

row-open : (key : Inputs) (now room : ℕ) (row : CollectionRow) → can_rekey_row key now room row ≡ true → is_unlocked row ≡ true
row-open key now room row can =
    let pass : (o : Option Held) → option_map_or (fits_under key now room row.file row.clear) o false ≡ true → is_some o ≡ true =
    elim [ None ↦ λ is. absurd (let no : false ≡ true = is in cc) | Some held ↦ λ is. refl ] in
    pass row.held can

pub can-open : (key : Inputs) (now : ℕ) (stem : List ℕ) (rows : Rows) → can_rekey key now stem rows ≡ true → is_open stem rows ≡ true
can-open key now stem rows can =
    let pass : (o : Option CollectionRow) → option_map_or (can_rekey_row key now (room_in rows)) o false ≡ true → option_map_or is_unlocked o false ≡ true =
    elim [ None ↦ λ is. absurd (let no : false ≡ true = is in cc) | Some row ↦ row-open key now (room_in rows) row ] in
    pass (value_at stem rows) can

pub can-has : (key : Inputs) (now : ℕ) (stem : List ℕ) (rows : Rows) → can_rekey key now stem rows ≡ true → has stem rows ≡ true
can-has key now stem rows can =
    let pass : (o : Option CollectionRow) → option_map_or (can_rekey_row key now (room_in rows)) o false ≡ true → is_some o ≡ true =
    elim [ None ↦ λ is. absurd (let no : false ≡ true = is in cc) | Some row ↦ λ is. refl ] in
    pass (value_at stem rows) can

-- ---- its prompt ends

module _ {F S : Type 0} (folder_honest folder_steady : F → Bool) (folder_faults : F → ℕ) (images : F → List ℕ → Image) (folder_leaves : F → List ℕ → Image → Type 0) (names_made : F → List (List ℕ)) (is_honest is_steady : S → Bool) (faults moment : S → ℕ) (left_since : S → ℕ → Image → Type 0) (may_leave : S → Image → Type 0) (caller : ConnId) (brought : Brought)
    (prompt : PromptId) (stem : List ℕ) (before after : State) (disk : DiskState F S) (sends : List Delivery) (state : after ≡ record before { prompts = prompts.ended prompt before.prompts }) where
  -- what this led to, of which no one gets an answer
  abbrev done-so : Done
  done-so = record { answer = Ok body.Empty; sends = sends; read = None; fate = None }

  -- it ends with this change
  ended-settles : (dismissed : Bool) (created : Option (List ℕ)) → sends ≡ spread before.connections.rows (completed_sent prompt dismissed created before.prompts)
      → Settles folder_honest folder_steady folder_faults images folder_leaves names_made is_honest is_steady faults moment left_since may_leave caller brought (quietly (End_prompt prompt dismissed created ∷ [])) before after disk disk (record { made = None; done = done-so })
  ended-settles dismissed created made =
      settles-unmade folder_honest folder_steady folder_faults images folder_leaves names_made is_honest is_steady faults moment left_since may_leave caller brought before after disk disk (quietly (End_prompt prompt dismissed created ∷ [])) done-so (record { made = None; done = done-so }) refl
      (leads-changes folder_honest folder_steady folder_faults images folder_leaves names_made is_honest is_steady faults moment left_since may_leave caller brought before after disk disk public.Empty (End_prompt prompt dismissed created ∷ []) done-so refl
      (made ∙ ap (spread before.connections.rows) (sym (append-nil (completed_sent prompt dismissed created before.prompts)))) refl refl empty-small state refl)

  -- by how the storing ended
  pub changed-settles : (some : StoreFate) → sends ≡ spread before.connections.rows (ended_sent prompt stem some before.prompts)
      → Settles folder_honest folder_steady folder_faults images folder_leaves names_made is_honest is_steady faults moment left_since may_leave caller brought (changing_ended prompt stem some) before after disk disk (record { made = None; done = done-so })
  changed-settles stored.Stored made = ended-settles false (Some stem) made
  changed-settles stored.Before made = ended-settles true None made
  changed-settles stored.Unsure made = ended-settles true None made

  -- if nothing was to be stored
  pub unchanged-settles : sends ≡ spread before.connections.rows (completed_sent prompt true None before.prompts)
      → Settles folder_honest folder_steady folder_faults images folder_leaves names_made is_honest is_steady faults moment left_since may_leave caller brought (dismissing prompt) before after disk disk (record { made = None; done = done-so })
  unchanged-settles made = ended-settles true None made

-- ---- stems that aren't used

-- the stem of a collection that is there is used
pub listed-used : (stem : List ℕ) (used : List (List ℕ)) (rows : Rows) → AllByRecursion (λ (row : List ℕ × CollectionRow). IsTrue (is_used row.0 used)) rows → has stem rows ≡ true → is_used stem used ≡ true
listed-used stem used rows taken there =
    let pass : (b : Bool) → is_used stem used ≡ b → b ≡ true =
    elim [ true ↦ λ is. refl | false ↦ λ off. absurd (let no : true ≡ false = sym there ∙ unlisted stem used rows off taken in cc) ] in
    pass (is_used stem used) refl

-- they are free as before once the file of one that is used was stored
pub free-rekeyed : {F S : Type 0} (folder_honest : F → Bool) (images : F → List ℕ → Image) (folder_leaves : F → List ℕ → Image → Type 0) (names_made : F → List (List ℕ)) (is_honest is_steady : S → Bool) (faults moment : S → ℕ) (left_since : S → ℕ → Image → Type 0) (may_leave : S → Image → Type 0)
    (stem : List ℕ) (some : Fate) (these those : Rows) (old new : DiskState F S) → is_used stem old.used ≡ true → StoresAt is_honest is_steady faults moment left_since may_leave stem some these those old new
    → AreFree folder_honest images folder_leaves names_made is_honest may_leave old → AreFree folder_honest images folder_leaves names_made is_honest may_leave new
free-rekeyed {F = F} {S = S} folder_honest images folder_leaves names_made is_honest is_steady faults moment left_since may_leave stem some these those old new used stores free = λ other apart.
    (let same : new.used ≡ old.used = ap (λ (d : DiskState F S). d.used) stores.rest in
    let off : ¬ (Contains old.used other) = λ is. apart (subst (λ u. Contains u other) (sym same) is) in
    let unlike : is_name stem other ≡ false =
    (let pass : (b : Bool) → is_name stem other ≡ b → b ≡ false =
    elim [
      | true ↦ λ is. absurd (off ((is_member-Decides same-name old.used other).0 (subst (λ s. is_used s old.used ≡ true) ((same-name stem other).0 is) used)))
      | false ↦ λ is. refl
    ] in
    pass (is_name stem other) refl) in
    let its = free other off in
    let slot : slot_at other new ≡ slot_at other old = stores.others other unlike in
    let folder : new.folder ≡ old.folder = ap (λ (d : DiskState F S). d.folder) stores.rest in
    let Unmade : F → Type 0 = λ f. (name : List ℕ) → IsRingName name other → IsFree (folder_honest f) images folder_leaves names_made f name in
    let was : IsFreeStem folder_honest images folder_leaves names_made is_honest may_leave other new = record {
      unmade = subst (λ o. IfNone o (Unmade new.folder)) (sym slot) (subst (λ f. IfNone (slot_at other old) (Unmade f)) (sym folder) its.unmade);
      kept = subst (λ o. IfSome o (λ slot. IsTrue (is_honest slot) → Only None (may_leave slot))) (sym slot) its.kept;
    } in
    was)
