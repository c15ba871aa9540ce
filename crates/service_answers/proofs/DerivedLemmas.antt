-- What a derived key leads to: a collection that it opens or doesn't, a prompt that is asked again, and what that prompt is for.
use Rattle.std.proofs.Common.{◌≡◌, ℕ, ◌+◌, ◌^◌, ◌<◌, ◌≤◌, Bool, true, false, cond, IfOk, IfSome, OnErr, OnOk, List, [], ◌∷◌, ◌++◌, ◌⊎◌, inl, inr, find, Option, Some, None, Result, Ok, Err, refl, sym, ap, subst, ◌∙◌, arith}
use Rattle.std.specs.List.{AllByRecursion, cons_option}
use Rattle.std.specs.Option.{is_some, option_and_then, option_map, option_map_or}
use Rattle.std.proofs.lemmas.List.{append-nil}
use Rattle.kr_base.specs.Attributes.{IsInOrder, is_name, value_at}
use Rattle.kr_base.specs.declared.ids.ConnId.{ConnId}
use Rattle.kr_base.specs.declared.ids.PromptId.{PromptId}
use Rattle.kr_names.specs.Path.{IsAliasName}
use Rattle.key_derivation.specs.Kdf.{Inputs}
use Rattle.service_calls.specs.collection_store.specs.State.{Held}
use Rattle.service_calls.specs.collection_table.specs.Entries.{changed}
use Rattle.service_calls.specs.collection_table.specs.Rows.{CollectionRow, Rows, locked}
use Rattle.service_calls.specs.collection_table.proofs.EntryLemmas.{unchanged_none}
use Rattle.prompt_state.specs.Prompts as prompts
use Rattle.prompt_state.specs.Prompts.{last_round, next_round, one_more, row_at}
use Rattle.prompt_state.specs.Targets.{first_left, first_of}
use Rattle.prompt_state.specs.declared.row.Ask.{Ask}
use Rattle.prompt_state.specs.declared.row.PromptKind.{PromptKind}
use Rattle.prompt_state.specs.declared.row.PromptKind.TheVariants as kind
use Rattle.prompt_state.specs.declared.row.PromptRow.{PromptRow}
use Rattle.prompt_state.specs.declared.row.Prompts.{Prompts}
use Rattle.prompt_state.specs.declared.row.Stage.{Stage}
use Rattle.prompt_state.specs.declared.row.Stage.TheVariants as stage
use Rattle.prompt_state.specs.declared.targets.Target.{Target}
use Rattle.service_calls.specs.service_disk.specs.Making.{MakesAt}
use Rattle.service_calls.specs.service_disk.specs.Opening.{opening_file, opening_in, opening_of, row_by, row_opened, rows_opened}
use Rattle.service_calls.specs.service_disk.specs.declared.opening.Opening.{Opening}
use Rattle.service_calls.specs.service_disk.specs.declared.opening.Opening.TheVariants as ends
use Rattle.service_calls.specs.service_disk.proofs.OpeningLemmas.{row-stays}
use Rattle.kr_outside.specs.RenameDisk.{Image}
use Rattle.service_calls.specs.service_prompts.specs.Prompting.{ask_signal, ask_signal_in}
use Rattle.service_calls.specs.secret_calls.specs.declared.out.ErrorName.TheVariants as name
use Rattle.service_calls.specs.service_events.specs.PublicBody.{PublicBody}
use Rattle.service_calls.specs.service_events.specs.PublicBody as public
use Rattle.service_calls.specs.secret_calls.specs.declared.out.Body.TheVariants as body
use Rattle.service_calls.specs.service_tables.specs.Disk.{DiskState}
use Rattle.service_calls.specs.service_tables.specs.Opened.{contents_of}
use Rattle.service_calls.specs.service_tables.specs.TablesReading.{asked_collections}
use Rattle.service_calls.specs.service_tables.specs.State.{State}
use Rattle.service_calls.specs.service_tables.specs.Sound.{IsSoundKind, IsSoundPrompt}
use Rattle.service_calls.specs.service_tables.specs.Connections.{spread}
use Rattle.service_calls.specs.service_tables.specs.Storing.{Brought}
use Rattle.service_calls.specs.service_tables.specs.declared.fate.StoreFate.{StoreFate}
use Rattle.service_calls.specs.service_tables.specs.declared.fate.StoreFate.TheVariants as stored
use Rattle.service_calls.specs.service_tables.specs.signal_fanout.specs.declared.rows.ConnRow.{ConnRow}
use Rattle.service_calls.specs.service_tables.specs.signal_fanout.specs.declared.rows.Delivery.{Delivery}
use Rattle.service_calls.specs.service_tables.proofs.SpreadLemmas.{spread-append}
use Rattle.service_calls.specs.service_tables.proofs.AliasLemmas.{is-alias}
use Rattle.service_calls.specs.service_tables.proofs.DiskLemmas.{changed-as, changed-back}
use Rattle.service_calls.specs.service_events.specs.Derivation.{alias_given, collection_made, kind_derived, left_derived, making_ended, opening_ended, password_changed, quietly, row_derived}
use Rattle.service_answers.specs.Purposes.{IsPurposeOf, purpose_of}
use Rattle.service_answers.specs.declared.derived_key.Purpose.TheVariants as purpose
use Rattle.service_answers.specs.declared.derived_key.Settled.{Settled}
use Rattle.service_calls.specs.declared.storing.Done.{Done}
use Rattle.service_calls.specs.service_events.specs.Plan.{Ask_prompt, Asks, Change, Clear_wrong, Count_wrong, Demand, Go_on, KeyTerms, Make, Opens, Plan, Questions, answered}
use Rattle.service_calls.specs.service_events.specs.PromptCalls.{advance_sent, ask_for, asks_for, go_on_sent, passed_kind}
use Rattle.service_calls.specs.service_events.specs.Run.{AreFates, AreNone, Ran, by_test, demanded, failing, fits, promised, run, sending, sent_all, sent_asked, sent_opened, unlocked_with}
use Rattle.service_calls.specs.service_events.specs.Stored.{KeepsSlotOrAll, StoresDemand, StoresOf}
use Rattle.service_calls.specs.Done.{Leads, fates_in}
use Rattle.service_answers.specs.Settled.{Settles, settled_fates}
use Rattle.service_calls.specs.service_events.proofs.AdvanceLemmas.{KeepsPrompt, row-changed, row-number}
use Rattle.service_calls.specs.service_events.proofs.SmallLemmas.{empty-small}
use Rattle.service_calls.proofs.LeadsLemmas.{leads-changes}

-- ---- a collection that a key opens, or doesn't

-- two changes of one collection are one
changed-twice : (stem : List ℕ) (f g : CollectionRow → CollectionRow) (rows : Rows) → changed stem g (changed stem f rows) ≡ changed stem (λ r. g (f r)) rows
changed-twice stem f g [] = refl
changed-twice stem f g (row ∷ rows) =
    let pass : (b : Bool) → is_name stem row.0 ≡ b → changed stem g (changed stem f (row ∷ rows)) ≡ changed stem (λ r. g (f r)) (row ∷ rows) =
    elim [
      | true ↦ λ is. rw is (rw is (ap (λ more. (row.0, g (f row.1)) ∷ more) (changed-twice stem f g rows)))
      | false ↦ λ off. rw off (rw off (ap (λ more. row ∷ more) (changed-twice stem f g rows)))
    ] in
    pass (is_name stem row.0) refl

module _ (key : Inputs) where
  -- an attempt that doesn't open it leaves it as before
  row-shut : (how : Opening) (row : CollectionRow) → (how ≡ ends.Opened → ⊥) → opening_in key row ≡ how → row_opened key row ≡ row
  row-shut ends.Settled row apart at = row-stays key ends.Settled row at tt
  row-shut ends.Unfit row apart at = row-stays key ends.Unfit row at tt
  row-shut ends.WrongPassword row apart at = row-stays key ends.WrongPassword row at tt
  row-shut ends.Damaged row apart at = row-stays key ends.Damaged row at tt
  row-shut ends.Opened row apart at = absurd (apart refl)

  -- one that opened was locked
  held-none : (held : Option Held) (other : Opening) → cond (is_some held) ends.Settled other ≡ ends.Opened → None ≡ held
  held-none None other at = refl
  held-none (Some held) other at = absurd (let no : ends.Settled ≡ ends.Opened = at in cc)

  row-locked : (row : CollectionRow) → opening_in key row ≡ ends.Opened → locked (row_opened key row) ≡ row
  row-locked row at =
      ap (λ how. locked (row_by key how row)) at
      ∙ ap (λ (held : Option Held). record row { held = held }) (held-none row.held (opening_file key row.clear row.file) at)

  module _ (stem : List ℕ) (rows : Rows) (ordered : IsInOrder rows) where
    same-changed : (f : CollectionRow → CollectionRow) (row : CollectionRow) → value_at stem rows ≡ Some row → f row ≡ row → changed stem f rows ≡ rows
    same-changed f row there same =
        sym (changed-as stem f row rows ordered there) ∙ ap (λ (r : CollectionRow). changed stem (λ _. r) rows) same ∙ changed-back stem row rows ordered there

    pub rows-shut : (how : Opening) → (how ≡ ends.Opened → ⊥) → how ≡ opening_of key stem rows → rows_opened key stem rows ≡ rows
    rows-shut how apart is =
        let pass : (o : Option CollectionRow) → value_at stem rows ≡ o → rows_opened key stem rows ≡ rows =
        elim [
          | None ↦ λ there. sym (unchanged_none stem (row_opened key) rows there)
          | Some row ↦ λ there. same-changed (row_opened key) row there (row-shut how row apart (sym (is ∙ ap (λ o. option_map_or (opening_in key) o ends.Settled) there)))
        ] in
        pass (value_at stem rows) refl

    pub rows-locked : opening_of key stem rows ≡ ends.Opened → changed stem locked (rows_opened key stem rows) ≡ rows
    rows-locked is =
        let pass : (o : Option CollectionRow) → value_at stem rows ≡ o → changed stem locked (rows_opened key stem rows) ≡ rows =
        elim [
          | None ↦ λ there. ap (changed stem locked) (sym (unchanged_none stem (row_opened key) rows there)) ∙ sym (unchanged_none stem locked rows there)
          | Some row ↦ λ there.
              changed-twice stem (row_opened key) locked rows
              ∙ same-changed (λ r. locked (row_opened key r)) row there (row-locked row (sym (ap (λ o. option_map_or (opening_in key) o ends.Settled) there) ∙ is))
        ] in
        pass (value_at stem rows) refl

-- ---- a prompt whose wrong answers are counted

-- a row that changes except for its stage
module _ (prompt : PromptId) (f : PromptRow → PromptRow) (state : Prompts) (keeps : KeepsPrompt f) where
  pub there-changed : is_some (row_at prompt state) ≡ true → is_some (row_at prompt (prompts.changed prompt f state)) ≡ true
  there-changed there =
      let pass : (o : Option PromptRow) → is_some (option_map f o) ≡ is_some o = elim [ None ↦ refl | Some row ↦ refl ] in
      ap is_some (row-changed prompt f state keeps) ∙ pass (row_at prompt state) ∙ there

  pub round-changed : ((row : PromptRow) → (f row).stage ≡ row.stage) → next_round (row_at prompt (prompts.changed prompt f state)) ≡ next_round (row_at prompt state)
  round-changed same =
      let pass : (o : Option PromptRow) → next_round (option_map f o) ≡ next_round o = elim [ None ↦ refl | Some row ↦ ap (λ s. prompts.round_of s + 1) (same row) ] in
      ap next_round (row-changed prompt f state keeps) ∙ pass (row_at prompt state)

-- what is sent when a prompt is asked
ask-sends : (conn : ConnId) (prompt : PromptId) (state : State) (row : PromptRow) → row_at prompt state.prompts ≡ Some row
    → sent_all conn (Ask_prompt prompt ∷ []) state ≡ asks_for state.collections row row.kind state.prompts.agent
ask-sends conn prompt state row is =
    let round = next_round (row_at prompt state.prompts) in
    let f : PromptRow → PromptRow = λ r. record r { stage = stage.Asked round } in
    let after = prompts.changed prompt f state.prompts in
    let its : row_at prompt after ≡ Some (record row { stage = stage.Asked (prompts.round_of row.stage + 1) }) =
    row-changed prompt f state.prompts (λ r. refl) ∙ ap (option_map f) is ∙ ap (λ n. Some (record row { stage = stage.Asked n })) (ap next_round is) in
    let signal : (agent : ConnId) → cons_option (option_and_then (ask_signal_in state.collections after) (prompts.ask_of (Some agent) (row_at prompt after))) [] ++ [] ≡ ask_for state.collections row row.kind agent =
    λ agent.
    let ask : Ask = record { agent = agent; prompt = row.prompt; round = prompts.round_of row.stage + 1; wrong = row.wrong } in
    let found : row_at row.prompt after ≡ Some (record row { stage = stage.Asked (prompts.round_of row.stage + 1) }) = ap (λ p. row_at p after) (row-number prompt state.prompts row is) ∙ its in
    ap (λ (o : Option PromptRow). cons_option (option_and_then (ask_signal_in state.collections after) (prompts.ask_of (Some agent) o)) [] ++ []) its
    ∙ ap (λ (o : Option PromptRow). cons_option (option_map (λ (r : PromptRow). ask_signal state.collections r.kind ask) o) [] ++ []) found in
    let pass : (o : Option ConnId) → cons_option (option_and_then (ask_signal_in state.collections after) (prompts.ask_of o (row_at prompt after))) [] ++ [] ≡ asks_for state.collections row row.kind o =
    elim [ None ↦ refl | Some agent ↦ signal agent ] in
    pass state.prompts.agent

-- a few wrong answers are counted
few-more : (wrong : ℕ) → wrong + 1 < 2 ^ 32 → one_more wrong ≡ wrong + 1
few-more wrong few = omega (arith, few)

module _ (conn : ConnId) (prompt : PromptId) (state : State) (row : PromptRow) (is : row_at prompt state.prompts ≡ Some row) where
  -- what is sent when a prompt is asked after one more wrong answer
  pub wrong-sends : row.wrong + 1 < 2 ^ 32
      → sent_all conn (Count_wrong prompt ∷ Ask_prompt prompt ∷ []) state ≡ asks_for state.collections (record row { wrong = row.wrong + 1 }) row.kind state.prompts.agent
  wrong-sends few =
      let f : PromptRow → PromptRow = λ r. record r { wrong = one_more r.wrong } in
      ask-sends conn prompt (record state { prompts = prompts.wronged prompt state.prompts }) (f row)
      (row-changed prompt f state.prompts (λ r. refl) ∙ ap (option_map f) is)
      ∙ ap (λ n. asks_for state.collections (record row { wrong = n }) row.kind state.prompts.agent) (few-more row.wrong few)

  -- what is sent when it advances with no wrong answers
  pub cleared-sends : sent_all conn (Clear_wrong prompt ∷ Go_on prompt ∷ []) state
      ≡ advance_sent (asked_collections (contents_of state)) state.collections (record row { wrong = 0 }) (passed_kind (asked_collections (contents_of state)) row.kind) state.prompts.agent
  cleared-sends =
      let f : PromptRow → PromptRow = λ r. record r { wrong = 0 } in
      let asks = asked_collections (contents_of state) in
      let agent = state.prompts.agent in
      append-nil (go_on_sent asks state.collections agent (row_at prompt (prompts.cleared prompt state.prompts)))
      ∙ ap (go_on_sent asks state.collections agent) (row-changed prompt f state.prompts (λ r. refl) ∙ ap (option_map f) is)

-- ---- what was made to be sent is what the changes send

module _ (conn : ConnId) (prompt : PromptId) (state : State) (sends : List Delivery) (wrong : ℕ) where
  abbrev its-row : Option PromptRow
  its-row = row_at prompt state.prompts

  abbrev HasWrong : Option PromptRow → Type 0
  HasWrong o = IfSome o (λ row. wrong ≡ row.wrong)

  abbrev AsksWith : ℕ → Option PromptRow → Type 0
  AsksWith told o = IfSome o (λ row. (rows : List ConnRow) → sends ≡ spread rows (asks_for state.collections (record row { wrong = told }) row.kind state.prompts.agent))

  pub again-sends : is_some its-row ≡ true → HasWrong its-row → AsksWith wrong its-row → (rows : List ConnRow) → sends ≡ spread rows (sent_all conn (Ask_prompt prompt ∷ []) state)
  again-sends there has asks rows =
      let pass : (o : Option PromptRow) → its-row ≡ o → is_some o ≡ true → HasWrong o → AsksWith wrong o → sends ≡ spread rows (sent_all conn (Ask_prompt prompt ∷ []) state) =
      elim [
        | None ↦ λ at some is made. absurd (let no : false ≡ true = some in cc)
        | Some row ↦ λ at some is made.
            made rows ∙ ap (λ n. spread rows (asks_for state.collections (record row { wrong = n }) row.kind state.prompts.agent)) is ∙ sym (ap (spread rows) (ask-sends conn prompt state row at))
      ] in
      pass its-row refl there has asks

  pub wronged-sends : wrong + 1 < 2 ^ 32 → is_some its-row ≡ true → HasWrong its-row → AsksWith (wrong + 1) its-row
      → (rows : List ConnRow) → sends ≡ spread rows (sent_all conn (Count_wrong prompt ∷ Ask_prompt prompt ∷ []) state)
  wronged-sends few there has asks rows =
      let pass : (o : Option PromptRow) → its-row ≡ o → is_some o ≡ true → HasWrong o → AsksWith (wrong + 1) o → sends ≡ spread rows (sent_all conn (Count_wrong prompt ∷ Ask_prompt prompt ∷ []) state) =
      elim [
        | None ↦ λ at some is made. absurd (let no : false ≡ true = some in cc)
        | Some row ↦ λ at some is made.
            made rows ∙ ap (λ n. spread rows (asks_for state.collections (record row { wrong = n + 1 }) row.kind state.prompts.agent)) is
            ∙ sym (ap (spread rows) (wrong-sends conn prompt state row at (subst (λ n. n + 1 < 2 ^ 32) is few)))
      ] in
      pass its-row refl there has asks

-- ---- what a call returned

-- what is true of a row that is there
pub if-some : {A : Type 0} (o : Option A) (P Q : A → Type 0) → ((x : A) → P x → Q x) → IfSome o P → IfSome o Q
if-some None P Q weaker is = tt
if-some (Some x) P Q weaker is = weaker x is

-- a call that asks for no storing leaves the disk alone
module _ {F S : Type 0} (folder_honest folder_steady : F → Bool) (folder_faults : F → ℕ) (images : F → List ℕ → Image) (folder_leaves : F → List ℕ → Image → Type 0) (names_made : F → List (List ℕ)) (is_honest is_steady : S → Bool) (faults moment : S → ℕ) (left_since : S → ℕ → Image → Type 0) (may_leave : S → Image → Type 0) (caller : ConnId) (brought : Brought)
    (before after : State) (old new : DiskState F S) where
  pub disk-kept : {E : Type 0} (result : Result Done E) (its_body : PublicBody) (changes : List Change)
      → IfOk result (λ done. (b : Brought) → Leads folder_honest folder_steady folder_faults images folder_leaves names_made is_honest is_steady faults moment left_since may_leave caller b (answered its_body changes) before after old new done)
      → OnErr result ((after ≡ before) × (new ≡ old)) → new ≡ old
  disk-kept (Ok done) its_body changes leads unchanged = (leads brought).disk
  disk-kept (Err e) its_body changes leads unchanged = unchanged.1

  -- what a collection leads to that opened
  pub leads-opened : (stem : List ℕ) (terms : KeyTerms) (its_body : PublicBody) (change : Change) (changes : List Change) (mid : State) (done : Done) → mid ≡ unlocked_with brought stem terms before
      → (sends : List Delivery) → sends ≡ spread before.connections.rows (sent_opened brought stem terms before) ++ done.sends
      → Leads folder_honest folder_steady folder_faults images folder_leaves names_made is_honest is_steady faults moment left_since may_leave caller brought (answered its_body (change ∷ changes)) mid after old new done
      → Leads folder_honest folder_steady folder_faults images folder_leaves names_made is_honest is_steady faults moment left_since may_leave caller brought (Opens stem terms (answered its_body (change ∷ changes))) before after old new (record done { sends = sends })
  leads-opened stem terms its_body change changes mid done same sends said leads =
      let its = subst (λ s. Leads folder_honest folder_steady folder_faults images folder_leaves names_made is_honest is_steady faults moment left_since may_leave caller brought (answered its_body (change ∷ changes)) s after old new done) same leads in
      let rows = before.connections.rows in
      let first = sent_opened brought stem terms before in
      let ran : Ran = run caller brought (answered its_body (change ∷ changes)) (fates_in done) (unlocked_with brought stem terms before) in
      record {
        answer = its.answer;
        state = its.state;
        sends = said ∙ ap (λ ds. spread rows first ++ ds) its.sends ∙ sym (spread-append rows first ran.sends);
        fates = its.fates;
        disk = its.disk;
      }

-- two facts of it are one
pub both-ok : {A E : Type 0} (result : Result A E) (P : A → Type 0) (Q : Type 0) (R : A → Type 0) → ((x : A) → P x → Q → R x) → IfOk result P → OnOk result Q → IfOk result R
both-ok (Ok x) P Q R both one other = both x one other
both-ok (Err e) P Q R both one other = tt

-- ---- what a prompt whose key was derived is for

-- what is true of each row is true of the prompt's
pub each-at : (P : PromptRow → Type 0) (prompt : PromptId) (rows : List PromptRow) → AllByRecursion P rows → IfSome (find (prompts.is_prompt prompt) rows) P
each-at P prompt [] are = tt
each-at P prompt (row ∷ rows) are =
    let pass : (b : Bool) → IfSome (cond b (Some row) (find (prompts.is_prompt prompt) rows)) P = elim [ true ↦ are.0 | false ↦ each-at P prompt rows are.1 ] in
    pass (prompts.is_prompt prompt row)

pub deriving-there : (round : ℕ) (row : Option PromptRow) → prompts.derives_in round row ≡ true → is_some row ≡ true
deriving-there round None on = on
deriving-there round (Some row) on = refl

-- it has a next round
below-last : (round last : ℕ) → round < last → round + 1 ≤ last
below-last round last less = omega (arith, less)

stage-round : (round : ℕ) (at : Stage) → prompts.is_deriving_in round at ≡ true → prompts.IsStage at → prompts.round_of at + 1 ≤ last_round
stage-round round stage.Made on is = absurd (let no : false ≡ true = on in cc)
stage-round round (stage.Asked other) on is = absurd (let no : false ≡ true = on in cc)
stage-round round (stage.Deriving other) on is = below-last other last_round is.1

row-round : (round : ℕ) (row : Option PromptRow) → prompts.derives_in round row ≡ true → IfSome row (λ r. prompts.IsStage r.stage) → next_round row ≤ last_round
row-round round None on is = absurd (let no : false ≡ true = on in cc)
row-round round (Some row) on is = stage-round round row.stage on is

pub deriving-round : (prompt : PromptId) (round : ℕ) (state : Prompts) → prompts.AreSound state → prompts.derives_in round (row_at prompt state) ≡ true → next_round (row_at prompt state) ≤ last_round
deriving-round prompt round state sound on = row-round round (row_at prompt state) on (each-at (λ row. prompts.IsStage row.stage) prompt state.rows sound.rounds)

-- the alias of a collection that it creates is one, if it is given
typed-alias : (label alias salt : List ℕ) (k : PromptKind) → IsSoundKind k → purpose.Create label alias salt ≡ purpose_of k → (alias ≡ []) ⊎ IsAliasName alias
typed-alias label alias salt (kind.Unlock targets) sound is = absurd (let no : purpose.Create label alias salt ≡ purpose.Unlock (option_map (λ (t : Target). t.stem) (first_left targets)) = is in cc)
typed-alias label alias salt (kind.Create l a s) sound is =
    let it : purpose.Create label alias salt ≡ purpose.Create l a s = is in
    let same : alias ≡ a = cc in
    elim sound.alias [ inl none ↦ inl (same ∙ none) | inr typed ↦ inr (subst IsAliasName (sym same) (is-alias a typed)) ]
typed-alias label alias salt (kind.Change stem s) sound is = absurd (let no : purpose.Create label alias salt ≡ purpose.Change stem s = is in cc)

pub create-alias : (label alias salt : List ℕ) (row : Option PromptRow) → IfSome row IsSoundPrompt → IsPurposeOf (purpose.Create label alias salt) row → (alias ≡ []) ⊎ IsAliasName alias
create-alias label alias salt None sound is = absurd is
create-alias label alias salt (Some row) sound is = typed-alias label alias salt row.kind sound.kind is

module _ (prompt : PromptId) (round : ℕ) (terms : KeyTerms) (asks : Questions) where
  abbrev by-row : Option PromptRow → Plan
  by-row row = row_derived prompt round row terms asks

  abbrev by-kind : ℕ → PromptKind → Plan
  by-kind wrong k = kind_derived prompt wrong k terms asks

  abbrev by-opening : ℕ → List ℕ → Plan
  by-opening wrong stem = opening_ended prompt wrong stem terms (asks.files.opening terms stem)

  -- a key that comes too late
  pub late-plan : (row : Option PromptRow) → prompts.derives_in round row ≡ false → by-row row ≡ quietly []
  late-plan None off = refl
  late-plan (Some row) off = ap (λ b. cond b (by-kind row.wrong row.kind) (quietly [])) off

  row-plan : (row : PromptRow) → prompts.is_deriving_in round row.stage ≡ true → by-row (Some row) ≡ by-kind row.wrong row.kind
  row-plan row on = ap (λ b. cond b (by-kind row.wrong row.kind) (quietly [])) on

  -- a target is left
  left-plan : (wrong : ℕ) (stem : List ℕ) (left : List Target) → Some stem ≡ option_map (λ (t : Target). t.stem) (first_of left) → left_derived prompt wrong left terms asks ≡ by-opening wrong stem
  left-plan wrong stem [] is = absurd (let no : Some stem ≡ None = is in cc)
  left-plan wrong stem (target ∷ left) is =
      let it : Some stem ≡ Some target.stem = is in
      let same : stem ≡ target.stem = cc in
      ap (by-opening wrong) (sym same)

  target-kind : (wrong : ℕ) (stem : List ℕ) (k : PromptKind) → purpose.Unlock (Some stem) ≡ purpose_of k → by-kind wrong k ≡ by-opening wrong stem
  target-kind wrong stem (kind.Unlock targets) is =
      let it : purpose.Unlock (Some stem) ≡ purpose.Unlock (option_map (λ (t : Target). t.stem) (first_left targets)) = is in
      let same : Some stem ≡ option_map (λ (t : Target). t.stem) (first_left targets) = cc in
      left-plan wrong stem targets.left same
  target-kind wrong stem (kind.Create label alias salt) is = absurd (let no : purpose.Unlock (Some stem) ≡ purpose.Create label alias salt = is in cc)
  target-kind wrong stem (kind.Change other salt) is = absurd (let no : purpose.Unlock (Some stem) ≡ purpose.Change other salt = is in cc)

  pub to-target : (To : Plan → Type 0) (row : Option PromptRow) (stem : List ℕ) → prompts.derives_in round row ≡ true → IsPurposeOf (purpose.Unlock (Some stem)) row
      → IfSome row (λ r. To (by-opening r.wrong stem)) → To (by-row row)
  to-target To None stem on is to = absurd is
  to-target To (Some row) stem on is to = subst To (sym (row-plan row on ∙ target-kind row.wrong stem row.kind is)) to

  -- none is left
  none-left : (wrong : ℕ) (left : List Target) → None ≡ option_map (λ (t : Target). t.stem) (first_of left) → left_derived prompt wrong left terms asks ≡ quietly (Go_on prompt ∷ [])
  none-left wrong [] is = refl
  none-left wrong (target ∷ left) is = absurd (let no : None ≡ Some target.stem = is in cc)

  none-kind : (wrong : ℕ) (k : PromptKind) → purpose.Unlock None ≡ purpose_of k → by-kind wrong k ≡ quietly (Go_on prompt ∷ [])
  none-kind wrong (kind.Unlock targets) is =
      let it : purpose.Unlock None ≡ purpose.Unlock (option_map (λ (t : Target). t.stem) (first_left targets)) = is in
      let same : None ≡ option_map (λ (t : Target). t.stem) (first_left targets) = cc in
      none-left wrong targets.left same
  none-kind wrong (kind.Create label alias salt) is = absurd (let no : purpose.Unlock None ≡ purpose.Create label alias salt = is in cc)
  none-kind wrong (kind.Change stem salt) is = absurd (let no : purpose.Unlock None ≡ purpose.Change stem salt = is in cc)

  pub none-plan : (row : Option PromptRow) → prompts.derives_in round row ≡ true → IsPurposeOf (purpose.Unlock None) row → by-row row ≡ quietly (Go_on prompt ∷ [])
  none-plan None on is = absurd is
  none-plan (Some row) on is = row-plan row on ∙ none-kind row.wrong row.kind is

  -- a collection is created
  create-kind : (wrong : ℕ) (label alias salt : List ℕ) (k : PromptKind) → purpose.Create label alias salt ≡ purpose_of k → by-kind wrong k ≡ collection_made prompt label alias salt terms asks
  create-kind wrong label alias salt (kind.Unlock targets) is = absurd (let no : purpose.Create label alias salt ≡ purpose.Unlock (option_map (λ (t : Target). t.stem) (first_left targets)) = is in cc)
  create-kind wrong label alias salt (kind.Create l a s) is =
      let it : purpose.Create label alias salt ≡ purpose.Create l a s = is in
      let one : label ≡ l = cc in
      let two : alias ≡ a = cc in
      let three : salt ≡ s = cc in
      λ i. collection_made prompt (sym one i) (sym two i) (sym three i) terms asks
  create-kind wrong label alias salt (kind.Change stem s) is = absurd (let no : purpose.Create label alias salt ≡ purpose.Change stem s = is in cc)

  pub create-plan : (label alias salt : List ℕ) (row : Option PromptRow) → prompts.derives_in round row ≡ true → IsPurposeOf (purpose.Create label alias salt) row
      → by-row row ≡ collection_made prompt label alias salt terms asks
  create-plan label alias salt None on is = absurd is
  create-plan label alias salt (Some row) on is = row-plan row on ∙ create-kind row.wrong label alias salt row.kind is

  -- a password is changed
  change-kind : (wrong : ℕ) (stem salt : List ℕ) (k : PromptKind) → purpose.Change stem salt ≡ purpose_of k → by-kind wrong k ≡ password_changed prompt stem salt terms asks
  change-kind wrong stem salt (kind.Unlock targets) is = absurd (let no : purpose.Change stem salt ≡ purpose.Unlock (option_map (λ (t : Target). t.stem) (first_left targets)) = is in cc)
  change-kind wrong stem salt (kind.Create label alias s) is = absurd (let no : purpose.Change stem salt ≡ purpose.Create label alias s = is in cc)
  change-kind wrong stem salt (kind.Change other s) is =
      let it : purpose.Change stem salt ≡ purpose.Change other s = is in
      let one : stem ≡ other = cc in
      let two : salt ≡ s = cc in
      λ i. password_changed prompt (sym one i) (sym two i) terms asks

  pub change-plan : (stem salt : List ℕ) (row : Option PromptRow) → prompts.derives_in round row ≡ true → IsPurposeOf (purpose.Change stem salt) row
      → by-row row ≡ password_changed prompt stem salt terms asks
  change-plan stem salt None on is = absurd is
  change-plan stem salt (Some row) on is = row-plan row on ∙ change-kind row.wrong stem salt row.kind is

-- ---- what a refusal leaves

-- what is true of each refusal
pub map-err : {A E : Type 0} (result : Result A E) (P Q : Type 0) → (P → Q) → OnErr result P → OnErr result Q
map-err (Ok x) P Q weaker is = tt
map-err (Err e) P Q weaker is = weaker is

-- a plan said otherwise makes the same slot
pub keeps-as : {F S : Type 0} (folder_honest folder_steady : F → Bool) (folder_faults : F → ℕ) (images : F → List ℕ → Image)
    (folder_leaves : F → List ℕ → Image → Type 0) (names_made : F → List (List ℕ)) (is_honest is_steady : S → Bool) (faults : S → ℕ)
    (left_since : S → ℕ → Image → Type 0) (old new : DiskState F S) (plan other : Plan) → plan ≡ other
    → KeepsSlotOrAll folder_honest folder_steady folder_faults images folder_leaves names_made is_honest is_steady faults left_since other old new
    → KeepsSlotOrAll folder_honest folder_steady folder_faults images folder_leaves names_made is_honest is_steady faults left_since plan old new
keeps-as folder_honest folder_steady folder_faults images folder_leaves names_made is_honest is_steady faults left_since old new plan other same its =
    subst (λ p. KeepsSlotOrAll folder_honest folder_steady folder_faults images folder_leaves names_made is_honest is_steady faults left_since p old new) (sym same) its

-- ---- what a derived key leads to

-- what is answered once a collection was made
given-promised : (caller : ConnId) (state : State) (prompt : PromptId) (alias stem : List ℕ) → promised caller state (alias_given prompt alias stem) ≡ Ok body.Empty
given-promised caller state prompt [] stem = refl
given-promised caller state prompt (byte ∷ bytes) stem = refl

module _ {F S : Type 0} (folder_honest folder_steady : F → Bool) (folder_faults : F → ℕ) (images : F → List ℕ → Image) (folder_leaves : F → List ℕ → Image → Type 0) (names_made : F → List (List ℕ)) (is_honest is_steady : S → Bool) (faults moment : S → ℕ) (left_since : S → ℕ → Image → Type 0) (may_leave : S → Image → Type 0) (caller : ConnId) (brought : Brought)
    (before after : State) (old new : DiskState F S) where
  abbrev Ends-in : Plan → Done → Type 0
  Ends-in plan done = Leads folder_honest folder_steady folder_faults images folder_leaves names_made is_honest is_steady faults moment left_since may_leave caller brought plan before after old new done

  abbrev Settles-in : Plan → Settled → Type 0
  Settles-in plan settled = Settles folder_honest folder_steady folder_faults images folder_leaves names_made is_honest is_steady faults moment left_since may_leave caller brought plan before after old new settled

  -- one that makes no collection
  pub settles-unmade : (plan : Plan) (done : Done) (settled : Settled) → settled ≡ record { made = None; done = done } → Ends-in plan done → Settles-in plan settled
  settles-unmade plan done settled is leads =
      subst (Settles-in plan) (sym is) (record { state = leads.state; sends = leads.sends; fates = leads.fates; disk = leads.disk })

  -- one that comes too late
  pub settles-late : (plan : Plan) (done : Done) (settled : Settled) → settled ≡ record { made = None; done = done } → done ≡ record { answer = Ok body.Empty; sends = []; read = None; fate = None }
      → plan ≡ quietly [] → after ≡ before → new ≡ old → Settles-in plan settled
  settles-late plan done settled first second same state disk =
      settles-unmade plan done settled first
      (subst (λ (p : Plan). Ends-in p done) (sym same)
      (leads-changes folder_honest folder_steady folder_faults images folder_leaves names_made is_honest is_steady faults moment left_since may_leave caller brought before after old new public.Empty [] done
      (ap (λ (d : Done). d.answer) second) (ap (λ (d : Done). d.sends) second) (ap (λ (d : Done). d.read) second) (ap (λ (d : Done). d.fate) second) empty-small state disk))

  -- one plan is another
  pub settles-as : (plan other : Plan) (settled : Settled) → plan ≡ other → Settles-in other settled → Settles-in plan settled
  settles-as plan other settled same its = subst (λ p. Settles-in p settled) (sym same) its

  -- one that asks something of the disk continues by how that ended
  pub settles-asked : (demand : Demand) (next : StoreFate → Plan) (mid : DiskState F S) (some : StoreFate) (done : Done) (sends : List Delivery) → fits (promised caller before (next stored.Stored)) ≡ true
      → sends ≡ spread before.connections.rows (sent_asked brought demand some before) ++ done.sends
      → StoresDemand folder_honest folder_steady folder_faults images folder_leaves names_made is_honest is_steady faults moment left_since may_leave demand some (contents_of before) (contents_of (demanded brought demand some before)) old mid
      → Settles folder_honest folder_steady folder_faults images folder_leaves names_made is_honest is_steady faults moment left_since may_leave caller brought (next some) (demanded brought demand some before) after mid new (record { made = None; done = done })
      → Settles-in (Asks demand next) (record { made = Some some; done = record done { sends = sends } })
  settles-asked demand next mid some done sends small said did its =
      let from = demanded brought demand some before in
      let rows = before.connections.rows in
      let first = sent_asked brought demand some before in
      let after_it : Ran = run caller brought (next some) (fates_in done) from in
      let ran : run caller brought (Asks demand next) (settled_fates (record { made = Some some; done = done })) before ≡ sending first after_it =
      ap (λ b. by_test b (sending first after_it) (failing name.LimitsExceeded before)) small in
      record {
        state = its.state ∙ ap (λ (r : Ran). r.state) (sym ran);
        sends = said ∙ ap (λ ds. spread rows first ++ ds) its.sends ∙ sym (spread-append rows first after_it.sends) ∙ ap (λ (r : Ran). spread rows r.sends) (sym ran);
        fates = subst (λ b. by_test b (AreFates caller brought (next some) (fates_in done) from) (AreNone (settled_fates (record { made = Some some; done = done })))) (sym small) its.fates;
        disk = subst (λ b. by_test b ((at : DiskState F S) × StoresDemand folder_honest folder_steady folder_faults images folder_leaves names_made is_honest is_steady faults moment left_since may_leave demand some (contents_of before) (contents_of from) old at
            × StoresOf folder_honest folder_steady folder_faults images folder_leaves names_made is_honest is_steady faults moment left_since may_leave caller brought (next some) (fates_in done) from at new) (new ≡ old)) (sym small) (mid, did, its.disk);
      }

  -- one that makes a collection
  module _ (prompt : PromptId) (alias stem label : List ℕ) (terms : KeyTerms) (middle : State) (mid : DiskState F S) where
    abbrev Made-plan : Plan
    Made-plan = Asks (Make stem label terms) (making_ended prompt alias stem)

    abbrev After-making : StoreFate → State → Done → Type 0
    After-making some from done =
        Settles folder_honest folder_steady folder_faults images folder_leaves names_made is_honest is_steady faults moment left_since may_leave caller brought (making_ended prompt alias stem some) from after mid new (record { made = None; done = done })

    abbrev Was-made : StoreFate → Rows → Rows → DiskState F S → Type 0
    Was-made some these those was = MakesAt folder_honest folder_steady folder_faults images folder_leaves names_made is_honest is_steady faults moment left_since may_leave stem some these those was mid

    would-fit : fits (promised caller before (making_ended prompt alias stem stored.Stored)) ≡ true
    would-fit = ap fits (given-promised caller before prompt alias stem) ∙ empty-small

    made-settles : (some : StoreFate) (done : Done) (sends : List Delivery) → sends ≡ spread before.connections.rows (sent_asked brought (Make stem label terms) some before) ++ done.sends → Was-made some before.collections (demanded brought (Make stem label terms) some before).collections old
        → After-making some (demanded brought (Make stem label terms) some before) done → Settles-in Made-plan (record { made = Some some; done = record done { sends = sends } })
    made-settles some done sends said made its = settles-asked (Make stem label terms) (making_ended prompt alias stem) mid some done sends would-fit said made its

    -- from a state and a disk that are equal
    pub settles-made : (some : StoreFate) (done : Done) (sends : List Delivery) → sends ≡ spread before.connections.rows (sent_asked brought (Make stem label terms) some before) ++ done.sends → (these : Rows) (was : DiskState F S) → middle ≡ demanded brought (Make stem label terms) some before → these ≡ before.collections → was ≡ old
        → Was-made some these middle.collections was → After-making some middle done → Settles-in Made-plan (record { made = Some some; done = record done { sends = sends } })
    settles-made some done sends said these was state rows disk made its =
        made-settles some done sends said
        (subst (λ r. Was-made some r (demanded brought (Make stem label terms) some before).collections old) rows
        (subst (λ (s : State). Was-made some these s.collections old) state (subst (Was-made some these middle.collections) disk made)))
        (subst (λ s. After-making some s done) state its)

-- ---- the same from a state and a disk that are equal

pub if-all : {A : Type 0} (o : Option A) (P : A → Type 0) → ((x : A) → P x) → IfSome o P
if-all None P is = tt
if-all (Some x) P is = is x

module _ {F S : Type 0} (folder_honest folder_steady : F → Bool) (folder_faults : F → ℕ) (images : F → List ℕ → Image) (folder_leaves : F → List ℕ → Image → Type 0) (names_made : F → List (List ℕ)) (is_honest is_steady : S → Bool) (faults moment : S → ℕ) (left_since : S → ℕ → Image → Type 0) (may_leave : S → Image → Type 0) (caller : ConnId) (brought : Brought)
    (before after : State) (old new : DiskState F S) where
  pub leads-from : (plan other : Plan) (mid : State) (was : DiskState F S) (done : Done) → plan ≡ other → mid ≡ before → was ≡ old
      → Leads folder_honest folder_steady folder_faults images folder_leaves names_made is_honest is_steady faults moment left_since may_leave caller brought other mid after was new done
      → Leads folder_honest folder_steady folder_faults images folder_leaves names_made is_honest is_steady faults moment left_since may_leave caller brought plan before after old new done
  leads-from plan other mid was done same state disk leads =
      subst (λ p. Leads folder_honest folder_steady folder_faults images folder_leaves names_made is_honest is_steady faults moment left_since may_leave caller brought p before after old new done) (sym same)
      (subst (λ s. Leads folder_honest folder_steady folder_faults images folder_leaves names_made is_honest is_steady faults moment left_since may_leave caller brought other s after old new done) state
      (subst (λ d. Leads folder_honest folder_steady folder_faults images folder_leaves names_made is_honest is_steady faults moment left_since may_leave caller brought other mid after d new done) disk leads))
