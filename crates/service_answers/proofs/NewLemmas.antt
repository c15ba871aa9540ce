-- What a derived key leads to that makes a collection: its stem and its alias, and how its prompt ends.
use Rattle.std.proofs.Common.{◌≡◌, ◌↔◌, ◌+◌, ◌&&◌, nat_le, ℕ, suc, arith, ◌==◌, Bool, Decides, true, false, cond, IfOk, IfNone, IfSome, IsTrue, Contains, List, [], ◌∷◌, ◌++◌, length, ◌⊎◌, inl, inr, Option, Some, None, Result, Ok, Err, refl, sym, ap, subst, ◌∙◌}
use Rattle.std.specs.Cmp.Lexicographic.{slice_cmp, nat_list_cmp_total}
use Rattle.std.specs.List.{AllByRecursion, cons_option}
use Rattle.std.specs.Option.{is_some, option_map}
use Rattle.std.specs.Ordering.{nat_cmp, is_eq}
use Rattle.std.proofs.lemmas.Bool.{eqb-true}
use Rattle.std.proofs.lemmas.Bool.Decides.{nat_tests}
use Rattle.std.proofs.lemmas.Cmp.{tied_itself}
use Rattle.std.proofs.lemmas.List.{append-nil}
use Rattle.std.proofs.lemmas.Map.Lookups.{exact_bytes}
use Rattle.std.proofs.lemmas.Map.Made.{is_member-Decides}
use Rattle.kr_base.specs.Attributes.{is_name, value_at}
use Rattle.kr_base.specs.declared.ids.ConnId.{ConnId}
use Rattle.kr_base.specs.declared.ids.PromptId.{PromptId}
use Rattle.kr_base.proofs.OrderedLemmas.{is_equal}
use Rattle.kr_outside.specs.RenameDisk.{Image}
use Rattle.service_calls.specs.alias_table.specs.Table.{AliasRows, Change as AliasChange}
use Rattle.service_calls.specs.folder_store.specs.Limits.{the_limits}
use Rattle.service_calls.specs.collection_table.specs.Entries.{inserted}
use Rattle.service_calls.specs.collection_table.specs.Rows.{CollectionRow, Rows, has}
use Rattle.prompt_state.specs.Prompts as prompts
use Rattle.prompt_state.specs.Prompts.{row_at}
use Rattle.prompt_state.specs.declared.row.PromptRow.{PromptRow}
use Rattle.prompt_state.specs.declared.row.Prompts.{Prompts}
use Rattle.service_calls.specs.secret_calls.specs.declared.out.Body.TheVariants as body
use Rattle.service_calls.specs.secret_calls.specs.declared.out.ErrorName.TheVariants as name
use Rattle.stem_choice.specs.UsedStems.{is_used}
use Rattle.service_calls.specs.service_prompts.specs.Prompting.{completed_sent, completed_signal}
use Rattle.service_calls.specs.service_disk.specs.Making.{AreFree}
use Rattle.service_calls.specs.service_tables.specs.Aliases.{IsPreparedFor, IsPreparedIn, are_doubtful}
use Rattle.service_calls.specs.service_tables.specs.Connections.{spread}
use Rattle.service_calls.specs.service_tables.specs.Disk.{DiskState}
use Rattle.service_calls.specs.service_tables.specs.Opened.{contents_of}
use Rattle.service_calls.specs.service_tables.specs.State.{State}
use Rattle.service_calls.specs.service_tables.specs.Storing.{Brought}
use Rattle.service_calls.specs.service_tables.specs.declared.fate.ReadFate.{ReadFate}
use Rattle.service_calls.specs.service_tables.specs.declared.fate.StoreFate.{StoreFate}
use Rattle.service_calls.specs.service_tables.specs.declared.fate.StoreFate.TheVariants as stored
use Rattle.service_calls.specs.service_tables.specs.signal_fanout.specs.declared.rows.ConnRow.{ConnRow}
use Rattle.service_calls.specs.service_tables.specs.signal_fanout.specs.declared.rows.Delivery.{Delivery}
use Rattle.service_calls.specs.service_events.specs.AliasCalls.{alias_settled, alias_stored}
use Rattle.service_calls.specs.service_events.specs.Derivation.{alias_given, are_terms, can_make, collection_made, completing, dismissing, making_ended, new_iterations, quietly}
use Rattle.service_calls.specs.service_events.specs.Plan.{Aliases_file, Asks, Change, End_prompt, KeyTerms, Make, Plan, Questions, Set_alias, followed, refused}
use Rattle.service_answers.specs.Purposes.{SetsAlias}
use Rattle.service_calls.specs.service_events.specs.Run.{asked, performed_all, sent_all}
use Rattle.service_calls.specs.service_events.specs.CollectionCalls.{by_fate}
use Rattle.service_calls.specs.service_events.specs.PublicBody as public
use Rattle.service_calls.specs.Done.{Leads}
use Rattle.service_answers.specs.Settled.{Settles, ended_sent}
use Rattle.service_calls.specs.declared.storing.Done.{Done}
use Rattle.service_calls.specs.service_events.proofs.SmallLemmas.{empty-small}
use Rattle.service_calls.proofs.LeadsLemmas.{leads-changes, settles-known}
use Rattle.service_answers.proofs.DerivedLemmas.{settles-unmade}
use Rattle.service_answers.proofs.FollowedLemmas.{AreShort, leads-followed}

-- ---- a new collection

-- a stem that isn't used is no collection's
pub unlisted : (stem : List ℕ) (used : List (List ℕ)) (rows : Rows) → is_used stem used ≡ false → AllByRecursion (λ (row : List ℕ × CollectionRow). IsTrue (is_used row.0 used)) rows → has stem rows ≡ false
unlisted stem used [] off taken = refl
unlisted stem used (row ∷ rows) off taken =
    let pass : (b : Bool) → is_name stem row.0 ≡ b → is_some (cond b (Some row.1) (value_at stem rows)) ≡ false =
    elim [
      | true ↦ λ is.
          let same : stem ≡ row.0 = exact_bytes stem row.0 (is_equal (slice_cmp nat_cmp stem row.0) is) in
          absurd (let no : false ≡ true = sym off ∙ ap (λ s. is_used s used) same ∙ taken.0 in cc)
      | false ↦ λ is. unlisted stem used rows off taken.1
    ] in
    pass (is_name stem row.0) refl

pub same-name : (a b : List ℕ) → Decides (is_name a b) (a ≡ b)
same-name a b = (λ is. exact_bytes a b (is_equal (slice_cmp nat_cmp a b) is), λ same. subst (λ n. is_name a n ≡ true) same (ap is_eq (tied_itself nat_list_cmp_total a)))

pub unused : (stem : List ℕ) (used : List (List ℕ)) → is_used stem used ≡ false → Contains used stem → ⊥
unused stem used off is = let no : false ≡ true = sym off ∙ (is_member-Decides same-name used stem).1 is in cc

-- an alias of no bytes is none
pub empty-is : (bytes : List ℕ) → (length bytes == 0) ≡ true → bytes ≡ []
empty-is [] is = refl
empty-is (byte ∷ bytes) is = absurd (let same : suc (length bytes) ≡ 0 = eqb-true (length (byte ∷ bytes)) 0 is in let no : ⊥ = omega (arith, same) in no)

pub empty-not : (bytes : List ℕ) → (length bytes == 0) ≡ false → bytes ≡ [] → ⊥
empty-not [] off none = let no : true ≡ false = off in cc
empty-not (byte ∷ bytes) off none = let no : byte ∷ bytes ≡ [] = none in cc

-- two facts of what a call returned are one
pub each-ok : {A E : Type 0} (result : Result A E) (P Q R : A → Type 0) → ((x : A) → P x → Q x → R x) → IfOk result P → IfOk result Q → IfOk result R
each-ok (Ok x) P Q R both one other = both x one other
each-ok (Err e) P Q R both one other = tt

-- what sets its alias
module _ (alias stem : List ℕ) (collections : Rows) (aliases : Option AliasRows) where
  pub sets-change : (o : Option AliasChange) → (alias ≡ [] → ⊥) → IfSome o (λ change. (row : CollectionRow) → IsPreparedIn alias (Some stem) (inserted stem row collections) change aliases)
      → IfNone o (aliases ≡ None) → (row : CollectionRow) → SetsAlias alias stem (inserted stem row collections) aliases o
  sets-change None given prepared none row = inr none
  sets-change (Some change) given prepared none row = (given, prepared row)

-- a change that sets it was prepared for it
pub sets-prepared : (alias stem : List ℕ) (collections : Rows) (aliases : Option AliasRows) (o : Option AliasChange) → SetsAlias alias stem collections aliases o
    → IfSome o (λ change. (alias : List ℕ) × (stem : Option (List ℕ)) × IsPreparedIn alias stem collections change aliases)
sets-prepared alias stem collections aliases None sets = tt
sets-prepared alias stem collections aliases (Some change) sets = (alias, Some stem, sets.1)

-- ---- its prompt ends

-- it wasn't stored, or that isn't known
pub ended-dismissed : (prompt : PromptId) (alias stem : List ℕ) (some : StoreFate) → (some ≡ stored.Stored → ⊥) → making_ended prompt alias stem some ≡ dismissing prompt
ended-dismissed prompt alias stem stored.Stored apart = absurd (apart refl)
ended-dismissed prompt alias stem stored.Before apart = refl
ended-dismissed prompt alias stem stored.Unsure apart = refl

-- then this is sent
pub sent-dismissed : (prompt : PromptId) (stem : List ℕ) (some : StoreFate) (its : Prompts) → (some ≡ stored.Stored → ⊥) → ended_sent prompt stem some its ≡ completed_sent prompt true None its
sent-dismissed prompt stem stored.Stored its apart = absurd (apart refl)
sent-dismissed prompt stem stored.Before its apart = refl
sent-dismissed prompt stem stored.Unsure its apart = refl

-- it goes to the owner, whoever is there
completed-anyway : (prompt : PromptId) (dismissed : Bool) (created : Option (List ℕ)) (its : Prompts) (these those : List ConnRow)
    → spread these (completed_sent prompt dismissed created its) ≡ spread those (completed_sent prompt dismissed created its)
completed-anyway prompt dismissed created its these those =
    let pass : (o : Option PromptRow) → spread these (cons_option (option_map (λ (row : PromptRow). completed_signal dismissed created (prompts.ended_row row)) o) [])
    ≡ spread those (cons_option (option_map (λ (row : PromptRow). completed_signal dismissed created (prompts.ended_row row)) o) []) =
    elim [ None ↦ refl | Some row ↦ refl ] in
    pass (row_at prompt its)

pub ended-anyway : (prompt : PromptId) (stem : List ℕ) (some : StoreFate) (its : Prompts) (these those : List ConnRow) → spread these (ended_sent prompt stem some its) ≡ spread those (ended_sent prompt stem some its)
ended-anyway prompt stem stored.Stored its these those = completed-anyway prompt false (Some stem) its these those
ended-anyway prompt stem stored.Before its these those = completed-anyway prompt true None its these those
ended-anyway prompt stem stored.Unsure its these those = completed-anyway prompt true None its these those

given-followed : (prompt : PromptId) (alias stem : List ℕ) → (alias ≡ [] → ⊥) → alias_given prompt alias stem ≡ followed (completing prompt stem) (alias_settled alias (Some stem))
given-followed prompt [] stem given = absurd (given refl)
given-followed prompt (byte ∷ bytes) stem given = refl

-- none of the answers of what sets an alias is large
fate-short : (ended : StoreFate) → AreShort (by_fate public.Empty ended)
fate-short stored.Stored = empty-small
fate-short stored.Before = tt
fate-short stored.Unsure = tt

stored-short : (alias : List ℕ) (stem : Option (List ℕ)) (its : Questions) → AreShort (alias_stored alias stem its)
stored-short alias stem its =
    let pass : (b : Bool) → AreShort (cond b (Asks (Set_alias alias stem) (by_fate public.Empty)) (refused name.LimitsExceeded)) = elim [ true ↦ fate-short | false ↦ tt ] in
    pass (its.aliases.can_set alias stem)

settled-short : (alias : List ℕ) (stem : Option (List ℕ)) → AreShort (alias_settled alias stem)
settled-short alias stem = (tt, stored-short alias stem)

module _ {F S : Type 0} (folder_honest folder_steady : F → Bool) (folder_faults : F → ℕ) (images : F → List ℕ → Image) (folder_leaves : F → List ℕ → Image → Type 0) (names_made : F → List (List ℕ)) (is_honest is_steady : S → Bool) (faults moment : S → ℕ) (left_since : S → ℕ → Image → Type 0) (may_leave : S → Image → Type 0) (caller : ConnId) (brought : Brought)
    (prompt : PromptId) (alias stem : List ℕ) (before after : State) (sends : List Delivery) where
  -- what this led to, of which no one gets an answer
  abbrev done-with : Option ReadFate → Option StoreFate → Done
  done-with read some = record { answer = Ok body.Empty; sends = sends; read = read; fate = some }

  abbrev Quietly-in : DiskState F S → DiskState F S → Plan → Option ReadFate → Option StoreFate → Type 0
  Quietly-in old new plan read some =
      Settles folder_honest folder_steady folder_faults images folder_leaves names_made is_honest is_steady faults moment left_since may_leave caller brought plan before after old new (record { made = None; done = done-with read some })

  abbrev Done-in : DiskState F S → DiskState F S → Plan → Type 0
  Done-in old new plan = Leads folder_honest folder_steady folder_faults images folder_leaves names_made is_honest is_steady faults moment left_since may_leave caller brought plan before after old new (done-with None None)

  quiet-done : (old new : DiskState F S) (plan : Plan) → Done-in old new plan → Quietly-in old new plan None None
  quiet-done old new plan leads =
      settles-unmade folder_honest folder_steady folder_faults images folder_leaves names_made is_honest is_steady faults moment left_since may_leave caller brought before after old new plan (done-with None None) (record { made = None; done = done-with None None }) refl leads

  -- these changes alone were performed
  changes-done : (changes : List Change) (old new : DiskState F S) → after ≡ performed_all caller changes before → sends ≡ spread before.connections.rows (sent_all caller changes before) → new ≡ old
      → Done-in old new (quietly changes)
  changes-done changes old new state made disk =
      leads-changes folder_honest folder_steady folder_faults images folder_leaves names_made is_honest is_steady faults moment left_since may_leave caller brought before after old new public.Empty changes (done-with None None) refl made refl refl empty-small state disk

  -- it ends dismissed
  pub settles-dismissed : (some : StoreFate) (disk : DiskState F S) → (some ≡ stored.Stored → ⊥) → after ≡ record before { prompts = prompts.ended prompt before.prompts }
      → ((rows : List ConnRow) → sends ≡ spread rows (completed_sent prompt true None before.prompts)) → Quietly-in disk disk (making_ended prompt alias stem some) None None
  settles-dismissed some disk apart state made =
      subst (λ p. Quietly-in disk disk p None None) (sym (ended-dismissed prompt alias stem some apart))
      (quiet-done disk disk (dismissing prompt)
      (changes-done (End_prompt prompt true None ∷ []) disk disk state
      (made before.connections.rows ∙ ap (spread before.connections.rows) (sym (append-nil (completed_sent prompt true None before.prompts)))) refl))

  -- the file of the aliases was left alone, so no alias is set
  left-alone : (given : List ℕ) → before.aliases ≡ None → (old new : DiskState F S) → Done-in old new (quietly (completing prompt stem)) → Done-in old new (alias_given prompt given stem)
  left-alone [] left old new leads = leads
  left-alone (byte ∷ bytes) left old new leads =
      let next : Questions → Plan = λ its. followed (completing prompt stem) (alias_stored (byte ∷ bytes) (Some stem) its) in
      let goes : next (asked caller brought before) ≡ quietly (completing prompt stem) = ap (λ (aliases : Option AliasRows). next (asked caller brought (record before { aliases = aliases }))) left in
      settles-known folder_honest folder_steady folder_faults images folder_leaves names_made is_honest is_steady faults moment left_since may_leave caller brought Aliases_file (followed (completing prompt stem) (refused name.IOError)) next before after old new (done-with None None)
      (ap are_doubtful left) (subst (Done-in old new) (sym goes) leads)

  given-none : (alias ≡ []) ⊎ (before.aliases ≡ None) → (old new : DiskState F S) → Done-in old new (quietly (completing prompt stem)) → Done-in old new (alias_given prompt alias stem)
  given-none why old new leads =
      elim why [ inl none ↦ subst (λ a. Done-in old new (alias_given prompt a stem)) (sym none) leads | inr left ↦ left-alone alias left old new leads ]

  -- it ends completed
  module _ (mid : State) (old new : DiskState F S) (set : Done) (performs : after ≡ record mid { prompts = prompts.ended prompt mid.prompts }) (same : mid.prompts ≡ before.prompts) (silent : set.sends ≡ [])
      (made : (rows : List ConnRow) → sends ≡ spread rows (completed_sent prompt false (Some stem) before.prompts)) where
    abbrev Led-to : Plan → Type 0
    Led-to plan = Leads folder_honest folder_steady folder_faults images folder_leaves names_made is_honest is_steady faults moment left_since may_leave caller brought plan before mid old new set

    without-alias : (alias ≡ []) ⊎ (before.aliases ≡ None) → mid ≡ before → new ≡ old → Quietly-in old new (alias_given prompt alias stem) None None
    without-alias why state disk =
        quiet-done old new (alias_given prompt alias stem)
        (given-none why old new
        (changes-done (completing prompt stem) old new (performs ∙ ap (λ (s : State). record s { prompts = prompts.ended prompt s.prompts }) state)
        (made before.connections.rows ∙ ap (spread before.connections.rows) (sym (append-nil (completed_sent prompt false (Some stem) before.prompts)))) disk))

    with-alias : (plan : Plan) → AreShort plan → alias_given prompt alias stem ≡ followed (completing prompt stem) plan → Led-to plan → Quietly-in old new (alias_given prompt alias stem) set.read set.fate
    with-alias plan short goes leads =
        let rows = before.connections.rows in
        let after-sends : sends ≡ set.sends ++ spread rows (sent_all caller (completing prompt stem) mid) =
        made rows ∙ ap (λ p. spread rows (completed_sent prompt false (Some stem) p)) (sym same) ∙ ap (spread rows) (sym (append-nil (completed_sent prompt false (Some stem) mid.prompts)))
        ∙ ap (λ s. s ++ spread rows (sent_all caller (completing prompt stem) mid)) (sym silent) in
        let its = leads-followed folder_honest folder_steady folder_faults images folder_leaves names_made is_honest is_steady faults moment left_since may_leave caller brought (completing prompt stem) plan short before mid after old new new set sends leads performs after-sends refl in
        subst (λ p. Quietly-in old new p set.read set.fate) (sym goes) (record { state = its.0; sends = its.1; fates = its.2; disk = its.3 })

    pub settles-completed : (o : Option AliasChange) → SetsAlias alias stem before.collections before.aliases o
        → IfSome o (λ change. (conn : ConnId) (its : Brought) (name : List ℕ) (target : Option (List ℕ)) → IsPreparedFor name target (contents_of before) change
        → Leads folder_honest folder_steady folder_faults images folder_leaves names_made is_honest is_steady faults moment left_since may_leave conn its (alias_settled name target) before mid old new set)
        → IfNone o ((mid ≡ before) × (new ≡ old) × (set ≡ record { answer = Ok body.Empty; sends = []; read = None; fate = None }))
        → Quietly-in old new (alias_given prompt alias stem) set.read set.fate
    settles-completed None sets some none =
        subst (λ (d : Done). Quietly-in old new (alias_given prompt alias stem) d.read d.fate) (sym none.2) (without-alias sets none.0 none.1)
    settles-completed (Some change) sets some none =
        with-alias (alias_settled alias (Some stem)) (settled-short alias (Some stem)) (given-followed prompt alias stem sets.0) (some caller brought alias (Some stem) sets.1)

-- ---- stems that aren't used

-- are free as before once the aliases were stored
pub free-aliases : {F S : Type 0} (folder_honest : F → Bool) (images : F → List ℕ → Image) (folder_leaves : F → List ℕ → Image → Type 0) (names_made : F → List (List ℕ)) (is_honest : S → Bool) (may_leave : S → Image → Type 0)
    (old new : DiskState F S) → new ≡ record old { aliases = new.aliases } → AreFree folder_honest images folder_leaves names_made is_honest may_leave old → AreFree folder_honest images folder_leaves names_made is_honest may_leave new
free-aliases folder_honest images folder_leaves names_made is_honest may_leave old new rest free =
    subst (AreFree folder_honest images folder_leaves names_made is_honest may_leave) (sym rest)
    (λ stem apart. let its = free stem apart in record { unmade = its.unmade; kept = its.kept })

-- ---- whether it can be made

both-of : (a b : Bool) → (a && b) ≡ true → (a ≡ true) × (b ≡ true)
both-of true true is = (refl, refl)
both-of true false is = absurd (let no : false ≡ true = is in cc)
both-of false b is = absurd (let no : false ≡ true = is in cc)

number-same : (a b : ℕ) → a ≡ b → (a == b) ≡ true
number-same a b is = grind (arith, nat_tests, is)

-- the terms are those of the work, or they aren't
pub terms-are : (b : Bool) (salt : List ℕ) (terms : KeyTerms) → (IsTrue b ↔ (terms.salt ≡ salt) × (terms.iterations ≡ new_iterations)) → are_terms salt terms ≡ b
terms-are true salt terms both =
    let its = both.0 refl in
    ap (λ a. a && terms.iterations == new_iterations) ((same-name terms.salt salt).1 its.0) ∙ number-same terms.iterations new_iterations its.1
terms-are false salt terms both =
    let pass : (a d : Bool) → is_name terms.salt salt ≡ a → (terms.iterations == new_iterations) ≡ d → (a && d) ≡ false =
    elim [
      | true ↦ elim [
        | true ↦ λ one other. absurd (let no : false ≡ true = both.1 ((same-name terms.salt salt).0 one, eqb-true terms.iterations new_iterations other) in cc)
        | false ↦ λ one other. refl
      ]
      | false ↦ λ d one other. refl
    ] in
    pass (is_name terms.salt salt) (terms.iterations == new_iterations) refl refl

module _ (label salt : List ℕ) (terms : KeyTerms) (asks : Questions) where
  pub cannot-terms : are_terms salt terms ≡ false → false ≡ can_make label salt terms asks
  cannot-terms off = sym (ap (λ b. b && (nat_le (asks.collections.count + 1) the_limits.collections && asks.files.has_room terms label)) off)

  pub cannot-count : are_terms salt terms ≡ true → nat_le (asks.collections.count + 1) the_limits.collections ≡ false → false ≡ can_make label salt terms asks
  cannot-count on off =
      sym (ap (λ b. b && (nat_le (asks.collections.count + 1) the_limits.collections && asks.files.has_room terms label)) on ∙ ap (λ b. b && asks.files.has_room terms label) off)

  pub can-room : (b : Bool) → are_terms salt terms ≡ true → nat_le (asks.collections.count + 1) the_limits.collections ≡ true → b ≡ asks.files.has_room terms label → b ≡ can_make label salt terms asks
  can-room b on few room =
      room ∙ sym (ap (λ c. c && (nat_le (asks.collections.count + 1) the_limits.collections && asks.files.has_room terms label)) on ∙ ap (λ c. c && asks.files.has_room terms label) few)

  -- what that says
  pub can-parts : can_make label salt terms asks ≡ true → (terms.iterations ≡ new_iterations) × (asks.files.has_room terms label ≡ true)
  can-parts is =
      let first = both-of (are_terms salt terms) (nat_le (asks.collections.count + 1) the_limits.collections && asks.files.has_room terms label) is in
      let second = both-of (nat_le (asks.collections.count + 1) the_limits.collections) (asks.files.has_room terms label) first.1 in
      (eqb-true terms.iterations new_iterations (both-of (is_name terms.salt salt) (terms.iterations == new_iterations) first.0).1, second.1)

  -- the plan then
  pub can-plan : (prompt : PromptId) (alias : List ℕ) → can_make label salt terms asks ≡ true
      → collection_made prompt label alias salt terms asks ≡ Asks (Make (asks.files.stem_for label) label terms) (making_ended prompt alias (asks.files.stem_for label))
  can-plan prompt alias is = ap (λ b. cond b (Asks (Make (asks.files.stem_for label) label terms) (making_ended prompt alias (asks.files.stem_for label))) (dismissing prompt)) is

  pub cannot-plan : (prompt : PromptId) (alias : List ℕ) → can_make label salt terms asks ≡ false → collection_made prompt label alias salt terms asks ≡ dismissing prompt
  cannot-plan prompt alias is = ap (λ b. cond b (Asks (Make (asks.files.stem_for label) label terms) (making_ended prompt alias (asks.files.stem_for label))) (dismissing prompt)) is
