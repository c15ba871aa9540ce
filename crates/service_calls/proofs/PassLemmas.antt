-- A prompt that passes over its first targets: one after the other, or all at once.
use Rattle.std.proofs.Common.{◌≡◌, ℕ, ◌<◌, Bool, true, false, cond, nat_eq, IfSome, List, [], ◌∷◌, ◌++◌, map, find, Option, Some, refl, sym, ap, subst, ◌∙◌, arith}
use Rattle.std.specs.Cmp.Lexicographic.{slice_cmp}
use Rattle.std.specs.List.{AllByRecursion}
use Rattle.std.specs.Option.{is_some, option_map_or}
use Rattle.std.specs.Ordering.{nat_cmp}
use Rattle.std.proofs.lemmas.Bool.{eqb-true}
use Rattle.std.proofs.lemmas.Bool.Decides.{nat_tests}
use Rattle.std.proofs.lemmas.Map.Lookups.{exact_bytes}
use Rattle.kr_base.specs.Attributes.{is_name}
use Rattle.kr_base.proofs.OrderedLemmas.{is_equal}
use Rattle.kr_base.specs.declared.ids.PromptId.{PromptId}
use Rattle.prompt_state.specs.Prompts.{AreRising, AreSound, changed, first_of_kind, first_of_row, is_prompt, kind_with, row_at, targeted}
use Rattle.prompt_state.specs.Targets.{TargetLists, first_done, first_dropped, first_of, rest_of, with_first_of}
use Rattle.prompt_state.specs.declared.row.PromptKind.{PromptKind}
use Rattle.prompt_state.specs.declared.row.PromptKind.TheVariants.{Unlock, Create, Change}
use Rattle.prompt_state.specs.declared.row.PromptRow.{PromptRow}
use Rattle.prompt_state.specs.declared.row.Prompts.{Prompts}
use Rattle.prompt_state.specs.declared.targets.Target.{Target}
use Rattle.service_events.specs.collection_table.specs.Entries.{without}
use Rattle.service_events.specs.collection_table.specs.Rows.{Rows, has, is_open, is_unlocked}
use Rattle.service_events.specs.service_tables.proofs.DiskLemmas.{without-apart, without-here}
use Rattle.service_events.specs.service_tables.specs.Opened.{contents_of}
use Rattle.service_events.specs.service_tables.specs.TablesReading.{asked_collections}
use Rattle.service_events.specs.service_tables.specs.State.{State}
use Rattle.service_events.specs.service_tables.specs.Questions.{CollectionQuestions}
use Rattle.service_events.specs.PromptCalls.{passed, passed_kind, passed_over, passed_row}
use Rattle.service_events.proofs.AdvanceLemmas.{KeepsPrompt}

-- ---- a collection that counts as gone

module _ (stem : List ℕ) (rows : Rows) where
  -- the collection of the stem isn't there, and any other one is as it was
  pub has-same : (other : List ℕ) → is_name stem other ≡ true → false ≡ has other (without stem rows)
  has-same other is =
      let here : stem ≡ other = exact_bytes stem other (is_equal (slice_cmp nat_cmp stem other) is) in
      sym (ap is_some (without-here stem rows)) ∙ ap (λ s. has s (without stem rows)) here

  pub open-same : (other : List ℕ) → is_name stem other ≡ true → false ≡ is_open other (without stem rows)
  open-same other is =
      let here : stem ≡ other = exact_bytes stem other (is_equal (slice_cmp nat_cmp stem other) is) in
      sym (ap (λ o. option_map_or is_unlocked o false) (without-here stem rows)) ∙ ap (λ s. is_open s (without stem rows)) here

  pub has-apart : (other : List ℕ) → is_name stem other ≡ false → has other rows ≡ has other (without stem rows)
  has-apart other off = ap is_some (sym (without-apart stem other rows off))

  pub open-apart : (other : List ℕ) → is_name stem other ≡ false → is_open other rows ≡ is_open other (without stem rows)
  open-apart other off = ap (λ o. option_map_or is_unlocked o false) (sym (without-apart stem other rows off))

-- ---- a prompt that changes

-- the rows with this prompt changed
abbrev rows-with : PromptId → (PromptRow → PromptRow) → List PromptRow → List PromptRow
rows-with prompt f rows = map (λ row. cond (is_prompt prompt row) (f row) row) rows

changed-twice : (prompt : PromptId) (f g : PromptRow → PromptRow) (rows : List PromptRow) → KeepsPrompt g → rows-with prompt f (rows-with prompt g rows) ≡ rows-with prompt (λ row. f (g row)) rows
changed-twice prompt f g [] keeps = refl
changed-twice prompt f g (row ∷ rows) keeps =
    let pass : (b : Bool) → is_prompt prompt row ≡ b → cond (is_prompt prompt (cond b (g row) row)) (f (cond b (g row) row)) (cond b (g row) row) ≡ cond b (f (g row)) row =
    elim [
      | true ↦ λ is. ap (λ b. cond b (f (g row)) (g row)) (ap (λ (p : PromptId). nat_eq p.0 prompt.0) (keeps row) ∙ is)
      | false ↦ λ off. ap (λ b. cond b (f row) row) off
    ] in
    λ i. pass (is_prompt prompt row) refl i ∷ changed-twice prompt f g rows keeps i

changed-same : (prompt : PromptId) (rows : List PromptRow) → rows-with prompt (λ row. row) rows ≡ rows
changed-same prompt [] = refl
changed-same prompt (row ∷ rows) =
    let pass : (b : Bool) → cond b row row ≡ row = elim [ true ↦ refl | false ↦ refl ] in
    λ i. pass (is_prompt prompt row) i ∷ changed-same prompt rows i

above-apart : (one other : ℕ) → other < one → nat_eq one other ≡ false
above-apart one other less = grind (arith, nat_tests)

changed-none : (prompt : PromptId) (f : PromptRow → PromptRow) (rows : List PromptRow) → AllByRecursion (λ (row : PromptRow). prompt.0 < row.prompt.0) rows → rows-with prompt f rows ≡ rows
changed-none prompt f [] above = refl
changed-none prompt f (row ∷ rows) above = λ i. cond (above-apart row.prompt.0 prompt.0 above.0 i) (f row) row ∷ changed-none prompt f rows above.1 i

-- two changes that make the same of the prompt's row
agree-rows : (prompt : PromptId) (f g : PromptRow → PromptRow) (rows : List PromptRow) → AreRising rows → ((row : PromptRow) → find (is_prompt prompt) rows ≡ Some row → f row ≡ g row)
    → rows-with prompt f rows ≡ rows-with prompt g rows
agree-rows prompt f g [] rising same = refl
agree-rows prompt f g (row ∷ rows) rising same =
    let pass : (b : Bool) → is_prompt prompt row ≡ b → cond b (f row) row ∷ rows-with prompt f rows ≡ cond b (g row) row ∷ rows-with prompt g rows =
    elim [
      | true ↦ λ is.
          let here : f row ≡ g row = same row (ap (λ b. cond b (Some row) (find (is_prompt prompt) rows)) is) in
          let above = subst (λ n. AllByRecursion (λ (other : PromptRow). n < other.prompt.0) rows) (eqb-true row.prompt.0 prompt.0 is) rising.0 in
          let others = changed-none prompt f rows above ∙ sym (changed-none prompt g rows above) in
          λ i. here i ∷ others i
      | false ↦ λ off. ap (λ l. row ∷ l) (agree-rows prompt f g rows rising.1 (λ other at. same other (ap (λ b. cond b (Some row) (find (is_prompt prompt) rows)) off ∙ at)))
    ] in
    pass (is_prompt prompt row) refl

agree : (prompt : PromptId) (f g : PromptRow → PromptRow) (prompts : Prompts) → AreSound prompts → ((row : PromptRow) → row_at prompt prompts ≡ Some row → f row ≡ g row)
    → changed prompt f prompts ≡ changed prompt g prompts
agree prompt f g prompts sound same = λ i. record prompts { rows = agree-rows prompt f g prompts.rows sound.rising same i }

-- ---- the first target

some-target : (one other : Target) → Some one ≡ Some other → one ≡ other
some-target one other is = cc

module _ (asked : CollectionQuestions) where
  -- the first target, by whether its collection is there and unlocked
  abbrev first-passed : Bool → Bool → List Target → Target → List Target → TargetLists
  first-passed there unlocked done one more = cond there (cond unlocked (passed asked (done ++ one ∷ []) more) (record { done = done; left = one ∷ more })) (passed asked done more)

  drop-left : (left done : List Target) (target : Target) → first_of left ≡ Some target → asked.has target.stem ≡ false → passed asked done (rest_of left) ≡ passed asked done left
  drop-left [] done target first gone = refl
  drop-left (one ∷ more) done target first gone =
      let off : asked.has one.stem ≡ false = ap (λ (t : Target). asked.has t.stem) (some-target one target first) ∙ gone in
      sym (ap (λ b. first-passed b (asked.is_open one.stem) done one more) off)

  drop-kind : (k : PromptKind) (target : Target) → first_of_kind k ≡ Some target → asked.has target.stem ≡ false → passed_kind asked (kind_with first_dropped k) ≡ passed_kind asked k
  drop-kind (Unlock targets) target first gone = ap Unlock (drop-left targets.left targets.done target first gone)
  drop-kind (Create label alias salt) target first gone = refl
  drop-kind (Change stem salt) target first gone = refl

  done-left : (left done : List Target) (target : Target) → first_of left ≡ Some target → asked.has target.stem ≡ true → asked.is_open target.stem ≡ true
      → passed asked (with_first_of left done) (rest_of left) ≡ passed asked done left
  done-left [] done target first there unlocked = refl
  done-left (one ∷ more) done target first there unlocked =
      let same = some-target one target first in
      let is : asked.has one.stem ≡ true = ap (λ (t : Target). asked.has t.stem) same ∙ there in
      let opens : asked.is_open one.stem ≡ true = ap (λ (t : Target). asked.is_open t.stem) same ∙ unlocked in
      sym (λ i. first-passed (is i) (opens i) done one more)

  done-kind : (k : PromptKind) (target : Target) → first_of_kind k ≡ Some target → asked.has target.stem ≡ true → asked.is_open target.stem ≡ true
      → passed_kind asked (kind_with first_done k) ≡ passed_kind asked k
  done-kind (Unlock targets) target first there unlocked = ap Unlock (done-left targets.left targets.done target first there unlocked)
  done-kind (Create label alias salt) target first there unlocked = refl
  done-kind (Change stem salt) target first there unlocked = refl

  -- a target that isn't passed over
  abbrev Stays : Target → Type 0
  Stays target = (asked.has target.stem ≡ true) × (asked.is_open target.stem ≡ false)

  stay-left : (left done : List Target) → IfSome (first_of left) Stays → passed asked done left ≡ record { done = done; left = left }
  stay-left [] done stays = refl
  stay-left (one ∷ more) done stays = λ i. first-passed (stays.0 i) (stays.1 i) done one more

  stay-kind : (k : PromptKind) → IfSome (first_of_kind k) Stays → passed_kind asked k ≡ k
  stay-kind (Unlock targets) stays = ap Unlock (stay-left targets.left targets.done stays)
  stay-kind (Create label alias salt) stays = refl
  stay-kind (Change stem salt) stays = refl

  -- ---- the prompts

  module _ (prompt : PromptId) (prompts : Prompts) (sound : AreSound prompts) where
    abbrev with-kind : PromptRow → PromptKind → PromptRow
    with-kind row kind = record row { kind = kind }

    -- the first target is dropped
    pub passed-dropped : (target : Target) → first_of_row (row_at prompt prompts) ≡ Some target → asked.has target.stem ≡ false
        → passed_over prompt asked (targeted prompt first_dropped prompts) ≡ passed_over prompt asked prompts
    passed-dropped target first gone =
        let drops : PromptRow → PromptRow = λ row. with-kind row (kind_with first_dropped row.kind) in
        (λ i. record prompts { rows = changed-twice prompt (passed_row asked) drops prompts.rows (λ row. refl) i })
        ∙ agree prompt (λ row. passed_row asked (drops row)) (passed_row asked) prompts sound (λ row at. ap (with-kind row) (drop-kind row.kind target (sym (ap first_of_row at) ∙ first) gone))

    -- it is done
    pub passed-done : (target : Target) → first_of_row (row_at prompt prompts) ≡ Some target → asked.has target.stem ≡ true → asked.is_open target.stem ≡ true
        → passed_over prompt asked (targeted prompt first_done prompts) ≡ passed_over prompt asked prompts
    passed-done target first there unlocked =
        let finishes : PromptRow → PromptRow = λ row. with-kind row (kind_with first_done row.kind) in
        (λ i. record prompts { rows = changed-twice prompt (passed_row asked) finishes prompts.rows (λ row. refl) i })
        ∙ agree prompt (λ row. passed_row asked (finishes row)) (passed_row asked) prompts sound
        (λ row at. ap (with-kind row) (done-kind row.kind target (sym (ap first_of_row at) ∙ first) there unlocked))

    -- there is none, or the prompt is asked for it
    pub passed-left : (first : Option Target) → first_of_row (row_at prompt prompts) ≡ first → IfSome first (λ target. (asked.has target.stem ≡ true) × (asked.is_open target.stem ≡ false))
        → prompts ≡ passed_over prompt asked prompts
    passed-left first is stays =
        let its : (row : PromptRow) → row_at prompt prompts ≡ Some row → IfSome (first_of_kind row.kind) Stays = λ row at. subst (λ o. IfSome o Stays) (sym is ∙ ap first_of_row at) stays in
        sym (agree prompt (passed_row asked) (λ row. row) prompts sound (λ row at. ap (with-kind row) (stay-kind row.kind (its row at)))
        ∙ (λ i. record prompts { rows = changed-same prompt prompts.rows i }))

-- ---- the state

-- all targets were passed over that could be, and nothing else changed
pub passed-state : (old mid : State) (prompt : PromptId) (connections : mid.connections ≡ old.connections) (sessions : mid.sessions ≡ old.sessions) (contents : contents_of mid ≡ contents_of old)
    → passed_over prompt (asked_collections (contents_of mid)) mid.prompts ≡ passed_over prompt (asked_collections (contents_of old)) old.prompts
    → mid.prompts ≡ passed_over prompt (asked_collections (contents_of mid)) mid.prompts
    → mid ≡ record old { prompts = passed_over prompt (asked_collections (contents_of old)) old.prompts }
passed-state old mid prompt connections sessions contents first second =
    let prompts = second ∙ first in
    λ i. record { connections = connections i; sessions = sessions i; prompts = prompts i; collections = (contents i).collections; aliases = (contents i).aliases; used = (contents i).used }
