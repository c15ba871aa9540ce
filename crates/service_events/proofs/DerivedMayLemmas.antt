-- The plan of a derived key may be run in a sound state.
use Rattle.std.proofs.Common.{◌≡◌, ℕ, ◌+◌, ◌^◌, ◌<◌, ◌≤◌, ◌⊎◌, ◌==◌, ◌&&◌, Bool, true, false, cond, nat_le, List, [], ◌∷◌, ◌++◌, length, Option, Some, None, refl, sym, ap, subst, ◌∙◌, arith, inl, inr}
use Rattle.std.specs.Cmp.Lexicographic.{slice_cmp}
use Rattle.std.specs.Option.{option_map}
use Rattle.std.specs.Ordering.{nat_cmp}
use Rattle.std.proofs.lemmas.Bool.{eqb-true}
use Rattle.std.proofs.lemmas.Map.Lookups.{exact_bytes}
use Rattle.kr_base.specs.Attributes.{is_name}
use Rattle.kr_base.proofs.OrderedLemmas.{is_equal}
use Rattle.kr_base.specs.declared.ids.ConnId.{ConnId}
use Rattle.kr_base.specs.declared.ids.PromptId.{PromptId}
use Rattle.kr_base.specs.Stem.{IsStem}
use Rattle.kr_names.specs.Path.{IsAliasName}
use Rattle.stem_choice.specs.Choice.{chosen}
use Rattle.stem_choice.proofs.ChoiceLemmas.{IsStem-chosen}
use Rattle.prompt_state.specs.Prompts.{IsStage, changed, is_deriving_in, is_made, last_round, next_round, one_more, round_of, row_at}
use Rattle.prompt_state.specs.declared.row.PromptKind.{PromptKind}
use Rattle.prompt_state.specs.declared.row.PromptKind.TheVariants as kind
use Rattle.prompt_state.specs.declared.row.PromptRow.{PromptRow}
use Rattle.prompt_state.specs.declared.row.Prompts.{Prompts}
use Rattle.prompt_state.specs.declared.row.Stage.{Stage}
use Rattle.prompt_state.specs.declared.row.Stage.TheVariants.{Made, Asked, Deriving}
use Rattle.prompt_state.specs.declared.targets.Target.{Target}
use Rattle.service_disk.specs.Making.{has_room}
use Rattle.service_disk.specs.Opening.{opening_of}
use Rattle.service_disk.specs.declared.opening.Opening.{Opening}
use Rattle.service_disk.specs.declared.opening.Opening.TheVariants as ends
use Rattle.service_prompts.proofs.SignalLemmas.{found-row}
use Rattle.service_prompts.specs.service_tables.specs.Sound.{HasLeft, IsSound, IsSoundKind, IsSoundPrompt, IsTypedAlias, IsTypedText}
use Rattle.service_prompts.specs.service_tables.specs.State.{State}
use Rattle.service_prompts.specs.service_tables.specs.Storing.{Brought}
use Rattle.service_prompts.specs.service_tables.specs.declared.fate.StoreFate.{StoreFate}
use Rattle.service_prompts.specs.service_tables.specs.declared.fate.StoreFate.TheVariants as stored
use Rattle.service_prompts.specs.service_tables.proofs.AliasLemmas.{is-alias}
use Rattle.service_events.specs.AliasCalls.{alias_settled}
use Rattle.service_events.specs.Derivation.{alias_given, are_terms, can_make, changing_ended, collection_made, completing, derived, dismissing, kind_derived, left_derived, making_ended, most_wrong_answers, new_iterations, opening_ended, password_changed, quietly, row_derived, wrong_again}
use Rattle.service_events.specs.Plan.{Change, KeyTerms, Plan, Ends, Asks, Resolves, Opens, Ask_prompt, Clear_wrong, Count_wrong, Go_on, Make, Rekey, followed}
use Rattle.service_events.specs.Run.{asked, demanded, key_with, made_of, performed, settled, unlocked_with}
use Rattle.service_events.specs.Step.{AreByteFiles}
use Rattle.service_events.proofs.AdvanceLemmas.{KeepsPrompt, row-changed}
use Rattle.service_events.proofs.AllowedLemmas.{AreAllowed, AreWritable, HasMore, IsAllowed, IsStorable, MayRun, some-same}
use Rattle.service_events.proofs.RowsMayLemmas.{settled-may}

-- ---- changes after a plan

module _ (caller : ConnId) (brought : Brought) (more : List Change) (may_more : (state : State) → AreAllowed caller more state) where
  append-allowed : (changes : List Change) (state : State) → AreAllowed caller changes state → AreAllowed caller (changes ++ more) state
  append-allowed [] state all = may_more state
  append-allowed (change ∷ changes) state all = (all.0, append-allowed changes (performed caller change state) all.1)

  -- a plan whose answer is dropped, and after which changes come that are always allowed
  pub followed-may : (plan : Plan) (state : State) → MayRun caller brought plan state → MayRun caller brought (followed more plan) state
  followed-may (Ends answer changes) state may = (append-allowed changes state may.0, tt)
  followed-may (Asks demand next) state may = (may.0, may.1, λ ended. followed-may (next ended) (demanded brought demand ended state) (may.2 ended))
  followed-may (Resolves reading unread next) state may = (
    λ ended. (
      followed-may unread (settled reading ended state) (may.0 ended).0,
      followed-may (next (asked caller brought (settled reading ended state))) (settled reading ended state) (may.0 ended).1,
    ),
    followed-may (next (asked caller brought state)) state may.1,
  )
  followed-may (Opens stem terms next) state may = (may.0, followed-may next (unlocked_with brought stem terms state) may.1)

-- ---- a prompt whose answers are counted

-- a change of a row that leaves its round, and what it is for
pub record KeepsAsked (f : PromptRow → PromptRow) : Type 0 where
  pub number : KeepsPrompt f
  pub stage : (row : PromptRow) → (f row).stage ≡ row.stage
  pub kind : (row : PromptRow) → (f row).kind ≡ row.kind

module _ (prompt : PromptId) (f : PromptRow → PromptRow) (keeps : KeepsAsked f) (prompts : Prompts) where
  round-kept : next_round (row_at prompt (changed prompt f prompts)) ≡ next_round (row_at prompt prompts)
  round-kept =
      let pass : (o : Option PromptRow) → next_round (option_map f o) ≡ next_round o = elim [ None ↦ refl | Some row ↦ ap (λ s. round_of s + 1) (keeps.stage row) ] in
      ap next_round (row-changed prompt f prompts keeps.number) ∙ pass (row_at prompt prompts)

  left-kept : ((row : PromptRow) → row_at prompt prompts ≡ Some row → HasLeft row.kind) → (row : PromptRow) → row_at prompt (changed prompt f prompts) ≡ Some row → HasLeft row.kind
  left-kept left row found =
      let pass : (o : Option PromptRow) → row_at prompt prompts ≡ o → option_map f o ≡ Some row → HasLeft row.kind =
      elim [
        | None ↦ λ at is. absurd (let no : None ≡ Some row = is in cc)
        | Some old ↦ λ at is.
            let kinds : old.kind ≡ row.kind = sym (keeps.kind old) ∙ ap (λ (r : PromptRow). r.kind) (some-same (f old) row is) in
            subst HasLeft kinds (left old at)
      ] in
      pass (row_at prompt prompts) refl (sym (row-changed prompt f prompts keeps.number) ∙ found)

-- ---- by how the collection opens

module _ (caller : ConnId) (brought : Brought) (prompt : PromptId) (small : brought.now < 2 ^ 64) where
  stage-deriving : (round : ℕ) (stage : Stage) → is_deriving_in round stage ≡ true → stage ≡ Deriving round
  stage-deriving round Made is = absurd (let no : false ≡ true = is in cc)
  stage-deriving round (Asked other) is = absurd (let no : false ≡ true = is in cc)
  stage-deriving round (Deriving other) is = ap Deriving (eqb-true other round is)

  wrong-may : (wrong : ℕ) (state : State) → IsAllowed caller (Ask_prompt prompt) state → MayRun caller brought (wrong_again prompt wrong) state
  wrong-may wrong state ask =
      let keeps : KeepsAsked (λ row. record row { wrong = one_more row.wrong }) = record { number = λ row. refl; stage = λ row. refl; kind = λ row. refl } in
      let after : IsAllowed caller (Ask_prompt prompt) (performed caller (Count_wrong prompt) state) =
      (subst (λ n. n ≤ last_round) (sym (round-kept prompt _ keeps state.prompts)) ask.0, left-kept prompt _ keeps state.prompts ask.1) in
      let pass : (b : Bool) → MayRun caller brought (cond b (dismissing prompt) (quietly (Count_wrong prompt ∷ Ask_prompt prompt ∷ []))) state =
      elim [ true ↦ ((tt, tt), tt) | false ↦ ((tt, (after, tt)), tt) ] in
      pass (nat_le most_wrong_answers (wrong + 1))

  opening-may : (wrong : ℕ) (stem : List ℕ) (terms : KeyTerms) (how : Opening) (state : State) → AreByteFiles state.collections → IsAllowed caller (Ask_prompt prompt) state
      → MayRun caller brought (opening_ended prompt wrong stem terms how) state
  opening-may wrong stem terms ends.Settled state files ask = ((ask.0, tt), tt)
  opening-may wrong stem terms ends.Unfit state files ask = ((ask, tt), tt)
  opening-may wrong stem terms ends.WrongPassword state files ask = wrong-may wrong state ask
  opening-may wrong stem terms ends.Damaged state files ask = ((tt, tt), tt)
  opening-may wrong stem terms ends.Opened state files ask =
      let keeps : KeepsAsked (λ row. record row { wrong = 0 }) = record { number = λ row. refl; stage = λ row. refl; kind = λ row. refl } in
      let after : IsAllowed caller (Go_on prompt) (performed caller (Clear_wrong prompt) (unlocked_with brought stem terms state)) =
      subst (λ n. n ≤ last_round) (sym (round-kept prompt _ keeps state.prompts)) ask.0 in
      (files, ((tt, (after, tt)), tt))

  left-may : (wrong : ℕ) (left : List Target) (terms : KeyTerms) (state : State) → AreByteFiles state.collections → IsAllowed caller (Ask_prompt prompt) state
      → MayRun caller brought (left_derived prompt wrong left terms (asked caller brought state)) state
  left-may wrong [] terms state files ask = ((ask.0, tt), tt)
  left-may wrong (target ∷ left) terms state files ask =
      opening-may wrong target.stem terms (opening_of (key_with brought terms) target.stem state.collections) state files ask

  -- ---- a collection that is made

  alias-may : (alias stem : List ℕ) (state : State) → (alias ≡ []) ⊎ IsTypedAlias alias → IsStem stem
      → MayRun caller brought (alias_given prompt alias stem) state
  alias-may [] stem state typed is = ((is, tt), tt)
  alias-may (byte ∷ bytes) stem state typed is =
      let named : IsAliasName (byte ∷ bytes) = elim typed [ inl empty ↦ absurd (let no : byte ∷ bytes ≡ [] = empty in cc) | inr some ↦ is-alias (byte ∷ bytes) some ] in
      followed-may caller brought (completing prompt stem) (λ any. (is, tt)) (alias_settled (byte ∷ bytes) (Some stem)) state
      (settled-may caller brought (byte ∷ bytes) (Some stem) state (named, is))

  ended-may : (alias stem : List ℕ) (some : StoreFate) (state : State) → (alias ≡ []) ⊎ IsTypedAlias alias → IsStem stem → MayRun caller brought (making_ended prompt alias stem some) state
  ended-may alias stem stored.Stored state typed is = alias-may alias stem state typed is
  ended-may alias stem stored.Before state typed is = ((tt, tt), tt)
  ended-may alias stem stored.Unsure state typed is = ((tt, tt), tt)

  -- the terms of the work can be written to a file
  both : (a b : Bool) → (a && b) ≡ true → (a ≡ true) × (b ≡ true)
  both true b is = (refl, is)
  both false b is = absurd (let no : false ≡ true = is in cc)

  terms-writable : (salt : List ℕ) (terms : KeyTerms) → length salt ≡ 8 → are_terms salt terms ≡ true → AreWritable terms
  terms-writable salt terms eight are =
      let its = both (is_name terms.salt salt) (terms.iterations == new_iterations) are in
      let same : terms.salt ≡ salt = exact_bytes terms.salt salt (is_equal (slice_cmp nat_cmp terms.salt salt) its.0) in
      let count : terms.iterations ≡ new_iterations = eqb-true terms.iterations new_iterations its.1 in
      record { salt = ap (λ l. length l) same ∙ eight; iterations = omega (arith, count) }

  asks-made : (label alias stem : List ℕ) (terms : KeyTerms) (state : State) → IsTypedText label → (alias ≡ []) ⊎ IsTypedAlias alias → IsStem stem
      → IsStorable brought (Make stem label terms) state → MayRun caller brought (Asks (Make stem label terms) (making_ended prompt alias stem)) state
  asks-made label alias stem terms state text typed is can = ((small, text, is), can, λ ended. ended-may alias stem ended (demanded brought (Make stem label terms) ended state) typed is)

  made-may : (label alias salt : List ℕ) (terms : KeyTerms) (state : State) → IsTypedText label → (alias ≡ []) ⊎ IsTypedAlias alias → length salt ≡ 8
      → MayRun caller brought (collection_made prompt label alias salt terms (asked caller brought state)) state
  made-may label alias salt terms state text typed eight =
      let stem = chosen label state.used in
      let storable : can_make label salt terms (asked caller brought state) ≡ true → IsStorable brought (Make stem label terms) state =
      λ can.
      let first = both (are_terms salt terms) _ can in
      (terms-writable salt terms eight first.0, (both _ (has_room (made_of brought terms label) state.collections) first.1).1) in
      let pass : (b : Bool) → can_make label salt terms (asked caller brought state) ≡ b
      → MayRun caller brought (cond b (Asks (Make stem label terms) (making_ended prompt alias stem)) (dismissing prompt)) state =
      elim [ true ↦ λ can. asks-made label alias stem terms state text typed (IsStem-chosen label state.used) (storable can) | false ↦ λ off. ((tt, tt), tt) ] in
      pass (can_make label salt terms (asked caller brought state)) refl

  -- ---- a password that is changed

  changed-may : (stem : List ℕ) (some : StoreFate) (state : State) → IsStem stem → MayRun caller brought (changing_ended prompt stem some) state
  changed-may stem stored.Stored state is = ((is, tt), tt)
  changed-may stem stored.Before state is = ((tt, tt), tt)
  changed-may stem stored.Unsure state is = ((tt, tt), tt)

  change-may : (stem salt : List ℕ) (terms : KeyTerms) (state : State) → IsStem stem → length salt ≡ 8 → MayRun caller brought (password_changed prompt stem salt terms (asked caller brought state)) state
  change-may stem salt terms state is eight =
      let asks : IsStorable brought (Rekey stem terms) state → MayRun caller brought (Asks (Rekey stem terms) (changing_ended prompt stem)) state =
      λ can. (small, can, λ ended. changed-may stem ended (demanded brought (Rekey stem terms) ended state) is) in
      let pass : (fit can : Bool) → are_terms salt terms ≡ fit → (asked caller brought state).files.can_rekey terms stem ≡ can
      → MayRun caller brought (cond fit (cond can (Asks (Rekey stem terms) (changing_ended prompt stem)) (dismissing prompt)) (dismissing prompt)) state =
      elim [
        | true ↦ elim [ true ↦ λ are can. asks (terms-writable salt terms eight are, can) | false ↦ λ are off. ((tt, tt), tt) ]
        | false ↦ λ can off any. ((tt, tt), tt)
      ] in
      pass (are_terms salt terms) ((asked caller brought state).files.can_rekey terms stem) refl refl

  -- ---- any

  kind-may : (wrong : ℕ) (k : PromptKind) (terms : KeyTerms) (state : State) → AreByteFiles state.collections → IsSoundKind k → IsAllowed caller (Ask_prompt prompt) state
      → MayRun caller brought (kind_derived prompt wrong k terms (asked caller brought state)) state
  kind-may wrong (kind.Unlock targets) terms state files is ask = left-may wrong targets.left terms state files ask
  kind-may wrong (kind.Create label alias salt) terms state files is ask = made-may label alias salt terms state is.label is.alias is.salt
  kind-may wrong (kind.Change stem salt) terms state files is ask = change-may stem salt terms state is.stem is.salt

  row-may : (round : ℕ) (row : PromptRow) (terms : KeyTerms) (state : State) → IsSound state → AreByteFiles state.collections → row_at prompt state.prompts ≡ Some row
      → is_deriving_in round row.stage ≡ true → MayRun caller brought (kind_derived prompt row.wrong row.kind terms (asked caller brought state)) state
  row-may round row terms state sound files found derives =
      let stage : row.stage ≡ Deriving round = stage-deriving round row.stage derives in
      let is : IsStage (Deriving round) = subst IsStage stage (found-row (λ (row : PromptRow). IsStage row.stage) prompt state.prompts row sound.prompts.kept.rounds found) in
      let its : IsSoundPrompt row = found-row IsSoundPrompt prompt state.prompts row sound.prompts.each found in
      let left : HasLeft row.kind = its.left (ap is_made stage) in
      let more : HasMore prompt state = λ other at. subst (λ (r : PromptRow). HasLeft r.kind) (some-same row other (sym found ∙ at)) left in
      let next : next_round (row_at prompt state.prompts) ≡ round + 1 = ap next_round found ∙ ap (λ s. round_of s + 1) stage in
      kind-may row.wrong row.kind terms state files its.kind (omega (arith, next, is.1), more)

  pub derived-may : (round : ℕ) (terms : KeyTerms) (state : State) → IsSound state → AreByteFiles state.collections
      → MayRun caller brought (derived prompt round terms (asked caller brought state)) state
  derived-may round terms state sound files =
      let inner : (row : PromptRow) → row_at prompt state.prompts ≡ Some row → (b : Bool) → is_deriving_in round row.stage ≡ b
      → MayRun caller brought (cond b (kind_derived prompt row.wrong row.kind terms (asked caller brought state)) (quietly [])) state =
      λ row found. elim [ true ↦ λ derives. row-may round row terms state sound files found derives | false ↦ λ derives. (tt, tt) ] in
      let pass : (o : Option PromptRow) → row_at prompt state.prompts ≡ o → MayRun caller brought (row_derived prompt round o terms (asked caller brought state)) state =
      elim [ None ↦ λ found. (tt, tt) | Some row ↦ λ found. inner row found (is_deriving_in round row.stage) refl ] in
      pass (row_at prompt state.prompts) refl
