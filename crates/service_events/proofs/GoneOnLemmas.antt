-- A prompt that continues: what becomes of the prompts is sound, and what is sent can wait.
use Rattle.std.proofs.Common.{◌≡◌, ◌+◌, ◌≤◌, Bool, true, false, cond, not, IsSome, List, [], ◌∷◌, ◌++◌, filter, map, Option, Some, None, refl, sym, ap, subst, ◌∙◌, arith}
use Rattle.std.specs.List.{AllByRecursion}
use Rattle.std.specs.Option.{option_map}
use Rattle.std.proofs.lemmas.List.Sums.{sum_by-cons, sum_by_push}
use Rattle.kr_base.specs.declared.ids.ConnId.{ConnId}
use Rattle.kr_base.specs.declared.ids.PromptId.{PromptId}
use Rattle.prompt_state.specs.Prompts.{asked_again, ended, is_prompt, last_round, next_round, round_of, row_at}
use Rattle.prompt_state.specs.Targets.{first_of}
use Rattle.prompt_state.specs.declared.row.PromptKind.{PromptKind}
use Rattle.prompt_state.specs.declared.row.PromptKind.TheVariants.{Unlock, Create, Change}
use Rattle.prompt_state.specs.declared.row.PromptRow.{PromptRow}
use Rattle.prompt_state.specs.declared.row.Prompts.{Prompts}
use Rattle.prompt_state.specs.declared.targets.Target.{Target}
use Rattle.service_prompts.specs.service_tables.specs.Limits.{most_weight}
use Rattle.service_prompts.specs.service_tables.specs.Opened.{contents_of}
use Rattle.service_prompts.specs.service_tables.specs.Questions.{CollectionQuestions}
use Rattle.service_prompts.specs.service_tables.specs.TablesReading.{asked_collections}
use Rattle.service_prompts.specs.service_tables.specs.Sound.{AreSoundPrompts, AreSoundTargets, CanWait, HasLeft, IsSound, IsSoundKind, IsSoundPrompt, IsSoundTarget}
use Rattle.service_prompts.specs.service_tables.specs.State.{State}
use Rattle.service_prompts.specs.service_tables.specs.Targets.{weight, weight_of}
use Rattle.service_prompts.specs.service_tables.specs.signal_fanout.specs.declared.rows.ConnRow.{ConnRow}
use Rattle.service_prompts.specs.service_tables.proofs.EachLemmas.{each-append}
use Rattle.service_prompts.proofs.PromptLemmas.{prompts-asked_again, prompts-changed, prompts-ended}
use Rattle.service_prompts.proofs.SignalLemmas.{ask-can, completed-can, found-row}
use Rattle.service_events.specs.PromptCalls.{are_none, asks_for, completes, go_on_sent, gone_on, is_given_up, is_over, is_over_row, passed, passed_kind, passed_over, passed_row}
use Rattle.service_events.proofs.AdvanceLemmas.{row-changed}

-- ---- targets that are passed over

module _ (asked : CollectionQuestions) where
  passed-sound : (done left : List Target) → AllByRecursion IsSoundTarget done → AllByRecursion IsSoundTarget left → weight done + weight left ≤ most_weight → AreSoundTargets (passed asked done left)
  passed-sound done [] was all light = record { done = was; left = tt; light = light }
  passed-sound done (target ∷ left) was all light =
      let finished = passed-sound (done ++ target ∷ []) left (each-append IsSoundTarget done (target ∷ []) was (all.0, tt)) all.1
      (omega (arith, sum_by-cons weight_of target left, sum_by_push weight_of done target, light)) in
      let dropped = passed-sound done left was all.1 (omega (arith, sum_by-cons weight_of target left, light)) in
      let kept : AreSoundTargets (record { done = done; left = target ∷ left }) = record { done = was; left = all; light = light } in
      let pass : (there unlocked : Bool)
      → AreSoundTargets (cond there (cond unlocked (passed asked (done ++ target ∷ []) left) (record { done = done; left = target ∷ left })) (passed asked done left)) =
      elim [
        | true ↦ elim [ true ↦ finished | false ↦ kept ]
        | false ↦ λ unlocked. dropped
      ] in
      pass (asked.has target.stem) (asked.is_open target.stem)

  kind-passed : (kind : PromptKind) → IsSoundKind kind → IsSoundKind (passed_kind asked kind)
  kind-passed (Unlock targets) is = passed-sound targets.done targets.left is.done is.left is.light
  kind-passed (Create label alias salt) is = is
  kind-passed (Change stem salt) is = is

some-left : (left : List Target) → are_none left ≡ false → IsSome (first_of left)
some-left [] over = absurd (let no : true ≡ false = over in cc)
some-left (target ∷ left) over = refl

has-left : (asked : CollectionQuestions) (kind : PromptKind) → is_over asked kind ≡ false → HasLeft kind
has-left asked (Unlock targets) over = some-left targets.left over
has-left asked (Create label alias salt) over = tt
has-left asked (Change stem salt) over = tt

-- ---- the prompts

-- a prompt that ends is gone, whatever it was changed to
module _ (prompt : PromptId) (f : PromptRow → PromptRow) (keeps : (row : PromptRow) → (f row).prompt ≡ row.prompt) where
  filter-changed : (rows : List PromptRow) → filter (λ row. not (is_prompt prompt row)) (map (λ row. cond (is_prompt prompt row) (f row) row) rows) ≡ filter (λ row. not (is_prompt prompt row)) rows
  filter-changed [] = refl
  filter-changed (row ∷ rows) =
      let rest : List PromptRow = filter (λ row. not (is_prompt prompt row)) (map (λ row. cond (is_prompt prompt row) (f row) row) rows) in
      let old : List PromptRow = filter (λ row. not (is_prompt prompt row)) rows in
      let same : rest ≡ old = filter-changed rows in
      let put : Bool → PromptRow → List PromptRow → List PromptRow = λ b r more. cond (not b) (r ∷ more) more in
      let pass : (b : Bool) → is_prompt prompt row ≡ b → put (is_prompt prompt (cond b (f row) row)) (cond b (f row) row) rest ≡ put b row old =
      elim [
        | true ↦ λ is.
            let its : is_prompt prompt (f row) ≡ true = ap (λ (p : PromptId). is_number p) (keeps row) ∙ is in
            ap (λ b. put b (f row) rest) its ∙ same
        | false ↦ λ is. ap (λ b. put b row rest) is ∙ ap (λ more. row ∷ more) same
      ] in
      pass (is_prompt prompt row) refl ∙ refl
    where
      is_number : PromptId → Bool
      is_number p = is_prompt prompt (record row { prompt = p })

module _ (conns : List ConnRow) (prompt : PromptId) (asked : CollectionQuestions) (prompts : Prompts) where
  abbrev over : Prompts
  over = passed_over prompt asked prompts

  row-passed : row_at prompt over ≡ option_map (passed_row asked) (row_at prompt prompts)
  row-passed = row-changed prompt (passed_row asked) prompts (λ row. refl)

  round-passed : next_round (row_at prompt over) ≡ next_round (row_at prompt prompts)
  round-passed =
      let pass : (o : Option PromptRow) → next_round (option_map (passed_row asked) o) ≡ next_round o = elim [ None ↦ refl | Some row ↦ refl ] in
      ap next_round row-passed ∙ pass (row_at prompt prompts)

  ended-passed : ended prompt over ≡ ended prompt prompts
  ended-passed = ap (λ (rows : List PromptRow). record prompts { rows = rows }) (filter-changed prompt (passed_row asked) (λ row. refl) prompts.rows)

  -- if something is left to be asked for
  prompts-passed : is_over_row asked (row_at prompt over) ≡ false → AreSoundPrompts conns prompts → AreSoundPrompts conns over
  prompts-passed more sound =
      prompts-changed prompt (passed_row asked) (record { number = λ row. refl; owner = λ row. refl; stage = λ row is. is }) conns prompts
      (λ row found was. record {
        number = was.number;
        wrong = was.wrong;
        kind = kind-passed asked row.kind was.kind;
        left = λ made. has-left asked (passed_kind asked row.kind) (sym (ap (is_over_row asked) (row-passed ∙ ap (option_map (passed_row asked)) found)) ∙ more);
      }) sound

  pub prompts-gone_on : next_round (row_at prompt prompts) ≤ last_round → AreSoundPrompts conns prompts → AreSoundPrompts conns (gone_on prompt asked prompts)
  prompts-gone_on few sound =
      let pass : (b : Bool) → is_over_row asked (row_at prompt over) ≡ b → AreSoundPrompts conns (cond b (ended prompt over) (asked_again prompt over)) =
      elim [
        | true ↦ λ is. subst (λ (p : Prompts). AreSoundPrompts conns p) (sym ended-passed) (prompts-ended conns prompt prompts sound)
        | false ↦ λ is.
            prompts-asked_again conns prompt over (subst (λ n. n ≤ last_round) (sym round-passed) few) (λ row found. has-left asked row.kind (sym (ap (is_over_row asked) found) ∙ is))
            (prompts-passed is sound)
      ] in
      pass (is_over_row asked (row_at prompt over)) refl

-- ---- what is sent

pub go_on-can : (state : State) (prompt : PromptId) → next_round (row_at prompt state.prompts) ≤ last_round → IsSound state
    → AllByRecursion CanWait (go_on_sent (asked_collections (contents_of state)) state.collections state.prompts.agent (row_at prompt state.prompts))
go_on-can state prompt few sound =
    let asks = asked_collections (contents_of state) in
    let sent : (row : PromptRow) → row_at prompt state.prompts ≡ Some row → AllByRecursion CanWait (go_on_sent asks state.collections state.prompts.agent (Some row)) =
    λ row found.
    let was : IsSoundPrompt row = found-row IsSoundPrompt prompt state.prompts row sound.prompts.each found in
    let round : next_round (row_at prompt state.prompts) ≡ round_of row.stage + 1 = ap next_round found in
    let kind = passed_kind asks row.kind in
    let its : IsSoundKind kind = kind-passed asks row.kind was.kind in
    let done : AllByRecursion CanWait (completes row kind) = (completed-can (is_given_up kind) None (record { prompt = row.prompt; owner = row.owner; kind = kind }) was.number its tt, tt) in
    let more : (agent : Option ConnId) → AllByRecursion CanWait (asks_for state.collections row kind agent) =
    elim [
      | None ↦ tt
      | Some agent ↦ (
        ask-can state.collections kind (record { agent = agent; prompt = row.prompt; round = round_of row.stage + 1; wrong = row.wrong }) sound.collections its
            (record { number = was.number; round = omega (arith, few, round); wrong = was.wrong }),
        tt,
      )
    ] in
    let pass : (b : Bool) → AllByRecursion CanWait (cond b (completes row kind) (asks_for state.collections row kind state.prompts.agent)) =
    elim [ true ↦ done | false ↦ more state.prompts.agent ] in
    pass (is_over asks kind) in
    let pass : (o : Option PromptRow) → row_at prompt state.prompts ≡ o → AllByRecursion CanWait (go_on_sent asks state.collections state.prompts.agent o) =
    elim [ None ↦ λ found. tt | Some row ↦ λ found. sent row found ] in
    pass (row_at prompt state.prompts) refl
