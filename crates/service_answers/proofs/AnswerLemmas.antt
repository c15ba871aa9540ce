-- The row of Answer: which plan it is, what is sent if a collection is gone, and what the resolve of its file leads to.
use Rattle.std.proofs.Common.{◌≡◌, ℕ, ◌+◌, ◌<◌, ◌≤◌, Bool, true, false, cond, not, nat_eq, List, [], ◌∷◌, ◌++◌, Option, Some, None, refl, sym, ap, subst, ◌∙◌, arith}
use Rattle.std.specs.Option.{is_some, option_map, option_map_or}
use Rattle.std.proofs.lemmas.Bool.{eqb-true}
use Rattle.std.proofs.lemmas.Bool.Decides.{nat_tests}
use Rattle.std.proofs.lemmas.Map.Lookups.{exact_bytes}
use Rattle.kr_base.proofs.OrderedLemmas.{is_equal}
use Rattle.std.specs.Cmp.Lexicographic.{slice_cmp, nat_list_cmp_total}
use Rattle.std.specs.Ordering.{is_eq, nat_cmp}
use Rattle.std.proofs.lemmas.Cmp.{tied_itself}
use Rattle.std.proofs.lemmas.List.{append-nil}
use Rattle.replace_slot.specs.Cell.{Known}
use Rattle.replace_slot.specs.declared.images.Found.TheVariants as image
use Rattle.service_calls.specs.collection_store.specs.State.{told_after}
use Rattle.service_calls.specs.secret_calls.specs.declared.signal.Signal.{Signal}
use Rattle.service_calls.specs.service_prompts.specs.Announcing.{announced, gone_signals, label_signals}
use Rattle.service_calls.specs.service_events.specs.Announced.{resolve_signals, row_found_signals, shown_signals}
use Rattle.service_answers.specs.Settled.{advance_unless, found_by, newer_signals, relabelled}
use Rattle.kr_base.specs.Attributes.{is_name, value_at}
use Rattle.kr_base.specs.declared.ids.ConnId.{ConnId}
use Rattle.kr_base.specs.declared.ids.PromptId.{PromptId}
use Rattle.service_calls.specs.collection_table.specs.Entries.{changed, without}
use Rattle.service_calls.specs.collection_table.specs.Rows.{CollectionRow, Rows, has, is_open, is_unlocked}
use Rattle.prompt_state.specs.Prompts.{first_of_kind, first_of_row, is_agent, is_asked_in, last_round, next_round, refusal, refusal_of, round_of, row_at}
use Rattle.prompt_state.specs.Targets.{first_of}
use Rattle.prompt_state.specs.declared.row.PromptKind.{PromptKind}
use Rattle.prompt_state.specs.declared.row.PromptKind.TheVariants.{Unlock, Create, Change}
use Rattle.prompt_state.specs.declared.row.PromptRow.{PromptRow}
use Rattle.prompt_state.specs.declared.row.Prompts.{Prompts}
use Rattle.prompt_state.specs.declared.row.Stage.{Stage}
use Rattle.prompt_state.specs.declared.row.Stage.TheVariants.{Made, Asked, Deriving}
use Rattle.prompt_state.specs.declared.table.PromptRefused.{PromptRefused}
use Rattle.prompt_state.specs.declared.table.PromptRefused.TheVariants as refused_by
use Rattle.prompt_state.specs.declared.targets.Target.{Target}
use Rattle.service_calls.specs.service_events.specs.PublicBody as public
use Rattle.service_calls.specs.secret_calls.specs.declared.out.Out.TheVariants as out
use Rattle.service_calls.specs.secret_calls.specs.declared.signal.Signal.TheVariants as signal
use Rattle.service_calls.specs.secret_calls.specs.Outs.{shown_label}
use Rattle.service_calls.specs.service_disk.specs.Resolving.{is_doubtful, row_resolved, rows_resolved, stays}
use Rattle.service_calls.specs.service_disk.proofs.ResolvingLemmas.{resolved-goes, resolved-stays}
use Rattle.service_calls.specs.service_prompts.specs.Prompting.{label_asked, purpose_of}
use Rattle.service_calls.specs.service_tables.specs.Aliases.{is_doubt}
use Rattle.service_calls.specs.service_tables.specs.Connections.{HasRoom, spread}
use Rattle.service_calls.specs.service_tables.specs.Desks.{Table}
use Rattle.service_calls.specs.service_tables.specs.Opened.{Contents, contents_of}
use Rattle.service_calls.specs.service_tables.specs.Questions.{CollectionQuestions}
use Rattle.service_calls.specs.service_tables.specs.TablesReading.{asked_collections, label_of}
use Rattle.service_calls.specs.service_tables.specs.Slots.{IsReadFault, file_at}
use Rattle.service_calls.specs.service_tables.specs.State.{State}
use Rattle.service_calls.specs.service_tables.specs.declared.fate.ReadFate.{ReadFate}
use Rattle.service_calls.specs.service_tables.specs.declared.fate.ReadFate.TheVariants as read
use Rattle.service_calls.specs.service_tables.specs.signal_fanout.specs.declared.rows.ConnRow.{ConnRow}
use Rattle.service_calls.specs.service_tables.specs.signal_fanout.specs.declared.rows.Delivery.{Delivery}
use Rattle.service_calls.specs.service_tables.specs.Sent.{One}
use Rattle.service_calls.specs.service_tables.proofs.DiskLemmas.{without-apart, without-here}
use Rattle.service_calls.specs.service_events.specs.AnswerCalls.{deriving_key, going_on, kind_answered, left_answered, makes_key, makes_key_row, row_answered, target_answered, target_settled}
use Rattle.service_calls.specs.service_events.specs.Plan.{Collection_file, Plan, Questions, End_prompt, Go_on, answered}
use Rattle.service_calls.specs.service_events.specs.PromptCalls.{advance_sent, asks_for, completes, go_on_sent, is_over, passed, passed_kind}
use Rattle.service_calls.specs.service_events.specs.Run.{sent_by, sent_settled}
use Rattle.service_calls.specs.Done.{HasRoomToReply}
use Rattle.service_calls.proofs.LeadsLemmas.{room-silent}
use Rattle.service_calls.proofs.PassLemmas.{has-same}

-- ---- numbers of rounds

same-round : (round other : ℕ) → round ≡ other → nat_eq round other ≡ true
same-round round other is = grind (arith, nat_tests)

less-round : (round other : ℕ) → round < other → nat_eq round other ≡ false
less-round round other less = grind (arith, nat_tests)

-- ---- an answer that isn't refused

asked-stage : (round : ℕ) (stage : Stage) → is_asked_in round stage ≡ true → round_of stage + 1 ≡ round + 1
asked-stage round Made is = absurd (let no : false ≡ true = is in cc)
asked-stage round (Asked other) is = ap (λ n. n + 1) (eqb-true other round is)
asked-stage round (Deriving other) is = absurd (let no : false ≡ true = is in cc)

asked-row : (b : Bool) (o : Option PromptRefused) → o ≡ cond b None (Some refused_by.OldRound) → o ≡ None → b ≡ true
asked-row true o is none = refl
asked-row false o is none = absurd (let no : Some refused_by.OldRound ≡ None = sym is ∙ none in cc)

-- the prompt is there, and is asked in this round
taken-of : (agent : Bool) (round : ℕ) (row : Option PromptRow) → cond agent (refusal_of round row) (Some refused_by.NotAgent) ≡ None → (is_some row ≡ true) × (next_round row ≡ round + 1)
taken-of false round row none = absurd (let no : Some refused_by.NotAgent ≡ None = none in cc)
taken-of true round None none = absurd (let no : Some refused_by.NoPrompt ≡ None = none in cc)
taken-of true round (Some row) none = (refl, asked-stage round row.stage (asked-row (is_asked_in round row.stage) _ refl none))

pub taken-there : (prompt : PromptId) (round : ℕ) (conn : ConnId) (prompts : Prompts) → refusal prompt round conn prompts ≡ None → is_some (row_at prompt prompts) ≡ true
taken-there prompt round conn prompts taken = (taken-of (is_agent conn prompts) round (row_at prompt prompts) taken).0

-- it has a next round
pub taken-round : (prompt : PromptId) (round : ℕ) (conn : ConnId) (prompts : Prompts) → refusal prompt round conn prompts ≡ None → round < last_round → next_round (row_at prompt prompts) ≤ last_round
taken-round prompt round conn prompts taken below =
    let next = (taken-of (is_agent conn prompts) round (row_at prompt prompts) taken).1 in
    subst (λ n. n ≤ last_round) (sym next) (omega arith)

-- ---- which plan it is

module _ (prompt : PromptId) (round : ℕ) where
  abbrev ends-prompt : Plan
  ends-prompt = answered public.Empty (End_prompt prompt true None ∷ [])

  module _ (asks : CollectionQuestions) where
    abbrev in-round : PromptRow → Bool → Plan
    in-round row last = cond last ends-prompt (kind_answered prompt round row.kind asks)

    -- in the greatest round the prompt ends
    pub answered-last : (row : Option PromptRow) → is_some row ≡ true → round ≡ last_round → row_answered prompt round row asks ≡ answered public.Empty (End_prompt prompt true None ∷ [])
    answered-last None there last = absurd (let no : false ≡ true = there in cc)
    answered-last (Some row) there last = ap (in-round row) (same-round round last_round last)

    left-target : (left : List Target) (stem : List ℕ) → option_map (λ (target : Target). target.stem) (first_of left) ≡ Some stem → left_answered prompt round left ≡ target_settled prompt round stem
    left-target [] stem first = absurd (let no : None ≡ Some stem = first in cc)
    left-target (target ∷ left) stem first = let same : target.stem ≡ stem = (let is : Some target.stem ≡ Some stem = first in cc) in ap (target_settled prompt round) same

    kind-target : (k : PromptKind) (stem : List ℕ) → option_map (λ (target : Target). target.stem) (first_of_kind k) ≡ Some stem → kind_answered prompt round k asks ≡ target_settled prompt round stem
    kind-target (Unlock targets) stem first = left-target targets.left stem first
    kind-target (Create label alias salt) stem first = absurd (let no : None ≡ Some stem = first in cc)
    kind-target (Change other salt) stem first = absurd (let no : None ≡ Some stem = first in cc)

    -- there is a first target
    pub answered-target : (row : Option PromptRow) (stem : List ℕ) → round < last_round → option_map (λ (target : Target). target.stem) (first_of_row row) ≡ Some stem
        → row_answered prompt round row asks ≡ target_settled prompt round stem
    answered-target None stem below first = absurd (let no : None ≡ Some stem = first in cc)
    answered-target (Some row) stem below first = ap (in-round row) (less-round round last_round below) ∙ kind-target row.kind stem first

    abbrev by-open : Bool → Plan
    by-open unlocked = cond unlocked (deriving_key prompt round) (going_on prompt)

    kind-derives : (k : PromptKind) → makes_key asks k ≡ true → kind_answered prompt round k asks ≡ deriving_key prompt round
    kind-derives (Unlock targets) is = absurd (let no : false ≡ true = is in cc)
    kind-derives (Create label alias salt) is = refl
    kind-derives (Change stem salt) is = ap by-open is

    -- a key is derived, whatever its targets are
    pub answered-derives : (row : Option PromptRow) → round < last_round → makes_key_row asks row ≡ true → row_answered prompt round row asks ≡ deriving_key prompt round
    answered-derives None below is = absurd (let no : false ≡ true = is in cc)
    answered-derives (Some row) below is = ap (in-round row) (less-round round last_round below) ∙ kind-derives row.kind is

    left-over : (left : List Target) → first_of left ≡ None → left_answered prompt round left ≡ going_on prompt
    left-over [] none = refl
    left-over (target ∷ left) none = absurd (let no : Some target ≡ None = none in cc)

    kind-over : (k : PromptKind) → makes_key asks k ≡ false → first_of_kind k ≡ None → kind_answered prompt round k asks ≡ going_on prompt
    kind-over (Unlock targets) is none = left-over targets.left none
    kind-over (Create label alias salt) is none = absurd (let no : true ≡ false = is in cc)
    kind-over (Change stem salt) is none = ap by-open is

    -- no target is left, or the collection whose password is to be changed isn't unlocked
    pub answered-over : (row : Option PromptRow) → is_some row ≡ true → round < last_round → makes_key_row asks row ≡ false → first_of_row row ≡ None
        → row_answered prompt round row asks ≡ going_on prompt
    answered-over None there below is none = absurd (let no : false ≡ true = there in cc)
    answered-over (Some row) there below is none = ap (in-round row) (less-round round last_round below) ∙ kind-over row.kind is none

  abbrev by-state : Bool → Bool → Plan
  by-state there unlocked = cond there (cond unlocked (going_on prompt) (deriving_key prompt round)) (going_on prompt)

  -- its collection is locked, or gone, or unlocked
  pub target-locked : (questions : Questions) (stem : List ℕ) → questions.collections.has stem ≡ true → questions.collections.is_open stem ≡ false
      → target_answered prompt round stem questions ≡ deriving_key prompt round
  target-locked questions stem there locked = λ i. by-state (there i) (locked i)

  pub target-gone : (questions : Questions) (stem : List ℕ) → questions.collections.has stem ≡ false → target_answered prompt round stem questions ≡ going_on prompt
  target-gone questions stem gone = ap (λ b. by-state b (questions.collections.is_open stem)) gone

  pub target-open : (questions : Questions) (stem : List ℕ) → questions.collections.has stem ≡ true → questions.collections.is_open stem ≡ true → target_answered prompt round stem questions ≡ going_on prompt
  target-open questions stem there unlocked = λ i. by-state (there i) (unlocked i)

-- there is no first target if it has no stem
pub none-first : (first : Option Target) → option_map (λ (target : Target). target.stem) first ≡ None → first ≡ None
none-first None none = refl
none-first (Some target) none = absurd (let no : Some target.stem ≡ None = none in cc)

-- ---- what is sent if a collection is gone

-- what is sent depends on the collections by the label of the one that is asked for
sent-label : (asks : CollectionQuestions) (one other : Rows) (row : PromptRow) (k : PromptKind) (agent : Option ConnId) → (is_over asks k ≡ false → label_asked one k ≡ label_asked other k)
    → advance_sent asks one row k agent ≡ advance_sent asks other row k agent
sent-label asks one other row k agent same =
    let pass : (b : Bool) → is_over asks k ≡ b → cond b (completes row k) (asks_for one row k agent) ≡ cond b (completes row k) (asks_for other row k agent) =
    elim [
      | true ↦ λ is. refl
      | false ↦ λ is. (λ i.
          option_map_or (λ (to : ConnId). (record { to = One to; out = out.Signal (signal.Ask row.prompt (round_of row.stage + 1) (purpose_of k) (shown_label (same is i)) row.wrong) }) ∷ []) agent [])
    ] in
    pass (is_over asks k) refl

not-false : (b : Bool) → not b ≡ false → b ≡ true
not-false true is = refl
not-false false is = absurd (let no : true ≡ false = is in cc)

open-there : (row : Option CollectionRow) → option_map_or is_unlocked row false ≡ true → is_some row ≡ true
open-there None is = absurd (let no : false ≡ true = is in cc)
open-there (Some row) is = refl

module _ (stem : List ℕ) (contents : Contents) where
  -- the collections without that of the stem
  abbrev rest : Rows
  rest = without stem contents.collections

  abbrev asked-rest : CollectionQuestions
  asked-rest = asked_collections (record contents { collections = rest })

  label-there : (other : List ℕ) → has other rest ≡ true → label_of other contents.collections ≡ label_of other rest
  label-there other there =
      let pass : (b : Bool) → is_name stem other ≡ b → label_of other contents.collections ≡ label_of other rest =
      elim [
        | true ↦ λ is. absurd (let no : false ≡ true = has-same stem contents.collections other is ∙ there in cc)
        | false ↦ λ off. ap (λ o. option_map_or (λ (row : CollectionRow). row.clear.name) o []) (sym (without-apart stem other contents.collections off))
      ] in
      pass (is_name stem other) refl

  label-left : (left done : List Target) → label_asked contents.collections (Unlock (passed asked-rest done left)) ≡ label_asked rest (Unlock (passed asked-rest done left))
  label-left [] done = refl
  label-left (target ∷ left) done =
      let ends : Bool → Bool → PromptKind =
      λ there unlocked. Unlock (cond there (cond unlocked (passed asked-rest (done ++ target ∷ []) left) (record { done = done; left = target ∷ left })) (passed asked-rest done left)) in
      let pass : (there unlocked : Bool) → has target.stem rest ≡ there → label_asked contents.collections (ends there unlocked) ≡ label_asked rest (ends there unlocked) =
      elim [ true ↦ elim [ true ↦ λ is. label-left left (done ++ target ∷ []) | false ↦ λ is. label-there target.stem is ] | false ↦ λ unlocked is. label-left left done ] in
      pass (has target.stem rest) (is_open target.stem rest) refl

  label-kind : (k : PromptKind) → is_over asked-rest (passed_kind asked-rest k) ≡ false → label_asked contents.collections (passed_kind asked-rest k) ≡ label_asked rest (passed_kind asked-rest k)
  label-kind (Unlock targets) more = label-left targets.left targets.done
  label-kind (Create label alias salt) more = refl
  label-kind (Change other salt) more = label-there other (open-there (value_at other rest) (not-false (is_open other rest) more))

  -- the prompt is asked for a collection that is still there
  pub sent-without : (row : PromptRow) (k : PromptKind) (agent : Option ConnId)
      → advance_sent asked-rest contents.collections row (passed_kind asked-rest k) agent ≡ advance_sent asked-rest (without stem contents.collections) row (passed_kind asked-rest k) agent
  sent-without row k agent = sent-label asked-rest contents.collections rest row (passed_kind asked-rest k) agent (label-kind k)

-- ---- the collection after the resolve of its file

changed-at : (stem : List ℕ) (f : CollectionRow → CollectionRow) (rows : Rows) → value_at stem (changed stem f rows) ≡ option_map f (value_at stem rows)
changed-at stem f [] = refl
changed-at stem f (e ∷ more) =
    let pass : (b : Bool) → is_name stem e.0 ≡ b → value_at stem (changed stem f (e ∷ more)) ≡ option_map f (value_at stem (e ∷ more)) =
    elim [ true ↦ λ is. rw is (rw is refl) | false ↦ λ off. rw off (rw off (changed-at stem f more)) ] in
    pass (is_name stem e.0) refl

some-mapped : (f : CollectionRow → CollectionRow) (row : Option CollectionRow) → is_some (option_map f row) ≡ is_some row
some-mapped f None = refl
some-mapped f (Some row) = refl

passed-there : {A B : Type 0} (test : B → Bool) (f : A → B) (none : B) (o : Option A) → test (option_map_or f o none) ≡ true → test none ≡ false → is_some o ≡ true
passed-there test f none None is off = absurd (let no : false ≡ true = sym off ∙ is in cc)
passed-there test f none (Some x) is off = refl

shut : (f : CollectionRow → CollectionRow) → ((row : CollectionRow) → is_unlocked (f row) ≡ false) → (row : Option CollectionRow) → option_map_or is_unlocked (option_map f row) false ≡ false
shut f locks None = refl
shut f locks (Some row) = locks row

module _ (stem : List ℕ) (rows : Rows) where
  -- one that isn't there any more is the only change
  pub resolved-gone : (some : ReadFate) → is_doubtful stem rows ≡ true → has stem (rows_resolved stem some rows) ≡ false → rows_resolved stem some rows ≡ without stem rows
  resolved-gone some doubt gone =
      let pass : (b : Bool) → stays some (file_at stem rows) ≡ b → rows_resolved stem some rows ≡ without stem rows =
      elim [
        | true ↦ λ is.
            let there : has stem (rows_resolved stem some rows) ≡ true =
            ap (has stem) (resolved-stays stem some rows is) ∙ ap is_some (changed-at stem (row_resolved some) rows) ∙ some-mapped (row_resolved some) (value_at stem rows) ∙ passed-there is_doubt (λ (row : CollectionRow). row.file) _ (value_at stem rows) doubt refl in
            absurd (let no : true ≡ false = sym there ∙ gone in cc)
        | false ↦ λ off. resolved-goes stem some rows off
      ] in
      pass (stays some (file_at stem rows)) refl

  without-shut : is_open stem (without stem rows) ≡ false
  without-shut = ap (λ o. option_map_or is_unlocked o false) (without-here stem rows)

  found-shut : (b : Bool) (f : CollectionRow → CollectionRow) → ((row : CollectionRow) → is_unlocked (f row) ≡ false) → is_open stem (cond b (changed stem f rows) (without stem rows)) ≡ false
  found-shut true f locks = ap (λ o. option_map_or is_unlocked o false) (changed-at stem f rows) ∙ shut f locks (value_at stem rows)
  found-shut false f locks = without-shut

  -- one that is still there is locked
  pub resolved-shut : (some : ReadFate) → (some ≡ read.ReadFailed → ⊥) → is_open stem (rows_resolved stem some rows) ≡ false
  resolved-shut read.Old well = found-shut (stays read.Old (file_at stem rows)) (row_resolved read.Old) (λ row. refl)
  resolved-shut read.New well = found-shut (stays read.New (file_at stem rows)) (row_resolved read.New) (λ row. refl)
  resolved-shut read.Other well = without-shut
  resolved-shut read.ReadFailed well = absurd (well refl)

-- a resolve that didn't fail is no fault
pub read-well : (some : ReadFate) → (some ≡ read.ReadFailed → ⊥) → IsReadFault some → ⊥
read-well read.Old well is = is
read-well read.New well is = is
read-well read.Other well is = is
read-well read.ReadFailed well is = well refl

-- ---- the state after it, by what the calls of the disk say

module _ (stem taken : List ℕ) (some : ReadFate) (old mid : State) (prepared resolved : Contents) (same : taken ≡ stem) (first : prepared ≡ contents_of old)
    (second : resolved ≡ record prepared { collections = rows_resolved taken some prepared.collections })
    (third : mid ≡ record old { collections = resolved.collections; aliases = resolved.aliases; used = resolved.used }) where
  all-read : resolved ≡ record (contents_of old) { collections = rows_resolved stem some old.collections }
  all-read = second ∙ (λ i. record (first i) { collections = rows_resolved (same i) some (first i).collections })

  pub rows-read : resolved.collections ≡ rows_resolved stem some old.collections
  rows-read = ap (λ (contents : Contents). contents.collections) all-read

  pub state-read : mid ≡ record old { collections = rows_resolved stem some old.collections }
  state-read = third ∙ (λ i. record old { collections = (all-read i).collections; aliases = (all-read i).aliases; used = (all-read i).used })

module _ (conn : ConnId) (prompt : PromptId) (stem : List ℕ) (some : ReadFate) (old mid : State) (same : mid ≡ record old { collections = rows_resolved stem some old.collections }) where
  -- the collection is locked if it is there
  pub locked-read : (some ≡ read.ReadFailed → ⊥) → is_open stem mid.collections ≡ false
  locked-read well = ap (λ (s : State). is_open stem s.collections) same ∙ resolved-shut stem old.collections some well

-- ---- what is sent once a file was read again

same-name : (name : List ℕ) → is_name name name ≡ true
same-name name = ap is_eq (tied_itself nat_list_cmp_total name)

-- the label of the newer image is what is shown once that is found
pub newer-relabelled : (stem : List ℕ) (row : CollectionRow) → relabelled stem row.clear.name (option_map (λ part. part.name) row.other) ≡ shown_signals stem row.clear (told_after image.New row.clear row.other)
newer-relabelled stem row =
    elim row.other as (λ other. relabelled stem row.clear.name (option_map (λ part. part.name) other) ≡ shown_signals stem row.clear (told_after image.New row.clear other)) [
      | None ↦ ap (λ b. cond b [] (label_signals stem row.clear.name)) (sym (same-name row.clear.name))
      | Some part ↦ refl
    ]

module _ (stem : List ℕ) where
  -- the signals of what was found, of a collection that may be there
  abbrev found-in : ReadFate → Option CollectionRow → List Signal
  found-in read.Old o = option_map_or (row_found_signals stem image.Old) o []
  found-in read.New o = option_map_or (row_found_signals stem image.New) o []
  found-in read.Other o = cond (is_some o) (gone_signals stem) []
  found-in read.ReadFailed o = []

  found-is : (some : ReadFate) (rows : Rows) → found-in some (value_at stem rows) ≡ resolve_signals stem some rows
  found-is read.Old rows = refl
  found-is read.New rows = refl
  found-is read.Other rows = refl
  found-is read.ReadFailed rows = refl

  module _ (gone newer : List Delivery) (conns : List ConnRow) where
    -- the collection is left
    found-left : (some : ReadFate) (o : Option CollectionRow) → stays some (option_map_or (λ (row : CollectionRow). row.file) o (Known None)) ≡ true → (some ≡ read.ReadFailed → ⊥)
        → newer ≡ spread conns (announced (option_map_or (λ (row : CollectionRow). shown_signals stem row.clear (told_after image.New row.clear row.other)) o []))
        → found_by gone newer some true ≡ spread conns (announced (found-in some o))
    found-left read.Old None is well was = refl
    found-left read.Old (Some row) is well was =
        ap (λ b. spread conns (announced (cond b [] (label_signals stem row.clear.name)))) (sym (same-name row.clear.name))
        ∙ ap (λ b. spread conns (announced (cond b (shown_signals stem row.clear row.clear) (gone_signals stem)))) (sym is)
    found-left read.New None is well was = was
    found-left read.New (Some row) is well was =
        was ∙ ap (λ b. spread conns (announced (cond b (shown_signals stem row.clear (told_after image.New row.clear row.other)) (gone_signals stem)))) (sym is)
    found-left read.Other o is well was = absurd (let no : false ≡ true = is in cc)
    found-left read.ReadFailed o is well was = absurd (well refl)

    -- it is gone, and this is sent after the signals of that
    found-gone : (some : ReadFate) (o : Option CollectionRow) (rest : List Delivery) → stays some (option_map_or (λ (row : CollectionRow). row.file) o (Known None)) ≡ false → is_some o ≡ true
        → gone ≡ spread conns (announced (gone_signals stem)) ++ rest → found_by gone newer some false ≡ spread conns (announced (found-in some o)) ++ rest
    found-gone some None rest is there was = absurd (let no : false ≡ true = there in cc)
    found-gone read.Old (Some row) rest is there was =
        was ∙ ap (λ b. spread conns (announced (cond b (shown_signals stem row.clear row.clear) (gone_signals stem))) ++ rest) (sym is)
    found-gone read.New (Some row) rest is there was =
        was ∙ ap (λ b. spread conns (announced (cond b (shown_signals stem row.clear (told_after image.New row.clear row.other)) (gone_signals stem))) ++ rest) (sym is)
    found-gone read.Other (Some row) rest is there was = was
    found-gone read.ReadFailed (Some row) rest is there was = absurd (let no : true ≡ false = is in cc)

module _ (conn : ConnId) (prompt : PromptId) (stem : List ℕ) (some : ReadFate) (old mid : State) (same : mid ≡ record old { collections = rows_resolved stem some old.collections }) where
  -- the signals of what was found are sent, and then what is sent as the prompt advances, unless the collection is left
  pub found-said : (left : Bool) (gone newer : List Delivery) → (some ≡ read.ReadFailed → ⊥) → is_doubtful stem old.collections ≡ true → left ≡ has stem mid.collections
      → gone ≡ spread old.connections.rows (announced (gone_signals stem))
      ++ spread old.connections.rows (go_on_sent (asked_collections (record (contents_of old) { collections = without stem old.collections })) (without stem old.collections) old.prompts.agent (row_at prompt old.prompts))
      → newer ≡ spread old.connections.rows (announced (newer_signals stem old.collections))
      → found_by gone newer some left ≡ spread old.connections.rows (sent_settled (Collection_file stem) some old) ++ spread mid.connections.rows (advance_unless (has stem mid.collections) conn prompt mid)
  found-said left gone newer well doubt is was maybe =
      let conns = old.connections.rows in
      let o = value_at stem old.collections in
      let there : is_some o ≡ true = passed-there is_doubt (λ (row : CollectionRow). row.file) _ o doubt refl in
      let advance = spread mid.connections.rows (sent_by conn (Go_on prompt) mid) in
      let said = spread conns (announced (found-in stem some o)) in
      let settled = ap (λ signals. spread conns (announced signals)) (found-is stem some old.collections) in
      let pass : (b : Bool) → stays some (file_at stem old.collections) ≡ b → found_by gone newer some left ≡ said ++ spread mid.connections.rows (advance_unless (has stem mid.collections) conn prompt mid) =
      elim [
        | true ↦ λ stay.
            let in_it : has stem mid.collections ≡ true =
            ap (λ (s : State). has stem s.collections) same ∙ ap (has stem) (resolved-stays stem some old.collections stay) ∙ ap is_some (changed-at stem (row_resolved some) old.collections) ∙ some-mapped (row_resolved some) o ∙ there in
            ap (found_by gone newer some) (is ∙ in_it) ∙ found-left stem gone newer conns some o stay well maybe ∙ sym (append-nil said)
            ∙ ap (λ b. said ++ spread mid.connections.rows (cond b [] (sent_by conn (Go_on prompt) mid))) (sym in_it)
        | false ↦ λ goes.
            let left_out : rows_resolved stem some old.collections ≡ without stem old.collections = resolved-goes stem some old.collections goes in
            let out : has stem mid.collections ≡ false = ap (λ (s : State). has stem s.collections) same ∙ ap (has stem) left_out ∙ ap is_some (without-here stem old.collections) in
            let after : spread conns (sent_by conn (Go_on prompt) (record old { collections = without stem old.collections })) ≡ advance =
            ap (λ these. spread conns (sent_by conn (Go_on prompt) (record old { collections = these }))) (sym left_out)
            ∙ sym (λ i. spread (same i).connections.rows (sent_by conn (Go_on prompt) (same i))) in
            ap (found_by gone newer some) (is ∙ out)
            ∙ found-gone stem gone newer conns some o advance goes there (was ∙ ap (λ more. spread conns (announced (gone_signals stem)) ++ more) after)
            ∙ ap (λ b. said ++ spread mid.connections.rows (cond b [] (sent_by conn (Go_on prompt) mid))) (sym out)
      ] in
      pass (stays some (file_at stem old.collections)) refl ∙ ap (λ ds. ds ++ spread mid.connections.rows (advance_unless (has stem mid.collections) conn prompt mid)) settled

-- ---- room for the reply

-- a call that sends nothing else leaves the room as it was
pub room-kept : (caller : ConnId) (sends : List Delivery) (old new : Table) → sends ≡ [] → new ≡ old → HasRoom 1 caller old.rooms → HasRoomToReply caller sends new.rooms
room-kept caller sends old new none same room = subst (λ (table : Table). HasRoomToReply caller sends table.rooms) (sym same) (room-silent caller sends old.rooms none room)
