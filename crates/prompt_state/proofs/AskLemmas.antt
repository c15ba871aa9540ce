-- The first Ask of a prompt above a number, and those of all prompts.
use Rattle.std.proofs.Common.{◌≡◌, ℕ, ◌<◌, ◌-◌, Bool, true, false, nat_lt, List, [], ◌∷◌, ◌++◌, filter, find, filter_map, map, Option, Some, None, refl, sym, ap, subst, ◌∙◌, arith, append-nil}
use Rattle.std.specs.List.{AllByRecursion, cons_option}
use Rattle.std.specs.BTreeMap.Range.{range_contains}
use Rattle.std.specs.Map.{lookup, values_of}
use Rattle.std.specs.Ordering.{nat_cmp}
use Rattle.std.specs.declared.ops.Bound.TheVariants.{Excluded, Unbounded}
use Rattle.std.proofs.lemmas.Bool.Decides.{nat_tests}
use Rattle.std.proofs.lemmas.List.{map-append}
use Rattle.std.proofs.lemmas.List.Elements.{filter_map-append}
use Rattle.kr_base.specs.declared.ids.ConnId.{ConnId}
use Rattle.prompt_state.specs.declared.row.Ask.{Ask}
use Rattle.prompt_state.specs.declared.row.PromptRow.{PromptRow}
use Rattle.prompt_state.specs.declared.row.Stage.{Stage}
use Rattle.prompt_state.specs.declared.row.Stage.TheVariants.{Made, Asked, Deriving}
use Rattle.prompt_state.specs.Prompts.{AreGiven, AreRising, ask_in, ask_to}
use Rattle.prompt_state.specs.Kept.{AreNumbered, Entries}

-- ---- the first row above a number

above-is : (n k : ℕ) → range_contains nat_cmp (Excluded n) Unbounded k ≡ nat_lt n k
above-is n k = grind (arith, nat_tests)

above-rows : (n : ℕ) (entries : Entries) → filter (λ e. range_contains nat_cmp (Excluded n) Unbounded e.0) entries ≡ filter (λ e. nat_lt n e.0) entries
above-rows n entries = λ i. filter (λ e. above-is n e.0 i) entries

first-some : (test : ℕ → Bool) (entries rest : Entries) (e : ℕ × PromptRow) → filter (λ e. test e.0) entries ≡ e ∷ rest → lookup test entries ≡ Some e.1
first-some test [] rest e shown = absurd cc
first-some test (x ∷ xs) rest e shown =
    let step : (b : Bool) → test x.0 ≡ b → lookup test (x ∷ xs) ≡ Some e.1 =
    elim [
      | true ↦ λ is.
          let found : x ∷ filter (λ e. test e.0) xs ≡ e ∷ rest = rw is at shown in
          let same : x ≡ e = cc in
          rw is (ap (λ (y : ℕ × PromptRow). Some y.1) same)
      | false ↦ λ off.
          let found : filter (λ e. test e.0) xs ≡ e ∷ rest = rw off at shown in
          rw off (first-some test xs rest e found)
    ] in
    step (test x.0) refl

first-none : (test : ℕ → Bool) (entries : Entries) → filter (λ e. test e.0) entries ≡ [] → lookup test entries ≡ None
first-none test [] shown = refl
first-none test (x ∷ xs) shown =
    let step : (b : Bool) → test x.0 ≡ b → lookup test (x ∷ xs) ≡ None =
    elim [
      | true ↦ λ is. let found : x ∷ filter (λ e. test e.0) xs ≡ [] = rw is at shown in absurd cc
      | false ↦ λ off. let found : filter (λ e. test e.0) xs ≡ [] = rw off at shown in rw off (first-none test xs found)
    ] in
    step (test x.0) refl

pub above-some : (n : ℕ) (entries rest : Entries) (e : ℕ × PromptRow) → filter (λ e. range_contains nat_cmp (Excluded n) Unbounded e.0) entries ≡ e ∷ rest → lookup (nat_lt n) entries ≡ Some e.1
above-some n entries rest e shown = first-some (nat_lt n) entries rest e (sym (above-rows n entries) ∙ shown)

pub above-none : (n : ℕ) (entries : Entries) → filter (λ e. range_contains nat_cmp (Excluded n) Unbounded e.0) entries ≡ [] → lookup (nat_lt n) entries ≡ None
above-none n entries shown = first-none (nat_lt n) entries (sym (above-rows n entries) ∙ shown)

pub lookup-above : (n : ℕ) (entries : Entries) (row : PromptRow) → AreNumbered entries → lookup (nat_lt n) entries ≡ Some row → n < row.prompt.0
lookup-above n [] row numbered there = absurd cc
lookup-above n (e ∷ more) row numbered there =
    let step : (b : Bool) → nat_lt n e.0 ≡ b → n < row.prompt.0 =
    elim [
      | true ↦ λ is.
          let found : Some e.1 ≡ Some row = rw is at there in
          let same : e.1 ≡ row = cc in
          let below : n < e.0 = grind (arith, nat_tests) in
          subst (λ m. n < m) (sym numbered.0 ∙ ap (λ (r : PromptRow). r.prompt.0) same) below
      | false ↦ λ off.
          let found : lookup (nat_lt n) more ≡ Some row = rw off at there in
          lookup-above n more row numbered.1 found
    ] in
    step (nat_lt n e.0) refl

-- ---- an Ask is of its row

abbrev number_in : Option Ask → ℕ
number_in None = 0
number_in (Some ask) = ask.prompt.0

in-row : (stage : Stage) (agent : ConnId) (row : PromptRow) (ask : Ask) → ask_in stage agent row ≡ Some ask → ask.prompt.0 ≡ row.prompt.0
in-row Made agent row ask is = absurd cc
in-row (Asked round) agent row ask is = sym (ap number_in is)
in-row (Deriving round) agent row ask is = absurd cc

of-row : (agent : ConnId) (row : PromptRow) (ask : Ask) → ask_to agent row ≡ Some ask → ask.prompt.0 ≡ row.prompt.0
of-row agent row ask is = in-row row.stage agent row ask is

abbrev found : ConnId → ℕ → List PromptRow → Option Ask
found agent n rows = find (λ ask. nat_lt n ask.prompt.0) (filter_map (ask_to agent) rows)

skip : (agent : ConnId) (n : ℕ) (row : PromptRow) (rows : List PromptRow) → nat_lt n row.prompt.0 ≡ false → found agent n (row ∷ rows) ≡ found agent n rows
skip agent n row rows off =
    let step : (o : Option Ask) → ask_to agent row ≡ o → found agent n (row ∷ rows) ≡ found agent n rows =
    elim [
      | None ↦ λ is. rw is refl
      | Some ask ↦ λ is.
          let also : nat_lt n ask.prompt.0 ≡ false = ap (nat_lt n) (of-row agent row ask is) ∙ off in
          rw (is, also) refl
    ] in
    step (ask_to agent row) refl

pub found-first : (agent : ConnId) (n : ℕ) (entries : Entries) (row : PromptRow) (ask : Ask) → AreNumbered entries → lookup (nat_lt n) entries ≡ Some row → ask_to agent row ≡ Some ask
    → Some ask ≡ find (λ ask. nat_lt n ask.prompt.0) (filter_map (ask_to agent) (values_of entries))
found-first agent n [] row ask numbered there is = absurd cc
found-first agent n (e ∷ more) row ask numbered there is =
    let step : (b : Bool) → nat_lt n e.0 ≡ b → Some ask ≡ found agent n (values_of (e ∷ more)) =
    elim [
      | true ↦ λ above.
          let here : Some e.1 ≡ Some row = rw above at there in
          let same : e.1 ≡ row = cc in
          let asked : ask_to agent e.1 ≡ Some ask = ap (ask_to agent) same ∙ is in
          let also : nat_lt n ask.prompt.0 ≡ true = ap (nat_lt n) (of-row agent e.1 ask asked ∙ numbered.0) ∙ above in
          rw (asked, also) refl
      | false ↦ λ off.
          let later : lookup (nat_lt n) more ≡ Some row = rw off at there in
          let far : nat_lt n e.1.prompt.0 ≡ false = ap (nat_lt n) numbered.0 ∙ off in
          found-first agent n more row ask numbered.1 later is ∙ sym (skip agent n e.1 (values_of more) far)
    ] in
    step (nat_lt n e.0) refl

pub found-none : (agent : ConnId) (n : ℕ) (entries : Entries) → AreNumbered entries → lookup (nat_lt n) entries ≡ None
    → None ≡ find (λ ask. nat_lt n ask.prompt.0) (filter_map (ask_to agent) (values_of entries))
found-none agent n [] numbered none = refl
found-none agent n (e ∷ more) numbered none =
    let step : (b : Bool) → nat_lt n e.0 ≡ b → None ≡ found agent n (values_of (e ∷ more)) =
    elim [
      | true ↦ λ above. let here : Some e.1 ≡ None = rw above at none in absurd cc
      | false ↦ λ off.
          let later : lookup (nat_lt n) more ≡ None = rw off at none in
          let far : nat_lt n e.1.prompt.0 ≡ false = ap (nat_lt n) numbered.0 ∙ off in
          found-none agent n more numbered.1 later ∙ sym (skip agent n e.1 (values_of more) far)
    ] in
    step (nat_lt n e.0) refl

all-above : (agent : ConnId) (n p : ℕ) (rows : List PromptRow) → n < p → AllByRecursion (λ row. p < row.prompt.0) rows → found agent n rows ≡ found agent p rows
all-above agent n p [] less above = refl
all-above agent n p (row ∷ rows) less above =
    let step : (o : Option Ask) → ask_to agent row ≡ o → found agent n (row ∷ rows) ≡ found agent p (row ∷ rows) =
    elim [
      | None ↦ λ is. rw is (all-above agent n p rows less above.1)
      | Some ask ↦ λ is.
          let same = of-row agent row ask is in
          let over : p < row.prompt.0 = above.0 in
          let one : nat_lt n ask.prompt.0 ≡ true = grind (arith, nat_tests) in
          let other : nat_lt p ask.prompt.0 ≡ true = grind (arith, nat_tests) in
          rw (is, one, other) refl
    ] in
    step (ask_to agent row) refl

lookup-all : (P : PromptRow → Type 0) (test : ℕ → Bool) (entries : Entries) (row : PromptRow) → AllByRecursion P (values_of entries) → lookup test entries ≡ Some row → P row
lookup-all P test [] row all there = absurd cc
lookup-all P test (e ∷ more) row all there =
    let step : (b : Bool) → test e.0 ≡ b → P row =
    elim [
      | true ↦ λ is.
          let found : Some e.1 ≡ Some row = rw is at there in
          let same : e.1 ≡ row = cc in
          subst P same all.0
      | false ↦ λ off. let found : lookup test more ≡ Some row = rw off at there in lookup-all P test more row all.1 found
    ] in
    step (test e.0) refl

pub found-later : (agent : ConnId) (n : ℕ) (entries : Entries) (row : PromptRow) → AreNumbered entries → AreRising (values_of entries) → lookup (nat_lt n) entries ≡ Some row → ask_to agent row ≡ None
    → find (λ ask. nat_lt row.prompt.0 ask.prompt.0) (filter_map (ask_to agent) (values_of entries)) ≡ find (λ ask. nat_lt n ask.prompt.0) (filter_map (ask_to agent) (values_of entries))
found-later agent n [] row numbered rising there none = refl
found-later agent n (e ∷ more) row numbered rising there none =
    let step : (b : Bool) → nat_lt n e.0 ≡ b → found agent row.prompt.0 (values_of (e ∷ more)) ≡ found agent n (values_of (e ∷ more)) =
    elim [
      | true ↦ λ above.
          let here : Some e.1 ≡ Some row = rw above at there in
          let same : e.1 ≡ row = cc in
          let silent : ask_to agent e.1 ≡ None = ap (ask_to agent) same ∙ none in
          let number : e.1.prompt.0 ≡ row.prompt.0 = ap (λ (r : PromptRow). r.prompt.0) same in
          let first : e.1.prompt.0 ≡ e.0 = numbered.0 in
          let less : n < row.prompt.0 = grind (arith, nat_tests) in
          let after : AllByRecursion (λ other. row.prompt.0 < other.prompt.0) (values_of more) = subst (λ p. AllByRecursion (λ other. p < other.prompt.0) (values_of more)) number rising.0 in
          rw silent (sym (all-above agent n row.prompt.0 (values_of more) less after))
      | false ↦ λ off.
          let later : lookup (nat_lt n) more ≡ Some row = rw off at there in
          let far : nat_lt n e.1.prompt.0 ≡ false = ap (nat_lt n) numbered.0 ∙ off in
          let below : e.1.prompt.0 < row.prompt.0 = lookup-all (λ other. e.1.prompt.0 < other.prompt.0) (nat_lt n) more row rising.0 later in
          let also : nat_lt row.prompt.0 e.1.prompt.0 ≡ false = grind (arith, nat_tests) in
          skip agent row.prompt.0 e.1 (values_of more) also ∙ found-later agent n more row numbered.1 rising.1 later none ∙ sym (skip agent n e.1 (values_of more) far)
    ] in
    step (nat_lt n e.0) refl

pub lookup-below : (test : ℕ → Bool) (entries : Entries) (row : PromptRow) (n : ℕ) → AreGiven n (values_of entries) → lookup test entries ≡ Some row → row.prompt.0 < n
lookup-below test entries row n given there = lookup-all (λ other. other.prompt.0 < n) test entries row given there

pub shrinks : (n k m : ℕ) → n < k → k < m → m - k < m - n
shrinks n k m above below = omega (arith, above, below)

-- ---- the Ask of each row

module _ {X : Type 0} (agent : ConnId) (deref : X → PromptRow) where
  all-push : (rows : List X) (row : X) → filter_map (ask_to agent) (map deref (rows ++ row ∷ [])) ≡ filter_map (ask_to agent) (map deref rows) ++ cons_option (ask_to agent (deref row)) []
  all-push rows row = ap (filter_map (ask_to agent)) (map-append deref rows (row ∷ [])) ∙ filter_map-append (ask_to agent) (map deref rows) (deref row ∷ [])

  -- one more row that is asked
  pub asks-push : (rows : List X) (row : X) (ask : Ask) → ask_to agent (deref row) ≡ Some ask → filter_map (ask_to agent) (map deref (rows ++ row ∷ [])) ≡ filter_map (ask_to agent) (map deref rows) ++ ask ∷ []
  asks-push rows row ask is = all-push rows row ∙ ap (λ one. filter_map (ask_to agent) (map deref rows) ++ cons_option one []) is

  -- one more that isn't
  pub asks-skip : (rows : List X) (row : X) → ask_to agent (deref row) ≡ None → filter_map (ask_to agent) (map deref (rows ++ row ∷ [])) ≡ filter_map (ask_to agent) (map deref rows)
  asks-skip rows row is = all-push rows row ∙ ap (λ one. filter_map (ask_to agent) (map deref rows) ++ cons_option one []) is ∙ append-nil (filter_map (ask_to agent) (map deref rows))
