-- Entries by rising numbers: what the map does to them, and the rows that they stand for.
use Rattle.std.proofs.Common.{◌≡◌, ℕ, ◌<◌, ◌==◌, not, Bool, true, false, cond, nat_eq, [], ◌∷◌, ◌++◌, map, filter, find, Some, None, refl, sym, ap, subst, ◌∙◌, arith, Greater}
use Rattle.std.specs.List.{AllByRecursion}
use Rattle.std.specs.List.Sorted.{IsStrictlySortedBy}
use Rattle.std.specs.BTreeMap.{is_at, insert_entry}
use Rattle.std.specs.Map.{keys_of, lookup, remove_entry, set_value, values_of}
use Rattle.std.specs.Ordering.{nat_cmp}
use Rattle.std.proofs.lemmas.Bool.{eqb-true}
use Rattle.std.proofs.lemmas.Bool.Decides.{nat_tests}
use Rattle.std.proofs.lemmas.Map.Keys.{sorted_tail}
use Rattle.kr_base.proofs.IdLemmas.{AllAbove, AllBelow, above-head}
use Rattle.kr_base.specs.declared.ids.PromptId.{PromptId}
use Rattle.prompt_state.specs.declared.row.PromptRow.{PromptRow}
use Rattle.prompt_state.specs.Prompts.{AreGiven}
use Rattle.prompt_state.specs.Kept.{AreNumbered, Entries, entries_changed, entries_without, entry_at}

-- ---- what the map does

test-is : (id k : ℕ) → is_at (nat_cmp id) k ≡ nat_eq k id
test-is id k = grind (arith, nat_tests)

apart-above : (x y : ℕ) → y < x → (x == y) ≡ false
apart-above x y lt = grind (arith, nat_tests)

pub lookup-is : (id : ℕ) (entries : Entries) → lookup (is_at (nat_cmp id)) entries ≡ entry_at id entries
lookup-is id entries = λ i. lookup (λ k. test-is id k i) entries

without-above : (id : ℕ) (entries : Entries) → AllAbove id (keys_of entries) → entries_without id entries ≡ entries
without-above id [] above = refl
without-above id (e ∷ more) above = let off : (e.0 == id) ≡ false = apart-above e.0 id above.0 in rw off (ap (λ t. e ∷ t) (without-above id more above.1))

changed-above : (id : ℕ) (f : PromptRow → PromptRow) (entries : Entries) → AllAbove id (keys_of entries) → entries_changed id f entries ≡ entries
changed-above id f [] above = refl
changed-above id f (e ∷ more) above = let off : (e.0 == id) ≡ false = apart-above e.0 id above.0 in rw off (ap (λ t. e ∷ t) (changed-above id f more above.1))

above-this : (id : ℕ) (e : ℕ × PromptRow) (more : Entries) → IsStrictlySortedBy nat_cmp (keys_of (e ∷ more)) → (e.0 == id) ≡ true → AllAbove id (keys_of more)
above-this id e more rising is = subst (λ n. AllAbove n (keys_of more)) (eqb-true e.0 id is) (above-head e.0 (keys_of more) rising)

removed-first : (id : ℕ) (entries : Entries) → IsStrictlySortedBy nat_cmp (keys_of entries) → remove_entry (λ k. nat_eq k id) entries ≡ entries_without id entries
removed-first id [] rising = refl
removed-first id (e ∷ more) rising =
    let step : (b : Bool) → (e.0 == id) ≡ b → remove_entry (λ k. nat_eq k id) (e ∷ more) ≡ entries_without id (e ∷ more) =
    elim [
      | true ↦ λ is. rw is (sym (without-above id more (above-this id e more rising is)))
      | false ↦ λ off. rw off (ap (λ t. e ∷ t) (removed-first id more (sorted_tail nat_cmp e.0 (keys_of more) rising)))
    ] in
    step (e.0 == id) refl

pub removed-is : (id : ℕ) (entries : Entries) → IsStrictlySortedBy nat_cmp (keys_of entries) → remove_entry (is_at (nat_cmp id)) entries ≡ entries_without id entries
removed-is id entries rising = (λ i. remove_entry (λ k. test-is id k i) entries) ∙ removed-first id entries rising

set-first : (id : ℕ) (f : PromptRow → PromptRow) (entries : Entries) (row : PromptRow) → IsStrictlySortedBy nat_cmp (keys_of entries) → entry_at id entries ≡ Some row
    → set_value (λ k. nat_eq k id) entries (f row) ≡ entries_changed id f entries
set-first id f [] row rising there = absurd cc
set-first id f (e ∷ more) row rising there =
    let step : (b : Bool) → (e.0 == id) ≡ b → set_value (λ k. nat_eq k id) (e ∷ more) (f row) ≡ entries_changed id f (e ∷ more) =
    elim [
      | true ↦ λ is.
          let found : Some e.1 ≡ Some row = rw is at there in
          let same : row ≡ e.1 = cc in
          let rest = sym (changed-above id f more (above-this id e more rising is)) in
          rw is (λ i. (e.0, f (same i)) ∷ rest i)
      | false ↦ λ off.
          let later : entry_at id more ≡ Some row = rw off at there in
          rw off (ap (λ t. e ∷ t) (set-first id f more row (sorted_tail nat_cmp e.0 (keys_of more) rising) later))
    ] in
    step (e.0 == id) refl

pub set-is : (id : ℕ) (f : PromptRow → PromptRow) (entries : Entries) (row new : PromptRow) → new ≡ f row → IsStrictlySortedBy nat_cmp (keys_of entries)
    → lookup (is_at (nat_cmp id)) entries ≡ Some row → set_value (is_at (nat_cmp id)) entries new ≡ entries_changed id f entries
set-is id f entries row new made rising there =
    (λ i. set_value (λ k. test-is id k i) entries (made i)) ∙ set-first id f entries row rising (sym (lookup-is id entries) ∙ there)

changed-none : (id : ℕ) (f : PromptRow → PromptRow) (entries : Entries) → entry_at id entries ≡ None → entries_changed id f entries ≡ entries
changed-none id f [] none = refl
changed-none id f (e ∷ more) none =
    let step : (b : Bool) → (e.0 == id) ≡ b → entries_changed id f (e ∷ more) ≡ e ∷ more =
    elim [
      | true ↦ λ is. let found : Some e.1 ≡ None = rw is at none in absurd cc
      | false ↦ λ off.
          let later : entry_at id more ≡ None = rw off at none in
          rw off (ap (λ t. e ∷ t) (changed-none id f more later))
    ] in
    step (e.0 == id) refl

pub unset-is : (id : ℕ) (f : PromptRow → PromptRow) (entries : Entries) → lookup (is_at (nat_cmp id)) entries ≡ None → entries ≡ entries_changed id f entries
unset-is id f entries none = sym (changed-none id f entries (sym (lookup-is id entries) ∙ none))

pub without-none : (id : ℕ) (entries : Entries) → entry_at id entries ≡ None → entries_without id entries ≡ entries
without-none id [] none = refl
without-none id (e ∷ more) none =
    let step : (b : Bool) → (e.0 == id) ≡ b → entries_without id (e ∷ more) ≡ e ∷ more =
    elim [
      | true ↦ λ is. let found : Some e.1 ≡ None = rw is at none in absurd cc
      | false ↦ λ off.
          let later : entry_at id more ≡ None = rw off at none in
          rw off (ap (λ t. e ∷ t) (without-none id more later))
    ] in
    step (e.0 == id) refl

greater : (n k : ℕ) → k < n → nat_cmp n k ≡ Greater
greater n k lt = grind (arith, nat_tests)

pub insert-last : (entries : Entries) (n : ℕ) (row : PromptRow) → AllBelow n (keys_of entries) → insert_entry nat_cmp entries n row ≡ entries ++ (n, row) ∷ []
insert-last [] n row below = refl
insert-last (e ∷ more) n row below = rw (greater n e.0 below.0) (ap (λ t. e ∷ t) (insert-last more n row below.1))

-- ---- the rows that entries stand for

pub value-at : (id : ℕ) (entries : Entries) → AreNumbered entries → entry_at id entries ≡ find (λ row. nat_eq row.prompt.0 id) (values_of entries)
value-at id [] numbered = refl
value-at id (e ∷ more) numbered =
    let same : (e.1.prompt.0 == id) ≡ (e.0 == id) = ap (λ n. n == id) numbered.0 in
    rw same (ap (cond (nat_eq e.0 id) (Some e.1)) (value-at id more numbered.1))

pub values-changed : (id : ℕ) (f : PromptRow → PromptRow) (entries : Entries) → AreNumbered entries
    → values_of (entries_changed id f entries) ≡ map (λ row. cond (nat_eq row.prompt.0 id) (f row) row) (values_of entries)
values-changed id f [] numbered = refl
values-changed id f (e ∷ more) numbered =
    let rest = values-changed id f more numbered.1 in
    let step : (b : Bool) → (e.0 == id) ≡ b → values_of (entries_changed id f (e ∷ more)) ≡ map (λ row. cond (nat_eq row.prompt.0 id) (f row) row) (values_of (e ∷ more)) =
    elim [
      | true ↦ λ is. let also : (e.1.prompt.0 == id) ≡ true = ap (λ n. n == id) numbered.0 ∙ is in rw (is, also) (ap (λ t. f e.1 ∷ t) rest)
      | false ↦ λ off. let also : (e.1.prompt.0 == id) ≡ false = ap (λ n. n == id) numbered.0 ∙ off in rw (off, also) (ap (λ t. e.1 ∷ t) rest)
    ] in
    step (e.0 == id) refl

pub numbered-changed : (id : ℕ) (f : PromptRow → PromptRow) (entries : Entries) → ((row : PromptRow) → (f row).prompt ≡ row.prompt) → AreNumbered entries → AreNumbered (entries_changed id f entries)
numbered-changed id f [] keeps numbered = tt
numbered-changed id f (e ∷ more) keeps numbered =
    let rest = numbered-changed id f more keeps numbered.1 in
    let step : (b : Bool) → (e.0 == id) ≡ b → AreNumbered (entries_changed id f (e ∷ more)) =
    elim [
      | true ↦ λ is. rw is (ap (λ (p : PromptId). p.0) (keeps e.1) ∙ numbered.0, rest)
      | false ↦ λ off. rw off (numbered.0, rest)
    ] in
    step (e.0 == id) refl

pub values-without : (id : ℕ) (entries : Entries) → AreNumbered entries → values_of (entries_without id entries) ≡ filter (λ row. not (nat_eq row.prompt.0 id)) (values_of entries)
values-without id [] numbered = refl
values-without id (e ∷ more) numbered =
    let rest = values-without id more numbered.1 in
    let step : (b : Bool) → (e.0 == id) ≡ b → values_of (entries_without id (e ∷ more)) ≡ filter (λ row. not (nat_eq row.prompt.0 id)) (values_of (e ∷ more)) =
    elim [
      | true ↦ λ is. let also : (e.1.prompt.0 == id) ≡ true = ap (λ n. n == id) numbered.0 ∙ is in rw (is, also) rest
      | false ↦ λ off. let also : (e.1.prompt.0 == id) ≡ false = ap (λ n. n == id) numbered.0 ∙ off in rw (off, also) (ap (λ t. e.1 ∷ t) rest)
    ] in
    step (e.0 == id) refl

pub numbered-without : (id : ℕ) (entries : Entries) → AreNumbered entries → AreNumbered (entries_without id entries)
numbered-without id [] numbered = tt
numbered-without id (e ∷ more) numbered =
    let rest = numbered-without id more numbered.1 in
    let step : (b : Bool) → (e.0 == id) ≡ b → AreNumbered (entries_without id (e ∷ more)) =
    elim [
      | true ↦ λ is. rw is rest
      | false ↦ λ off. rw off (numbered.0, rest)
    ] in
    step (e.0 == id) refl

pub values-added : (entries : Entries) (n : ℕ) (row : PromptRow) → values_of (entries ++ (n, row) ∷ []) ≡ values_of entries ++ row ∷ []
values-added [] n row = refl
values-added (e ∷ more) n row = ap (λ t. e.1 ∷ t) (values-added more n row)

pub numbered-added : (entries : Entries) (n : ℕ) (row : PromptRow) → row.prompt.0 ≡ n → AreNumbered entries → AreNumbered (entries ++ (n, row) ∷ [])
numbered-added [] n row is numbered = (is, tt)
numbered-added (e ∷ more) n row is numbered = (numbered.0, numbered-added more n row is numbered.1)

pub values-mapped : (g : PromptRow → PromptRow) (entries : Entries) → values_of (map (λ e. (e.0, g e.1)) entries) ≡ map g (values_of entries)
values-mapped g [] = refl
values-mapped g (e ∷ more) = ap (λ t. g e.1 ∷ t) (values-mapped g more)

pub numbered-mapped : (g : PromptRow → PromptRow) (entries : Entries) → ((row : PromptRow) → (g row).prompt ≡ row.prompt) → AreNumbered entries → AreNumbered (map (λ e. (e.0, g e.1)) entries)
numbered-mapped g [] keeps numbered = tt
numbered-mapped g (e ∷ more) keeps numbered = (ap (λ (p : PromptId). p.0) (keeps e.1) ∙ numbered.0, numbered-mapped g more keeps numbered.1)

pub keys-below : (n : ℕ) (entries : Entries) → AreNumbered entries → AreGiven n (values_of entries) → AllByRecursion (λ key. key < n) (keys_of entries)
keys-below n [] numbered given = tt
keys-below n (e ∷ more) numbered given = (subst (λ m. m < n) numbered.0 given.0, keys-below n more numbered.1 given.1)
