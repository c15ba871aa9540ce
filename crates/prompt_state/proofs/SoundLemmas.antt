-- What is true of the prompts at every moment stays true: after a change of rows, without some of them, and with one more.
use Rattle.std.proofs.Common.{◌≡◌, ℕ, ◌+◌, ◌<◌, ◌≤◌, ◌==◌, not, Bool, true, false, cond, nat_eq, nat_le, List, [], ◌∷◌, ◌++◌, length, map, filter, find, Some, refl, sym, ap, subst, ◌∙◌, arith}
use Rattle.std.specs.List.{AllByRecursion}
use Rattle.std.proofs.lemmas.Bool.{eqb-true, or_parts}
use Rattle.std.proofs.lemmas.Bool.Decides.{nat_tests}
use Rattle.kr_base.specs.declared.ids.ConnId.{ConnId}
use Rattle.kr_base.specs.declared.ids.PromptId.{PromptId}
use Rattle.prompt_state.specs.declared.row.PromptKind.{PromptKind}
use Rattle.prompt_state.specs.declared.row.PromptRow.{PromptRow}
use Rattle.prompt_state.specs.declared.row.Prompts.{Prompts}
use Rattle.prompt_state.specs.Prompts.{AreGiven, AreRising, AreSound, IsStage, begun, changed, is_full, is_of, last_prompt, most_prompts, rows_of}
use Rattle.prompt_state.specs.Kept.{numbers_of, IsFirst}

-- a change of a row that keeps its owner and its number, and keeps its stage possible
pub record IsKeeping (h : PromptRow → PromptRow) : Type 0 where
  pub number : (row : PromptRow) → (h row).prompt ≡ row.prompt
  pub owner : (row : PromptRow) → (h row).owner ≡ row.owner
  pub stage : (row : PromptRow) → IsStage row.stage → IsStage (h row).stage

-- ---- lists

pub all-filter : (P : PromptRow → Type 0) (p : PromptRow → Bool) (rows : List PromptRow) → AllByRecursion P rows → AllByRecursion P (filter p rows)
all-filter P p [] all = tt
all-filter P p (x ∷ xs) all =
    let step : (b : Bool) → p x ≡ b → AllByRecursion P (filter p (x ∷ xs)) =
    elim [
      | true ↦ λ is. rw is (all.0, all-filter P p xs all.1)
      | false ↦ λ off. rw off (all-filter P p xs all.1)
    ] in
    step (p x) refl

all-added : (P : PromptRow → Type 0) (rows : List PromptRow) (row : PromptRow) → P row → AllByRecursion P rows → AllByRecursion P (rows ++ row ∷ [])
all-added P [] row last all = (last, tt)
all-added P (x ∷ xs) row last all = (all.0, all-added P xs row last all.1)

all-weaker : (P Q : PromptRow → Type 0) (rows : List PromptRow) → ((row : PromptRow) → P row → Q row) → AllByRecursion P rows → AllByRecursion Q rows
all-weaker P Q [] weaker all = tt
all-weaker P Q (x ∷ xs) weaker all = (weaker x all.0, all-weaker P Q xs weaker all.1)

pub rising-filter : (p : PromptRow → Bool) (rows : List PromptRow) → AreRising rows → AreRising (filter p rows)
rising-filter p [] rising = tt
rising-filter p (x ∷ xs) rising =
    let step : (b : Bool) → p x ≡ b → AreRising (filter p (x ∷ xs)) =
    elim [
      | true ↦ λ is. rw is (all-filter (λ other. x.prompt.0 < other.prompt.0) p xs rising.0, rising-filter p xs rising.1)
      | false ↦ λ off. rw off (rising-filter p xs rising.1)
    ] in
    step (p x) refl

rising-added : (rows : List PromptRow) (row : PromptRow) → AreGiven row.prompt.0 rows → AreRising rows → AreRising (rows ++ row ∷ [])
rising-added [] row given rising = (tt, tt)
rising-added (x ∷ xs) row given rising = (all-added (λ other. x.prompt.0 < other.prompt.0) xs row given.0 rising.0, rising-added xs row given.1 rising.1)

few-filter : (owner : ConnId) (p : PromptRow → Bool) (rows : List PromptRow) → length (rows_of owner (filter p rows)) ≤ length (rows_of owner rows)
few-filter owner p [] = omega arith
few-filter owner p (x ∷ xs) =
    let rest = few-filter owner p xs in
    let step : (a b : Bool) → p x ≡ a → is_of owner x ≡ b → length (rows_of owner (filter p (x ∷ xs))) ≤ length (rows_of owner (x ∷ xs)) =
    elim [
      | true ↦ elim [
        | true ↦ λ is own. rw (is, own) (omega (arith, rest))
        | false ↦ λ is far. rw (is, far) rest
      ]
      | false ↦ elim [
        | true ↦ λ off own. rw (off, own) (omega (arith, rest))
        | false ↦ λ off far. rw (off, far) rest
      ]
    ] in
    step (p x) (is_of owner x) refl refl

-- ---- a change of rows

module _ (h : PromptRow → PromptRow) (keeps : IsKeeping h) where
  given-map : (n : ℕ) (rows : List PromptRow) → AreGiven n rows → AreGiven n (map h rows)
  given-map n [] given = tt
  given-map n (x ∷ xs) given = (subst (λ (p : PromptId). p.0 < n) (sym (keeps.number x)) given.0, given-map n xs given.1)

  above-map : (n : ℕ) (rows : List PromptRow) → AllByRecursion (λ other. n < other.prompt.0) rows → AllByRecursion (λ other. n < other.prompt.0) (map h rows)
  above-map n [] above = tt
  above-map n (x ∷ xs) above = (subst (λ (p : PromptId). n < p.0) (sym (keeps.number x)) above.0, above-map n xs above.1)

  rising-map : (rows : List PromptRow) → AreRising rows → AreRising (map h rows)
  rising-map [] rising = tt
  rising-map (x ∷ xs) rising =
      (subst (λ (p : PromptId). AllByRecursion (λ other. p.0 < other.prompt.0) (map h xs)) (sym (keeps.number x)) (above-map x.prompt.0 xs rising.0), rising-map xs rising.1)

  rounds-map : (rows : List PromptRow) → AllByRecursion (λ row. IsStage row.stage) rows → AllByRecursion (λ row. IsStage row.stage) (map h rows)
  rounds-map [] rounds = tt
  rounds-map (x ∷ xs) rounds = (keeps.stage x rounds.0, rounds-map xs rounds.1)

  few-map : (owner : ConnId) (rows : List PromptRow) → length (rows_of owner (map h rows)) ≡ length (rows_of owner rows)
  few-map owner [] = refl
  few-map owner (x ∷ xs) =
      let rest = few-map owner xs in
      let same : is_of owner (h x) ≡ is_of owner x = ap (λ (c : ConnId). nat_eq c.0 owner.0) (keeps.owner x) in
      let step : (b : Bool) → is_of owner x ≡ b → length (rows_of owner (map h (x ∷ xs))) ≡ length (rows_of owner (x ∷ xs)) =
      elim [
        | true ↦ λ is. let also : is_of owner (h x) ≡ true = same ∙ is in rw (also, is) (omega (arith, rest))
        | false ↦ λ off. let also : is_of owner (h x) ≡ false = same ∙ off in rw (also, off) rest
      ] in
      step (is_of owner x) refl

  pub numbers-map : (owner : ℕ) (rows : List PromptRow) → numbers_of owner (map h rows) ≡ numbers_of owner rows
  numbers-map owner [] = refl
  numbers-map owner (x ∷ xs) =
      let rest = numbers-map owner xs in
      let same : nat_eq (h x).owner.0 owner ≡ nat_eq x.owner.0 owner = ap (λ (c : ConnId). nat_eq c.0 owner) (keeps.owner x) in
      let step : (b : Bool) → nat_eq x.owner.0 owner ≡ b → numbers_of owner (map h (x ∷ xs)) ≡ numbers_of owner (x ∷ xs) =
      elim [
        | true ↦ λ is. let also : nat_eq (h x).owner.0 owner ≡ true = same ∙ is in rw (also, is) (λ i. (keeps.number x i).0 ∷ rest i)
        | false ↦ λ off. let also : nat_eq (h x).owner.0 owner ≡ false = same ∙ off in rw (also, off) rest
      ] in
      step (nat_eq x.owner.0 owner) refl

  pub sound-map : (prompts : Prompts) → AreSound prompts → AreSound (record prompts { rows = map h prompts.rows })
  sound-map prompts sound = record {
    first = sound.first;
    numbers = above-map 0 prompts.rows sound.numbers;
    given = given-map prompts.next prompts.rows sound.given;
    rising = rising-map prompts.rows sound.rising;
    rounds = rounds-map prompts.rows sound.rounds;
    few = λ owner. subst (λ n. n ≤ most_prompts) (sym (few-map owner prompts.rows)) (sound.few owner);
    numbered = sound.numbered;
  }

pub keeping-at : (n : ℕ) (f : PromptRow → PromptRow) → IsKeeping f → IsKeeping (λ row. cond (nat_eq row.prompt.0 n) (f row) row)
keeping-at n f keeps = record {
  number = λ row. (
      let step : (b : Bool) → (cond b (f row) row).prompt ≡ row.prompt = elim [ true ↦ keeps.number row | false ↦ refl ] in
      step (nat_eq row.prompt.0 n));
  owner = λ row. (
      let step : (b : Bool) → (cond b (f row) row).owner ≡ row.owner = elim [ true ↦ keeps.owner row | false ↦ refl ] in
      step (nat_eq row.prompt.0 n));
  stage = λ row. (
      let step : (b : Bool) → IsStage row.stage → IsStage (cond b (f row) row).stage = elim [ true ↦ keeps.stage row | false ↦ λ is. is ] in
      step (nat_eq row.prompt.0 n));
}

pub sound-changed : (prompt : PromptId) (f : PromptRow → PromptRow) (prompts : Prompts) → IsKeeping f → AreSound prompts → AreSound (changed prompt f prompts)
sound-changed prompt f prompts keeps sound = sound-map (λ row. cond (nat_eq row.prompt.0 prompt.0) (f row) row) (keeping-at prompt.0 f keeps) prompts sound

-- ---- without some rows

pub sound-filter : (p : PromptRow → Bool) (prompts : Prompts) → AreSound prompts → AreSound (record prompts { rows = filter p prompts.rows })
sound-filter p prompts sound = record {
  first = sound.first;
  numbers = all-filter (λ row. 0 < row.prompt.0) p prompts.rows sound.numbers;
  given = all-filter (λ row. row.prompt.0 < prompts.next) p prompts.rows sound.given;
  rising = rising-filter p prompts.rows sound.rising;
  rounds = all-filter (λ row. IsStage row.stage) p prompts.rows sound.rounds;
  few = λ owner. omega (arith, few-filter owner p prompts.rows, sound.few owner);
  numbered = sound.numbered;
}

-- ---- with one more

few-added : (owner : ConnId) (rows : List PromptRow) (row : PromptRow) → length (rows_of owner (rows ++ row ∷ [])) ≡ cond (is_of owner row) (length (rows_of owner rows) + 1) (length (rows_of owner rows))
few-added owner [] row =
    let step : (b : Bool) → is_of owner row ≡ b → length (rows_of owner (row ∷ [])) ≡ cond (is_of owner row) 1 0 =
    elim [ true ↦ λ is. rw is refl | false ↦ λ off. rw off refl ] in
    step (is_of owner row) refl
few-added owner (x ∷ xs) row =
    let rest = few-added owner xs row in
    let step : (a b : Bool) → is_of owner x ≡ a → is_of owner row ≡ b
    → length (rows_of owner ((x ∷ xs) ++ row ∷ [])) ≡ cond (is_of owner row) (length (rows_of owner (x ∷ xs)) + 1) (length (rows_of owner (x ∷ xs))) =
    elim [
      | true ↦ elim [
        | true ↦ λ here is. let more = rw is at rest in rw (here, is) (omega (arith, more))
        | false ↦ λ here off. let more = rw off at rest in rw (here, off) (omega (arith, more))
      ]
      | false ↦ elim [
        | true ↦ λ here is. let more = rw is at rest in rw (here, is) more
        | false ↦ λ here off. let more = rw off at rest in rw (here, off) more
      ]
    ] in
    step (is_of owner x) (is_of owner row) refl refl

pub numbers-added : (owner : ℕ) (rows : List PromptRow) (row : PromptRow) → numbers_of owner (rows ++ row ∷ []) ≡ cond (nat_eq row.owner.0 owner) (numbers_of owner rows ++ row.prompt.0 ∷ []) (numbers_of owner rows)
numbers-added owner [] row =
    let step : (b : Bool) → nat_eq row.owner.0 owner ≡ b → numbers_of owner (row ∷ []) ≡ cond (nat_eq row.owner.0 owner) (row.prompt.0 ∷ []) [] =
    elim [ true ↦ λ is. rw is refl | false ↦ λ off. rw off refl ] in
    step (nat_eq row.owner.0 owner) refl
numbers-added owner (x ∷ xs) row =
    let rest = numbers-added owner xs row in
    let step : (a b : Bool) → nat_eq x.owner.0 owner ≡ a → nat_eq row.owner.0 owner ≡ b
    → numbers_of owner ((x ∷ xs) ++ row ∷ []) ≡ cond (nat_eq row.owner.0 owner) (numbers_of owner (x ∷ xs) ++ row.prompt.0 ∷ []) (numbers_of owner (x ∷ xs)) =
    elim [
      | true ↦ elim [
        | true ↦ λ here is. let more = rw is at rest in rw (here, is) (ap (λ t. x.prompt.0 ∷ t) more)
        | false ↦ λ here off. let more = rw off at rest in rw (here, off) (ap (λ t. x.prompt.0 ∷ t) more)
      ]
      | false ↦ elim [
        | true ↦ λ here is. let more = rw is at rest in rw (here, is) more
        | false ↦ λ here off. let more = rw off at rest in rw (here, off) more
      ]
    ] in
    step (nat_eq x.owner.0 owner) (nat_eq row.owner.0 owner) refl refl

few-begun : (owner other : ConnId) (rows : List PromptRow) (row : PromptRow) → row.owner ≡ owner → length (rows_of owner rows) < most_prompts → length (rows_of other rows) ≤ most_prompts
    → length (rows_of other (rows ++ row ∷ [])) ≤ most_prompts
few-begun owner other rows row is room few =
    let added = few-added other rows row in
    let step : (b : Bool) → is_of other row ≡ b → length (rows_of other (rows ++ row ∷ [])) ≤ most_prompts =
    elim [
      | true ↦ λ own.
          let same : row.owner.0 ≡ other.0 = eqb-true row.owner.0 other.0 own in
          let number : owner.0 ≡ other.0 = sym (ap (λ (c : ConnId). c.0) is) ∙ same in
          let few' : length (rows_of other rows) < most_prompts = subst (λ n. length (filter (λ r. nat_eq r.owner.0 n) rows) < most_prompts) number room in
          let more : length (rows_of other (rows ++ row ∷ [])) ≡ length (rows_of other rows) + 1 = rw own at added in
          omega (arith, more, few')
      | false ↦ λ far.
          let more : length (rows_of other (rows ++ row ∷ [])) ≡ length (rows_of other rows) = rw far at added in
          omega (arith, more, few)
    ] in
    step (is_of other row) refl

pub room-of : (owner : ConnId) (prompts : Prompts) → is_full owner prompts ≡ false → (length (rows_of owner prompts.rows) < most_prompts) × (prompts.next < last_prompt)
room-of owner prompts full =
    let parts : (nat_le most_prompts (length (rows_of owner prompts.rows)) ≡ false) × (nat_le last_prompt prompts.next ≡ false) = or_parts (nat_le most_prompts (length (rows_of owner prompts.rows))) (nat_le last_prompt prompts.next) full in
    let first = parts.0 in
    let second = parts.1 in
    (grind (arith, nat_tests), grind (arith, nat_tests))

pub sound-begun : (owner : ConnId) (kind : PromptKind) (prompts : Prompts) → is_full owner prompts ≡ false → AreSound prompts → AreSound (begun owner kind prompts)
sound-begun owner kind prompts full sound =
    let room = room-of owner prompts full in
    record {
      first = omega arith;
      numbers = all-added (λ row. 0 < row.prompt.0) prompts.rows _ sound.first sound.numbers;
      given = all-added (λ row. row.prompt.0 < prompts.next + 1) prompts.rows _ (omega arith)
          (all-weaker (λ row. row.prompt.0 < prompts.next) (λ row. row.prompt.0 < prompts.next + 1) prompts.rows (λ row less. omega (arith, less)) sound.given);
      rising = rising-added prompts.rows _ sound.given sound.rising;
      rounds = all-added (λ row. IsStage row.stage) prompts.rows _ tt sound.rounds;
      few = λ other. few-begun owner other prompts.rows _ refl room.0 (sound.few other);
      numbered = omega (arith, room.1);
    }

-- ---- one that ends

none-same : (n : ℕ) (k : ℕ) (rows : List PromptRow) → (k == n) ≡ true → AllByRecursion (λ other. k < other.prompt.0) rows → filter (λ row. not (nat_eq row.prompt.0 n)) rows ≡ rows
none-same n k [] is above = refl
none-same n k (x ∷ xs) is above =
    let over : k < x.prompt.0 = above.0 in
    let off : nat_eq x.prompt.0 n ≡ false = grind (arith, nat_tests) in
    rw off (ap (λ t. x ∷ t) (none-same n k xs is above.1))

none-number : (n k owner : ℕ) (rows : List PromptRow) → (k == n) ≡ true → AllByRecursion (λ other. k < other.prompt.0) rows → filter (λ one. not (nat_eq one n)) (numbers_of owner rows) ≡ numbers_of owner rows
none-number n k owner [] is above = refl
none-number n k owner (x ∷ xs) is above =
    let rest = none-number n k owner xs is above.1 in
    let over : k < x.prompt.0 = above.0 in
    let off : nat_eq x.prompt.0 n ≡ false = grind (arith, nat_tests) in
    let step : (b : Bool) → nat_eq x.owner.0 owner ≡ b → filter (λ one. not (nat_eq one n)) (numbers_of owner (x ∷ xs)) ≡ numbers_of owner (x ∷ xs) =
    elim [
      | true ↦ λ own. rw (own, off) (ap (λ t. x.prompt.0 ∷ t) rest)
      | false ↦ λ far. rw far rest
    ] in
    step (nat_eq x.owner.0 owner) refl

pub numbers-ended : (n owner : ℕ) (rows : List PromptRow) (row : PromptRow) → AreRising rows → find (λ r. nat_eq r.prompt.0 n) rows ≡ Some row
    → numbers_of owner (filter (λ r. not (nat_eq r.prompt.0 n)) rows) ≡ cond (nat_eq row.owner.0 owner) (filter (λ one. not (nat_eq one n)) (numbers_of owner rows)) (numbers_of owner rows)
numbers-ended n owner [] row rising there = absurd cc
numbers-ended n owner (x ∷ xs) row rising there =
    let step : (a : Bool) → nat_eq x.prompt.0 n ≡ a
    → numbers_of owner (filter (λ r. not (nat_eq r.prompt.0 n)) (x ∷ xs)) ≡ cond (nat_eq row.owner.0 owner) (filter (λ one. not (nat_eq one n)) (numbers_of owner (x ∷ xs))) (numbers_of owner (x ∷ xs)) =
    elim [
      | true ↦ λ is.
          let found : Some x ≡ Some row = rw is at there in
          let same : x ≡ row = cc in
          let own : nat_eq row.owner.0 owner ≡ nat_eq x.owner.0 owner = ap (λ (r : PromptRow). nat_eq r.owner.0 owner) (sym same) in
          let kept = none-same n x.prompt.0 xs is rising.0 in
          let numbers = none-number n x.prompt.0 owner xs is rising.0 in
          let inner : (b : Bool) → nat_eq x.owner.0 owner ≡ b
          → numbers_of owner (filter (λ r. not (nat_eq r.prompt.0 n)) (x ∷ xs)) ≡ cond (nat_eq x.owner.0 owner) (filter (λ one. not (nat_eq one n)) (numbers_of owner (x ∷ xs))) (numbers_of owner (x ∷ xs)) =
          elim [
            | true ↦ λ mine. rw (is, mine, is, kept) (sym numbers)
            | false ↦ λ far. rw (is, far, kept) refl
          ] in
          rw own (inner (nat_eq x.owner.0 owner) refl)
      | false ↦ λ off.
          let later : find (λ r. nat_eq r.prompt.0 n) xs ≡ Some row = rw off at there in
          let rest = numbers-ended n owner xs row rising.1 later in
          let inner : (b d : Bool) → nat_eq x.owner.0 owner ≡ b → nat_eq row.owner.0 owner ≡ d
          → numbers_of owner (filter (λ r. not (nat_eq r.prompt.0 n)) (x ∷ xs)) ≡ cond (nat_eq row.owner.0 owner) (filter (λ one. not (nat_eq one n)) (numbers_of owner (x ∷ xs))) (numbers_of owner (x ∷ xs)) =
          elim [
            | true ↦ elim [
              | true ↦ λ mine his. let more = rw his at rest in rw (off, mine, his, off) (ap (λ t. x.prompt.0 ∷ t) more)
              | false ↦ λ mine his. let more = rw his at rest in rw (off, mine, his) (ap (λ t. x.prompt.0 ∷ t) more)
            ]
            | false ↦ elim [
              | true ↦ λ mine his. let more = rw his at rest in rw (off, mine, his) more
              | false ↦ λ mine his. let more = rw his at rest in rw (off, mine, his) more
            ]
          ] in
          inner (nat_eq x.owner.0 owner) (nat_eq row.owner.0 owner) refl refl
    ] in
    step (nat_eq x.prompt.0 n) refl

-- ---- all of an owner's

first-above : (n k owner : ℕ) (rows : List PromptRow) → AllByRecursion (λ other. k < other.prompt.0) rows → IsFirst n (numbers_of owner rows) → k < n
first-above n k owner [] above first = absurd first
first-above n k owner (x ∷ xs) above first =
    let step : (b : Bool) → nat_eq x.owner.0 owner ≡ b → k < n =
    elim [
      | true ↦ λ own. let is : x.prompt.0 ≡ n = rw own at first in subst (λ m. k < m) is above.0
      | false ↦ λ far. let later : IsFirst n (numbers_of owner xs) = rw far at first in first-above n k owner xs above.1 later
    ] in
    step (nat_eq x.owner.0 owner) refl

itself : (k n : ℕ) → k ≡ n → nat_eq k n ≡ true
itself k n is = grind (arith, nat_tests)

below-is-other : (k n : ℕ) → k < n → nat_eq k n ≡ false
below-is-other k n less = grind (arith, nat_tests)

pub others-stay : (n owner : ℕ) (rows : List PromptRow) → AreRising rows → IsFirst n (numbers_of owner rows)
    → filter (λ row. not (nat_eq row.owner.0 owner)) (filter (λ row. not (nat_eq row.prompt.0 n)) rows) ≡ filter (λ row. not (nat_eq row.owner.0 owner)) rows
others-stay n owner [] rising first = refl
others-stay n owner (x ∷ xs) rising first =
    let step : (b : Bool) → nat_eq x.owner.0 owner ≡ b
    → filter (λ row. not (nat_eq row.owner.0 owner)) (filter (λ row. not (nat_eq row.prompt.0 n)) (x ∷ xs)) ≡ filter (λ row. not (nat_eq row.owner.0 owner)) (x ∷ xs) =
    elim [
      | true ↦ λ own.
          let is : x.prompt.0 ≡ n = rw own at first in
          let same = itself x.prompt.0 n is in
          rw (same, own, none-same n x.prompt.0 xs same rising.0) refl
      | false ↦ λ far.
          let later : IsFirst n (numbers_of owner xs) = rw far at first in
          let off = below-is-other x.prompt.0 n (first-above n x.prompt.0 owner xs rising.0 later) in
          rw (off, far) (ap (λ t. x ∷ t) (others-stay n owner xs rising.1 later))
    ] in
    step (nat_eq x.owner.0 owner) refl

shorter : (n : ℕ) (rows : List PromptRow) → length (filter (λ row. not (nat_eq row.prompt.0 n)) rows) ≤ length rows
shorter n [] = omega arith
shorter n (x ∷ xs) =
    let rest = shorter n xs in
    let step : (b : Bool) → nat_eq x.prompt.0 n ≡ b → length (filter (λ row. not (nat_eq row.prompt.0 n)) (x ∷ xs)) ≤ length (x ∷ xs) =
    elim [ true ↦ λ is. rw is (omega (arith, rest)) | false ↦ λ off. rw off (omega (arith, rest)) ] in
    step (nat_eq x.prompt.0 n) refl

pub one-fewer : (n owner : ℕ) (rows : List PromptRow) → IsFirst n (numbers_of owner rows) → length (filter (λ row. not (nat_eq row.prompt.0 n)) rows) < length rows
one-fewer n owner [] first = absurd first
one-fewer n owner (x ∷ xs) first =
    let step : (b : Bool) → nat_eq x.owner.0 owner ≡ b → length (filter (λ row. not (nat_eq row.prompt.0 n)) (x ∷ xs)) < length (x ∷ xs) =
    elim [
      | true ↦ λ own.
          let is : x.prompt.0 ≡ n = rw own at first in
          let same = itself x.prompt.0 n is in
          rw same (omega (arith, shorter n xs))
      | false ↦ λ far.
          let later : IsFirst n (numbers_of owner xs) = rw far at first in
          let rest = one-fewer n owner xs later in
          let inner : (c : Bool) → nat_eq x.prompt.0 n ≡ c → length (filter (λ row. not (nat_eq row.prompt.0 n)) (x ∷ xs)) < length (x ∷ xs) =
          elim [ true ↦ λ is. rw is (omega (arith, rest)) | false ↦ λ off. rw off (omega (arith, rest)) ] in
          inner (nat_eq x.prompt.0 n) refl
    ] in
    step (nat_eq x.owner.0 owner) refl

pub no-own : (owner : ℕ) (rows : List PromptRow) → numbers_of owner rows ≡ [] → filter (λ row. not (nat_eq row.owner.0 owner)) rows ≡ rows
no-own owner [] none = refl
no-own owner (x ∷ xs) none =
    let step : (b : Bool) → nat_eq x.owner.0 owner ≡ b → filter (λ row. not (nat_eq row.owner.0 owner)) (x ∷ xs) ≡ x ∷ xs =
    elim [
      | true ↦ λ own. let shown : x.prompt.0 ∷ numbers_of owner xs ≡ [] = rw own at none in absurd cc
      | false ↦ λ far. let later : numbers_of owner xs ≡ [] = rw far at none in rw far (ap (λ t. x ∷ t) (no-own owner xs later))
    ] in
    step (nat_eq x.owner.0 owner) refl
