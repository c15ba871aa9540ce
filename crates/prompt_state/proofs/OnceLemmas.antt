-- A prompt completes at most once: while it is there, or its number hasn't been used yet, one Completed is left,
-- and otherwise none.
use Rattle.std.proofs.Common.{◌≡◌, ℕ, ◌+◌, ◌<◌, ◌≤◌, Bool, true, false, if◌then◌else◌, not, nat_eq, nat_le, length, List, [], ◌∷◌, ◌++◌, map, filter, Option, Some, None, refl, sym, ap, subst, ◌∙◌, arith}
use Rattle.std.specs.List.{AllByRecursion}
use Rattle.std.proofs.lemmas.Bool.Decides.{nat_tests}
use Rattle.kr_base.specs.declared.ids.ConnId.{ConnId}
use Rattle.kr_base.specs.declared.ids.PromptId.{PromptId}
use Rattle.prompt_state.specs.declared.row.Ended.{Ended}
use Rattle.prompt_state.specs.declared.row.PromptRow.{PromptRow}
use Rattle.prompt_state.specs.declared.row.Prompts.{Prompts}
use Rattle.prompt_state.specs.Prompts.{AreGiven, AreRising, abandoned, asked_from, begun, changed, ended, ended_row, is_agent, is_made, is_of, is_prompt, last_round, row_at, unanswered_row, unregistered, without}
use Rattle.prompt_state.specs.declared.row.PromptKind.{PromptKind}
use Rattle.prompt_state.specs.declared.row.Stage.TheVariants.{Made, Asked, Deriving}
use Rattle.prompt_state.specs.Changes.{Change, completed, completions, performed}

abbrev count : ℕ → List PromptRow → ℕ
count number rows = length (filter (λ row. nat_eq row.prompt.0 number) rows)

abbrev left : ℕ → Prompts → ℕ
left number prompts = count number prompts.rows + (if nat_le prompts.next number then 1 else 0)

record AreApart (prompts : Prompts) : Type 0 where
  given : AreGiven prompts.next prompts.rows
  rising : AreRising prompts.rows

record IsQuiet (prompts new : Prompts) : Type 0 where
  apart : AreApart new
  less : (number : ℕ) → left number new ≤ left number prompts

-- ---- how many have a number

count-above : (number k : ℕ) (rows : List PromptRow) → AllByRecursion (λ row. k < row.prompt.0) rows → number ≤ k → count number rows ≡ 0
count-above number k [] above le = refl
count-above number k (x ∷ xs) above le =
    let over : k < x.prompt.0 = above.0 in
    let off : nat_eq x.prompt.0 number ≡ false = grind (arith, nat_tests) in
    rw off (count-above number k xs above.1 le)

count-below : (number m : ℕ) (rows : List PromptRow) → AreGiven m rows → m ≤ number → count number rows ≡ 0
count-below number m [] given le = refl
count-below number m (x ∷ xs) given le =
    let under : x.prompt.0 < m = given.0 in
    let off : nat_eq x.prompt.0 number ≡ false = grind (arith, nat_tests) in
    rw off (count-below number m xs given.1 le)

count-once : (number : ℕ) (rows : List PromptRow) → AreRising rows → count number rows ≤ 1
count-once number [] rising = omega arith
count-once number (x ∷ xs) rising =
    let step : (b : Bool) → nat_eq x.prompt.0 number ≡ b → count number (x ∷ xs) ≤ 1 =
    elim [
      | true ↦ λ is.
          let le : number ≤ x.prompt.0 = grind (arith, nat_tests) in
          let none = count-above number x.prompt.0 xs rising.0 le in
          rw is (omega (arith, none))
      | false ↦ λ off. rw off (count-once number xs rising.1)
    ] in
    step (nat_eq x.prompt.0 number) refl

left-once : (number : ℕ) (prompts : Prompts) → AreApart prompts → left number prompts ≤ 1
left-once number prompts apart =
    let step : (b : Bool) → nat_le prompts.next number ≡ b → left number prompts ≤ 1 =
    elim [
      | true ↦ λ is.
          let le : prompts.next ≤ number = grind (arith, nat_tests) in
          let none = count-below number prompts.next prompts.rows apart.given le in
          rw is (omega (arith, none))
      | false ↦ λ off. let once = count-once number prompts.rows apart.rising in rw off (omega (arith, once))
    ] in
    step (nat_le prompts.next number) refl

-- ---- a change of rows that keeps their numbers

module _ (h : PromptRow → PromptRow) (keeps : (row : PromptRow) → (h row).prompt ≡ row.prompt) where
  given-kept : (m : ℕ) (rows : List PromptRow) → AreGiven m rows → AreGiven m (map h rows)
  given-kept m [] given = tt
  given-kept m (x ∷ xs) given = (subst (λ (p : PromptId). p.0 < m) (sym (keeps x)) given.0, given-kept m xs given.1)

  above-kept : (m : ℕ) (rows : List PromptRow) → AllByRecursion (λ row. m < row.prompt.0) rows → AllByRecursion (λ row. m < row.prompt.0) (map h rows)
  above-kept m [] above = tt
  above-kept m (x ∷ xs) above = (subst (λ (p : PromptId). m < p.0) (sym (keeps x)) above.0, above-kept m xs above.1)

  rising-kept : (rows : List PromptRow) → AreRising rows → AreRising (map h rows)
  rising-kept [] rising = tt
  rising-kept (x ∷ xs) rising =
      (subst (λ (p : PromptId). AllByRecursion (λ row. p.0 < row.prompt.0) (map h xs)) (sym (keeps x)) (above-kept x.prompt.0 xs rising.0), rising-kept xs rising.1)

  count-kept : (number : ℕ) (rows : List PromptRow) → count number (map h rows) ≡ count number rows
  count-kept number [] = refl
  count-kept number (x ∷ xs) =
      let rest = count-kept number xs in
      let same : nat_eq (h x).prompt.0 number ≡ nat_eq x.prompt.0 number = ap (λ (p : PromptId). nat_eq p.0 number) (keeps x) in
      let step : (b : Bool) → nat_eq x.prompt.0 number ≡ b → count number (map h (x ∷ xs)) ≡ count number (x ∷ xs) =
      elim [
        | true ↦ λ is. let also : nat_eq (h x).prompt.0 number ≡ true = same ∙ is in rw (also, is) (omega (arith, rest))
        | false ↦ λ off. let also : nat_eq (h x).prompt.0 number ≡ false = same ∙ off in rw (also, off) rest
      ] in
      step (nat_eq x.prompt.0 number) refl

  quiet-map : (prompts : Prompts) (agent : Option ConnId) → AreApart prompts → IsQuiet prompts (record { rows = map h prompts.rows; agent = agent; next = prompts.next })
  quiet-map prompts agent apart = record {
    apart = record { given = given-kept prompts.next prompts.rows apart.given; rising = rising-kept prompts.rows apart.rising };
    less = λ number. let same = count-kept number prompts.rows in omega (arith, same);
  }

quiet-changed : (prompt : PromptId) (f : PromptRow → PromptRow) (prompts : Prompts) → ((row : PromptRow) → (f row).prompt ≡ row.prompt) → AreApart prompts → IsQuiet prompts (changed prompt f prompts)
quiet-changed prompt f prompts keeps apart =
    quiet-map (λ row. if nat_eq row.prompt.0 prompt.0 then f row else row) (λ row. (
    let step : (b : Bool) → (if b then f row else row).prompt ≡ row.prompt = elim [ true ↦ keeps row | false ↦ refl ] in
    step (nat_eq row.prompt.0 prompt.0))) prompts prompts.agent apart

quiet-same : (prompts : Prompts) (agent : Option ConnId) → AreApart prompts → IsQuiet prompts (record prompts { agent = agent })
quiet-same prompts agent apart = record { apart = record { given = apart.given; rising = apart.rising }; less = λ number. omega arith }

-- ---- without some rows

all-some : (P : PromptRow → Type 0) (p : PromptRow → Bool) (rows : List PromptRow) → AllByRecursion P rows → AllByRecursion P (filter p rows)
all-some P p [] all = tt
all-some P p (x ∷ xs) all =
    let step : (b : Bool) → p x ≡ b → AllByRecursion P (filter p (x ∷ xs)) =
    elim [ true ↦ λ is. rw is (all.0, all-some P p xs all.1) | false ↦ λ off. rw off (all-some P p xs all.1) ] in
    step (p x) refl

rising-some : (p : PromptRow → Bool) (rows : List PromptRow) → AreRising rows → AreRising (filter p rows)
rising-some p [] rising = tt
rising-some p (x ∷ xs) rising =
    let step : (b : Bool) → p x ≡ b → AreRising (filter p (x ∷ xs)) =
    elim [
      | true ↦ λ is. rw is (all-some (λ other. x.prompt.0 < other.prompt.0) p xs rising.0, rising-some p xs rising.1)
      | false ↦ λ off. rw off (rising-some p xs rising.1)
    ] in
    step (p x) refl

-- a row is among those that pass, or among those that don't
count-split : (number : ℕ) (p : PromptRow → Bool) (rows : List PromptRow) → count number (filter p rows) + count number (filter (λ row. not (p row)) rows) ≡ count number rows
count-split number p [] = refl
count-split number p (x ∷ xs) =
    let rest = count-split number p xs in
    let step : (a b : Bool) → p x ≡ a → nat_eq x.prompt.0 number ≡ b → count number (filter p (x ∷ xs)) + count number (filter (λ row. not (p row)) (x ∷ xs)) ≡ count number (x ∷ xs) =
    elim [
      | true ↦ elim [
        | true ↦ λ is own. rw (is, own) (omega (arith, rest))
        | false ↦ λ is off. rw (is, off) rest
      ]
      | false ↦ elim [
        | true ↦ λ far own. rw (far, own) (omega (arith, rest))
        | false ↦ λ far off. rw (far, off) rest
      ]
    ] in
    step (p x) (nat_eq x.prompt.0 number) refl refl

apart-some : (p : PromptRow → Bool) (prompts : Prompts) → AreApart prompts → AreApart (record prompts { rows = filter p prompts.rows })
apart-some p prompts apart = record {
  given = all-some (λ row. row.prompt.0 < prompts.next) p prompts.rows apart.given;
  rising = rising-some p prompts.rows apart.rising;
}

quiet-without : (conn : ConnId) (prompts : Prompts) → AreApart prompts → IsQuiet prompts (without conn prompts)
quiet-without conn prompts apart = record {
  apart = apart-some (λ row. not (is_of conn row)) prompts apart;
  less = λ number. let split = count-split number (is_of conn) prompts.rows in omega (arith, split);
}

quiet-then : (a b c : Prompts) → IsQuiet a b → IsQuiet b c → IsQuiet a c
quiet-then a b c first second = record { apart = second.apart; less = λ number. omega (arith, first.less number, second.less number) }

quiet-abandoned : (conn : ConnId) (prompts : Prompts) → AreApart prompts → IsQuiet prompts (abandoned conn prompts)
quiet-abandoned conn prompts apart =
    let fewer = quiet-without conn prompts apart in
    let step : (b : Bool) → IsQuiet prompts (if b then unregistered (without conn prompts) else without conn prompts) =
    elim [
      | true ↦ quiet-then prompts (without conn prompts) (unregistered (without conn prompts)) fewer (quiet-map unanswered_row (λ row. refl) (without conn prompts) None fewer.apart)
      | false ↦ fewer
    ] in
    step (is_agent conn prompts)

-- ---- one more

given-more : (m : ℕ) (rows : List PromptRow) (row : PromptRow) → row.prompt.0 ≡ m → AreGiven m rows → AreGiven (m + 1) (rows ++ row ∷ [])
given-more m [] row is given = (omega (arith, is), tt)
given-more m (x ∷ xs) row is given = (omega (arith, given.0), given-more m xs row is given.1)

above-more : (k : ℕ) (rows : List PromptRow) (row : PromptRow) → k < row.prompt.0 → AllByRecursion (λ other. k < other.prompt.0) rows → AllByRecursion (λ other. k < other.prompt.0) (rows ++ row ∷ [])
above-more k [] row less above = (less, tt)
above-more k (x ∷ xs) row less above = (above.0, above-more k xs row less above.1)

rising-more : (rows : List PromptRow) (row : PromptRow) → AreGiven row.prompt.0 rows → AreRising rows → AreRising (rows ++ row ∷ [])
rising-more [] row given rising = (tt, tt)
rising-more (x ∷ xs) row given rising = (above-more x.prompt.0 xs row given.0 rising.0, rising-more xs row given.1 rising.1)

count-more : (number : ℕ) (rows : List PromptRow) (row : PromptRow) → count number (rows ++ row ∷ []) ≡ count number rows + (if nat_eq row.prompt.0 number then 1 else 0)
count-more number [] row =
    let step : (b : Bool) → nat_eq row.prompt.0 number ≡ b → count number (row ∷ []) ≡ 0 + (if nat_eq row.prompt.0 number then 1 else 0) =
    elim [ true ↦ λ is. rw is refl | false ↦ λ off. rw off refl ] in
    step (nat_eq row.prompt.0 number) refl
count-more number (x ∷ xs) row =
    let rest = count-more number xs row in
    let step : (b : Bool) → nat_eq x.prompt.0 number ≡ b → count number ((x ∷ xs) ++ row ∷ []) ≡ count number (x ∷ xs) + (if nat_eq row.prompt.0 number then 1 else 0) =
    elim [ true ↦ λ is. rw is (omega (arith, rest)) | false ↦ λ off. rw off rest ] in
    step (nat_eq x.prompt.0 number) refl

room-moves : (next number : ℕ) → (if nat_eq next number then 1 else 0) + (if nat_le (next + 1) number then 1 else 0) ≤ (if nat_le next number then 1 else 0)
room-moves next number = grind (arith, nat_tests)

quiet-begun : (owner : ConnId) (kind : PromptKind) (prompts : Prompts) → AreApart prompts → IsQuiet prompts (begun owner kind prompts)
quiet-begun owner kind prompts apart = record {
  apart = record { given = given-more prompts.next prompts.rows _ refl apart.given; rising = rising-more prompts.rows _ apart.given apart.rising };
  less = λ number. (
      let more = count-more number prompts.rows (record { prompt = record { 0 = prompts.next }; owner = owner; kind = kind; stage = Made; wrong = 0 }) in
      let moved = room-moves prompts.next number in
      omega (arith, more, moved));
}

-- ---- each change

count-ended : (number : ℕ) (rows : List PromptRow) → length (filter (λ (one : Ended). nat_eq one.prompt.0 number) (map ended_row rows)) ≡ count number rows
count-ended number [] = refl
count-ended number (x ∷ xs) =
    let rest = count-ended number xs in
    let step : (b : Bool) → nat_eq x.prompt.0 number ≡ b → length (filter (λ (one : Ended). nat_eq one.prompt.0 number) (map ended_row (x ∷ xs))) ≡ count number (x ∷ xs) =
    elim [ true ↦ λ is. rw is (omega (arith, rest)) | false ↦ λ off. rw off rest ] in
    step (nat_eq x.prompt.0 number) refl

abbrev told : ℕ → List Ended → ℕ
told number list = length (filter (λ one. nat_eq one.prompt.0 number) list)

record IsPaid (prompts new : Prompts) (ends : List Ended) : Type 0 where
  apart : AreApart new
  paid : (number : ℕ) → told number ends + left number new ≤ left number prompts

paid-quiet : (prompts new : Prompts) → IsQuiet prompts new → IsPaid prompts new []
paid-quiet prompts new quiet = record { apart = quiet.apart; paid = λ number. omega (arith, quiet.less number) }

paid-ended : (prompt : PromptId) (prompts : Prompts) → AreApart prompts → IsPaid prompts (ended prompt prompts) (map ended_row (filter (is_prompt prompt) prompts.rows))
paid-ended prompt prompts apart = record {
  apart = apart-some (λ row. not (is_prompt prompt row)) prompts apart;
  paid = λ number. (
      let split = count-split number (is_prompt prompt) prompts.rows in
      let same = count-ended number (filter (is_prompt prompt) prompts.rows) in
      omega (arith, split, same));
}

paid : (change : Change) (prompts : Prompts) → AreApart prompts → IsPaid prompts (performed change prompts) (completed change prompts)
paid (Change.Begin owner kind) prompts apart = paid-quiet prompts _ (quiet-begun owner kind prompts apart)
paid (Change.Ask prompt) prompts apart =
    let made : (b : Bool) (row : PromptRow) → IsQuiet prompts (if b then changed prompt (λ row. record row { stage = Asked 1 }) prompts else prompts) =
    elim [ true ↦ λ row. quiet-changed prompt (λ row. record row { stage = Asked 1 }) prompts (λ row. refl) apart | false ↦ λ row. quiet-same prompts prompts.agent apart ] in
    let step : (o : Option PromptRow) → IsQuiet prompts (asked_from o prompt prompts) =
    elim [ None ↦ quiet-same prompts prompts.agent apart | Some row ↦ made (is_made row.stage) row ] in
    paid-quiet prompts _ (step (row_at prompt prompts))
paid (Change.Answer prompt round) prompts apart =
    let step : (b : Bool) → IsPaid prompts (if b then ended prompt prompts else changed prompt (λ row. record row { stage = Deriving round }) prompts) (if b then map ended_row (filter (is_prompt prompt) prompts.rows) else []) =
    elim [
      | true ↦ paid-ended prompt prompts apart
      | false ↦ paid-quiet prompts _ (quiet-changed prompt (λ row. record row { stage = Deriving round }) prompts (λ row. refl) apart)
    ] in
    step (nat_eq round last_round)
paid (Change.Again prompt) prompts apart = paid-quiet prompts _ (quiet-changed prompt _ prompts (λ row. refl) apart)
paid (Change.Finish prompt) prompts apart = paid-quiet prompts _ (quiet-changed prompt _ prompts (λ row. refl) apart)
paid (Change.Drop prompt) prompts apart = paid-quiet prompts _ (quiet-changed prompt _ prompts (λ row. refl) apart)
paid (Change.Wrong prompt) prompts apart = paid-quiet prompts _ (quiet-changed prompt _ prompts (λ row. refl) apart)
paid (Change.Clear prompt) prompts apart = paid-quiet prompts _ (quiet-changed prompt _ prompts (λ row. refl) apart)
paid (Change.End prompt) prompts apart = paid-ended prompt prompts apart
paid (Change.Register conn) prompts apart = paid-quiet prompts _ (quiet-same prompts (Some conn) apart)
paid Change.Unregister prompts apart = paid-quiet prompts _ (quiet-map unanswered_row (λ row. refl) prompts None apart)
paid (Change.Gone conn) prompts apart = paid-quiet prompts _ (quiet-abandoned conn prompts apart)

all-paid : (prompts : Prompts) (changes : List Change) (number : ℕ) → AreApart prompts → completions number changes prompts ≤ left number prompts
all-paid prompts [] number apart = omega arith
all-paid prompts (change ∷ changes) number apart =
    let first = paid change prompts apart in
    let rest = all-paid (performed change prompts) changes number first.apart in
    omega (arith, rest, first.paid number)

pub once : (prompts : Prompts) (changes : List Change) (number : ℕ) → AreGiven prompts.next prompts.rows → AreRising prompts.rows → completions number changes prompts ≤ 1
once prompts changes number given rising =
    let apart : AreApart prompts = record { given = given; rising = rising } in
    omega (arith, all-paid prompts changes number apart, left-once number prompts apart)
