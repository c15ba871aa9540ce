-- The pairs stay those of the rows, and the table stays as it is kept.
use Rattle.std.proofs.Common.{◌≡◌, ℕ, ◌+◌, ◌^◌, ◌<◌, ◌≤◌, not, Bool, true, false, cond, nat_eq, List, [], ◌∷◌, ◌++◌, length, map, filter, min, Option, Some, None, refl, sym, ap, subst, ◌∙◌, arith}
use Rattle.std.specs.List.{AllByRecursion}
use Rattle.std.specs.Map.{values_of}
use Rattle.std.proofs.lemmas.Bool.Decides.{nat_tests}
use Rattle.kr_base.specs.declared.ids.ConnId.{ConnId}
use Rattle.kr_base.specs.declared.ids.PromptId.{PromptId}
use Rattle.prompt_state.specs.declared.row.PromptKind.{PromptKind}
use Rattle.prompt_state.specs.declared.row.PromptRow.{PromptRow}
use Rattle.prompt_state.specs.declared.row.Stage.{Stage}
use Rattle.prompt_state.specs.declared.row.Stage.TheVariants.{Made, Asked, Deriving}
use Rattle.prompt_state.specs.Prompts.{AreGiven, AreRising, AreSound, IsStage, begun, changed, is_full, without, ended, last_prompt, last_round, row_at, unanswered, unanswered_row, unregistered}
use Rattle.prompt_state.specs.Kept.{AreBelow, AreInOrder, AreIndexed, AreNumbered, Entries, IsFirst, IsKept, entries_changed, entries_without, entry_at, numbers_at, numbers_of, prompts_of, unanswered_within}
use Rattle.prompt_state.proofs.EntryLemmas.{numbered-added, numbered-changed, numbered-mapped, numbered-without, value-at, values-added, values-changed, values-mapped, values-without, without-none}
use Rattle.prompt_state.proofs.SoundLemmas.{IsKeeping, keeping-at, all-filter, no-own, numbers-added, numbers-ended, numbers-map, one-fewer, others-stay, rising-filter, sound-begun, sound-filter, sound-map}

-- ---- numbers that were used

all-numbers : (n owner : ℕ) (rows : List PromptRow) → AreGiven n rows → AllByRecursion (λ m. m < n) (numbers_of owner rows)
all-numbers n owner [] given = tt
all-numbers n owner (x ∷ xs) given =
    let rest = all-numbers n owner xs given.1 in
    let step : (b : Bool) → nat_eq x.owner.0 owner ≡ b → AllByRecursion (λ m. m < n) (numbers_of owner (x ∷ xs)) =
    elim [ true ↦ λ own. rw own (given.0, rest) | false ↦ λ far. rw far rest ] in
    step (nat_eq x.owner.0 owner) refl

itself : (k : ℕ) → nat_eq k k ≡ true
itself k = grind (arith, nat_tests)

below-from-at : (n : ℕ) (pairs : List (ℕ × ℕ)) → ((owner : ℕ) → AllByRecursion (λ m. m < n) (numbers_at owner pairs)) → AreBelow n pairs
below-from-at n [] all = tt
below-from-at n (k ∷ ks) all =
    let here : AllByRecursion (λ m. m < n) (k.1 ∷ numbers_at k.0 ks) = let own = all k.0 in rw (itself k.0) at own in
    let later : (owner : ℕ) → AllByRecursion (λ m. m < n) (numbers_at owner ks) = λ owner. (
    let own = all owner in
    let step : (b : Bool) → nat_eq k.0 owner ≡ b → AllByRecursion (λ m. m < n) (numbers_at owner ks) =
    elim [
      | true ↦ λ is. let shown : AllByRecursion (λ m. m < n) (k.1 ∷ numbers_at owner ks) = rw is at own in shown.1
      | false ↦ λ off. rw off at own
    ] in
    step (nat_eq k.0 owner) refl) in
    (here.0, below-from-at n ks later)

pub pairs-below : (n : ℕ) (rows : List PromptRow) (pairs : List (ℕ × ℕ)) → AreGiven n rows → AreIndexed rows pairs → AreBelow n pairs
pairs-below n rows pairs given indexed =
    below-from-at n pairs (λ owner. subst (λ numbers. AllByRecursion (λ m. m < n) numbers) (sym (indexed.same owner)) (all-numbers n owner rows given))

pub given-wide : (n : ℕ) (rows : List PromptRow) → n ≤ last_prompt → AreGiven n rows → AreGiven (2 ^ 64) rows
given-wide n [] within given = tt
given-wide n (x ∷ xs) within given = (omega (arith, within, given.0), given-wide n xs within given.1)

-- ---- one more, and none after all

pub added-index : (owner number : ℕ) (row : PromptRow) (rows : List PromptRow) (pairs more : List (ℕ × ℕ)) → row.owner.0 ≡ owner → row.prompt.0 ≡ number → AreInOrder more
    → ((other : ℕ) → numbers_at other more ≡ cond (nat_eq owner other) (numbers_at other pairs ++ number ∷ []) (numbers_at other pairs))
    → AreIndexed rows pairs → AreIndexed (rows ++ row ∷ []) more
added-index owner number row rows pairs more own is ordered added indexed = record {
  ordered = ordered;
  same = λ other. added other
      ∙ (λ i. cond (nat_eq (sym own i) other) (indexed.same other i ++ sym is i ∷ []) (indexed.same other i))
      ∙ sym (numbers-added other rows row);
}

last-goes : (n : ℕ) (numbers : List ℕ) → AllByRecursion (λ m. m < n) numbers → filter (λ one. not (nat_eq one n)) (numbers ++ n ∷ []) ≡ numbers
last-goes n [] below = rw (itself n) refl
last-goes n (x ∷ xs) below =
    let less : x < n = below.0 in
    let off : nat_eq x n ≡ false = grind (arith, nat_tests) in
    rw off (ap (λ t. x ∷ t) (last-goes n xs below.1))

pub undone-index : (owner number : ℕ) (rows : List PromptRow) (pairs more fewer : List (ℕ × ℕ)) → AreGiven number rows → AreInOrder fewer
    → ((other : ℕ) → numbers_at other more ≡ cond (nat_eq owner other) (numbers_at other pairs ++ number ∷ []) (numbers_at other pairs))
    → ((other : ℕ) → numbers_at other fewer ≡ cond (nat_eq owner other) (filter (λ one. not (nat_eq one number)) (numbers_at other more)) (numbers_at other more))
    → AreIndexed rows pairs → AreIndexed rows fewer
undone-index owner number rows pairs more fewer given ordered added taken indexed = record {
  ordered = ordered;
  same = λ other. (
      let first = added other in
      let second = taken other in
      let step : (b : Bool) → nat_eq owner other ≡ b → numbers_at other fewer ≡ numbers_of other rows =
      elim [
        | true ↦ λ is.
            let one : numbers_at other more ≡ numbers_at other pairs ++ number ∷ [] = rw is at first in
            let two : numbers_at other fewer ≡ filter (λ one. not (nat_eq one number)) (numbers_at other more) = rw is at second in
            two ∙ ap (filter (λ one. not (nat_eq one number))) (one ∙ ap (λ t. t ++ number ∷ []) (indexed.same other)) ∙ last-goes number (numbers_of other rows) (all-numbers number other rows given)
        | false ↦ λ off.
            let one : numbers_at other more ≡ numbers_at other pairs = rw off at first in
            let two : numbers_at other fewer ≡ numbers_at other more = rw off at second in
            two ∙ one ∙ indexed.same other
      ] in
      step (nat_eq owner other) refl);
}

pub ended-index : (number : ℕ) (row : PromptRow) (entries fewer : Entries) (pairs left : List (ℕ × ℕ)) → AreNumbered entries → AreRising (values_of entries) → entry_at number entries ≡ Some row
    → fewer ≡ entries_without number entries → AreInOrder left
    → ((other : ℕ) → numbers_at other left ≡ cond (nat_eq row.owner.0 other) (filter (λ one. not (nat_eq one number)) (numbers_at other pairs)) (numbers_at other pairs))
    → AreIndexed (values_of entries) pairs → AreIndexed (values_of fewer) left
ended-index number row entries fewer pairs left numbered rising there without ordered taken indexed =
    let values = ap values_of without ∙ values-without number entries numbered in
    record {
      ordered = ordered;
      same = λ other. taken other
          ∙ (λ i. cond (nat_eq row.owner.0 other) (filter (λ one. not (nat_eq one number)) (indexed.same other i)) (indexed.same other i))
          ∙ sym (numbers-ended number other (values_of entries) row rising (sym (value-at number entries numbered) ∙ there))
          ∙ ap (numbers_of other) (sym values);
    }

pub kept-index : (number : ℕ) (entries fewer : Entries) (pairs : List (ℕ × ℕ)) → entry_at number entries ≡ None → fewer ≡ entries_without number entries
    → AreIndexed (values_of entries) pairs → AreIndexed (values_of fewer) pairs
kept-index number entries fewer pairs none without indexed =
    subst (λ es. AreIndexed (values_of es) pairs) (sym (without ∙ without-none number entries none)) indexed

pub mapped-index : (h : PromptRow → PromptRow) (rows : List PromptRow) (pairs : List (ℕ × ℕ)) → IsKeeping h → AreIndexed rows pairs → AreIndexed (map h rows) pairs
mapped-index h rows pairs keeps indexed = record { ordered = indexed.ordered; same = λ other. indexed.same other ∙ sym (numbers-map h keeps other rows) }

-- ---- the table

module _ (n owner : ℕ) (entries new : Entries) (pairs : List (ℕ × ℕ)) (made : new ≡ entries_without n entries) (numbered : AreNumbered entries) where
  values-left : values_of new ≡ filter (λ row. not (nat_eq row.prompt.0 n)) (values_of entries)
  values-left = ap values_of made ∙ values-without n entries numbered

  pub numbered-left : AreNumbered new
  numbered-left = subst AreNumbered (sym made) (numbered-without n entries numbered)

  pub given-left : (m : ℕ) → AreGiven m (values_of entries) → AreGiven m (values_of new)
  given-left m given = subst (AreGiven m) (sym values-left) (all-filter (λ row. row.prompt.0 < m) (λ row. not (nat_eq row.prompt.0 n)) (values_of entries) given)

  pub rising-left : AreRising (values_of entries) → AreRising (values_of new)
  rising-left rising = subst AreRising (sym values-left) (rising-filter (λ row. not (nat_eq row.prompt.0 n)) (values_of entries) rising)

  pub fewer-left : AreIndexed (values_of entries) pairs → IsFirst n (numbers_at owner pairs) → length (values_of new) < length (values_of entries)
  fewer-left indexed first =
      subst (λ rows. length rows < length (values_of entries)) (sym values-left) (one-fewer n owner (values_of entries) (subst (IsFirst n) (indexed.same owner) first))

  pub others-left : AreRising (values_of entries) → AreIndexed (values_of entries) pairs → IsFirst n (numbers_at owner pairs)
      → filter (λ row. not (nat_eq row.owner.0 owner)) (values_of new) ≡ filter (λ row. not (nat_eq row.owner.0 owner)) (values_of entries)
  others-left rising indexed first =
      ap (filter (λ row. not (nat_eq row.owner.0 owner))) values-left ∙ others-stay n owner (values_of entries) rising (subst (IsFirst n) (indexed.same owner) first)

pub all-left : (owner : ℕ) (rows : List PromptRow) (pairs : List (ℕ × ℕ)) → AreIndexed rows pairs → numbers_at owner pairs ≡ [] → rows ≡ filter (λ row. not (nat_eq row.owner.0 owner)) rows
all-left owner rows pairs indexed none = sym (no-own owner rows (sym (indexed.same owner) ∙ none))

-- what is always true of the table doesn't depend on the agent
pub agent-kept : (entries : Entries) (agent other : Option ConnId) (next : ℕ) (pairs : List (ℕ × ℕ)) → IsKept (prompts_of entries agent next) entries pairs → IsKept (prompts_of entries other next) entries pairs
agent-kept entries agent other next pairs kept = record {
  sound = record { first = kept.sound.first; numbers = kept.sound.numbers; given = kept.sound.given; rising = kept.sound.rising; rounds = kept.sound.rounds; few = kept.sound.few; numbered = kept.sound.numbered };
  numbered = kept.numbered;
  indexed = kept.indexed;
}

module _ (entries new : Entries) (agent : Option ConnId) (next : ℕ) (prompt : PromptId) (f : PromptRow → PromptRow) (made : new ≡ entries_changed prompt.0 f entries) where
  pub state-changed : AreNumbered entries → prompts_of new agent next ≡ changed prompt f (prompts_of entries agent next)
  state-changed numbered = ap (λ (rows : List PromptRow). record { rows = rows; agent = agent; next = next }) (ap values_of made ∙ values-changed prompt.0 f entries numbered)

  pub kept-changed : (pairs : List (ℕ × ℕ)) → IsKeeping f → IsKept (prompts_of entries agent next) entries pairs → IsKept (prompts_of new agent next) new pairs
  kept-changed pairs keeps kept =
      let at = keeping-at prompt.0 f keeps in
      let values = ap values_of made ∙ values-changed prompt.0 f entries kept.numbered in
      record {
        sound = subst AreSound (sym (state-changed kept.numbered)) (sound-map (λ row. cond (nat_eq row.prompt.0 prompt.0) (f row) row) at (prompts_of entries agent next) kept.sound);
        numbered = subst AreNumbered (sym made) (numbered-changed prompt.0 f entries keeps.number kept.numbered);
        indexed = subst (λ rows. AreIndexed rows pairs) (sym values) (mapped-index (λ row. cond (nat_eq row.prompt.0 prompt.0) (f row) row) (values_of entries) pairs at kept.indexed);
      }

-- with one more
module _ (entries new : Entries) (agent : Option ConnId) (next : ℕ) (owner : ConnId) (kind : PromptKind)
    (made : new ≡ entries ++ (next, record { prompt = record { 0 = next }; owner = owner; kind = kind; stage = Made; wrong = 0 }) ∷ []) where
  pub state-begun : prompts_of new agent (next + 1) ≡ begun owner kind (prompts_of entries agent next)
  state-begun = ap (λ (rows : List PromptRow). record { rows = rows; agent = agent; next = next + 1 }) (ap values_of made ∙ values-added entries next _)

  pub kept-begun : (pairs more : List (ℕ × ℕ)) → is_full owner (prompts_of entries agent next) ≡ false → AreIndexed (values_of new) more → IsKept (prompts_of entries agent next) entries pairs → IsKept (prompts_of new agent (next + 1)) new more
  kept-begun pairs more full indexed kept = record {
    sound = subst AreSound (sym state-begun) (sound-begun owner kind (prompts_of entries agent next) full kept.sound);
    numbered = subst AreNumbered (sym made) (numbered-added entries next _ refl kept.numbered);
    indexed = indexed;
  }

-- the changes of a row
pub keeps-stage : (stage : Stage) → IsStage stage → IsKeeping (λ row. record row { stage = stage })
keeps-stage stage is = record { number = λ row. refl; owner = λ row. refl; stage = λ row had. is }

-- ---- without one

module _ (entries new : Entries) (agent : Option ConnId) (next : ℕ) (prompt : PromptId) (made : new ≡ entries_without prompt.0 entries) where
  pub state-ended : AreNumbered entries → prompts_of new agent next ≡ ended prompt (prompts_of entries agent next)
  state-ended numbered = ap (λ (rows : List PromptRow). record { rows = rows; agent = agent; next = next }) (ap values_of made ∙ values-without prompt.0 entries numbered)

  pub kept-ended : (pairs left : List (ℕ × ℕ)) → AreIndexed (values_of new) left → IsKept (prompts_of entries agent next) entries pairs → IsKept (prompts_of new agent next) new left
  kept-ended pairs left indexed kept = record {
    sound = subst AreSound (sym (state-ended kept.numbered)) (sound-filter (λ row. not (nat_eq row.prompt.0 prompt.0)) (prompts_of entries agent next) kept.sound);
    numbered = subst AreNumbered (sym made) (numbered-without prompt.0 entries kept.numbered);
    indexed = indexed;
  }

pub row-is : (entries : Entries) (agent : Option ConnId) (next : ℕ) (prompt : PromptId) → AreNumbered entries → entry_at prompt.0 entries ≡ row_at prompt (prompts_of entries agent next)
row-is entries agent next prompt numbered = value-at prompt.0 entries numbered

-- ---- without an agent

stage-within : (stage : Stage) → IsStage stage → unanswered_within stage ≡ unanswered stage
stage-within Made is = refl
stage-within (Asked round) is = refl
stage-within (Deriving round) is = let less : round < last_round = is.1 in let fits : min (round + 1) last_round ≡ round + 1 = grind (arith, nat_tests) in ap (λ n. Asked n) fits

stage-unanswered : (stage : Stage) → IsStage stage → IsStage (unanswered stage)
stage-unanswered Made is = tt
stage-unanswered (Asked round) is = is
stage-unanswered (Deriving round) is = (omega (arith, is.0), omega (arith, is.1))

rows-within : (rows : List PromptRow) → AllByRecursion (λ row. IsStage row.stage) rows → map (λ (row : PromptRow). record row { stage = unanswered_within row.stage }) rows ≡ map unanswered_row rows
rows-within [] rounds = refl
rows-within (x ∷ xs) rounds = let same = stage-within x.stage rounds.0 in let rest = rows-within xs rounds.1 in λ i. record x { stage = same i } ∷ rest i

pub keeps-unanswered : IsKeeping unanswered_row
keeps-unanswered = record { number = λ row. refl; owner = λ row. refl; stage = λ row is. stage-unanswered row.stage is }

module _ (entries new : Entries) (agent : Option ConnId) (next : ℕ) (made : new ≡ map (λ e. (e.0, record e.1 { stage = unanswered_within e.1.stage })) entries) where
  values-unanswered : AllByRecursion (λ row. IsStage row.stage) (values_of entries) → values_of new ≡ map unanswered_row (values_of entries)
  values-unanswered rounds = ap values_of made ∙ values-mapped (λ (row : PromptRow). record row { stage = unanswered_within row.stage }) entries ∙ rows-within (values_of entries) rounds

  pub state-unanswered : AllByRecursion (λ row. IsStage row.stage) (values_of entries) → prompts_of new None next ≡ unregistered (prompts_of entries agent next)
  state-unanswered rounds = ap (λ (rows : List PromptRow). record { rows = rows; agent = None; next = next }) (values-unanswered rounds)

  pub kept-unanswered : (pairs : List (ℕ × ℕ)) → IsKept (prompts_of entries agent next) entries pairs → IsKept (prompts_of new None next) new pairs
  kept-unanswered pairs kept =
      let none = agent-kept entries agent None next pairs kept in
      record {
        sound = subst AreSound (sym (state-unanswered kept.sound.rounds)) (sound-map unanswered_row keeps-unanswered (prompts_of entries None next) none.sound);
        numbered = subst AreNumbered (sym made) (numbered-mapped (λ (row : PromptRow). record row { stage = unanswered_within row.stage }) entries (λ row. refl) kept.numbered);
        indexed = subst (λ rows. AreIndexed rows pairs) (sym (values-unanswered kept.sound.rounds)) (mapped-index unanswered_row (values_of entries) pairs keeps-unanswered kept.indexed);
      }

-- ---- without an owner

module _ (entries new : Entries) (agent : Option ConnId) (next : ℕ) (owner : ConnId) (others : values_of new ≡ filter (λ row. not (nat_eq row.owner.0 owner.0)) (values_of entries)) where
  pub state-without : prompts_of new agent next ≡ without owner (prompts_of entries agent next)
  state-without = ap (λ (rows : List PromptRow). record { rows = rows; agent = agent; next = next }) others

  pub kept-without : (pairs left : List (ℕ × ℕ)) → AreNumbered new → AreIndexed (values_of new) left → IsKept (prompts_of entries agent next) entries pairs → IsKept (prompts_of new agent next) new left
  kept-without pairs left numbered indexed kept = record {
    sound = subst AreSound (sym state-without) (sound-filter (λ row. not (nat_eq row.owner.0 owner.0)) (prompts_of entries agent next) kept.sound);
    numbered = numbered;
    indexed = indexed;
  }
