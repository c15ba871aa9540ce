-- The first line of some bytes, and the lines that follow it.
use Rattle.std.proofs.Common.{◌≡◌, ℕ, ◌+◌, ◌-◌, ◌<◌, ◌≤◌, List, [], ◌∷◌, ◌++◌, length, take, drop, Some, None, cond, refl, sym, ◌∙◌, ap, arith, append_assoc, append-nil, get_or, inl, inr, zero, suc}
use Rattle.std.proofs.lemmas.List.{drop-drop, length-take-le}
use Rattle.std.proofs.lemmas.List.Folds.{concat-append}
use Rattle.std.proofs.lemmas.Bool.{cases_lt, le-leb, lt-leb, le-ltb}
use Rattle.std.specs.List.{concat}
use Rattle.dbus_auth.specs.declared.auth.AuthFault.TheVariants as fault
use Rattle.dbus_auth.specs.declared.auth.TheConstants.{LINE_LIMIT}
use Rattle.dbus_auth.specs.declared.auth.Step.{Step}
use Rattle.dbus_auth.specs.Exchange.{Exchange}
use Rattle.dbus_auth.specs.Lines.{EndsAt, first_cut}
use Rattle.dbus_auth.specs.Table.{step_of, next_of}
use Rattle.dbus_auth.specs.Handshake.{Run, waiting, refused, silent, answered, run, run_from_cut, run_from_step}
use Rattle.dbus_auth.proofs.CutLemmas.{first_cut-at, first_cut-nowhere}
use Rattle.dbus_auth.proofs.RunLemmas.{run-first, run-waiting}
use Rattle.connection_worker.specs.Streams.{Output, Gave, GaveFront}
use Rattle.connection_worker.specs.Lines.{IsLineEnd, Answers}
use Rattle.connection_worker.proofs.StreamLemmas.{Gave-trans, GaveFront-more, GaveFront-behind}

-- the first CR LF starts just before this position
pub ends-here : (bytes : List ℕ) (place : ℕ) → 1 ≤ place → place < length bytes → get_or bytes (place - 1) 0 ≡ 13 → get_or bytes place 0 ≡ 10
    → ((k : ℕ) → k + 1 < place → EndsAt bytes k → ⊥) → IsLineEnd bytes (Some (place - 1))
ends-here bytes place some within cr lf first =
    let behind : place - 1 + 1 ≡ place = omega (arith, some) in
    (first_cut-at bytes (place - 1) (cr, ap (λ (n : ℕ). get_or bytes n 0) behind ∙ lf) (λ k below. first k (omega (arith, below))), omega (arith, some, within))

-- a position past the end has no byte
past-end : (bytes : List ℕ) (place : ℕ) → length bytes ≤ place → get_or bytes place 0 ≡ 0
past-end [] place long = refl
past-end (c ∷ bytes) zero long = absurd (omega (arith, long))
past-end (c ∷ bytes) (suc place) long = past-end bytes place (omega (arith, long))

pub ends-nowhere : (bytes : List ℕ) (place : ℕ) → length bytes ≤ place → ((k : ℕ) → k + 1 < place → EndsAt bytes k → ⊥) → first_cut bytes ≡ None
ends-nowhere bytes place long none =
    first_cut-nowhere bytes (λ k at.
    elim (cases_lt (k + 1) place) [
      | inl below ↦ none k below at
      | inr past ↦ let zero_there = past-end bytes (k + 1) (omega (arith, long, past)) in absurd (omega (arith, zero_there, at.1))
    ])

-- no line ends, and one still may
pub unfinished : (at : Exchange) (bytes : List ℕ) → first_cut bytes ≡ None → length bytes < LINE_LIMIT → run at bytes ≡ silent (waiting at bytes)
unfinished at bytes none short = run-waiting at bytes (record { none = none; short = short })

-- no line ends, and none may
pub endless : (at : Exchange) (bytes : List ℕ) → first_cut bytes ≡ None → LINE_LIMIT ≤ length bytes → run at bytes ≡ silent (refused fault.LineTooLong)
endless at bytes none long =
    run-first at bytes ∙ ap (run_from_cut run at bytes) none
    ∙ ap (λ b. cond b (silent (waiting at bytes)) (silent (refused fault.LineTooLong))) (le-ltb (length bytes) LINE_LIMIT long)

-- the first line ends at this position, and is too long
pub too_long : (at : Exchange) (bytes : List ℕ) (place : ℕ) → IsLineEnd bytes (Some place) → LINE_LIMIT < place + 2 → run at bytes ≡ silent (refused fault.LineTooLong)
too_long at bytes place ends long =
    let line = take place bytes in
    let rest = drop (place + 2) bytes in
    let size : length line ≡ place = length-take-le place bytes (omega (arith, ends.1)) in
    run-first at bytes ∙ ap (run_from_cut run at bytes) ends.0
    ∙ ap (λ b. cond b (run_from_step (step_of at line) rest (run (next_of at line) rest)) (silent (refused fault.LineTooLong))) (lt-leb (length line + 2) LINE_LIMIT (omega (arith, size, long)))

-- it isn't too long, and is answered by its row
pub by_row : (at : Exchange) (bytes : List ℕ) (place : ℕ) → IsLineEnd bytes (Some place) → place + 2 ≤ LINE_LIMIT
    → run at bytes ≡ run_from_step (step_of at (take place bytes)) (drop (place + 2) bytes) (run (next_of at (take place bytes)) (drop (place + 2) bytes))
by_row at bytes place ends fits =
    let line = take place bytes in
    let rest = drop (place + 2) bytes in
    let size : length line ≡ place = length-take-le place bytes (omega (arith, ends.1)) in
    run-first at bytes ∙ ap (run_from_cut run at bytes) ends.0
    ∙ ap (λ b. cond b (run_from_step (step_of at line) rest (run (next_of at line) rest)) (silent (refused fault.LineTooLong))) (le-leb (length line + 2) LINE_LIMIT (omega (arith, size, fits)))

-- what it leads to
pub by_step : (at : Exchange) (bytes : List ℕ) (place : ℕ) (brought : Step) → IsLineEnd bytes (Some place) → place + 2 ≤ LINE_LIMIT → brought ≡ step_of at (take place bytes)
    → run at bytes ≡ run_from_step brought (drop (place + 2) bytes) (run (next_of at (take place bytes)) (drop (place + 2) bytes))
by_step at bytes place brought ends fits is = rw is (by_row at bytes place ends fits)

-- ---- all lines

-- the run continues with another one that equals it
pub answers-is : (at : Exchange) (bytes : List ℕ) (old new : Output) (one other : Run) → Answers at bytes old new one → one ≡ other → Answers at bytes old new other
answers-is at bytes old new one other so is = record {
  answers = so.answers;
  run = so.run ∙ ap (λ (r : Run). record { answers = so.answers ++ r.answers; end = r.end }) is;
  gave = so.gave;
}

-- one more line was answered, and its answer written
pub answers-more : (at next : Exchange) (bytes : List ℕ) (taken size : ℕ) (old mid new : Output) (one : Run) (answer : List ℕ)
    → Answers at bytes old mid one → one ≡ answered answer (run next (drop size (drop taken bytes))) → Gave mid new answer
    → Answers at bytes old new (run next (drop (taken + size) bytes))
answers-more at next bytes taken size old mid new one answer so is gave =
    let further = run next (drop size (drop taken bytes)) in
    let on : Answers at bytes old new further = record {
      answers = so.answers ++ answer ∷ [];
      run =
          so.run ∙ ap (λ (r : Run). record { answers = so.answers ++ r.answers; end = r.end }) is
          ∙ ap (λ (told : List (List ℕ)). record { answers = told; end = further.end }) (sym (append_assoc so.answers (answer ∷ []) further.answers));
      gave =
          let e : concat (so.answers ++ answer ∷ []) ≡ concat so.answers ++ answer = concat-append so.answers (answer ∷ []) ∙ ap (λ l. concat so.answers ++ l) (append-nil answer) in
          rw e (Gave-trans old mid new (concat so.answers) answer so.gave gave);
    } in
    answers-is at bytes old new further (run next (drop (taken + size) bytes)) on (ap (run next) (drop-drop size taken bytes))

-- its answer wasn't written completely
pub answers-failed : (at : Exchange) (bytes : List ℕ) (old mid new : Output) (one further : Run) (answer : List ℕ)
    → Answers at bytes old mid one → one ≡ answered answer further → GaveFront mid new answer → GaveFront old new (concat (run at bytes).answers)
answers-failed at bytes old mid new one further answer so is gave =
    let all : (run at bytes).answers ≡ so.answers ++ answer ∷ further.answers = ap (λ (r : Run). r.answers) so.run ∙ ap (λ (r : Run). so.answers ++ r.answers) is in
    let joined : concat (run at bytes).answers ≡ concat so.answers ++ (answer ++ concat further.answers) = ap concat all ∙ concat-append so.answers (answer ∷ further.answers) in
    rw joined (GaveFront-behind old mid new (concat so.answers) (answer ++ concat further.answers) so.gave (GaveFront-more mid new answer (concat further.answers) gave))
