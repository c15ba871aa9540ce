-- The run of the table over bytes, line by line.
use Rattle.std.proofs.Common.{◌≡◌, ℕ, zero, suc, ◌+◌, ◌<◌, ◌≤◌, cond, inl, inr, List, [], ◌∷◌, ◌++◌, length, take, drop, Option, Some, None, refl, sym, ap, ◌∙◌, subst, arith, length-append, append_assoc, take-append-drop, nat_le}
use Rattle.std.proofs.lemmas.Bool.{cases_lt, lt-ltb, le-ltb, le-leb, lt-leb}
use Rattle.std.proofs.lemmas.List.{length-take-le, take-append-le}
use Rattle.std.specs.Prelude.{◌↔◌}
use Rattle.std.specs.List.{AllByRecursion}
use Rattle.dbus_auth.specs.Conversation.{IsLine, ended, IsUnfinished, IsTooLong, Runs, waits, overflows, says, begins, refuses, joined, fed, resumed, continued}
use Rattle.dbus_auth.specs.Exchange.{Exchange}
use Rattle.dbus_auth.specs.Handshake.{End, waiting, refused, opened, Run, silent, answered, run_from_step, run_from_cut, run_lines, run}
use Rattle.dbus_auth.specs.Lines.{Cut, first_cut, line_end, line_limit}
use Rattle.dbus_auth.specs.Table.{step_of, next_of}
use Rattle.dbus_auth.specs.declared.auth.AuthFault.TheVariants.{LineTooLong}
use Rattle.dbus_auth.specs.declared.auth.Step.{Step}
use Rattle.dbus_auth.specs.declared.auth.Step.TheVariants as step
use Rattle.dbus_auth.proofs.CutLemmas.{first_cut-whole, first_cut-append, first_cut-late, first_cut-line, first_cut-alone}

-- the rest after a line is shorter by at least two bytes
rest_shorter : (bytes : List ℕ) (cut : Cut) → first_cut bytes ≡ Some cut → length cut.rest + length cut.line + 2 ≡ length bytes
rest_shorter bytes cut h =
    let whole = simp length-append at (ap (λ (l : List ℕ). length l) (first_cut-whole bytes cut h)) in
    omega arith

-- what a further run gives matters only for the rest of the cut
same_further : (f g : Exchange → List ℕ → Run) (at : Exchange) (bytes : List ℕ) (cut : Cut)
    → f (next_of at cut.line) cut.rest ≡ g (next_of at cut.line) cut.rest
    → run_from_cut f at bytes (Some cut) ≡ run_from_cut g at bytes (Some cut)
same_further f g at bytes cut e =
    ap (λ (r : Run). cond (nat_le (length cut.line + 2) line_limit) (run_from_step (step_of at cut.line) cut.rest r) (silent (refused LineTooLong))) e

-- nothing to run over
run_lines-nil : (n : ℕ) (at : Exchange) → run_lines n at [] ≡ silent (waiting at [])
unfolding run_lines
run_lines-nil zero at = refl
run_lines-nil (suc n) at = refl

-- as many lines as there are bytes are enough
run_lines-enough : (n m : ℕ) (at : Exchange) (bytes : List ℕ) → length bytes ≤ n → length bytes ≤ m → run_lines n at bytes ≡ run_lines m at bytes
unfolding run_lines
run_lines-enough n m at [] hn hm = run_lines-nil n at ∙ sym (run_lines-nil m at)
run_lines-enough zero m at (c ∷ bytes) hn hm = absurd (omega arith)
run_lines-enough (suc n) zero at (c ∷ bytes) hn hm = absurd (omega arith)
run_lines-enough (suc n) (suc m) at (c ∷ bytes) hn hm =
    elim (first_cut (c ∷ bytes)) as (λ o. first_cut (c ∷ bytes) ≡ o → run_from_cut (run_lines n) at (c ∷ bytes) o ≡ run_from_cut (run_lines m) at (c ∷ bytes) o) [
      | None ↦ λ e. refl
      | Some cut ↦ λ e.
          let shorter = rest_shorter (c ∷ bytes) cut e in
          same_further (run_lines n) (run_lines m) at (c ∷ bytes) cut
          (run_lines-enough n m (next_of at cut.line) cut.rest (omega arith) (omega arith))
    ] refl

-- a run begins with the first line
pub run-first : (at : Exchange) (bytes : List ℕ) → run at bytes ≡ run_from_cut run at bytes (first_cut bytes)
unfolding run run_lines
run-first at [] = refl
run-first at (c ∷ bytes) =
    elim (first_cut (c ∷ bytes)) as (λ o. first_cut (c ∷ bytes) ≡ o → run_from_cut (run_lines (length bytes)) at (c ∷ bytes) o ≡ run_from_cut run at (c ∷ bytes) o) [
      | None ↦ λ e. refl
      | Some cut ↦ λ e.
          let shorter = rest_shorter (c ∷ bytes) cut e in
          same_further (run_lines (length bytes)) run at (c ∷ bytes) cut
          (run_lines-enough (length bytes) (length cut.rest) (next_of at cut.line) cut.rest (omega arith) (omega arith))
    ] refl

-- bytes without CR LF that fit the limit: more are awaited
pub run-waiting : (at : Exchange) (bytes : List ℕ) → IsUnfinished bytes → run at bytes ≡ silent (waiting at bytes)
run-waiting at bytes is =
    run-first at bytes ∙ ap (run_from_cut run at bytes) is.none
    ∙ ap (λ b. cond b (silent (waiting at bytes)) (silent (refused LineTooLong))) (lt-ltb (length bytes) line_limit is.short)

-- a line that fits the limit is answered by its row
pub run-line : (at : Exchange) (line rest : List ℕ) → IsLine line → run at (ended line rest) ≡ run_from_step (step_of at line) rest (run (next_of at line) rest)
run-line at line rest is =
    run-first at (ended line rest) ∙ ap (run_from_cut run at (ended line rest)) (first_cut-line line rest is.whole)
    ∙ ap (λ b. cond b (run_from_step (step_of at line) rest (run (next_of at line) rest)) (silent (refused LineTooLong))) (le-leb (length line + 2) line_limit is.fits)

-- if the first cut is past the limit, or there is none
overflowing : (at : Exchange) (bytes : List ℕ) (o : Option Cut) → first_cut bytes ≡ o → first_cut (take line_limit bytes) ≡ None → line_limit ≤ length bytes
    → run_from_cut run at bytes o ≡ silent (refused LineTooLong)
overflowing at bytes None is none long =
    ap (λ b. cond b (silent (waiting at bytes)) (silent (refused LineTooLong))) (le-ltb (length bytes) line_limit long)
overflowing at bytes (Some cut) is none long =
    let whole = take-append-drop line_limit bytes in
    let late = first_cut-late (take line_limit bytes) (drop line_limit bytes) cut none (ap first_cut whole ∙ is) in
    let limit : length (take line_limit bytes) ≡ line_limit = length-take-le line_limit bytes long in
    let past : line_limit < length cut.line + 2 = omega arith in
    ap (λ b. cond b (run_from_step (step_of at cut.line) cut.rest (run (next_of at cut.line) cut.rest)) (silent (refused LineTooLong))) (lt-leb (length cut.line + 2) line_limit past)

-- there are as many bytes as the limit, and no line has ended within them
pub run-overflow : (at : Exchange) (bytes : List ℕ) → IsTooLong bytes → run at bytes ≡ silent (refused LineTooLong)
run-overflow at bytes is = run-first at bytes ∙ overflowing at bytes (first_cut bytes) refl is.none is.long

-- a run goes in one of the ways
abbrev pub Goes : Exchange → List ℕ → Run → Type 0
Goes at bytes r = Runs at bytes r.answers r.end

-- if the first cut of bytes is past a limit, or there is none, there is none in their first bytes up to the limit
front_uncut : (limit : ℕ) (bytes : List ℕ) (o : Option Cut) → first_cut bytes ≡ o → limit ≤ length bytes
    → ((cut : Cut) → o ≡ Some cut → limit < length cut.line + 2) → first_cut (take limit bytes) ≡ None
front_uncut limit bytes o is long far =
    elim (first_cut (take limit bytes)) as (λ early. first_cut (take limit bytes) ≡ early → early ≡ None) [
      | None ↦ λ e. refl
      | Some early ↦ λ e.
          let whole = take-append-drop limit bytes in
          let again = first_cut-append (take limit bytes) (drop limit bytes) early e in
          let found = sym is ∙ ap first_cut (sym whole) ∙ again in
          let past = far (record { line = early.line; rest = early.rest ++ drop limit bytes }) found in
          let size : length (take limit bytes) ≡ limit = length-take-le limit bytes long in
          let within = rest_shorter (take limit bytes) early e in
          absurd (omega arith)
    ] refl

-- the step of a line decides how the run continues
step_goes : (at : Exchange) (line rest : List ℕ) (s : Step) (further : Run) → IsLine line → step_of at line ≡ s → Goes (next_of at line) rest further
    → Goes at (ended line rest) (run_from_step s rest further)
step_goes at line rest (step.Say answer) further is e later = says at line rest answer further.answers further.end is e later
step_goes at line rest step.Begin further is e later = begins at line rest is e
step_goes at line rest (step.Refused fault) further is e later = refuses at line rest fault is e

-- a run over bytes without a cut
goes_uncut : (at : Exchange) (bytes : List ℕ) → first_cut bytes ≡ None → Goes at bytes (run at bytes)
goes_uncut at bytes none =
    elim (cases_lt (length bytes) line_limit) [
      | inl short ↦
          let is : IsUnfinished bytes = record { none = none; short = short } in
          subst (λ r. Goes at bytes r) (sym (run-waiting at bytes is)) (waits at bytes is)
      | inr long ↦
          let is : IsTooLong bytes = record { none = front_uncut line_limit bytes None none long (λ cut e. cc e); long = long } in
          subst (λ r. Goes at bytes r) (sym (run-overflow at bytes is)) (overflows at bytes is)
    ]

-- a run over bytes whose first cut is past the limit
goes_past : (at : Exchange) (bytes : List ℕ) (cut : Cut) → first_cut bytes ≡ Some cut → line_limit < length cut.line + 2 → Goes at bytes (run at bytes)
goes_past at bytes cut is past =
    let size = rest_shorter bytes cut is in
    let long : line_limit ≤ length bytes = omega arith in
    let far : (other : Cut) → Some cut ≡ Some other → line_limit < length other.line + 2 =
    λ other e. let same : cut ≡ other = cc e in subst (λ (k : Cut). line_limit < length k.line + 2) same past in
    let too_long : IsTooLong bytes = record { none = front_uncut line_limit bytes (Some cut) is long far; long = long } in
    subst (λ r. Goes at bytes r) (sym (run-overflow at bytes too_long)) (overflows at bytes too_long)

-- each run goes in one of the ways
goes_at : (n : ℕ) (at : Exchange) (bytes : List ℕ) → length bytes ≤ n → Goes at bytes (run at bytes)
goes_at zero at bytes few =
    elim (first_cut bytes) as (λ o. first_cut bytes ≡ o → Goes at bytes (run at bytes)) [
      | None ↦ λ none. goes_uncut at bytes none
      | Some cut ↦ λ is. let size = rest_shorter bytes cut is in absurd (omega arith)
    ] refl
goes_at (suc n) at bytes few =
    elim (first_cut bytes) as (λ o. first_cut bytes ≡ o → Goes at bytes (run at bytes)) [
      | None ↦ λ none. goes_uncut at bytes none
      | Some cut ↦ λ is.
          let size = rest_shorter bytes cut is in
          elim (cases_lt line_limit (length cut.line + 2)) [
            | inl past ↦ goes_past at bytes cut is past
            | inr fits ↦
                let line : IsLine cut.line = record { whole = first_cut-alone bytes cut is; fits = fits } in
                let later = goes_at n (next_of at cut.line) cut.rest (omega arith) in
                let goes = step_goes at cut.line cut.rest (step_of at cut.line) (run (next_of at cut.line) cut.rest) line refl later in
                let first = subst (λ r. Goes at (ended cut.line cut.rest) r) (sym (run-line at cut.line cut.rest line)) goes in
                subst (λ l. Goes at l (run at l)) (sym (first_cut-whole bytes cut is)) first
          ]
    ] refl

pub goes : (at : Exchange) (bytes : List ℕ) → Goes at bytes (run at bytes)
goes at bytes = goes_at (length bytes) at bytes (omega arith)

-- and it goes in no other
run-goes : (at : Exchange) (bytes : List ℕ) (answers : List (List ℕ)) (end : End) → Runs at bytes answers end → run at bytes ≡ record { answers = answers; end = end }
run-goes _ _ _ _ (waits at bytes is) = run-waiting at bytes is
run-goes _ _ _ _ (overflows at bytes is) = run-overflow at bytes is
run-goes _ _ _ _ (says at line rest answer answers end is e later) =
    run-line at line rest is ∙ ap (λ s. run_from_step s rest (run (next_of at line) rest)) e
    ∙ ap (answered answer) (run-goes (next_of at line) rest answers end later)
run-goes _ _ _ _ (begins at line rest is e) =
    run-line at line rest is ∙ ap (λ s. run_from_step s rest (run (next_of at line) rest)) e
run-goes _ _ _ _ (refuses at line rest fault is e) =
    run-line at line rest is ∙ ap (λ s. run_from_step s rest (run (next_of at line) rest)) e

-- the way of a run whose answers and end are known
pub goes_so : (at : Exchange) (bytes : List ℕ) (answers : List (List ℕ)) (end : End) → run at bytes ≡ record { answers = answers; end = end } → Runs at bytes answers end
goes_so at bytes answers end e = subst (λ (r : Run). Runs at bytes r.answers r.end) e (goes at bytes)

-- the run as a function is the relation
pub run-iff : (at : Exchange) (bytes : List ℕ) (answers : List (List ℕ)) (end : End) → (run at bytes ≡ record { answers = answers; end = end }) ↔ Runs at bytes answers end
run-iff at bytes answers end = (goes_so at bytes answers end, run-goes at bytes answers end)

-- more bytes after a line are in its rest
pub line-append : (line rest more : List ℕ) → ended line rest ++ more ≡ ended line (rest ++ more)
line-append line rest more = append_assoc line (line_end ++ rest) more

-- one more answer before a run that continues
answered-resumed : (answer : List ℕ) (answers : List (List ℕ)) (end : End) (more : List ℕ) → answered answer (resumed answers end more) ≡ resumed (answer ∷ answers) end more
answered-resumed answer answers (waiting at unfinished) more = refl
answered-resumed answer answers (refused fault) more = refl
answered-resumed answer answers (opened rest) more = refl

resumes : (at : Exchange) (bytes : List ℕ) (answers : List (List ℕ)) (end : End) (more : List ℕ) → Runs at bytes answers end → run at (bytes ++ more) ≡ resumed answers end more
resumes _ _ _ _ more (waits at bytes is) = refl
resumes _ _ _ _ more (overflows at bytes is) =
    let front = take-append-le line_limit bytes more is.long in
    run-overflow at (bytes ++ more) (record { none = ap first_cut front ∙ is.none; long = omega (arith, is.long, length-append bytes more) })
resumes _ _ _ _ more (says at line rest answer answers end is e later) =
    ap (run at) (line-append line rest more) ∙ run-line at line (rest ++ more) is
    ∙ ap (λ s. run_from_step s (rest ++ more) (run (next_of at line) (rest ++ more))) e
    ∙ ap (answered answer) (resumes (next_of at line) rest answers end more later) ∙ answered-resumed answer answers end more
resumes _ _ _ _ more (begins at line rest is e) =
    ap (run at) (line-append line rest more) ∙ run-line at line (rest ++ more) is
    ∙ ap (λ s. run_from_step s (rest ++ more) (run (next_of at line) (rest ++ more))) e
resumes _ _ _ _ more (refuses at line rest fault is e) =
    ap (run at) (line-append line rest more) ∙ run-line at line (rest ++ more) is
    ∙ ap (λ s. run_from_step s (rest ++ more) (run (next_of at line) (rest ++ more))) e

-- a run over more bytes is the run over the first of them, continued
pub run-append : (at : Exchange) (bytes more : List ℕ) → run at (bytes ++ more) ≡ continued (run at bytes) more
run-append at bytes more = resumes at bytes (run at bytes).answers (run at bytes).end more (goes at bytes)

-- lines fed to the table one by one
pub run-joined : (at : Exchange) (lines : List (List ℕ)) → AllByRecursion IsLine lines → run at (joined lines) ≡ fed at lines
run-joined at [] all = run-waiting at [] (record { none = refl; short = omega arith })
run-joined at (line ∷ lines) all =
    run-line at line (joined lines) all.0 ∙ ap (run_from_step (step_of at line) (joined lines)) (run-joined (next_of at line) lines all.1)
