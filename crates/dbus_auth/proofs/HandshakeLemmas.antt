-- The laws of the handshake: who gets OK, what opens it, what refuses it.
use Rattle.std.proofs.Common.{◌≡◌, ◌≢◌, ℕ, ◌==◌, true, false, cond, ◌⊎◌, inl, inr, List, [], ◌∷◌, ◌++◌, refl, sym, ap, ◌∙◌, subst, arith, append_assoc, codes}
use Rattle.std.specs.Prelude.{◌↔◌}
use Rattle.std.specs.List.{AllByRecursion, concat}
use Rattle.std.proofs.lemmas.Bool.{ne_eqb}
use Rattle.std.proofs.lemmas.List.{append-nil}
use Rattle.dbus_auth.specs.Answers.{ok_line, error_line}
use Rattle.dbus_auth.specs.Commands.{command_of}
use Rattle.dbus_auth.specs.Conversation.{IsLine, ended, IsUnfinished, IsTooLong, Runs, waits, overflows, says, begins, refuses, told, continued, in_pieces, GivesAccepted, at_once, when_asked, with_nothing, in_state, Stands, HasLine, HasPart, OkStands, IsOpened, IsWaiting, HasCause}
use Rattle.dbus_auth.specs.Exchange.{Exchange}
use Rattle.dbus_auth.specs.Handshake.{End, waiting, refused, opened, silent, answered, run_from_step, run, handshake}
use Rattle.dbus_auth.specs.Lines.{word_of}
use Rattle.dbus_auth.specs.Table.{row, fresh, step_of, next_of}
use Rattle.dbus_auth.specs.declared.auth.AuthFault.{AuthFault}
use Rattle.dbus_auth.specs.declared.auth.AuthFault.TheVariants.{NoZero, LineTooLong, BeginTooSoon, EndedEarly}
use Rattle.dbus_auth.specs.declared.auth.State.{State}
use Rattle.dbus_auth.specs.declared.auth.State.TheVariants.{WaitingForBegin}
use Rattle.dbus_auth.specs.declared.auth.Step.TheVariants as step
use Rattle.dbus_auth.specs.declared.command.Command.TheVariants.{ExternalAccepted, OtherAuth, DataAccepted, OtherData, Begin}
use Rattle.dbus_auth.proofs.CommandLemmas.{is_accepted-iff, command_of-auth, command_of-data, command_of-begin, command_of-with_begin, command_of-with_auth, command_of-with_data, command_of-with_data_alone}
use Rattle.dbus_auth.proofs.RunLemmas.{goes, goes_so, run-append, run-waiting, run-line, run-overflow, line-append}
use Rattle.dbus_auth.proofs.TableLemmas.{row-ok, row-ok_next, row-error_next, row-to_begin, row-begin, row-refused, row-too_soon}

-- ---- the stream and its cutting

-- nothing has arrived yet
pub handshake-nothing : (uid : ℕ) (guid : List ℕ) → handshake uid guid [] ≡ silent (waiting (fresh uid guid) [])
unfolding handshake
handshake-nothing uid guid = refl

-- after a zero byte the table runs
pub handshake-zero : (uid : ℕ) (guid bytes : List ℕ) → handshake uid guid (0 ∷ bytes) ≡ run (fresh uid guid) bytes
unfolding handshake
handshake-zero uid guid bytes = refl

-- any other first byte is refused
pub handshake-other : (uid : ℕ) (guid : List ℕ) (first : ℕ) (bytes : List ℕ) → first ≢ 0 → handshake uid guid (first ∷ bytes) ≡ silent (refused NoZero)
unfolding handshake
handshake-other uid guid first bytes other =
    ap (λ b. cond b (run (fresh uid guid) bytes) (silent (refused NoZero))) (ne_eqb first 0 other)

-- pieces that come after bytes
pub in_pieces-run : (at : Exchange) (bytes : List ℕ) (pieces : List (List ℕ)) → in_pieces (run at bytes) pieces ≡ run at (bytes ++ concat pieces)
in_pieces-run at bytes [] = ap (run at) (sym (append-nil bytes))
in_pieces-run at bytes (piece ∷ pieces) =
    ap (λ r. in_pieces r pieces) (sym (run-append at bytes piece)) ∙ in_pieces-run at (bytes ++ piece) pieces
    ∙ ap (run at) (append_assoc bytes piece (concat pieces))

pub handshake-append : (uid : ℕ) (guid : List ℕ) (first : ℕ) (bytes more : List ℕ) → handshake uid guid (first ∷ (bytes ++ more)) ≡ continued (handshake uid guid (first ∷ bytes)) more
unfolding handshake
handshake-append uid guid first bytes more =
    elim (first == 0) as (λ b. cond b (run (fresh uid guid) (bytes ++ more)) (silent (refused NoZero)) ≡ continued (cond b (run (fresh uid guid) bytes) (silent (refused NoZero))) more) [
      | true ↦ run-append (fresh uid guid) bytes more
      | false ↦ refl
    ]

pub in_pieces-handshake : (uid : ℕ) (guid : List ℕ) (first : ℕ) (bytes : List ℕ) (pieces : List (List ℕ)) → in_pieces (handshake uid guid (first ∷ bytes)) pieces ≡ handshake uid guid (first ∷ (bytes ++ concat pieces))
in_pieces-handshake uid guid first bytes [] = ap (λ l. handshake uid guid (first ∷ l)) (sym (append-nil bytes))
in_pieces-handshake uid guid first bytes (piece ∷ pieces) =
    ap (λ r. in_pieces r pieces) (sym (handshake-append uid guid first bytes piece)) ∙ in_pieces-handshake uid guid first (bytes ++ piece) pieces
    ∙ ap (λ l. handshake uid guid (first ∷ l)) (append_assoc bytes piece (concat pieces))

-- ---- an accepted argument

-- OK is the answer to a line that gives an accepted argument
pub gives-ok : (at : Exchange) (line : List ℕ) → GivesAccepted at line → step_of at line ≡ step.Say (ok_line at.guid)
gives-ok at _ (at_once argument state is) =
    let true_is = (is_accepted-iff at.uid argument).1 is in
    let command = command_of-with_auth at.uid argument ∙ ap (λ b. cond b ExternalAccepted OtherAuth) true_is in
    ap (λ k. (row at.guid at.state k).0) command ∙ ap (λ s. (row at.guid s ExternalAccepted).0) state
gives-ok at _ (when_asked argument state is) =
    let true_is = (is_accepted-iff at.uid argument).1 is in
    let command = command_of-with_data at.uid argument ∙ ap (λ b. cond b DataAccepted OtherData) true_is in
    ap (λ k. (row at.guid at.state k).0) command ∙ ap (λ s. (row at.guid s DataAccepted).0) state
gives-ok at _ (with_nothing state) =
    ap (λ k. (row at.guid at.state k).0) (command_of-with_data_alone at.uid) ∙ ap (λ s. (row at.guid s DataAccepted).0) state

-- and to no other
pub ok-gives : (at : Exchange) (line : List ℕ) → step_of at line ≡ step.Say (ok_line at.guid) → GivesAccepted at line
ok-gives at line h =
    elim (row-ok at.guid at.state (command_of at.uid line) h) [
      | inl auth ↦
          let r = command_of-auth at.uid line auth.1 in
          subst (λ l. GivesAccepted at l) (sym r.2) (at_once r.0 auth.0 ((is_accepted-iff at.uid r.0).0 r.1))
      | inr asked ↦
          elim (command_of-data at.uid line asked.1) [
            | inl r ↦ subst (λ l. GivesAccepted at l) (sym r.2) (when_asked r.0 asked.0 ((is_accepted-iff at.uid r.0).0 r.1))
            | inr alone ↦ subst (λ l. GivesAccepted at l) (sym alone) (with_nothing asked.0)
          ]
    ]

-- ---- the lines of a run

-- a run continues after lines that the table has answered
pub stands-run : (at : Exchange) (lines bytes : List ℕ) (answers : List (List ℕ)) (state : State) → Stands at lines answers state
    → run at (lines ++ bytes) ≡ told answers (run (in_state at state) bytes)
stands-run at lines bytes answers state stands = run-append at lines bytes ∙ ap (λ r. continued r bytes) stands

-- nothing has arrived yet
stands_start : (at : Exchange) → Stands at [] [] at.state
stands_start at = run-waiting at [] (record { none = refl; short = omega arith })

-- one more line in front
stands_behind : (at : Exchange) (line lines answer : List ℕ) (answers : List (List ℕ)) (state : State) → IsLine line → step_of at line ≡ step.Say answer
    → Stands (next_of at line) lines answers state → Stands at (ended line lines) (answer ∷ answers) state
stands_behind at line lines answer answers state is e stands =
    run-line at line lines is ∙ ap (λ s. run_from_step s lines (run (next_of at line) lines)) e ∙ ap (answered answer) stands

line_here : (at : Exchange) (line rest : List ℕ) (P : Exchange → List ℕ → List ℕ → Type 0) → IsLine line → P at line rest → HasLine at (ended line rest) [] P
line_here at line rest P is so = record {
  lines = [];
  line = line;
  rest = rest;
  state = at.state;
  whole = refl;
  is_line = is;
  stands = stands_start at;
  so = so;
}

line_behind : (at : Exchange) (line rest answer : List ℕ) (answers : List (List ℕ)) (P : Exchange → List ℕ → List ℕ → Type 0) → IsLine line → step_of at line ≡ step.Say answer
    → HasLine (next_of at line) rest answers P → HasLine at (ended line rest) (answer ∷ answers) P
line_behind at line rest answer answers P is e has = record {
  lines = ended line has.lines;
  line = has.line;
  rest = has.rest;
  state = has.state;
  whole = ap (ended line) has.whole ∙ sym (line-append line has.lines (ended has.line has.rest));
  is_line = has.is_line;
  stands = stands_behind at line has.lines answer answers has.state is e has.stands;
  so = has.so;
}

-- each answer is given to a line, by its row
pub answer_line : (at : Exchange) (bytes : List ℕ) (answers : List (List ℕ)) (end : End) → Runs at bytes answers end
    → (front since : List (List ℕ)) (answer : List ℕ) → answers ≡ front ++ answer ∷ since
    → HasLine at bytes front (λ place line rest. step_of place line ≡ step.Say answer)
answer_line _ _ _ _ (waits at bytes is) [] since answer e = cc e
answer_line _ _ _ _ (waits at bytes is) (other ∷ front) since answer e = cc e
answer_line _ _ _ _ (overflows at bytes is) [] since answer e = cc e
answer_line _ _ _ _ (overflows at bytes is) (other ∷ front) since answer e = cc e
answer_line _ _ _ _ (says at line rest told answers end is s later) [] since answer e =
    let same : told ≡ answer = cc e in
    line_here at line rest (λ place l r. step_of place l ≡ step.Say answer) is (s ∙ ap step.Say same)
answer_line _ _ _ _ (says at line rest told answers end is s later) (other ∷ front) since answer e =
    let same : told ≡ other = cc e in
    let tail : answers ≡ front ++ answer ∷ since = cc e in
    line_behind at line rest other front (λ place l r. step_of place l ≡ step.Say answer) is (s ∙ ap step.Say same)
    (answer_line (next_of at line) rest answers end later front since answer tail)
answer_line _ _ _ _ (begins at line rest is s) [] since answer e = cc e
answer_line _ _ _ _ (begins at line rest is s) (other ∷ front) since answer e = cc e
answer_line _ _ _ _ (refuses at line rest fault is s) [] since answer e = cc e
answer_line _ _ _ _ (refuses at line rest fault is s) (other ∷ front) since answer e = cc e

pub run-answer : (at : Exchange) (bytes : List ℕ) (front since : List (List ℕ)) (answer : List ℕ) → (run at bytes).answers ≡ front ++ answer ∷ since
    → HasLine at bytes front (λ place line rest. step_of place line ≡ step.Say answer)
run-answer at bytes front since answer e =
    answer_line at bytes (run at bytes).answers (run at bytes).end (goes at bytes) front since answer e

-- ---- what opens a handshake

-- a run that is open ended with a line that the table takes as BEGIN
open_line : (at : Exchange) (bytes : List ℕ) (answers : List (List ℕ)) (end : End) → Runs at bytes answers end → (rest : List ℕ) → end ≡ opened rest
    → HasLine at bytes answers (λ place line behind. (step_of place line ≡ step.Begin) × (behind ≡ rest))
open_line _ _ _ _ (waits at bytes is) rest e = cc e
open_line _ _ _ _ (overflows at bytes is) rest e = cc e
open_line _ _ _ _ (says at line behind answer answers end is s later) rest e =
    line_behind at line behind answer answers (λ place l r. (step_of place l ≡ step.Begin) × (r ≡ rest)) is s (open_line (next_of at line) behind answers end later rest e)
open_line _ _ _ _ (begins at line behind is s) rest e =
    line_here at line behind (λ place l r. (step_of place l ≡ step.Begin) × (r ≡ rest)) is (s, cc e)
open_line _ _ _ _ (refuses at line behind fault is s) rest e = cc e

-- all of these answers are ERROR
abbrev pub AllError : List (List ℕ) → Type 0
AllError = AllByRecursion (λ answer. answer ≡ error_line)

-- if the client should begin, OK is in force; or it should begin before the first line, and only
-- ERROR was answered
to_begin : (at : Exchange) (bytes : List ℕ) (answers : List (List ℕ)) (end : End) → Runs at bytes answers end → (place : Exchange) (left : List ℕ) → end ≡ waiting place left
    → place.state ≡ WaitingForBegin → OkStands at.guid answers ⊎ ((at.state ≡ WaitingForBegin) × AllError answers)
to_begin _ _ _ _ (waits at bytes is) place left e begin =
    let same : at ≡ place = cc e in
    inr (ap (λ (x : Exchange). x.state) same ∙ begin, tt)
to_begin _ _ _ _ (overflows at bytes is) place left e begin = cc e
to_begin _ _ _ _ (says at line rest answer answers end is s later) place left e begin =
    elim (to_begin (next_of at line) rest answers end later place left e begin) [
      | inl stood ↦
          inl (record {
            before = answer ∷ stood.before;
            since = stood.since;
            whole = ap (λ (l : List (List ℕ)). answer ∷ l) stood.whole;
            errors = stood.errors;
          })
      | inr from ↦
          elim (row-to_begin at.guid at.state (command_of at.uid line) answer s from.0) [
            | inl ok ↦ inl (record { before = []; since = answers; whole = ap (λ (l : List ℕ). l ∷ answers) ok; errors = from.1 })
            | inr still ↦ inr (still.0, (still.1, from.1))
          ]
    ]
to_begin _ _ _ _ (begins at line rest is s) place left e begin = cc e
to_begin _ _ _ _ (refuses at line rest fault is s) place left e begin = cc e

-- after ERROR the client should still begin
still_to_begin : (at : Exchange) (bytes : List ℕ) (answers : List (List ℕ)) (end : End) → Runs at bytes answers end → (place : Exchange) (left : List ℕ) → end ≡ waiting place left
    → at.state ≡ WaitingForBegin → AllError answers → place.state ≡ WaitingForBegin
still_to_begin _ _ _ _ (waits at bytes is) place left e begin errors =
    let same : at ≡ place = cc e in
    ap (λ (x : Exchange). x.state) (sym same) ∙ begin
still_to_begin _ _ _ _ (overflows at bytes is) place left e begin errors = cc e
still_to_begin _ _ _ _ (says at line rest answer answers end is s later) place left e begin errors =
    let next = row-error_next at.guid at.state (command_of at.uid line) (s ∙ ap step.Say errors.0) in
    still_to_begin (next_of at line) rest answers end later place left e (next ∙ begin) errors.1
still_to_begin _ _ _ _ (begins at line rest is s) place left e begin errors = cc e
still_to_begin _ _ _ _ (refuses at line rest fault is s) place left e begin errors = cc e

-- if OK is in force, the client should begin
ok_to_begin : (at : Exchange) (bytes : List ℕ) (answers : List (List ℕ)) (end : End) → Runs at bytes answers end → (place : Exchange) (left : List ℕ) → end ≡ waiting place left
    → (before since : List (List ℕ)) → answers ≡ before ++ ok_line at.guid ∷ since → AllError since → place.state ≡ WaitingForBegin
ok_to_begin _ _ _ _ (waits at bytes is) place left e [] since whole errors = cc whole
ok_to_begin _ _ _ _ (waits at bytes is) place left e (other ∷ before) since whole errors = cc whole
ok_to_begin _ _ _ _ (overflows at bytes is) place left e before since whole errors = cc e
ok_to_begin _ _ _ _ (says at line rest answer answers end is s later) place left e [] since whole errors =
    let ok : answer ≡ ok_line at.guid = cc whole in
    let same : since ≡ answers = cc whole in
    let next = row-ok_next at.guid at.state (command_of at.uid line) (s ∙ ap step.Say ok) in
    still_to_begin (next_of at line) rest answers end later place left e next (subst AllError same errors)
ok_to_begin _ _ _ _ (says at line rest answer answers end is s later) place left e (other ∷ before) since whole errors =
    let tail : answers ≡ before ++ ok_line at.guid ∷ since = cc whole in
    ok_to_begin (next_of at line) rest answers end later place left e before since tail errors
ok_to_begin _ _ _ _ (begins at line rest is s) place left e before since whole errors = cc e
ok_to_begin _ _ _ _ (refuses at line rest fault is s) place left e before since whole errors = cc e

-- the table awaits BEGIN exactly if OK is in force
pub stands-ok : (uid : ℕ) (guid lines : List ℕ) (answers : List (List ℕ)) (state : State) → Stands (fresh uid guid) lines answers state
    → (state ≡ WaitingForBegin) ↔ OkStands guid answers
stands-ok uid guid lines answers state stands =
    let at : Exchange = fresh uid guid in
    let way = goes_so at lines answers (waiting (in_state at state) []) stands in (
      λ begin.
          elim (to_begin at lines answers _ way (in_state at state) [] refl begin) [
            | inl stood ↦ stood
            | inr before ↦ cc before.0
          ],
      λ ok. ok_to_begin at lines answers _ way (in_state at state) [] refl ok.before ok.since ok.whole ok.errors,
    )

-- BEGIN if OK is in force
pub begin-opens : (uid : ℕ) (guid lines line rest : List ℕ) (answers : List (List ℕ)) (state : State) → Stands (fresh uid guid) lines answers state
    → IsLine line → word_of line ≡ codes "BEGIN" → OkStands guid answers → run (fresh uid guid) (lines ++ ended line rest) ≡ record { answers = answers; end = opened rest }
begin-opens uid guid lines line rest answers state stands is word ok =
    let at : Exchange = fresh uid guid in
    let begin = (stands-ok uid guid lines answers state stands).1 ok in
    let step_is : step_of (in_state at state) line ≡ step.Begin = ap (λ k. (row guid state k).0) (command_of-with_begin uid line word) ∙ ap (λ s. (row guid s Begin).0) begin in
    stands-run at lines (ended line rest) answers state stands
    ∙ ap (told answers) (run-line (in_state at state) line rest is ∙ ap (λ s. run_from_step s rest (run (next_of (in_state at state) line) rest)) step_is)
    ∙ ap (λ (l : List (List ℕ)). record { answers = l; end = opened rest }) (append-nil answers)

-- BEGIN if it isn't
pub begin-refused : (uid : ℕ) (guid lines line rest : List ℕ) (answers : List (List ℕ)) (state : State) → Stands (fresh uid guid) lines answers state
    → IsLine line → word_of line ≡ codes "BEGIN" → (OkStands guid answers → ⊥) → run (fresh uid guid) (lines ++ ended line rest) ≡ record { answers = answers; end = refused BeginTooSoon }
begin-refused uid guid lines line rest answers state stands is word none =
    let at : Exchange = fresh uid guid in
    let early : state ≢ WaitingForBegin = λ begin. none ((stands-ok uid guid lines answers state stands).0 begin) in
    let step_is : step_of (in_state at state) line ≡ step.Refused BeginTooSoon = ap (λ k. (row guid state k).0) (command_of-with_begin uid line word) ∙ row-too_soon guid state early in
    stands-run at lines (ended line rest) answers state stands
    ∙ ap (told answers) (run-line (in_state at state) line rest is ∙ ap (λ s. run_from_step s rest (run (next_of (in_state at state) line) rest)) step_is)
    ∙ ap (λ (l : List (List ℕ)). record { answers = l; end = refused BeginTooSoon }) (append-nil answers)

-- OK is the answer only to a line that gives an accepted argument
pub ok_earned : (uid : ℕ) (guid bytes : List ℕ) (front since : List (List ℕ)) → (run (fresh uid guid) bytes).answers ≡ front ++ ok_line guid ∷ since
    → HasLine (fresh uid guid) bytes front (λ at line rest. GivesAccepted at line)
ok_earned uid guid bytes front since e =
    let at : Exchange = fresh uid guid in
    let has = run-answer at bytes front since (ok_line guid) e in
    record {
      lines = has.lines;
      line = has.line;
      rest = has.rest;
      state = has.state;
      whole = has.whole;
      is_line = has.is_line;
      stands = has.stands;
      so = ok-gives (in_state at has.state) has.line has.so;
    }

-- what follows from an open run
is_opened : (uid : ℕ) (guid bytes : List ℕ) (answers : List (List ℕ)) (rest : List ℕ) → run (fresh uid guid) bytes ≡ record { answers = answers; end = opened rest }
    → IsOpened uid guid bytes answers rest
is_opened uid guid bytes answers rest e =
    let at : Exchange = fresh uid guid in
    let has = open_line at bytes answers (opened rest) (goes_so at bytes answers (opened rest) e) rest refl in
    let begins = row-begin guid has.state (command_of uid has.line) has.so.0 in (
      (stands-ok uid guid has.lines answers has.state has.stands).0 begins.0,
      record {
        lines = has.lines;
        line = has.line;
        rest = has.rest;
        state = has.state;
        whole = has.whole;
        is_line = has.is_line;
        stands = has.stands;
        so = (command_of-begin uid has.line begins.1, has.so.1);
      },
    )

-- a run is open exactly after a BEGIN before which OK is in force
pub run-opened : (uid : ℕ) (guid bytes : List ℕ) (answers : List (List ℕ)) (rest : List ℕ)
    → (run (fresh uid guid) bytes ≡ record { answers = answers; end = opened rest }) ↔ IsOpened uid guid bytes answers rest
run-opened uid guid bytes answers rest = (
  is_opened uid guid bytes answers rest,
  λ is.
      let has = is.1 in
      ap (run (fresh uid guid)) has.whole ∙ begin-opens uid guid has.lines has.line has.rest answers has.state has.stands has.is_line has.so.0 is.0
      ∙ ap (λ (l : List ℕ). record { answers = answers; end = opened l }) has.so.1,
)

-- ---- what refuses it, and what is awaited

part_here : (at : Exchange) (part : List ℕ) (P : Exchange → List ℕ → Type 0) → P at part → HasPart at part [] P
part_here at part P so = record { lines = []; part = part; state = at.state; whole = refl; stands = stands_start at; so = so }

part_behind : (at : Exchange) (line rest answer : List ℕ) (answers : List (List ℕ)) (P : Exchange → List ℕ → Type 0) → IsLine line → step_of at line ≡ step.Say answer
    → HasPart (next_of at line) rest answers P → HasPart at (ended line rest) (answer ∷ answers) P
part_behind at line rest answer answers P is e has = record {
  lines = ended line has.lines;
  part = has.part;
  state = has.state;
  whole = ap (ended line) has.whole ∙ sym (line-append line has.lines has.part);
  stands = stands_behind at line has.lines answer answers has.state is e has.stands;
  so = has.so;
}

-- a run that is refused ended with a line of that row, or with one that is too long
refused_line : (at : Exchange) (bytes : List ℕ) (answers : List (List ℕ)) (end : End) → Runs at bytes answers end → (fault : AuthFault) → end ≡ refused fault
    → HasLine at bytes answers (λ place line rest. step_of place line ≡ step.Refused fault) ⊎ ((fault ≡ LineTooLong) × HasPart at bytes answers (λ place part. IsTooLong part))
refused_line _ _ _ _ (waits at bytes is) fault e = cc e
refused_line _ _ _ _ (overflows at bytes is) fault e = inr (cc e, part_here at bytes (λ place part. IsTooLong part) is)
refused_line _ _ _ _ (says at line rest answer answers end is s later) fault e =
    elim (refused_line (next_of at line) rest answers end later fault e) [
      | inl has ↦ inl (line_behind at line rest answer answers (λ place l r. step_of place l ≡ step.Refused fault) is s has)
      | inr has ↦ inr (has.0, part_behind at line rest answer answers (λ place part. IsTooLong part) is s has.1)
    ]
refused_line _ _ _ _ (begins at line rest is s) fault e = cc e
refused_line _ _ _ _ (refuses at line rest other is s) fault e =
    let same : other ≡ fault = cc e in
    inl (line_here at line rest (λ place l r. step_of place l ≡ step.Refused fault) is (s ∙ ap step.Refused same))

-- a line that is refused
begin_cause : (uid : ℕ) (guid bytes : List ℕ) (answers : List (List ℕ)) (fault : AuthFault) → HasLine (fresh uid guid) bytes answers (λ place line rest. step_of place line ≡ step.Refused fault)
    → HasCause uid guid bytes answers fault
begin_cause uid guid bytes answers fault has =
    let r = row-refused guid has.state (command_of uid has.line) fault has.so in
    let cause : HasCause uid guid bytes answers BeginTooSoon = (
      λ ok. r.2 ((stands-ok uid guid has.lines answers has.state has.stands).1 ok),
      record {
        lines = has.lines;
        line = has.line;
        rest = has.rest;
        state = has.state;
        whole = has.whole;
        is_line = has.is_line;
        stands = has.stands;
        so = command_of-begin uid has.line r.1;
      },
    ) in
    subst (HasCause uid guid bytes answers) (sym r.0) cause

has_cause : (uid : ℕ) (guid bytes : List ℕ) (answers : List (List ℕ)) (fault : AuthFault) → run (fresh uid guid) bytes ≡ record { answers = answers; end = refused fault }
    → HasCause uid guid bytes answers fault
has_cause uid guid bytes answers fault e =
    let at : Exchange = fresh uid guid in
    elim (refused_line at bytes answers (refused fault) (goes_so at bytes answers (refused fault) e) fault refl) [
      | inl has ↦ begin_cause uid guid bytes answers fault has
      | inr has ↦ subst (HasCause uid guid bytes answers) (sym has.0) has.1
    ]

from_cause : (uid : ℕ) (guid bytes : List ℕ) (answers : List (List ℕ)) (fault : AuthFault) → HasCause uid guid bytes answers fault
    → run (fresh uid guid) bytes ≡ record { answers = answers; end = refused fault }
from_cause uid guid bytes answers NoZero cause = absurd cause
from_cause uid guid bytes answers LineTooLong has =
    ap (run (fresh uid guid)) has.whole ∙ stands-run (fresh uid guid) has.lines has.part answers has.state has.stands
    ∙ ap (told answers) (run-overflow (in_state (fresh uid guid) has.state) has.part has.so)
    ∙ ap (λ (l : List (List ℕ)). record { answers = l; end = refused LineTooLong }) (append-nil answers)
from_cause uid guid bytes answers BeginTooSoon cause =
    let has = cause.1 in
    ap (run (fresh uid guid)) has.whole ∙ begin-refused uid guid has.lines has.line has.rest answers has.state has.stands has.is_line has.so cause.0
from_cause uid guid bytes answers EndedEarly cause = absurd cause

-- each refusal has its cause, and each cause its refusal
pub run-refused : (uid : ℕ) (guid bytes : List ℕ) (answers : List (List ℕ)) (fault : AuthFault)
    → (run (fresh uid guid) bytes ≡ record { answers = answers; end = refused fault }) ↔ HasCause uid guid bytes answers fault
run-refused uid guid bytes answers fault = (has_cause uid guid bytes answers fault, from_cause uid guid bytes answers fault)

waiting_part : (at : Exchange) (bytes : List ℕ) (answers : List (List ℕ)) (end : End) → Runs at bytes answers end → (place : Exchange) (left : List ℕ) → end ≡ waiting place left
    → IsWaiting at bytes answers place left
waiting_part _ _ _ _ (waits at bytes is) place left e = part_here at bytes (λ there part. (there ≡ place) × (part ≡ left) × IsUnfinished part) (cc e, cc e, is)
waiting_part _ _ _ _ (overflows at bytes is) place left e = cc e
waiting_part _ _ _ _ (says at line rest answer answers end is s later) place left e =
    part_behind at line rest answer answers (λ there part. (there ≡ place) × (part ≡ left) × IsUnfinished part) is s (waiting_part (next_of at line) rest answers end later place left e)
waiting_part _ _ _ _ (begins at line rest is s) place left e = cc e
waiting_part _ _ _ _ (refuses at line rest fault is s) place left e = cc e

-- what is awaited, and after which bytes of a line
pub run-waits : (at : Exchange) (bytes : List ℕ) (answers : List (List ℕ)) (place : Exchange) (left : List ℕ)
    → (run at bytes ≡ record { answers = answers; end = waiting place left }) ↔ IsWaiting at bytes answers place left
run-waits at bytes answers place left = (
  λ e. waiting_part at bytes answers (waiting place left) (goes_so at bytes answers (waiting place left) e) place left refl,
  λ has.
      ap (run at) has.whole ∙ stands-run at has.lines has.part answers has.state has.stands
      ∙ ap (told answers) (run-waiting (in_state at has.state) has.part has.so.2)
      ∙ ap (λ (l : List (List ℕ)). record { answers = l; end = waiting (in_state at has.state) has.part }) (append-nil answers)
      ∙ ap (λ (p : Exchange). record { answers = answers; end = waiting p has.part }) has.so.0
      ∙ ap (λ (l : List ℕ). record { answers = answers; end = waiting place l }) has.so.1,
)
