-- The laws of the board, row by row of its table.
use Rattle.std.proofs.Common.{◌≡◌, ℕ, Bool, true, false, ◌||◌, List, [], ◌∷◌, ◌++◌, length, Option, Some, None, IsTrue, refl, sym, ◌∙◌, ap, ◌⊎◌, inl, inr, ⊎_elim, arith, nat_lt, nat_eq, ◌&&◌, cond}
use Rattle.std.specs.List.{find, list_any}
use Rattle.std.specs.Str.{bytes_eq}
use Rattle.std.proofs.lemmas.Bool.{cases_Bool}
use Rattle.std.proofs.lemmas.Bool.Decides.{nat_tests}
use Rattle.sender_board.specs.declared.action.Action.{Action}
use Rattle.sender_board.specs.declared.action.Action.TheVariants as act
use Rattle.sender_board.specs.declared.action.Refusal.TheVariants.{OtherUser}
use Rattle.sender_board.specs.declared.message.Call.{Call}
use Rattle.sender_board.specs.declared.message.Kind.{Kind}
use Rattle.sender_board.specs.declared.message.Kind.TheVariants as kinds
use Rattle.sender_board.specs.declared.message.Message.{Message}
use Rattle.sender_board.specs.declared.rows.Joined.{Joined}
use Rattle.sender_board.specs.declared.rows.Waiting.{Waiting}
use Rattle.sender_board.specs.Hear.{Heard, bus, service, hear, hear_from, hear_bus, hear_sender, called, looked_up, begun, begins, refused, continued, overfilled, waited, answered, gone, gone_waiting, name_lost, quiet, has_room, is_user, most_waiting}
use Rattle.sender_board.specs.Laws.{is_from_bus, is_call, IsLookedUp}
use Rattle.sender_board.specs.Rows.{Rows, is_of, asks, is_joined_as, without, with_call}

-- a choice between two
pub one_of : {T : Type 0} (P : Heard T → Type 0) (choice : Bool) (one other : Heard T) → (choice ≡ true → P one) → (choice ≡ false → P other) → P (cond choice one other)
one_of P true one other first second = first refl
one_of P false one other first second = second refl

-- ---- only the bus and calls count

sender_quiet : {T : Type 0} (serial : ℕ) (sender : List ℕ) (kind : Kind T) (rows : Rows T) → is_call kind ≡ false → hear_sender serial sender kind rows ≡ quiet rows
sender_quiet serial sender (kinds.Call call) rows off = absurd cc
sender_quiet serial sender (kinds.Answer question told) rows off = refl
sender_quiet serial sender (kinds.OwnerLost name) rows off = refl
sender_quiet serial sender (kinds.NameLost name) rows off = refl
sender_quiet serial sender kinds.Other rows off = refl

pub others_quiet : {T : Type 0} (user serial : ℕ) (sender : Option (List ℕ)) (kind : Kind T) (rows : Rows T) → is_from_bus sender ≡ false → is_call kind ≡ false
    → hear_from user serial sender kind rows ≡ quiet rows
others_quiet user serial None kind rows other off = refl
others_quiet user serial (Some sender) kind rows other off = rw other (sender_quiet serial sender kind rows off)

-- ---- who gets a connection

begun_joins : {T : Type 0} (serial : ℕ) (name : List ℕ) (call : Call T) (rows : Rows T) (sender : List ℕ) (calls : List (Call T))
    → (begun serial name call rows).action ≡ act.Join sender calls → ⊥
begun_joins serial name call rows sender calls joins =
    one_of (λ heard. heard.action ≡ act.Join sender calls → ⊥) (nat_lt (length rows.waiting) most_waiting && has_room call rows) (begins serial name call rows) (refused name call rows) (λ room wrong. cc) (λ full wrong. cc) joins

continued_joins : {T : Type 0} (name : List ℕ) (call : Call T) (row : Waiting T) (rows : Rows T) (sender : List ℕ) (calls : List (Call T))
    → (continued name call row rows).action ≡ act.Join sender calls → ⊥
continued_joins name call row rows sender calls joins =
    one_of (λ heard. heard.action ≡ act.Join sender calls → ⊥) (has_room call rows) (quiet (waited name call rows)) (overfilled name call row rows) (λ room wrong. cc) (λ full wrong. cc) joins

looked_up_joins : {T : Type 0} (serial : ℕ) (name : List ℕ) (call : Call T) (row : Option (Waiting T)) (rows : Rows T) (sender : List ℕ) (calls : List (Call T))
    → (looked_up serial name call row rows).action ≡ act.Join sender calls → ⊥
looked_up_joins serial name call None rows sender calls joins = begun_joins serial name call rows sender calls joins
looked_up_joins serial name call (Some row) rows sender calls joins = continued_joins name call row rows sender calls joins

called_joins : {T : Type 0} (serial : ℕ) (name : List ℕ) (call : Call T) (row : Option Joined) (rows : Rows T) (sender : List ℕ) (calls : List (Call T))
    → (called serial name call row rows).action ≡ act.Join sender calls → ⊥
called_joins serial name call (Some row) rows sender calls joins = cc
called_joins serial name call None rows sender calls joins = looked_up_joins serial name call (find (is_of name) rows.waiting) rows sender calls joins

sender_joins : {T : Type 0} (serial : ℕ) (name : List ℕ) (kind : Kind T) (rows : Rows T) (sender : List ℕ) (calls : List (Call T))
    → (hear_sender serial name kind rows).action ≡ act.Join sender calls → ⊥
sender_joins serial name (kinds.Call call) rows sender calls joins = called_joins serial name call (find (is_joined_as name) rows.joined) rows sender calls joins
sender_joins serial name (kinds.Answer question told) rows sender calls joins = cc
sender_joins serial name (kinds.OwnerLost lost) rows sender calls joins = cc
sender_joins serial name (kinds.NameLost lost) rows sender calls joins = cc
sender_joins serial name kinds.Other rows sender calls joins = cc

gone_waiting_joins : {T : Type 0} (name : List ℕ) (row : Option (Waiting T)) (rows : Rows T) (sender : List ℕ) (calls : List (Call T))
    → (gone_waiting name row rows).action ≡ act.Join sender calls → ⊥
gone_waiting_joins name None rows sender calls joins = cc
gone_waiting_joins name (Some row) rows sender calls joins = cc

gone_joins : {T : Type 0} (name : List ℕ) (row : Option Joined) (rows : Rows T) (sender : List ℕ) (calls : List (Call T))
    → (gone name row rows).action ≡ act.Join sender calls → ⊥
gone_joins name (Some row) rows sender calls joins = cc
gone_joins name None rows sender calls joins = gone_waiting_joins name (find (is_of name) rows.waiting) rows sender calls joins

lost_joins : {T : Type 0} (lost : Bool) (rows : Rows T) (sender : List ℕ) (calls : List (Call T)) → (name_lost lost rows).action ≡ act.Join sender calls → ⊥
lost_joins true rows sender calls joins = cc
lost_joins false rows sender calls joins = cc

-- what an answer to an open question says
record Answered {T : Type 0} (user : ℕ) (told : Option ℕ) (found : Option (Waiting T)) (sender : List ℕ) (calls : List (Call T)) : Type 0 where
  row : Waiting T
  right : told ≡ Some user
  was_asked : found ≡ Some row
  whose : row.sender ≡ sender
  their : row.calls ≡ calls

is_same : (one other : ℕ) → nat_eq one other ≡ true → one ≡ other
is_same one other same = grind (arith, nat_tests)

right_user : (user : ℕ) (told : Option ℕ) → is_user user told ≡ true → told ≡ Some user
right_user user None is = absurd cc
right_user user (Some one) is = ap Some (is_same one user is)

answered_joins : {T : Type 0} (user question : ℕ) (told : Option ℕ) (found : Option (Waiting T)) (rows : Rows T) (sender : List ℕ) (calls : List (Call T))
    → (answered user question told found rows).action ≡ act.Join sender calls → Answered user told found sender calls
answered_joins user question told None rows sender calls joins = absurd cc
answered_joins user question told (Some row) rows sender calls joins =
    ⊎_elim
    (λ right. (let same : act.Join row.sender row.calls ≡ act.Join sender calls = rw right at joins in
    record { row = row; right = right_user user told right; was_asked = refl; whose = cc; their = cc }))
    (λ off. (let wrong : act.TurnAway row.sender OtherUser row.calls None ≡ act.Join sender calls = rw off at joins in absurd cc))
    (cases_Bool (is_user user told))

bus_joins : {T : Type 0} (user : ℕ) (message : Message T) (told : IsTrue (is_from_bus message.sender)) (kind : Kind T) (rows : Rows T) (sender : List ℕ) (calls : List (Call T))
    → message.kind ≡ kind → (hear_bus user kind rows).action ≡ act.Join sender calls → IsLookedUp user message rows sender calls
bus_joins user message told (kinds.Answer question one) rows sender calls is joins =
    let found = answered_joins user question one (find (asks question) rows.waiting) rows sender calls joins in
    record {
      question = question;
      row = found.row;
      told = told;
      right = is ∙ ap (kinds.Answer question) found.right;
      was_asked = found.was_asked;
      whose = found.whose;
      their = found.their;
    }
bus_joins user message told (kinds.OwnerLost name) rows sender calls is joins = absurd (gone_joins name (find (is_joined_as name) rows.joined) rows sender calls joins)
bus_joins user message told (kinds.NameLost name) rows sender calls is joins = absurd (lost_joins (bytes_eq name service) rows sender calls joins)
bus_joins user message told (kinds.Call call) rows sender calls is joins = absurd cc
bus_joins user message told kinds.Other rows sender calls is joins = absurd cc

from_joins : {T : Type 0} (user serial : ℕ) (message : Message T) (from : Option (List ℕ)) (rows : Rows T) (sender : List ℕ) (calls : List (Call T))
    → message.sender ≡ from → (hear_from user serial from message.kind rows).action ≡ act.Join sender calls → IsLookedUp user message rows sender calls
from_joins user serial message None rows sender calls is joins = absurd cc
from_joins user serial message (Some name) rows sender calls is joins =
    one_of (λ heard. heard.action ≡ act.Join sender calls → IsLookedUp user message rows sender calls) (bytes_eq name bus) (hear_bus user message.kind rows) (hear_sender serial name message.kind rows)
    (λ same told. bus_joins user message (ap is_from_bus is ∙ same) message.kind rows sender calls refl told)
    (λ other told. absurd (sender_joins serial name message.kind rows sender calls told))
    joins

pub joins_looked_up : {T : Type 0} (user serial : ℕ) (message : Message T) (rows : Rows T) (sender : List ℕ) (calls : List (Call T))
    → (hear user serial message rows).action ≡ act.Join sender calls → IsLookedUp user message rows sender calls
joins_looked_up user serial message rows sender calls joins = from_joins user serial message message.sender rows sender calls refl joins

-- ---- which questions are open

or_right : (a b : Bool) → b ≡ true → (a || b) ≡ true
or_right true b is = refl
or_right false b is = is

or_still : (a b c : Bool) → (a || b) ≡ true → (b ≡ true → c ≡ true) → (a || c) ≡ true
or_still true b c is more = refl
or_still false b c is more = more is

open_without : {T : Type 0} (test : Waiting T → Bool) (question : ℕ) (rows : List (Waiting T)) → list_any (asks question) (without test rows) ≡ true → list_any (asks question) rows ≡ true
open_without test question [] asked_now = asked_now
open_without test question (row ∷ rows) asked_now =
    ⊎_elim
    (λ (here : test row ≡ true). (let rest : list_any (asks question) rows ≡ true = rw here at asked_now in or_right (asks question row) (list_any (asks question) rows) rest))
    (λ (off : test row ≡ false). (let more : (asks question row || list_any (asks question) (without test rows)) ≡ true = rw off at asked_now in
    or_still (asks question row) (list_any (asks question) (without test rows)) (list_any (asks question) rows) more (open_without test question rows)))
    (cases_Bool (test row))

open_changed : {T : Type 0} (test : Waiting T → Bool) (call : Call T) (question : ℕ) (rows : List (Waiting T)) → list_any (asks question) (with_call test call rows) ≡ list_any (asks question) rows
open_changed test call question [] = refl
open_changed test call question (row ∷ rows) =
    ⊎_elim
    (λ here. rw here refl)
    (λ off. rw off (ap (λ rest. asks question row || rest) (open_changed test call question rows)))
    (cases_Bool (test row))

open_push : {T : Type 0} (question : ℕ) (rows : List (Waiting T)) (row : Waiting T) → list_any (asks question) (rows ++ row ∷ []) ≡ true
    → (list_any (asks question) rows ≡ true) ⊎ (asks question row ≡ true)
open_push question [] row asked_now =
    ⊎_elim (λ (asked : asks question row ≡ true). inr asked) (λ (other : asks question row ≡ false). (let wrong : false ≡ true = rw other at asked_now in absurd cc)) (cases_Bool (asks question row))
open_push question (first ∷ rows) row asked_now =
    ⊎_elim
    (λ (asked : asks question first ≡ true). inl (rw asked refl))
    (λ (other : asks question first ≡ false). (let more : list_any (asks question) (rows ++ row ∷ []) ≡ true = rw other at asked_now in
    ⊎_elim
    (λ there. inl (or_right (asks question first) (list_any (asks question) rows) there))
    (λ new. inr new)
    (open_push question rows row more)))
    (cases_Bool (asks question first))

-- the question was open before, or the bus is asked now
abbrev Was : {T : Type 0} → (serial question : ℕ) → Rows T → Action T → Type 0
Was serial question rows action =
    (list_any (asks question) rows.waiting ≡ true) ⊎ ((question ≡ serial) × ((sender : List ℕ) × (action ≡ act.AskUser sender)))

begun_was : {T : Type 0} (serial : ℕ) (name : List ℕ) (call : Call T) (rows : Rows T) (question : ℕ)
    → list_any (asks question) (begun serial name call rows).rows.waiting ≡ true → Was serial question rows (begun serial name call rows).action
begun_was {T} serial name call rows question asked_now =
    let new : Waiting T = record { sender = name; question = serial; calls = call ∷ [] } in
    one_of (λ heard. list_any (asks question) heard.rows.waiting ≡ true → Was serial question rows heard.action) (nat_lt (length rows.waiting) most_waiting && has_room call rows) (begins serial name call rows) (refused name call rows)
    (λ room pushed. ⊎_elim (λ there. inl there) (λ is. inr (sym (is_same serial question is), (name, refl))) (open_push question rows.waiting new pushed))
    (λ full there. inl there)
    asked_now

continued_was : {T : Type 0} (name : List ℕ) (call : Call T) (row : Waiting T) (rows : Rows T) (question : ℕ)
    → list_any (asks question) (continued name call row rows).rows.waiting ≡ true → list_any (asks question) rows.waiting ≡ true
continued_was name call row rows question asked_now =
    one_of (λ heard. list_any (asks question) heard.rows.waiting ≡ true → list_any (asks question) rows.waiting ≡ true) (has_room call rows) (quiet (waited name call rows)) (overfilled name call row rows)
    (λ room added. sym (open_changed (is_of name) call question rows.waiting) ∙ added)
    (λ full fewer. open_without (is_of name) question rows.waiting fewer)
    asked_now

looked_up_was : {T : Type 0} (serial : ℕ) (name : List ℕ) (call : Call T) (row : Option (Waiting T)) (rows : Rows T) (question : ℕ)
    → list_any (asks question) (looked_up serial name call row rows).rows.waiting ≡ true → Was serial question rows (looked_up serial name call row rows).action
looked_up_was serial name call None rows question asked_now = begun_was serial name call rows question asked_now
looked_up_was serial name call (Some row) rows question asked_now = inl (continued_was name call row rows question asked_now)

called_was : {T : Type 0} (serial : ℕ) (name : List ℕ) (call : Call T) (row : Option Joined) (rows : Rows T) (question : ℕ)
    → list_any (asks question) (called serial name call row rows).rows.waiting ≡ true → Was serial question rows (called serial name call row rows).action
called_was serial name call (Some row) rows question asked_now = inl asked_now
called_was serial name call None rows question asked_now = looked_up_was serial name call (find (is_of name) rows.waiting) rows question asked_now

sender_was : {T : Type 0} (serial : ℕ) (name : List ℕ) (kind : Kind T) (rows : Rows T) (question : ℕ)
    → list_any (asks question) (hear_sender serial name kind rows).rows.waiting ≡ true → Was serial question rows (hear_sender serial name kind rows).action
sender_was serial name (kinds.Call call) rows question asked_now = called_was serial name call (find (is_joined_as name) rows.joined) rows question asked_now
sender_was serial name (kinds.Answer other told) rows question asked_now = inl asked_now
sender_was serial name (kinds.OwnerLost lost) rows question asked_now = inl asked_now
sender_was serial name (kinds.NameLost lost) rows question asked_now = inl asked_now
sender_was serial name kinds.Other rows question asked_now = inl asked_now

answered_was : {T : Type 0} (user other : ℕ) (told : Option ℕ) (found : Option (Waiting T)) (rows : Rows T) (question : ℕ)
    → list_any (asks question) (answered user other told found rows).rows.waiting ≡ true → list_any (asks question) rows.waiting ≡ true
answered_was user other told None rows question asked_now = asked_now
answered_was user other told (Some row) rows question asked_now = open_without (asks other) question rows.waiting asked_now

gone_waiting_was : {T : Type 0} (name : List ℕ) (row : Option (Waiting T)) (rows : Rows T) (question : ℕ)
    → list_any (asks question) (gone_waiting name row rows).rows.waiting ≡ true → list_any (asks question) rows.waiting ≡ true
gone_waiting_was name None rows question asked_now = asked_now
gone_waiting_was name (Some row) rows question asked_now = open_without (is_of name) question rows.waiting asked_now

gone_was : {T : Type 0} (name : List ℕ) (row : Option Joined) (rows : Rows T) (question : ℕ)
    → list_any (asks question) (gone name row rows).rows.waiting ≡ true → list_any (asks question) rows.waiting ≡ true
gone_was name (Some row) rows question asked_now = asked_now
gone_was name None rows question asked_now = gone_waiting_was name (find (is_of name) rows.waiting) rows question asked_now

bus_was : {T : Type 0} (user : ℕ) (kind : Kind T) (rows : Rows T) (question : ℕ)
    → list_any (asks question) (hear_bus user kind rows).rows.waiting ≡ true → list_any (asks question) rows.waiting ≡ true
bus_was user (kinds.Call call) rows question asked_now = asked_now
bus_was user (kinds.Answer other told) rows question asked_now = answered_was user other told (find (asks other) rows.waiting) rows question asked_now
bus_was user (kinds.OwnerLost name) rows question asked_now = gone_was name (find (is_joined_as name) rows.joined) rows question asked_now
bus_was user (kinds.NameLost name) rows question asked_now = asked_now
bus_was user kinds.Other rows question asked_now = asked_now

pub from_was : {T : Type 0} (user serial : ℕ) (from : Option (List ℕ)) (kind : Kind T) (rows : Rows T) (question : ℕ)
    → list_any (asks question) (hear_from user serial from kind rows).rows.waiting ≡ true → Was serial question rows (hear_from user serial from kind rows).action
from_was user serial None kind rows question asked_now = inl asked_now
from_was user serial (Some name) kind rows question asked_now =
    one_of (λ heard. list_any (asks question) heard.rows.waiting ≡ true → Was serial question rows heard.action) (bytes_eq name bus) (hear_bus user kind rows) (hear_sender serial name kind rows)
    (λ same told. inl (bus_was user kind rows question told))
    (λ other told. sender_was serial name kind rows question told)
    asked_now
