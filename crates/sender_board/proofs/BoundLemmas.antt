-- What waits is counted, and stays within the limits.
use Rattle.std.proofs.Common.{◌≡◌, ℕ, ◌+◌, ◌<◌, ◌≤◌, suc, Bool, true, false, ◌&&◌, nat_lt, nat_le, List, [], ◌∷◌, ◌++◌, length, Option, Some, None, refl, ap, ⊎_elim, arith}
use Rattle.std.specs.List.{find}
use Rattle.std.specs.Str.{bytes_eq}
use Rattle.std.proofs.lemmas.Bool.{cases_Bool}
use Rattle.std.proofs.lemmas.Bool.Decides.{nat_tests}
use Rattle.std.proofs.lemmas.List.{length-append}
use Rattle.sender_board.specs.declared.message.Call.{Call}
use Rattle.sender_board.specs.declared.message.Kind.{Kind}
use Rattle.sender_board.specs.declared.message.Kind.TheVariants as kinds
use Rattle.sender_board.specs.declared.rows.Joined.{Joined}
use Rattle.sender_board.specs.declared.rows.Waiting.{Waiting}
use Rattle.sender_board.specs.Hear.{bus, hear_from, hear_bus, hear_sender, called, looked_up, begun, begins, refused, continued, waited, overfilled, quiet, forgotten, answered, gone, gone_waiting, has_room, most_waiting, most_bytes}
use Rattle.sender_board.specs.Laws.{IsBounded, total}
use Rattle.sender_board.proofs.LawLemmas.{one_of}
use Rattle.sender_board.specs.Rows.{Rows, is_of, asks, is_joined_as, without, with_call, size_in}

same_some : {X : Type 0} (one other : X) → Some one ≡ Some other → one ≡ other
same_some one other same = cc

-- ---- rows without one, with one more call, with one more row

total_without : {T : Type 0} (test : Waiting T → Bool) (row : Waiting T) (rows : List (Waiting T)) → find test rows ≡ Some row
    → total rows ≡ size_in row.calls + total (without test rows)
total_without test row [] found = absurd cc
total_without test row (first ∷ rows) found =
    ⊎_elim
    (λ here. (let same : Some first ≡ Some row = rw here at found in
    rw here (ap (λ one. size_in one.calls + total rows) (same_some first row same))))
    (λ off. (let more : find test rows ≡ Some row = rw off at found in
    let rest = total_without test row rows more in
    rw off (omega (arith, rest))))
    (cases_Bool (test first))

fewer : {T : Type 0} (test : Waiting T → Bool) (rows : List (Waiting T)) → length (without test rows) ≤ length rows
fewer test [] = omega arith
fewer test (first ∷ rows) =
    ⊎_elim (λ here. rw here (omega arith)) (λ off. rw off (omega (arith, fewer test rows))) (cases_Bool (test first))

size_last : {T : Type 0} (calls : List (Call T)) (call : Call T) → size_in (calls ++ call ∷ []) ≡ size_in calls + call.size
size_last [] call = omega arith
size_last (first ∷ calls) call = omega (arith, size_last calls call)

total_with : {T : Type 0} (test : Waiting T → Bool) (call : Call T) (row : Waiting T) (rows : List (Waiting T)) → find test rows ≡ Some row
    → total (with_call test call rows) ≡ total rows + call.size
total_with test call row [] found = absurd cc
total_with test call row (first ∷ rows) found =
    ⊎_elim
    (λ here. rw here (omega (arith, size_last first.calls call)))
    (λ off. (let more : find test rows ≡ Some row = rw off at found in
    let rest = total_with test call row rows more in
    rw off (omega (arith, rest))))
    (cases_Bool (test first))

length_with : {T : Type 0} (test : Waiting T → Bool) (call : Call T) (rows : List (Waiting T)) → length (with_call test call rows) ≡ length rows
length_with test call [] = refl
length_with test call (first ∷ rows) =
    ⊎_elim (λ here. rw here refl) (λ off. rw off (ap suc (length_with test call rows))) (cases_Bool (test first))

total_push : {T : Type 0} (rows : List (Waiting T)) (row : Waiting T) → total (rows ++ row ∷ []) ≡ total rows + size_in row.calls
total_push [] row = omega arith
total_push (first ∷ rows) row = omega (arith, total_push rows row)

-- ---- each row of the table

both : (a b : Bool) → (a && b) ≡ true → (a ≡ true) × (b ≡ true)
both true b is = (refl, is)
both false b is = absurd cc

below : (a b : ℕ) → nat_lt a b ≡ true → a < b
below a b is = grind (arith, nat_tests)

upto : (a b : ℕ) → nat_le a b ≡ true → a ≤ b
upto a b is = grind (arith, nat_tests)

begun_bounded : {T : Type 0} (serial : ℕ) (name : List ℕ) (call : Call T) (rows : Rows T) → IsBounded rows → IsBounded (begun serial name call rows).rows
begun_bounded {T} serial name call rows bounded =
    one_of (λ heard. IsBounded heard.rows) (nat_lt (length rows.waiting) most_waiting && has_room call rows) (begins serial name call rows) (refused name call rows)
    (λ room. (let parts = both (nat_lt (length rows.waiting) most_waiting) (has_room call rows) room in
    let few = below (length rows.waiting) most_waiting parts.0 in
    let fits = upto (rows.bytes + call.size) most_bytes parts.1 in
    let new : Waiting T = record { sender = name; question = serial; calls = call ∷ [] } in
    let long = length-append rows.waiting (new ∷ []) in
    let more = total_push rows.waiting new in
    record { few = omega (arith, few, long); counted = omega (arith, bounded.counted, more); fits = fits }))
    (λ full. bounded)

forgotten_bounded : {T : Type 0} (test : Waiting T → Bool) (row : Waiting T) (rows : Rows T) → find test rows.waiting ≡ Some row → IsBounded rows → IsBounded (forgotten test row rows)
forgotten_bounded test row rows found bounded =
    let left = total_without test row rows.waiting found in
    record {
      few = omega (arith, bounded.few, fewer test rows.waiting);
      counted = omega (arith, bounded.counted, left);
      fits = omega (arith, bounded.fits);
    }

continued_bounded : {T : Type 0} (name : List ℕ) (call : Call T) (row : Waiting T) (rows : Rows T) → find (is_of name) rows.waiting ≡ Some row → IsBounded rows
    → IsBounded (continued name call row rows).rows
continued_bounded name call row rows found bounded =
    one_of (λ heard. IsBounded heard.rows) (has_room call rows) (quiet (waited name call rows)) (overfilled name call row rows)
    (λ room. (let fits = upto (rows.bytes + call.size) most_bytes room in
    let same = length_with (is_of name) call rows.waiting in
    let more = total_with (is_of name) call row rows.waiting found in
    record { few = omega (arith, bounded.few, same); counted = omega (arith, bounded.counted, more); fits = fits }))
    (λ full. forgotten_bounded (is_of name) row rows found bounded)

looked_up_bounded : {T : Type 0} (serial : ℕ) (name : List ℕ) (call : Call T) (row : Option (Waiting T)) (rows : Rows T) → find (is_of name) rows.waiting ≡ row → IsBounded rows
    → IsBounded (looked_up serial name call row rows).rows
looked_up_bounded serial name call None rows found bounded = begun_bounded serial name call rows bounded
looked_up_bounded serial name call (Some row) rows found bounded = continued_bounded name call row rows found bounded

called_bounded : {T : Type 0} (serial : ℕ) (name : List ℕ) (call : Call T) (row : Option Joined) (rows : Rows T) → IsBounded rows → IsBounded (called serial name call row rows).rows
called_bounded serial name call (Some row) rows bounded = bounded
called_bounded serial name call None rows bounded = looked_up_bounded serial name call (find (is_of name) rows.waiting) rows refl bounded

sender_bounded : {T : Type 0} (serial : ℕ) (name : List ℕ) (kind : Kind T) (rows : Rows T) → IsBounded rows → IsBounded (hear_sender serial name kind rows).rows
sender_bounded serial name (kinds.Call call) rows bounded = called_bounded serial name call (find (is_joined_as name) rows.joined) rows bounded
sender_bounded serial name (kinds.Answer question told) rows bounded = bounded
sender_bounded serial name (kinds.OwnerLost lost) rows bounded = bounded
sender_bounded serial name (kinds.NameLost lost) rows bounded = bounded
sender_bounded serial name kinds.Other rows bounded = bounded

answered_bounded : {T : Type 0} (user question : ℕ) (told : Option ℕ) (row : Option (Waiting T)) (rows : Rows T) → find (asks question) rows.waiting ≡ row → IsBounded rows
    → IsBounded (answered user question told row rows).rows
answered_bounded user question told None rows found bounded = bounded
answered_bounded user question told (Some row) rows found bounded = forgotten_bounded (asks question) row rows found bounded

gone_waiting_bounded : {T : Type 0} (name : List ℕ) (row : Option (Waiting T)) (rows : Rows T) → find (is_of name) rows.waiting ≡ row → IsBounded rows → IsBounded (gone_waiting name row rows).rows
gone_waiting_bounded name None rows found bounded = bounded
gone_waiting_bounded name (Some row) rows found bounded = forgotten_bounded (is_of name) row rows found bounded

gone_bounded : {T : Type 0} (name : List ℕ) (row : Option Joined) (rows : Rows T) → IsBounded rows → IsBounded (gone name row rows).rows
gone_bounded name (Some row) rows bounded = record { few = bounded.few; counted = bounded.counted; fits = bounded.fits }
gone_bounded name None rows bounded = gone_waiting_bounded name (find (is_of name) rows.waiting) rows refl bounded

bus_bounded : {T : Type 0} (user : ℕ) (kind : Kind T) (rows : Rows T) → IsBounded rows → IsBounded (hear_bus user kind rows).rows
bus_bounded user (kinds.Call call) rows bounded = bounded
bus_bounded user (kinds.Answer question told) rows bounded = answered_bounded user question told (find (asks question) rows.waiting) rows refl bounded
bus_bounded user (kinds.OwnerLost name) rows bounded = gone_bounded name (find (is_joined_as name) rows.joined) rows bounded
bus_bounded user (kinds.NameLost name) rows bounded = bounded
bus_bounded user kinds.Other rows bounded = bounded

pub from_bounded : {T : Type 0} (user serial : ℕ) (from : Option (List ℕ)) (kind : Kind T) (rows : Rows T) → IsBounded rows → IsBounded (hear_from user serial from kind rows).rows
from_bounded user serial None kind rows bounded = bounded
from_bounded user serial (Some name) kind rows bounded =
    one_of (λ heard. IsBounded heard.rows) (bytes_eq name bus) (hear_bus user kind rows) (hear_sender serial name kind rows)
    (λ same. bus_bounded user kind rows bounded)
    (λ other. sender_bounded serial name kind rows bounded)
