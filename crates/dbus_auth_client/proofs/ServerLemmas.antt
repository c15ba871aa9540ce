-- The server's half accepts what the client sends, and the client hears it.
use Rattle.std.proofs.Common.{◌≡◌, ℕ, ◌+◌, ◌/◌, ◌%◌, ◌^◌, ◌<◌, ◌==◌, Bool, true, false, ◌&&◌, not, cond, IsTrue, List, [], ◌∷◌, ◌++◌, length, take, drop, get_or, zero, suc, nat_lt, Option, Some, None, refl, ap, ◌∙◌, arith, append_assoc, codes, decimal}
use Rattle.std.specs.Char.{is_ascii_hexdigit}
use Rattle.std.specs.List.{list_all, concat}
use Rattle.std.specs.Option.{option_map_or}
use Rattle.std.specs.Prelude.{option_map, position, unwrap_or}
use Rattle.std.specs.Str.{bytes_eq}
use Rattle.std.proofs.lemmas.Bool.{and_parts, eqb-true, lt-ltb}
use Rattle.std.proofs.lemmas.Bool.Decides.{nat_tests}
use Rattle.std.proofs.lemmas.Fmt.{length-decimal-le}
use Rattle.hex.specs.Hex.{encode_with, encode_lower, lower_digits}
use Rattle.hex.proofs.HexLemmas.{length-encode_with}
use Rattle.dbus_auth.specs.Answers.{ok_line}
use Rattle.dbus_auth.specs.Commands.{command_of}
use Rattle.dbus_auth.specs.Conversation.{IsLine, at_once, GivesAccepted, in_state, Stands, OkStands}
use Rattle.dbus_auth.specs.Conversation as served
use Rattle.dbus_auth.specs.Handshake as server
use Rattle.dbus_auth.specs.Lines.{first_cut, line_end, is_space, word_of, argument_of}
use Rattle.dbus_auth.specs.Table.{fresh, step_of, next_of}
use Rattle.dbus_auth.specs.declared.auth.State.TheVariants.{WaitingForAuth, WaitingForBegin}
use Rattle.dbus_auth.specs.declared.auth.Step.TheVariants as step
use Rattle.dbus_auth.proofs.CommandLemmas.{is_accepted-lower, is_accepted-iff}
use Rattle.dbus_auth.proofs.CutLemmas.{first_cut-line}
use Rattle.dbus_auth.proofs.HandshakeLemmas.{handshake-zero, in_pieces-handshake, begin-opens, gives-ok}
use Rattle.dbus_auth.proofs.RunLemmas.{run-line, run-waiting}
use Rattle.dbus_auth.proofs.TableLemmas.{row-ok_next}
use Rattle.dbus_auth_client.specs.Openings.{auth_words, auth_line, begin_line}
use Rattle.dbus_auth_client.specs.Hearing.{is_guid, guid_of, accepted_with, asked_again, heard_of, after, opened, talk, in_pieces}
use Rattle.dbus_auth_client.specs.declared.client.ClientFault.TheVariants as fault
use Rattle.dbus_auth_client.specs.declared.hearing.Heard.{Heard}
use Rattle.dbus_auth_client.specs.declared.hearing.Heard.TheVariants as heard
use Rattle.dbus_auth_client.proofs.HearingLemmas.{within-limit, in_pieces-talk}

-- ---- texts without CR

-- no byte is a CR
abbrev has_none : List ℕ → Bool
has_none bytes = list_all (λ c. not (c == 13)) bytes

both : (a b : Bool) → (a && b) ≡ true → (a ≡ true) × (b ≡ true)
both a b e = and_parts a b e

not_cr : (c : ℕ) (test : Bool) → (c == 13) ≡ test → not test ≡ true → (c == 13) ≡ false
not_cr c true is e = absurd cc
not_cr c false is e = is

uncut : (bytes : List ℕ) → has_none bytes ≡ true → first_cut bytes ≡ None
uncut [] e = refl
uncut (c ∷ bytes) e =
    let two = both (not (c == 13)) (has_none bytes) e in
    let other = not_cr c (c == 13) refl two.0 in
    rw (other, uncut bytes two.1) refl

hex_no_cr : (c : ℕ) → is_ascii_hexdigit c ≡ true → not (c == 13) ≡ true
hex_no_cr c e = grind (arith, nat_tests)

hex_none : (bytes : List ℕ) → list_all is_ascii_hexdigit bytes ≡ true → has_none bytes ≡ true
hex_none [] e = refl
hex_none (c ∷ bytes) e =
    let two = both (is_ascii_hexdigit c) (list_all is_ascii_hexdigit bytes) e in
    rw (hex_no_cr c two.0, hex_none bytes two.1) refl

-- what is taken from a list without CR isn't one
one_none : (list : List ℕ) (place : ℕ) → has_none list ≡ true → not (get_or list place 0 == 13) ≡ true
one_none [] place e = refl
one_none (c ∷ list) zero e = (both (not (c == 13)) (has_none list) e).0
one_none (c ∷ list) (suc place) e = one_none list place (both (not (c == 13)) (has_none list) e).1

encoded_none : (bytes : List ℕ) → has_none (encode_lower bytes) ≡ true
unfolding encode_with
encoded_none [] = refl
encoded_none (b ∷ bytes) = rw (one_none lower_digits (b / 16) refl, one_none lower_digits (b % 16) refl, encoded_none bytes) refl

-- ---- the server over the client's lines

auth_is_line : (uid : ℕ) → uid < 2 ^ 32 → IsLine (auth_words uid)
auth_is_line uid fits = record {
  whole = uncut (auth_words uid) (encoded_none (decimal uid));
  fits = omega (arith, length-encode_with lower_digits (decimal uid), length-decimal-le 10 uid (omega arith) (omega (arith, fits)) (omega (arith, fits)));
}

-- the line gives the user id
gives : (uid : ℕ) (guid : List ℕ) → uid < 2 ^ 32 → GivesAccepted (fresh uid guid) (auth_words uid)
gives uid guid fits =
    at_once (encode_lower (decimal uid)) refl ((is_accepted-iff uid (encode_lower (decimal uid))).0 (is_accepted-lower uid (omega (arith, fits))))

-- after the client's first line, the server has answered OK and awaits BEGIN
pub auth_stands : (uid : ℕ) (guid : List ℕ) → uid < 2 ^ 32 → Stands (fresh uid guid) (auth_line uid) (ok_line guid ∷ []) WaitingForBegin
auth_stands uid guid fits =
    let at = fresh uid guid in
    let says : step_of at (auth_words uid) ≡ step.Say (ok_line guid) = gives-ok at (auth_words uid) (gives uid guid fits) in
    let next : next_of at (auth_words uid) ≡ in_state at WaitingForBegin =
    ap (in_state at) (row-ok_next guid WaitingForAuth (command_of uid (auth_words uid)) says) in
    run-line at (auth_words uid) [] (auth_is_line uid fits)
    ∙ ap (λ s. server.run_from_step s [] (server.run (next_of at (auth_words uid)) [])) says
    ∙ ap (λ e. server.answered (ok_line guid) (server.run e [])) next
    ∙ ap (server.answered (ok_line guid)) (run-waiting (in_state at WaitingForBegin) [] (record { none = refl; short = omega arith }))

stands_alone : (guid : List ℕ) → OkStands guid (ok_line guid ∷ [])
stands_alone guid = record { before = []; since = []; whole = refl; errors = tt }

begin_is_line : IsLine (codes "BEGIN")
begin_is_line = record { whole = refl; fits = omega arith }

-- and after BEGIN it is open
begun_run : (uid : ℕ) (guid rest : List ℕ) → uid < 2 ^ 32
    → server.run (fresh uid guid) (auth_line uid ++ (begin_line ++ rest)) ≡ record { answers = ok_line guid ∷ []; end = server.opened rest }
begun_run uid guid rest fits =
    begin-opens uid guid (auth_line uid) (codes "BEGIN") rest (ok_line guid ∷ []) WaitingForBegin (auth_stands uid guid fits) begin_is_line refl (stands_alone guid)

pieces_run : (uid : ℕ) (guid bytes : List ℕ) (pieces : List (List ℕ)) → concat pieces ≡ bytes
    → served.in_pieces (server.handshake uid guid (0 ∷ [])) pieces ≡ server.run (fresh uid guid) bytes
pieces_run uid guid bytes pieces are =
    in_pieces-handshake uid guid 0 [] pieces ∙ ap (λ (l : List ℕ). server.handshake uid guid (0 ∷ l)) are ∙ handshake-zero uid guid bytes

pub offered : (uid : ℕ) (guid : List ℕ) (pieces : List (List ℕ)) → uid < 2 ^ 32 → concat pieces ≡ auth_line uid
    → (served.in_pieces (server.handshake uid guid (0 ∷ [])) pieces).answers ≡ ok_line guid ∷ []
offered uid guid pieces fits are =
    ap (λ (r : server.Run). r.answers) (pieces_run uid guid (auth_line uid) pieces are ∙ auth_stands uid guid fits)

pub begun : (uid : ℕ) (guid rest : List ℕ) (pieces : List (List ℕ)) → uid < 2 ^ 32 → concat pieces ≡ auth_line uid ++ (begin_line ++ rest)
    → served.in_pieces (server.handshake uid guid (0 ∷ [])) pieces ≡ record { answers = ok_line guid ∷ []; end = server.opened rest }
begun uid guid rest pieces fits are =
    pieces_run uid guid (auth_line uid ++ (begin_line ++ rest)) pieces are ∙ begun_run uid guid rest fits

-- ---- the client over the server's line

abbrev ok_words : List ℕ → List ℕ
ok_words guid = codes "OK " ++ guid

-- what a line with this word and this argument says
abbrev said_by : List ℕ → Option (List ℕ) → Heard
said_by word argument =
    cond (bytes_eq word (codes "OK")) (accepted_with (guid_of (unwrap_or argument [])))
    (cond (bytes_eq word (codes "DATA")) (asked_again false) (cond (bytes_eq word (codes "REJECTED")) (heard.Refuses fault.Rejected) (heard.Refuses fault.Unexpected)))

spaced : (line : List ℕ) (n : ℕ) → n < length line → cond (nat_lt n (length line)) (Some n) None ≡ Some n
spaced line n long = ap (λ b. cond b (Some n) None) (lt-ltb n (length line) long)

heard_ok : (guid : List ℕ) → is_guid guid ≡ true → heard_of false (ok_words guid) ≡ heard.Accepts guid
unfolding heard_of
heard_ok guid is =
    let line : List ℕ = ok_words guid in
    let first : position is_space line ≡ Some 2 = spaced line 2 (omega arith) in
    let word : word_of line ≡ codes "OK" = ap (λ (o : Option ℕ). option_map_or (λ i. take i line) o line) first in
    let argument : argument_of line ≡ Some guid = ap (λ (o : Option ℕ). option_map (λ i. drop (i + 1) line) o) first in
    ap (λ (w : List ℕ). said_by w (argument_of line)) word ∙ ap (λ (o : Option (List ℕ)). said_by (codes "OK") o) argument
    ∙ ap (λ (b : Bool). accepted_with (cond b (Some guid) None)) is

accepted_talk : (guid rest : List ℕ) → is_guid guid ≡ true → talk false (ok_line guid ++ rest) ≡ record { said = begin_line ∷ []; end = opened guid rest }
unfolding talk
accepted_talk guid rest is =
    let two = both (length guid == 32) (list_all is_ascii_hexdigit guid) is in
    let size : length guid ≡ 32 = eqb-true (length guid) 32 two.0 in
    let whole : first_cut (ok_words guid) ≡ None = uncut (ok_words guid) (hex_none guid two.1) in
    let parted : ok_line guid ++ rest ≡ ok_words guid ++ (line_end ++ rest) = append_assoc (ok_words guid) line_end rest in
    ap (talk false) parted
    ∙ within-limit false (ok_words guid ++ (line_end ++ rest)) (record { line = ok_words guid; rest = rest }) (first_cut-line (ok_words guid) rest whole) (omega (arith, size))
    ∙ ap (λ h. after h rest (talk true rest)) (heard_ok guid is)

pub accepted : (guid rest : List ℕ) (pieces : List (List ℕ)) → IsTrue (is_guid guid) → concat pieces ≡ ok_line guid ++ rest
    → in_pieces (talk false []) pieces ≡ record { said = begin_line ∷ []; end = opened guid rest }
accepted guid rest pieces is are = in_pieces-talk false [] pieces ∙ ap (talk false) are ∙ accepted_talk guid rest is
