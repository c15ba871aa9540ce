-- What the client hears over bytes, line by line, however they are cut.
use Rattle.std.proofs.Common.{◌≡◌, ℕ, ◌+◌, ◌-◌, ◌<◌, ◌≤◌, Bool, true, false, cond, List, [], ◌∷◌, ◌++◌, length, take, drop, zero, suc, get_or, Option, Some, None, inl, inr, refl, sym, ap, ◌∙◌, arith, length-append, append_assoc, append-nil}
use Rattle.std.proofs.lemmas.Bool.{cases_lt, lt-ltb, le-ltb, le-leb, lt-leb}
use Rattle.std.proofs.lemmas.List.{length-take-le}
use Rattle.std.specs.List.{concat}
use Rattle.std.specs.Prelude.{unwrap_or, codes}
use Rattle.std.specs.Str.{bytes_eq}
use Rattle.dbus_auth.specs.Answers.{data_line}
use Rattle.dbus_auth.specs.Lines.{Cut, first_cut, line_limit, EndsAt, word_of, argument_of}
use Rattle.dbus_auth.proofs.CutLemmas.{first_cut-append, first_cut-late, first_cut-at, first_cut-nowhere}
use Rattle.dbus_auth_client.specs.declared.client.ClientFault.TheVariants as fault
use Rattle.dbus_auth_client.specs.declared.hearing.Heard.{Heard}
use Rattle.dbus_auth_client.specs.declared.hearing.Heard.TheVariants as heard
use Rattle.dbus_auth_client.specs.Hearing.{IsLineEnd, guid_of, accepted_with, asked_again, heard_of, End, waiting, refused, opened, Talk, silent, told, after, talk_from_cut, never, last_talk, talk, resumed, continued, in_pieces}

-- what follows DATA
pub last_is : (bytes : List ℕ) → last_talk bytes ≡ talk true bytes
unfolding talk
last_is bytes = refl

-- ---- the first line

-- the first CR LF starts just before this position
pub ends-here : (bytes : List ℕ) (place : ℕ) → 1 ≤ place → place < length bytes → get_or bytes (place - 1) 0 ≡ 13 → get_or bytes place 0 ≡ 10
    → ((k : ℕ) → k + 1 < place → EndsAt bytes k → ⊥) → IsLineEnd bytes (Some (place - 1))
ends-here bytes place some within cr lf first =
    let behind : place - 1 + 1 ≡ place = omega (arith, some) in
    (first_cut-at bytes (place - 1) (cr, ap (λ (n : ℕ). get_or bytes n 0) behind ∙ lf) (λ k below. first k (omega (arith, below))), omega (arith, some, within))

-- a position past the end has no byte
past-end : (bytes : List ℕ) (place : ℕ) → length bytes ≤ place → get_or bytes place 0 ≡ 0
past-end [] place long = refl
past-end (c ∷ bytes) zero long = absurd (omega (arith, long))
past-end (c ∷ bytes) (suc place) long = past-end bytes place (omega (arith, long))

pub ends-nowhere : (bytes : List ℕ) (place : ℕ) → length bytes ≤ place → ((k : ℕ) → k + 1 < place → EndsAt bytes k → ⊥) → first_cut bytes ≡ None
ends-nowhere bytes place long none =
    first_cut-nowhere bytes (λ k at.
    elim (cases_lt (k + 1) place) [
      | inl below ↦ none k below at
      | inr past ↦ let zero_there = past-end bytes (k + 1) (omega (arith, long, past)) in absurd (omega (arith, zero_there, at.1))
    ])

-- what follows the first line
abbrev pub further : Bool → List ℕ → Talk
further true = never
further false = last_talk

-- a talk begins with the first line
pub talk-first : (asked : Bool) (bytes : List ℕ) → talk asked bytes ≡ talk_from_cut (further asked) asked bytes (first_cut bytes)
unfolding talk last_talk
talk-first true bytes = refl
talk-first false bytes = refl

-- no line ends, and one still may
pub unfinished : (asked : Bool) (bytes : List ℕ) → first_cut bytes ≡ None → length bytes < line_limit → talk asked bytes ≡ silent (waiting asked bytes)
unfinished asked bytes none short =
    talk-first asked bytes ∙ ap (talk_from_cut (further asked) asked bytes) none
    ∙ ap (λ b. cond b (silent (waiting asked bytes)) (silent (refused fault.LineTooLong))) (lt-ltb (length bytes) line_limit short)

-- no line ends, and none may
pub endless : (asked : Bool) (bytes : List ℕ) → first_cut bytes ≡ None → line_limit ≤ length bytes → talk asked bytes ≡ silent (refused fault.LineTooLong)
endless asked bytes none long =
    talk-first asked bytes ∙ ap (talk_from_cut (further asked) asked bytes) none
    ∙ ap (λ b. cond b (silent (waiting asked bytes)) (silent (refused fault.LineTooLong))) (le-ltb (length bytes) line_limit long)

-- the first line is too long
pub past-limit : (asked : Bool) (bytes : List ℕ) (cut : Cut) → first_cut bytes ≡ Some cut → line_limit < length cut.line + 2 → talk asked bytes ≡ silent (refused fault.LineTooLong)
past-limit asked bytes cut is long =
    talk-first asked bytes ∙ ap (talk_from_cut (further asked) asked bytes) is
    ∙ ap (λ b. cond b (after (heard_of asked cut.line) cut.rest (further asked cut.rest)) (silent (refused fault.LineTooLong))) (lt-leb (length cut.line + 2) line_limit long)

-- it isn't too long, and says something
pub within-limit : (asked : Bool) (bytes : List ℕ) (cut : Cut) → first_cut bytes ≡ Some cut → length cut.line + 2 ≤ line_limit
    → talk asked bytes ≡ after (heard_of asked cut.line) cut.rest (further asked cut.rest)
within-limit asked bytes cut is fits =
    talk-first asked bytes ∙ ap (talk_from_cut (further asked) asked bytes) is
    ∙ ap (λ b. cond b (after (heard_of asked cut.line) cut.rest (further asked cut.rest)) (silent (refused fault.LineTooLong))) (le-leb (length cut.line + 2) line_limit fits)

-- the same, for a line that ends at this position
pub too_long : (asked : Bool) (bytes : List ℕ) (place : ℕ) → IsLineEnd bytes (Some place) → line_limit < place + 2 → talk asked bytes ≡ silent (refused fault.LineTooLong)
too_long asked bytes place ends long =
    let size : length (take place bytes) ≡ place = length-take-le place bytes (omega (arith, ends.1)) in
    past-limit asked bytes (record { line = take place bytes; rest = drop (place + 2) bytes }) ends.0 (omega (arith, size, long))

pub ended : (asked : Bool) (bytes : List ℕ) (place : ℕ) (said : Heard) → IsLineEnd bytes (Some place) → place + 2 ≤ line_limit → said ≡ heard_of asked (take place bytes)
    → talk asked bytes ≡ after said (drop (place + 2) bytes) (further asked (drop (place + 2) bytes))
ended asked bytes place said ends fits is =
    let size : length (take place bytes) ≡ place = length-take-le place bytes (omega (arith, ends.1)) in
    within-limit asked bytes (record { line = take place bytes; rest = drop (place + 2) bytes }) ends.0 (omega (arith, size, fits))
    ∙ ap (λ h. after h (drop (place + 2) bytes) (further asked (drop (place + 2) bytes))) (sym is)

-- ---- more bytes

told-resumed : (said : List (List ℕ)) (end : End) (more : List ℕ) → told (data_line ∷ []) (resumed said end more) ≡ resumed (data_line ∷ said) end more
told-resumed said (waiting asked bytes) more = refl
told-resumed said (refused fault) more = refl
told-resumed said (opened guid rest) more = refl

-- more bytes after a line are in its rest
after-continued : (said : Heard) (rest more : List ℕ) (next later : Talk) → later ≡ continued next more → after said (rest ++ more) later ≡ continued (after said rest next) more
after-continued heard.Asks rest more next later is = ap (told (data_line ∷ [])) is ∙ told-resumed next.said next.end more
after-continued (heard.Accepts guid) rest more next later is = refl
after-continued (heard.Refuses fault) rest more next later is = refl

-- a talk over more bytes is that over the first of them, continued, if that is so of what follows the first line
continues : (asked : Bool) (bytes more : List ℕ) → ((rest : List ℕ) → further asked (rest ++ more) ≡ continued (further asked rest) more)
    → talk asked (bytes ++ more) ≡ continued (talk asked bytes) more
continues asked bytes more so =
    elim (first_cut bytes) as (λ o. first_cut bytes ≡ o → talk asked (bytes ++ more) ≡ continued (talk asked bytes) more) [
      | None ↦ λ none.
          elim (cases_lt (length bytes) line_limit) [
            | inl short ↦ ap (λ t. continued t more) (sym (unfinished asked bytes none short))
            | inr long ↦
                overflows none long (first_cut (bytes ++ more)) refl ∙ ap (λ t. continued t more) (sym (endless asked bytes none long))
          ]
      | Some cut ↦ λ is.
          let again = first_cut-append bytes more cut is in
          let next : Cut = record { line = cut.line; rest = cut.rest ++ more } in
          elim (cases_lt line_limit (length cut.line + 2)) [
            | inl past ↦ past-limit asked (bytes ++ more) next again past ∙ ap (λ t. continued t more) (sym (past-limit asked bytes cut is past))
            | inr fits ↦
                within-limit asked (bytes ++ more) next again fits
                ∙ after-continued (heard_of asked cut.line) cut.rest more (further asked cut.rest) (further asked (cut.rest ++ more)) (so cut.rest)
                ∙ ap (λ t. continued t more) (sym (within-limit asked bytes cut is fits))
          ]
    ] refl
  where
    overflows : first_cut bytes ≡ None → line_limit ≤ length bytes → (o : Option Cut) → first_cut (bytes ++ more) ≡ o → talk asked (bytes ++ more) ≡ silent (refused fault.LineTooLong)
    overflows none long None is = endless asked (bytes ++ more) is (omega (arith, long, length-append bytes more))
    overflows none long (Some cut) is =
        let late = first_cut-late bytes more cut none is in
        past-limit asked (bytes ++ more) cut is (omega (arith, late, long))

pub talk-append : (asked : Bool) (bytes more : List ℕ) → talk asked (bytes ++ more) ≡ continued (talk asked bytes) more
talk-append true bytes more = continues true bytes more (λ rest. refl)
talk-append false bytes more =
    continues false bytes more (λ rest. last_is (rest ++ more) ∙ continues true rest more (λ rest. refl) ∙ ap (λ t. continued t more) (sym (last_is rest)))

-- pieces that come after bytes
pub in_pieces-talk : (asked : Bool) (bytes : List ℕ) (pieces : List (List ℕ)) → in_pieces (talk asked bytes) pieces ≡ talk asked (bytes ++ concat pieces)
in_pieces-talk asked bytes [] = ap (talk asked) (sym (append-nil bytes))
in_pieces-talk asked bytes (piece ∷ pieces) =
    ap (λ t. in_pieces t pieces) (sym (talk-append asked bytes piece)) ∙ in_pieces-talk asked (bytes ++ piece) pieces
    ∙ ap (talk asked) (append_assoc bytes piece (concat pieces))

-- ---- DATA

-- a client that was asked isn't asked again
asks_once : (a b c : Bool) (guid : Option (List ℕ))
    → heard.Asks ≡ cond a (accepted_with guid) (cond b (asked_again true) (cond c (heard.Refuses fault.Rejected) (heard.Refuses fault.Unexpected))) → ⊥
asks_once true b c None e = cc e
asks_once true b c (Some guid) e = cc e
asks_once false true c guid e = cc e
asks_once false false true guid e = cc e
asks_once false false false guid e = cc e

never_again : (line : List ℕ) → heard.Asks ≡ heard_of true line → ⊥
unfolding heard_of
never_again line e =
    asks_once (bytes_eq (word_of line) (codes "OK")) (bytes_eq (word_of line) (codes "DATA")) (bytes_eq (word_of line) (codes "REJECTED")) (guid_of (unwrap_or (argument_of line) [])) e

-- the answer to DATA, and the rest of the talk
pub asks : (asked : Bool) (bytes : List ℕ) (place : ℕ) → IsLineEnd bytes (Some place) → place + 2 ≤ line_limit → heard.Asks ≡ heard_of asked (take place bytes)
    → talk asked bytes ≡ told (data_line ∷ []) (talk true (drop (place + 2) bytes))
asks true bytes place ends fits is = absurd (never_again (take place bytes) is)
asks false bytes place ends fits is = ended false bytes place heard.Asks ends fits is ∙ ap (told (data_line ∷ [])) (last_is (drop (place + 2) bytes))
