-- D-Bus Specification, "Authentication Protocol", "Client states": what the client hears, and what it answers.
use Rattle.std.specs.Prelude.{◌≡◌, ℕ, ◌+◌, ◌==◌, ◌≤◌, nat_lt, nat_le, ◌&&◌, Bool, true, false, if◌then◌else◌, List, [], ◌∷◌, ◌++◌, length, take, drop, Option, None, Some, unwrap_or, codes}
use Rattle.std.specs.Char.{is_ascii_hexdigit}
use Rattle.std.specs.List.{list_all}
use Rattle.std.specs.Str.{bytes_eq}
use Rattle.dbus_auth.specs.Answers.{data_line}
use Rattle.dbus_auth.specs.Lines.{Cut, first_cut, line_limit, word_of, argument_of}
use Rattle.dbus_auth_client.specs.Openings.{begin_line}
use Rattle.dbus_auth_client.specs.declared.client.ClientFault.{ClientFault}
use Rattle.dbus_auth_client.specs.declared.client.ClientFault.TheVariants as fault
use Rattle.dbus_auth_client.specs.declared.client.Turn.{Turn}
use Rattle.dbus_auth_client.specs.declared.client.Turn.TheVariants as turn
use Rattle.dbus_auth_client.specs.declared.hearing.Heard.{Heard}
use Rattle.dbus_auth_client.specs.declared.hearing.Heard.TheVariants as heard

-- ---- one line

-- the server's GUID is 32 hex digits
abbrev pub is_guid : List ℕ → Bool
is_guid text = length text == 32 && list_all is_ascii_hexdigit text

-- the text, if it is a GUID
abbrev pub guid_of : List ℕ → Option (List ℕ)
guid_of text = if is_guid text then Some text else None

-- what OK says with this GUID
abbrev pub accepted_with : Option (List ℕ) → Heard
accepted_with None = heard.Refuses fault.BadGuid
accepted_with (Some guid) = heard.Accepts guid

-- what DATA says: it may come once
abbrev pub asked_again : Bool → Heard
asked_again true = heard.Refuses fault.AskedTwice
asked_again false = heard.Asks

-- what a line says to a client that awaits OK, and that was asked for its argument before, or wasn't
unfoldable pub heard_of : Bool → List ℕ → Heard
heard_of asked line =
    if bytes_eq (word_of line) (codes "OK") then accepted_with (guid_of (unwrap_or (argument_of line) []))
    else if bytes_eq (word_of line) (codes "DATA") then asked_again asked
    else if bytes_eq (word_of line) (codes "REJECTED") then heard.Refuses fault.Rejected
    else heard.Refuses fault.Unexpected

-- ---- a stream of bytes

-- how far a client has come at the end of the bytes
pub data End : Type 0 where
  -- more bytes are awaited: whether it was asked for its argument, and the bytes of a line that hasn't ended
  waiting : (asked : Bool) → (unfinished : List ℕ) → End
  -- the handshake has failed, whatever may follow
  refused : (fault : ClientFault) → End
  -- the server with this GUID accepts the client; messages are in the rest after its line
  opened : (guid : List ℕ) → (rest : List ℕ) → End

-- the lines that the client said, in order and each with its ending, and how far it has come
pub record Talk : Type 0 where
  pub said : List (List ℕ)
  pub end : End

-- a talk in which nothing is said
abbrev pub silent : End → Talk
silent end = record { said = []; end = end }

-- lines that were said before a talk
abbrev pub told : List (List ℕ) → Talk → Talk
told said further = record { said = said ++ further.said; end = further.end }

-- after a line that says this: the answer and then the rest of the talk, or the end, with the rest of the bytes
abbrev pub after : Heard → List ℕ → Talk → Talk
after heard.Asks rest further = told (data_line ∷ []) further
after (heard.Accepts guid) rest further = record { said = begin_line ∷ []; end = opened guid rest }
after (heard.Refuses fault) rest further = silent (refused fault)

-- over the first cut of the bytes. The limit counts a line with its CR LF: it is exceeded if there are as many bytes of
-- a line and it hasn't ended within them
abbrev pub talk_from_cut : (List ℕ → Talk) → Bool → List ℕ → Option Cut → Talk
talk_from_cut further asked bytes None =
    if nat_lt (length bytes) line_limit then silent (waiting asked bytes) else silent (refused fault.LineTooLong)
talk_from_cut further asked bytes (Some cut) =
    if nat_le (length cut.line + 2) line_limit then after (heard_of asked cut.line) cut.rest (further cut.rest) else silent (refused fault.LineTooLong)

-- after a second DATA nothing is heard
abbrev pub never : List ℕ → Talk
never rest = silent (refused fault.AskedTwice)

-- the talk of a client that was asked for its argument, over the line that decides
unfoldable pub last_talk : List ℕ → Talk
last_talk bytes = talk_from_cut never true bytes (first_cut bytes)

-- the talk of a client over all lines of the bytes. It hears two lines at most: DATA, and one that decides
unfoldable pub talk : Bool → List ℕ → Talk
talk true bytes = last_talk bytes
talk false bytes = talk_from_cut last_talk false bytes (first_cut bytes)

-- a talk that has come so far, when more bytes arrive
abbrev pub resumed : List (List ℕ) → End → List ℕ → Talk
resumed said (waiting asked unfinished) more = told said (talk asked (unfinished ++ more))
resumed said (refused fault) more = record { said = said; end = refused fault }
resumed said (opened guid rest) more = record { said = said; end = opened guid (rest ++ more) }

-- a talk, when more bytes arrive
abbrev pub continued : Talk → List ℕ → Talk
continued before more = resumed before.said before.end more

-- a talk, when bytes arrive piece after piece
abbrev pub in_pieces : Talk → List (List ℕ) → Talk
in_pieces before [] = before
in_pieces before (piece ∷ pieces) = in_pieces (continued before piece) pieces

-- ---- the first line, as a call finds it

-- the position of the first line's end, or that there is none
abbrev pub IsLineEnd : List ℕ → Option ℕ → Type 0
IsLineEnd bytes None = first_cut bytes ≡ None
IsLineEnd bytes (Some place) = (first_cut bytes ≡ Some (record { line = take place bytes; rest = drop (place + 2) bytes })) × (place + 2 ≤ length bytes)

-- what the first line leads to, and whether the client was asked for its argument by then
abbrev pub TurnOf : Bool → List ℕ → Turn → Bool → Type 0
TurnOf asked bytes turn.Waits new = (new ≡ asked) × (talk asked bytes ≡ silent (waiting asked bytes))
TurnOf asked bytes (turn.SaysData size) new = (size ≤ length bytes) × (talk asked bytes ≡ told (data_line ∷ []) (talk new (drop size bytes)))
TurnOf asked bytes (turn.Begins guid size) new =
    (size ≤ length bytes) × (talk asked bytes ≡ record { said = begin_line ∷ []; end = opened guid (drop size bytes) })
TurnOf asked bytes (turn.Refused fault) new = talk asked bytes ≡ silent (refused fault)
