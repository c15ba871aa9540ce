-- What the rows of the table say about the lines and states that lead to them.
use Rattle.std.proofs.Common.{◌≡◌, ◌≢◌, ℕ, ◌⊎◌, inl, inr, List, get_or, refl, ap, arith}
use Rattle.dbus_auth.specs.Answers.{ok_line, error_line}
use Rattle.dbus_auth.specs.Table.{row}
use Rattle.dbus_auth.specs.declared.auth.State.{State}
use Rattle.dbus_auth.specs.declared.auth.State.TheVariants.{WaitingForAuth, WaitingForData, WaitingForBegin}
use Rattle.dbus_auth.specs.declared.auth.AuthFault.{AuthFault}
use Rattle.dbus_auth.specs.declared.auth.AuthFault.TheVariants.{BeginTooSoon}
use Rattle.dbus_auth.specs.declared.auth.Step.{Step}
use Rattle.dbus_auth.specs.declared.auth.Step.TheVariants as step
use Rattle.dbus_auth.specs.declared.command.Command.{Command}
use Rattle.dbus_auth.specs.declared.command.Command.TheVariants.{External, ExternalAccepted, DataAccepted, OtherData, Cancel, Error, Begin}

-- the first byte of the answer; no two of the four answers begin with the same byte
abbrev first_byte : Step → ℕ
first_byte (step.Say answer) = get_or answer 0 0
first_byte step.Begin = 0
first_byte (step.Refused fault) = 0

-- OK is the answer to an accepted argument when one is awaited, and to nothing else
pub row-ok : (guid : List ℕ) (state : State) (command : Command) → (row guid state command).0 ≡ step.Say (ok_line guid)
    → ((state ≡ WaitingForAuth) × (command ≡ ExternalAccepted)) ⊎ ((state ≡ WaitingForData) × (command ≡ DataAccepted))
row-ok guid WaitingForAuth ExternalAccepted h = inl (refl, refl)
row-ok guid WaitingForData DataAccepted h = inr (refl, refl)
row-ok guid WaitingForBegin Begin h = let e = ap first_byte h in absurd (omega arith)
row-ok guid _ _ h = let e = ap first_byte h in absurd (omega arith)

-- after OK the client should begin
pub row-ok_next : (guid : List ℕ) (state : State) (command : Command) → (row guid state command).0 ≡ step.Say (ok_line guid)
    → (row guid state command).1 ≡ WaitingForBegin
row-ok_next guid WaitingForAuth ExternalAccepted h = refl
row-ok_next guid WaitingForData DataAccepted h = refl
row-ok_next guid WaitingForBegin Begin h = let e = ap first_byte h in absurd (omega arith)
row-ok_next guid _ _ h = let e = ap first_byte h in absurd (omega arith)

-- ERROR leaves the state as it is
pub row-error_next : (guid : List ℕ) (state : State) (command : Command) → (row guid state command).0 ≡ step.Say error_line
    → (row guid state command).1 ≡ state
row-error_next guid WaitingForAuth External h = let e = ap first_byte h in absurd (omega arith)
row-error_next guid WaitingForAuth ExternalAccepted h = let e = ap first_byte h in absurd (omega arith)
row-error_next guid WaitingForAuth _ h = refl
row-error_next guid WaitingForData DataAccepted h = let e = ap first_byte h in absurd (omega arith)
row-error_next guid WaitingForData OtherData h = let e = ap first_byte h in absurd (omega arith)
row-error_next guid WaitingForData Cancel h = let e = ap first_byte h in absurd (omega arith)
row-error_next guid WaitingForData Error h = let e = ap first_byte h in absurd (omega arith)
row-error_next guid WaitingForData _ h = refl
row-error_next guid WaitingForBegin Cancel h = let e = ap first_byte h in absurd (omega arith)
row-error_next guid WaitingForBegin Error h = let e = ap first_byte h in absurd (omega arith)
row-error_next guid WaitingForBegin _ h = refl

-- the client should begin only after OK, or if it should begin before and gets ERROR
pub row-to_begin : (guid : List ℕ) (state : State) (command : Command) (answer : List ℕ) → (row guid state command).0 ≡ step.Say answer
    → (row guid state command).1 ≡ WaitingForBegin → (answer ≡ ok_line guid) ⊎ ((state ≡ WaitingForBegin) × (answer ≡ error_line))
row-to_begin guid WaitingForAuth ExternalAccepted answer says to = inl (cc says)
row-to_begin guid WaitingForAuth _ answer says to = cc to
row-to_begin guid WaitingForData DataAccepted answer says to = inl (cc says)
row-to_begin guid WaitingForData _ answer says to = cc to
row-to_begin guid WaitingForBegin Begin answer says to = cc says
row-to_begin guid WaitingForBegin Cancel answer says to = cc to
row-to_begin guid WaitingForBegin Error answer says to = cc to
row-to_begin guid WaitingForBegin _ answer says to = inr (refl, cc says)

-- messages follow only if the client should begin, and does
pub row-begin : (guid : List ℕ) (state : State) (command : Command) → (row guid state command).0 ≡ step.Begin
    → (state ≡ WaitingForBegin) × (command ≡ Begin)
row-begin guid WaitingForBegin Begin h = (refl, refl)
row-begin guid WaitingForBegin _ h = cc h
row-begin guid WaitingForAuth Begin h = cc h
row-begin guid WaitingForAuth _ h = cc h
row-begin guid WaitingForData Begin h = cc h
row-begin guid WaitingForData _ h = cc h

-- the table refuses a client only if it begins too soon
pub row-refused : (guid : List ℕ) (state : State) (command : Command) (fault : AuthFault) → (row guid state command).0 ≡ step.Refused fault
    → (fault ≡ BeginTooSoon) × (command ≡ Begin) × (state ≢ WaitingForBegin)
row-refused guid WaitingForAuth Begin fault h = (cc h, refl, λ e. cc e)
row-refused guid WaitingForAuth _ fault h = cc h
row-refused guid WaitingForData Begin fault h = (cc h, refl, λ e. cc e)
row-refused guid WaitingForData _ fault h = cc h
row-refused guid WaitingForBegin Begin fault h = cc h
row-refused guid WaitingForBegin _ fault h = cc h

-- a client that begins before it should
pub row-too_soon : (guid : List ℕ) (state : State) → state ≢ WaitingForBegin → (row guid state Begin).0 ≡ step.Refused BeginTooSoon
row-too_soon guid WaitingForAuth other = refl
row-too_soon guid WaitingForData other = refl
row-too_soon guid WaitingForBegin other = absurd (other refl)
