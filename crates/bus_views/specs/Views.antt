-- What a link to a message bus looks at in a message (D-Bus Specification, "Message Bus Messages", NameOwnerChanged, NameLost and
-- GetConnectionUnixUser; docs/DBUS.md, "Messages that can't be read on a message bus").
use Rattle.std.specs.Prelude.{◌≡◌, ◌≢◌, ℕ, ◌&&◌, nat_eq, Bool, true, false, if◌then◌else◌, List, length, Option, None, Some, Err, codes, option_and_then}
use Rattle.std.specs.Str.{bytes_eq}
use Rattle.dbus_types.specs.Values.{Val, Vals}
use Rattle.dbus_framing.specs.Headers.{one_of, string_in, where_is}
use Rattle.dbus_framing.specs.Messages.{Parts}
use Rattle.bus_framing.specs.declared.heard.BodyFault.{BodyFault}
use Rattle.bus_framing.specs.declared.heard.BodyFault.TheVariants.{TooLarge, BadBody}
use Rattle.bus_framing.specs.Looks.{Bare, Said, whole, headed}
use Rattle.bus_start.specs.declared.answer.Answer.{Answer}
use Rattle.secret_calls.specs.declared.call.CallFault.TheVariants as fault
use Rattle.secret_calls.specs.declared.call.Request.{Request}
use Rattle.call_arguments.specs.Arguments.{three_of, word_in}
use Rattle.call_wire.specs.CallOf.{CallOf, wants_reply}
use Rattle.sender_board.specs.Hear.{bus}
use Rattle.sender_board.specs.declared.message.Call.{Call}
use Rattle.sender_board.specs.declared.message.Kind.{Kind}
use Rattle.sender_board.specs.declared.message.Kind.TheVariants as kinds
use Rattle.bus_views.specs.declared.view.Asked.{Asked}
use Rattle.bus_views.specs.declared.view.Asked.TheVariants as asks
use Rattle.bus_views.specs.declared.view.View.{View}

-- the object of the bus, and two of its signals
unfoldable pub bus_path : List ℕ
bus_path = codes "/org/freedesktop/DBus"

unfoldable pub owner_changed : List ℕ
owner_changed = codes "NameOwnerChanged"

unfoldable pub lost : List ℕ
lost = codes "NameLost"

-- whether a header field is there and has this text
abbrev pub is_text : Option (List ℕ) → List ℕ → Bool
is_text None text = false
is_text (Some it) text = bytes_eq it text

-- ---- signals

-- whether a message has the path and the interface of the bus
abbrev pub is_from_bus : Parts → Bool
is_from_bus parts = is_text parts.path bus_path && is_text parts.interface bus

-- the name, if it has no new owner; NameOwnerChanged lists it, its old owner and its new owner, which is empty if there is none
abbrev pub unowned : Val × Val × Val → Option (List ℕ)
unowned three = option_and_then (λ name. option_and_then (λ old. option_and_then (λ new. where_is (nat_eq (length new) 0) name) (string_in three.2)) (string_in three.1)) (string_in three.0)

-- the same in the body of the signal
abbrev pub unowned_in : Vals → Option (List ℕ)
unowned_in body = option_and_then unowned (three_of body)

-- the name that the link has lost
abbrev pub lost_name : Vals → Option (List ℕ)
lost_name body = option_and_then string_in (one_of body)

-- what NameOwnerChanged says, if the name has no new owner
abbrev pub owner_kind : Option (List ℕ) → Kind Asked
owner_kind None = kinds.Other
owner_kind (Some name) = kinds.OwnerLost name

-- what NameLost says
abbrev pub lost_kind : Option (List ℕ) → Kind Asked
lost_kind None = kinds.Other
lost_kind (Some name) = kinds.NameLost name

-- what a signal says
abbrev pub signal_kind : Parts → Kind Asked
signal_kind parts =
    if is_from_bus parts then
    (if is_text parts.member owner_changed then owner_kind (unowned_in parts.body)
    else (if is_text parts.member lost then lost_kind (lost_name parts.body) else kinds.Other))
    else kinds.Other

-- ---- answers

-- the number in a body of one number of type `u`
abbrev pub number_in : Vals → Option ℕ
number_in body = option_and_then word_in (one_of body)

-- the answer to the call with this serial, of a message of this type: a return is 2, and an error 3
abbrev pub answer_to : (kind to : ℕ) → Option ℕ → Option Answer
answer_to kind to number =
    if nat_eq kind 2 then Some (record { to = to; is_error = false; number = number })
    else (if nat_eq kind 3 then Some (record { to = to; is_error = true; number = None }) else None)

-- the same of a message that may lack REPLY_SERIAL
abbrev pub answer_by : (kind : ℕ) → Option ℕ → Option ℕ → Option Answer
answer_by kind None number = None
answer_by kind (Some to) number = answer_to kind to number

-- what the board looks at in an answer
abbrev pub answer_kind : Option Answer → Kind Asked
answer_kind None = kinds.Other
answer_kind (Some answer) = kinds.Answer answer.to answer.number

-- the answer, if the sender is the bus
abbrev pub from_bus : Option (List ℕ) → Option Answer → Option Answer
from_bus sender answer = if is_text sender bus then answer else None

-- ---- calls

-- a call, with the request that its message is
pub record IsCall (parts : Parts) (kind : Kind Asked) : Type 0 where
  pub request : Request
  pub read : CallOf parts request
  pub is : kind ≡ kinds.Call (record { serial = parts.serial; wants_reply = wants_reply parts.flags; size = parts.size; request = asks.Request request })

-- ---- messages

-- the answer that a message is
abbrev pub answer_in : Parts → Option Answer
answer_in parts = answer_by parts.kind parts.reply_serial (number_in parts.body)

-- what the board looks at in a message that isn't a call, whose type is 1; that of a signal is 4
abbrev pub other_kind : Parts → Kind Asked
other_kind parts = if nat_eq parts.kind 4 then signal_kind parts else answer_kind (answer_in parts)

-- what the board looks at in a message
pub record KindOf (parts : Parts) (kind : Kind Asked) : Type 0 where
  pub call : parts.kind ≡ 1 → IsCall parts kind
  pub other : parts.kind ≢ 1 → kind ≡ other_kind parts

-- the request of a call whose body can't be read
pub record IsFaulty (it : Bare) (request : Request) : Type 0 where
  pub serial : request.serial.number ≡ it.serial
  pub wants_reply : request.wants_reply ≡ wants_reply it.flags
  pub length : request.length ≡ it.size
  pub call : request.call ≡ Err fault.InvalidArgs

-- what a call without its body asks for, by why it has none
abbrev pub AsksFor : BodyFault → Bare → Asked → Type 0
AsksFor TooLarge it asks.TooLarge = Unit {0}
AsksFor TooLarge it (asks.Request request) = ⊥
AsksFor BadBody it (asks.Request request) = IsFaulty it request
AsksFor BadBody it asks.TooLarge = ⊥

-- a call without its body
pub record IsBareCall (it : Bare) (kind : Kind Asked) : Type 0 where
  pub asked : Asked
  pub asks_for : AsksFor it.fault it asked
  pub is : kind ≡ kinds.Call (record { serial = it.serial; wants_reply = wants_reply it.flags; size = it.size; request = asked })

-- what the board looks at in a message without its body
pub record BareKindOf (it : Bare) (kind : Kind Asked) : Type 0 where
  pub call : it.kind ≡ 1 → IsBareCall it kind
  pub other : it.kind ≢ 1 → kind ≡ answer_kind (answer_by it.kind it.reply_serial None)

-- what is looked at in a message without its body
pub record BareView (it : Bare) (view : View) : Type 0 where
  pub size : view.size ≡ it.size
  pub answer : view.answer ≡ from_bus it.sender (answer_by it.kind it.reply_serial None)
  pub sender : view.message.sender ≡ it.sender
  pub kind : BareKindOf it view.message.kind

-- what is looked at in a message with its body
pub record WholeView (parts : Parts) (view : View) : Type 0 where
  pub size : view.size ≡ parts.size
  pub answer : view.answer ≡ from_bus parts.sender (answer_in parts)
  pub sender : view.message.sender ≡ parts.sender
  pub kind : KindOf parts view.message.kind

-- what is looked at in a message
abbrev pub IsView : Said → View → Type 0
IsView (whole parts) view = WholeView parts view
IsView (headed it) view = BareView it view
