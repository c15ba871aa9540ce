-- D-Bus Specification, "Message Format" and "Marshaling": a message that is sent, and its bytes, as the spelling of a header
-- of the types `yyyyuua(yv)` and of a body. Everything is little-endian.
use Rattle.std.specs.Prelude.{◌≢◌, ℕ, ◌^◌, ◌<◌, ◌≤◌, IsTrue, List, [], ◌∷◌, ◌++◌, length, Option, Some, None, IfSome}
use Rattle.dbus_types.specs.declared.complete_type.BasicType.TheVariants as basics
use Rattle.dbus_types.specs.declared.endian.Endian.TheVariants.{Little}
use Rattle.dbus_types.specs.Types.{Tys, texts_of, is_signature}
use Rattle.dbus_types.specs.Values.{Val, Vals, tys_of}
use Rattle.dbus_marshal.specs.Limits.{array_limit}
use Rattle.dbus_marshal.specs.Wire.{IsTextOf}
use Rattle.dbus_marshal.specs.Spelling.{all_spelled, are_short}
use Rattle.dbus_marshal.specs.Fitting.{HaveSpelling}
use Rattle.dbus_marshal.specs.Putting.{padded}
use Rattle.dbus_framing.specs.Names.{is_member_name, is_interface_name}
use Rattle.dbus_framing.specs.Headers.{Fields, field_type, has_needed}
use Rattle.dbus_framing.specs.Messages.{Parts}

-- The header of a message that is sent: its type, flags and serial, and its fields, if it has them. The field SIGNATURE
-- follows from the body.
pub record SentHeader : Type 0 where
  pub kind : ℕ
  pub flags : ℕ
  pub serial : ℕ
  pub path : Option (List ℕ)
  pub interface : Option (List ℕ)
  pub member : Option (List ℕ)
  pub error_name : Option (List ℕ)
  pub reply_serial : Option ℕ
  pub destination : Option (List ℕ)
  pub sender : Option (List ℕ)

-- a header without any field
abbrev pub bare_header : ℕ → ℕ → ℕ → SentHeader
bare_header kind flags serial = record {
  kind = kind;
  flags = flags;
  serial = serial;
  path = None;
  interface = None;
  member = None;
  error_name = None;
  reply_serial = None;
  destination = None;
  sender = None;
}

-- a message that is sent: a header, and the values of its body
pub record Sent : Type 0 where
  pub header : SentHeader
  pub body : Vals

-- ---- how it is spelled

-- a header field, `(yv)`: its code, and its value as a variant
abbrev pub field_value : ℕ → Val → Val
field_value code value = Val.struct (Vals.more (Val.number basics.Byte code) (Vals.more (Val.variant value) Vals.end))

-- a field before others, if the header has it
abbrev pub row : {A : Type 0} → ℕ → (A → Val) → Option A → Vals → Vals
row code value None rest = rest
row code value (Some it) rest = Vals.more (field_value code (value it)) rest

-- SIGNATURE: the text that lists the types of the body, or None for a body without values
abbrev pub signature_of : List ℕ → Option (List ℕ)
signature_of [] = None
signature_of (code ∷ codes) = Some (code ∷ codes)

-- the fields, in the order of their codes
abbrev pub rows_of : SentHeader → List ℕ → Vals
rows_of header signature =
    row 1 (Val.text basics.ObjectPath) header.path (row 2 (Val.text basics.String) header.interface (row 3 (Val.text basics.String) header.member
    (row 4 (Val.text basics.String) header.error_name (row 5 (Val.number basics.Uint32) header.reply_serial (row 6 (Val.text basics.String) header.destination
    (row 7 (Val.text basics.String) header.sender (row 8 (Val.text basics.Signature) (signature_of signature) Vals.end)))))))

-- the fields of a message
abbrev pub fields_of : Sent → Vals
fields_of sent = rows_of sent.header (texts_of (tys_of sent.body))

-- The header: the byte order `l`, the type, the flags, major version 1, the body's length, the serial, the array of fields.
abbrev pub header_of : Sent → Vals
header_of sent =
    Vals.more (Val.number basics.Byte 108) (Vals.more (Val.number basics.Byte sent.header.kind) (Vals.more (Val.number basics.Byte sent.header.flags)
    (Vals.more (Val.number basics.Byte 1) (Vals.more (Val.number basics.Uint32 (length (all_spelled Little sent.body 0)))
    (Vals.more (Val.number basics.Uint32 sent.header.serial) (Vals.more (Val.array field_type (fields_of sent)) Vals.end))))))

-- the message: its header, zeros up to a multiple of 8, its body
abbrev pub spelled_message : Sent → List ℕ
spelled_message sent = padded 8 (all_spelled Little (header_of sent) 0) ++ all_spelled Little sent.body 0

-- ---- what it says

-- the types that SIGNATURE lists, if there is one
abbrev pub types_listed : Tys → Option Tys
types_listed Tys.end = None
types_listed (Tys.more t ts) = Some (Tys.more t ts)

-- the fields that are read from it
abbrev pub fields_read : Sent → Fields
fields_read sent = record {
  path = sent.header.path;
  interface = sent.header.interface;
  member = sent.header.member;
  error_name = sent.header.error_name;
  reply_serial = sent.header.reply_serial;
  destination = sent.header.destination;
  sender = sent.header.sender;
  signature = types_listed (tys_of sent.body);
  unix_fds = None;
}

-- what a reader gets
abbrev pub said_by : Sent → Parts
said_by sent = record {
  kind = sent.header.kind;
  flags = sent.header.flags;
  serial = sent.header.serial;
  path = sent.header.path;
  interface = sent.header.interface;
  member = sent.header.member;
  error_name = sent.header.error_name;
  reply_serial = sent.header.reply_serial;
  destination = sent.header.destination;
  sender = sent.header.sender;
  signature = tys_of sent.body;
  body = sent.body;
  size = length (spelled_message sent);
}

-- ---- when it is a message

-- an interface name or an error name
abbrev pub IsName : List ℕ → Type 0
IsName text = IsTextOf basics.String text × IsTrue (is_interface_name text)

-- a member name
abbrev pub IsMember : List ℕ → Type 0
IsMember text = IsTextOf basics.String text × IsTrue (is_member_name text)

-- the serial of a message
abbrev pub IsSerial : ℕ → Type 0
IsSerial serial = (serial ≢ 0) × (serial < 2 ^ 32)

-- Each number and each text is valid for its field.
pub record HasHeader (header : SentHeader) : Type 0 where
  pub typed : header.kind ≢ 0
  pub kind : header.kind < 2 ^ 8
  pub flags : header.flags < 2 ^ 8
  pub serial : IsSerial header.serial
  pub path : IfSome header.path (IsTextOf basics.ObjectPath)
  pub interface : IfSome header.interface IsName
  pub member : IfSome header.member IsMember
  pub error_name : IfSome header.error_name IsName
  pub reply_serial : IfSome header.reply_serial IsSerial
  pub destination : IfSome header.destination (IsTextOf basics.String)
  pub sender : IfSome header.sender (IsTextOf basics.String)

-- The message is valid by the standard: its header is valid and has the fields that its type must have, and the
-- body has a signature and a spelling. No array is too long, neither that of the fields nor one in the body, and
-- the body's length is a number of 32 bits.
pub record CanBeSent (sent : Sent) : Type 0 where
  pub header : HasHeader sent.header
  pub needed : IsTrue (has_needed sent.header.kind (fields_read sent))
  pub listed : IsTrue (is_signature (tys_of sent.body))
  pub spelled : HaveSpelling sent.body
  pub arrays : IsTrue (are_short Little sent.body 0)
  pub fields_short : length (all_spelled Little (fields_of sent) 0) ≤ array_limit
  pub body_short : length (all_spelled Little sent.body 0) < 2 ^ 32
