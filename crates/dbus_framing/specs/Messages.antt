-- D-Bus Specification, "Message Format": which bytes are a message, and what it says.
use Rattle.std.specs.Prelude.{◌≡◌, ◌≢◌, ℕ, ◌+◌, ◌≤◌, ◌==◌, nat_lt, not, IsTrue, List, ◌++◌, length, take, drop, slice_index, Option, Some, None, Result, Ok, Err, unwrap_or, option_and_then, if◌then◌else◌}
use Rattle.std.specs.Result.{result_ok}
use Rattle.std.specs.Int.{w32}
use Rattle.dbus_types.specs.declared.endian.Endian.{Endian}
use Rattle.dbus_types.specs.declared.endian.Endian.TheVariants.{Little, Big}
use Rattle.dbus_types.specs.declared.complete_type.BasicType.TheVariants as basics
use Rattle.dbus_types.specs.declared.message.Message.{Message}
use Rattle.dbus_types.specs.Types.{Ty, Tys, is_signature}
use Rattle.dbus_types.specs.SignatureViews.{types_in}
use Rattle.dbus_types.specs.Values.{Val, Vals}
use Rattle.dbus_types.specs.ValueViews.{values_of}
use Rattle.dbus_marshal.specs.Wire.{padding, zeros, number_from}
use Rattle.dbus_marshal.specs.Marshals.{AreSpelled}
use Rattle.dbus_marshal.specs.Unmarshal.{are_zero, values_at}
use Rattle.dbus_framing.specs.declared.violation.Violation.{Violation}
use Rattle.dbus_framing.specs.declared.violation.Violation.TheVariants as violation
use Rattle.dbus_framing.specs.declared.head.Head.{Head}
use Rattle.dbus_framing.specs.Headers.{Fields, fields_in, has_needed}

-- What a message says: a field is None if the header has none, and the signature lists the types of the body.
pub record Parts : Type 0 where
  pub kind : ℕ
  pub flags : ℕ
  pub serial : ℕ
  pub path : Option (List ℕ)
  pub interface : Option (List ℕ)
  pub member : Option (List ℕ)
  pub error_name : Option (List ℕ)
  pub reply_serial : Option ℕ
  pub destination : Option (List ℕ)
  pub sender : Option (List ℕ)
  pub signature : Tys
  pub body : Vals
  pub size : ℕ

-- what a message of the program says
abbrev pub parts_of : Message → Parts
parts_of message = record {
  kind = message.kind;
  flags = message.flags;
  serial = message.serial;
  path = message.path;
  interface = message.interface;
  member = message.member;
  error_name = message.error_name;
  reply_serial = message.reply_serial;
  destination = message.destination;
  sender = message.sender;
  signature = types_in message.signature;
  body = values_of message.body.items;
  size = message.length;
}

-- the byte order that the first byte names: `l` or `B`
abbrev pub endian_of : ℕ → Option Endian
endian_of mark = if mark == 108 then Some Little else (if mark == 66 then Some Big else None)

-- the number of 32 bits at a position
unfoldable pub word_at : Endian → ℕ → List ℕ → ℕ
word_at endian place bytes = number_from endian w32 (take 4 (drop place bytes))

-- where the bytes of the header fields end
abbrev pub fields_end : Endian → List ℕ → ℕ
fields_end endian bytes = 16 + word_at endian 12 bytes

-- where the body begins: the next multiple of 8
abbrev pub body_start : Endian → List ℕ → ℕ
body_start endian bytes = fields_end endian bytes + padding 8 (word_at endian 12 bytes)

-- the number of bytes of a message that begins with these bytes
abbrev pub size_at : Endian → List ℕ → ℕ
size_at endian bytes = body_start endian bytes + word_at endian 4 bytes

-- the type of the field array: `a(yv)`
abbrev pub field_types : Tys
field_types = Tys.more (Ty.array (Ty.struct (Tys.more (Ty.basic basics.Byte) (Tys.more Ty.variant Tys.end)))) Tys.end

-- The header fields of a message, as they are read: an array at position 12, and zeros up to the body.
unfoldable pub fields_at : Endian → List ℕ → Option Fields
fields_at endian bytes =
    if are_zero (take (padding 8 (word_at endian 12 bytes)) (drop (fields_end endian bytes) bytes))
    then option_and_then fields_in (result_ok (values_at endian field_types (record { place = 4; left = take (4 + word_at endian 12 bytes) (drop 12 bytes) })))
    else None

-- the types of the body: none if SIGNATURE is missing
abbrev pub body_types : Fields → Tys
body_types fields = unwrap_or fields.signature Tys.end

-- what a message says that begins with these bytes and has these fields and this body
abbrev pub parts_from : Endian → List ℕ → Fields → Vals → Parts
parts_from endian bytes fields body = record {
  kind = slice_index bytes 1;
  flags = slice_index bytes 2;
  serial = word_at endian 8 bytes;
  path = fields.path;
  interface = fields.interface;
  member = fields.member;
  error_name = fields.error_name;
  reply_serial = fields.reply_serial;
  destination = fields.destination;
  sender = fields.sender;
  signature = body_types fields;
  body = body;
  size = length bytes;
}

-- The bytes have these header fields: at position 12 is the spelling of an array of fields, and then come zeros up
-- to the body.
pub record HasFields (endian : Endian) (bytes : List ℕ) (fields : Fields) : Type 0 where
  pub array : Vals
  pub spelled : AreSpelled endian 12 field_types array (take (4 + word_at endian 12 bytes) (drop 12 bytes))
  pub padded : IsTrue (are_zero (take (padding 8 (word_at endian 12 bytes)) (drop (fields_end endian bytes) bytes)))
  pub are : fields_in array ≡ Some fields

-- The whole list of bytes is a message, and says this; a reader accepts messages of at most this many bytes.
pub record IsMessage (most : ℕ) (bytes : List ℕ) (parts : Parts) : Type 0 where
  pub endian : Endian
  pub fields : Fields
  pub body : Vals
  -- 16 bytes come before the fields: byte order, type, flags, version 1, three numbers of 32 bits
  pub begun : 16 ≤ length bytes
  pub marked : endian_of (slice_index bytes 0) ≡ Some endian
  pub typed : slice_index bytes 1 ≢ 0
  pub version : slice_index bytes 3 ≡ 1
  pub numbered : word_at endian 8 bytes ≢ 0
  -- the whole has the length that follows from those given there, of the fields and of the body
  pub whole : length bytes ≡ size_at endian bytes
  pub within : length bytes ≤ most
  pub headed : HasFields endian bytes fields
  pub needed : IsTrue (has_needed (slice_index bytes 1) fields)
  -- the body is the spelling of values of the types that SIGNATURE lists; it begins at a multiple of 8
  pub listed : IsTrue (is_signature (body_types fields))
  pub bodied : AreSpelled endian 0 (body_types fields) body (drop (body_start endian bytes) bytes)
  pub says : parts ≡ parts_from endian bytes fields body

-- ---- the same bytes as a header and a body

-- the types of a header: `yyyyuua(yv)`
abbrev pub header_types : Tys
header_types =
    Tys.more (Ty.basic basics.Byte) (Tys.more (Ty.basic basics.Byte) (Tys.more (Ty.basic basics.Byte) (Tys.more (Ty.basic basics.Byte)
    (Tys.more (Ty.basic basics.Uint32) (Tys.more (Ty.basic basics.Uint32) field_types)))))

-- the values of a header: byte order, type, flags, version 1, the body's length, the serial, the array of fields
abbrev pub header_values : ℕ → ℕ → Parts → Vals → Vals
header_values mark count parts array =
    Vals.more (Val.number basics.Byte mark) (Vals.more (Val.number basics.Byte parts.kind) (Vals.more (Val.number basics.Byte parts.flags) (Vals.more (Val.number basics.Byte 1)
    (Vals.more (Val.number basics.Uint32 count) (Vals.more (Val.number basics.Uint32 parts.serial) array)))))

-- The bytes are the spelling of a header, zeros up to the next multiple of 8, and the spelling of the body.
pub record IsHeaderAndBody (bytes : List ℕ) (parts : Parts) : Type 0 where
  pub endian : Endian
  pub mark : ℕ
  pub array : Vals
  pub fields : Fields
  pub header : List ℕ
  pub body : List ℕ
  pub marked : endian_of mark ≡ Some endian
  pub whole : bytes ≡ header ++ (zeros (padding 8 (length header)) ++ body)
  pub headed : AreSpelled endian 0 header_types (header_values mark (length body) parts array) header
  pub listed : fields_in array ≡ Some fields
  pub bodied : AreSpelled endian 0 (body_types fields) parts.body body

-- ---- the violations, in the order in which they are looked at

-- the rows after the byte order
abbrev pub head_in : ℕ → List ℕ → Endian → Result Head Violation
head_in most bytes endian =
    if slice_index bytes 1 == 0 then Err violation.InvalidType else
    if not (slice_index bytes 3 == 1) then Err violation.Version else
    if word_at endian 8 bytes == 0 then Err violation.ZeroSerial else
    if nat_lt most (size_at endian bytes) then Err violation.TooLarge else Ok (record { endian = endian; size = size_at endian bytes })

-- what the byte order leads to
abbrev pub marked_head : ℕ → List ℕ → Option Endian → Result Head Violation
marked_head most bytes None = Err violation.Endian
marked_head most bytes (Some endian) = head_in most bytes endian

-- what the first 16 bytes say, or the first violation that they show
abbrev pub head_of : ℕ → List ℕ → Result Head Violation
head_of most bytes = marked_head most bytes (endian_of (slice_index bytes 0))

-- a message whose body was read in this way
abbrev pub bodied_message : Endian → List ℕ → Fields → Option Vals → Result Parts Violation
bodied_message endian bytes fields None = Err violation.BadBody
bodied_message endian bytes fields (Some body) = Ok (parts_from endian bytes fields body)

-- a message whose fields were read in this way
abbrev pub fielded_message : Endian → List ℕ → Option Fields → Result Parts Violation
fielded_message endian bytes None = Err violation.BadHeader
fielded_message endian bytes (Some fields) =
    if has_needed (slice_index bytes 1) fields
    then bodied_message endian bytes fields (result_ok (values_at endian (body_types fields) (record { place = 0; left = drop (body_start endian bytes) bytes })))
    else Err violation.MissingField

-- what a complete message says, if its first 16 bytes show no violation; or its first violation
abbrev pub message_at : Endian → List ℕ → Result Parts Violation
message_at endian bytes = fielded_message endian bytes (fields_at endian bytes)
