-- What the bytes of a link to a message bus begin with (D-Bus Specification, "Message Format"; docs/DBUS.md, "Messages that
-- can't be read on a message bus").
use Rattle.std.specs.Prelude.{ℕ, nat_lt, nat_le, if◌then◌else◌, List, length, take, drop, slice_index, Option, None, Some, Result, Ok, Err}
use Rattle.std.specs.Result.{result_ok}
use Rattle.dbus_types.specs.declared.endian.Endian.{Endian}
use Rattle.dbus_marshal.specs.Unmarshal.{values_at}
use Rattle.dbus_framing.specs.declared.head.Head.{Head}
use Rattle.dbus_framing.specs.declared.violation.Violation.{Violation}
use Rattle.dbus_framing.specs.declared.violation.Violation.TheVariants as violation
use Rattle.dbus_framing.specs.Headers.{Fields, has_needed}
use Rattle.dbus_framing.specs.Messages.{Parts, parts_of, bodied_message, body_start, body_types, fields_at, fields_end, head_of, word_at}
use Rattle.bus_framing.specs.declared.heard.BodyFault.{BodyFault}
use Rattle.bus_framing.specs.declared.heard.BodyFault.TheVariants.{TooLarge, BadBody}
use Rattle.bus_framing.specs.declared.heard.Headed.{Headed}
use Rattle.bus_framing.specs.declared.heard.Heard.{Heard}
use Rattle.bus_framing.specs.declared.heard.Heard.TheVariants as heards
use Rattle.bus_framing.specs.declared.looking.Look.{Look as Found}
use Rattle.bus_framing.specs.declared.looking.Look.TheVariants as found

-- the most bytes of a message at all, and of one that is read with its body
abbrev pub most_bytes : ℕ
most_bytes = 134217728

abbrev pub most_read : ℕ
most_read = 1048576

-- what a message without its body says: its type, its flags and its serial, two of its fields, its number of bytes, and why it has no body
pub record Bare : Type 0 where
  pub kind : ℕ
  pub flags : ℕ
  pub serial : ℕ
  pub reply_serial : Option ℕ
  pub sender : Option (List ℕ)
  pub size : ℕ
  pub fault : BodyFault

-- the same of a value of the program
abbrev pub bare_of : Headed → Bare
bare_of it = record { kind = it.kind; flags = it.flags; serial = it.serial; reply_serial = it.reply_serial; sender = it.sender; size = it.length; fault = it.fault }

-- what is heard: a message, or one without its body
pub data Said : Type 0 where
  whole : Parts → Said
  headed : Bare → Said

-- what a value of the program says
abbrev pub said_of : Heard → Said
said_of (heards.Whole message) = whole (parts_of message)
said_of (heards.Headed it) = headed (bare_of it)

-- what bytes begin with: more are awaited, they break a rule, or there is a message of this many bytes, which is heard or isn't
pub data Look : Type 0 where
  waits : Look
  breaks : Violation → Look
  passes : (size : ℕ) → Look
  hears : (size : ℕ) → Said → Look

-- the same as a value of the program
abbrev pub look_of : Found → Look
look_of found.Waits = waits
look_of (found.Broken cause) = breaks cause
look_of (found.Passes size) = passes size
look_of (found.Hears size heard) = hears size (said_of heard)

-- a message without its body
abbrev pub headed_of : Endian → List ℕ → Fields → (size : ℕ) → BodyFault → Bare
headed_of endian bytes fields size fault = record {
  kind = slice_index bytes 1;
  flags = slice_index bytes 2;
  serial = word_at endian 8 bytes;
  reply_serial = fields.reply_serial;
  sender = fields.sender;
  size = size;
  fault = fault;
}

-- the types 1 to 4 are those of a call, a return, an error and a signal; messages of other types aren't heard
abbrev pub if_kept : (kind size : ℕ) → Said → Look
if_kept kind size said = if nat_le kind 4 then hears size said else passes size

-- a message with these header fields, if they are valid, and if it has those that messages of its type must have
abbrev pub by_fields : List ℕ → (size : ℕ) → (Fields → Said) → Option Fields → Look
by_fields bytes size said None = breaks violation.BadHeader
by_fields bytes size said (Some fields) =
    if has_needed (slice_index bytes 1) fields then if_kept (slice_index bytes 1) size (said fields) else breaks violation.MissingField

-- what a message says whose body was read in this way: without the body if that can't be read
abbrev pub by_body : Endian → List ℕ → Fields → Result Parts Violation → Said
by_body endian bytes fields (Ok parts) = whole parts
by_body endian bytes fields (Err cause) = headed (headed_of endian bytes fields (length bytes) BadBody)

-- the body of a complete message, as it is read
abbrev pub body_read : Endian → List ℕ → Fields → Result Parts Violation
body_read endian bytes fields =
    bodied_message endian bytes fields (result_ok (values_at endian (body_types fields) (record { place = 0; left = drop (body_start endian bytes) bytes })))

-- a complete message
unfoldable pub whole_look : Endian → List ℕ → Look
whole_look endian bytes = by_fields bytes (length bytes) (λ fields. by_body endian bytes fields (body_read endian bytes fields)) (fields_at endian bytes)

-- a header whose body isn't read
unfoldable pub bare_look : Endian → List ℕ → (size : ℕ) → BodyFault → Look
bare_look endian bytes size fault = by_fields bytes size (λ fields. headed (headed_of endian bytes fields size fault)) (fields_at endian bytes)

-- A message that is too long: it isn't heard if its fields are, and otherwise it is heard without its body.
abbrev pub long_look : Head → List ℕ → Look
long_look head bytes =
    if nat_lt most_read (fields_end head.endian bytes) then passes head.size
    else if nat_lt (length bytes) (body_start head.endian bytes) then waits
    else bare_look head.endian (take (body_start head.endian bytes) bytes) head.size TooLarge

-- a message that isn't too long
abbrev pub short_look : Head → List ℕ → Look
short_look head bytes = if nat_lt (length bytes) head.size then waits else whole_look head.endian (take head.size bytes)

-- by the first 16 bytes
abbrev pub look_by : List ℕ → Result Head Violation → Look
look_by bytes (Err cause) = breaks cause
look_by bytes (Ok head) = if nat_lt most_read head.size then long_look head bytes else short_look head bytes

-- what the bytes begin with
abbrev pub look_at : List ℕ → Look
look_at bytes = if nat_lt (length bytes) 16 then waits else look_by bytes (head_of most_bytes bytes)
