-- What the header of the program stands for.
use Rattle.std.specs.Prelude.{option_map}
use Rattle.dbus_types.specs.SignatureViews.{types_in}
use Rattle.dbus_framing.specs.declared.header.Header.{Header}
use Rattle.dbus_framing.specs.Headers.{Fields}

-- the fields of a header
abbrev pub fields_of : Header → Fields
fields_of header = record {
  path = header.path;
  interface = header.interface;
  member = header.member;
  error_name = header.error_name;
  reply_serial = header.reply_serial;
  destination = header.destination;
  sender = header.sender;
  signature = option_map types_in header.signature;
  unix_fds = header.unix_fds;
}
