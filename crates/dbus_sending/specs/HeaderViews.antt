-- What a header of the program stands for.
use Rattle.std.specs.Prelude.{option_map}
use Rattle.dbus_sending.specs.declared.header.Header.{Header}
use Rattle.dbus_sending.specs.Sent.{SentHeader}

-- the header, with its texts as lists
abbrev pub seen : Header → SentHeader
seen header = record {
  kind = header.kind;
  flags = header.flags;
  serial = header.serial;
  path = option_map (λ text. text.now) header.path;
  interface = option_map (λ text. text.now) header.interface;
  member = option_map (λ text. text.now) header.member;
  error_name = option_map (λ text. text.now) header.error_name;
  reply_serial = header.reply_serial;
  destination = option_map (λ text. text.now) header.destination;
  sender = option_map (λ text. text.now) header.sender;
}
