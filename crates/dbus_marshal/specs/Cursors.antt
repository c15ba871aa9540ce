-- Where a cursor is.
use Rattle.dbus_marshal.specs.Unmarshal.{Spot}
use Rattle.dbus_marshal.specs.declared.cursor.Cursor.{Cursor}

-- the spot of a cursor
abbrev pub spot_of : Cursor → Spot
spot_of cursor = record { place = cursor.place; left = cursor.left.now }
