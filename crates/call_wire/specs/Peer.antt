-- The interface that every path has: D-Bus Specification, "Standard Interfaces", "org.freedesktop.DBus.Peer".
use Rattle.std.specs.Prelude.{ℕ, List, codes}

-- its name
abbrev pub interface : List ℕ
interface = codes "org.freedesktop.DBus.Peer"
