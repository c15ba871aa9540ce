-- The limits of the service (docs/SERVICE.md, "Limits"). Each number is written here alone; those of sessions and of what waits
-- are in the definitions of their tables.
use Rattle.std.specs.Prelude.{ℕ, ◌≤◌}

-- how many connections may be there at once
abbrev pub most_connections : ℕ
most_connections = 256

-- no connection gets this number or a greater one
abbrev pub last_connection : ℕ
last_connection = 18446744073709551615

-- the most bytes that the body of a return may have on a call that changes nothing
abbrev pub most_body : ℕ
most_body = 8388608

-- the most that the targets of a prompt may weigh, so that the signal Completed isn't too long
abbrev pub most_weight : ℕ
most_weight = 8388608

-- once so many events of a run are recorded, no connection joins or asks any more
abbrev pub most_events : ℕ
most_events = 18446744073709000000

-- so many events of a run are recorded that no connection joins or asks any more
abbrev pub IsSpent : ℕ → Type 0
IsSpent count = most_events ≤ count

-- the most bytes that the content type of a secret may have
abbrev pub most_content : ℕ
most_content = 1024
