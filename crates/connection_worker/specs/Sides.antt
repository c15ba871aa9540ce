-- What the reader and the writer of a connection have in common: each has a desk of its own, and sees the events of others among its own.
use Rattle.std.specs.Prelude.{◌+◌, List, [], ◌∷◌, length}
use Rattle.service_desk.specs.service_events.specs.Replay.{replay}
use Rattle.service_desk.specs.Places.{Told}
use Rattle.service_desk.specs.Records.{Seen, Others, Own, events_of}

-- the desk's own events among those that it has seen, in order, each with its answer
abbrev pub own_in : List Seen → List Seen
own_in [] = []
own_in (Others event ∷ more) = own_in more
own_in (Own event answer ∷ more) = Own event answer ∷ own_in more

-- what is known of the desk when it has seen these events
abbrev pub told_after : Told → List Seen → Told
told_after told seen = record told { state = replay told.state (events_of seen); count = told.count + length seen }
