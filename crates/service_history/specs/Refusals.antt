-- Why an event isn't recorded: why a connection doesn't join, or a request isn't taken.
use Rattle.service_machine.specs.secret_calls.specs.declared.taken.Refused.{Refused}
use Rattle.service_machine.specs.secret_calls.specs.declared.taken.Refused.TheVariants as request
use Rattle.service_machine.specs.service_events.specs.declared.event.JoinRefused.{JoinRefused}
use Rattle.service_machine.specs.service_events.specs.declared.event.JoinRefused.TheVariants as join
use Rattle.service_history.specs.declared.refused.EventRefused.{EventRefused}
use Rattle.service_history.specs.declared.refused.EventRefused.TheVariants as event

-- a connection didn't join
abbrev pub not_joined : JoinRefused → EventRefused
not_joined join.EventsSpent = event.EventsSpent
not_joined join.TooManyConnections = event.TooManyConnections
not_joined join.OutOfMemory = event.OutOfMemory

-- a request wasn't taken
abbrev pub not_taken : Refused → EventRefused
not_taken request.EventsSpent = event.EventsSpent
not_taken request.Gone = event.NoConnection
not_taken request.OutOfMemory = event.OutOfMemory
