-- The signals of changes (docs/SERVICE.md, "Signals"): which outputs they are, and what they may depend on.
use Rattle.std.specs.Prelude.{ℕ, Bool, false, true, List, [], map}
use Rattle.std.specs.Option.{option_map}
use Rattle.service_events.specs.collection_store.specs.State.{Held}
use Rattle.service_events.specs.collection_table.specs.Rows.{CollectionRow, Rows}
use Rattle.service_events.specs.secret_calls.specs.declared.out.Out.{Out}
use Rattle.service_events.specs.secret_calls.specs.declared.out.Out.TheVariants as out
use Rattle.service_events.specs.secret_calls.specs.declared.signal.Signal.{Signal}
use Rattle.service_events.specs.secret_calls.specs.declared.signal.Signal.TheVariants as signal
use Rattle.service_events.specs.service_tables.specs.Sent.{Recipient, One, Everyone}
use Rattle.service_events.specs.service_tables.specs.Storing.{Brought}
use Rattle.service_events.specs.service_tables.specs.keyring_seal.specs.Arranged.{Row}

-- ---- to whom they go

-- whether a signal announces a change: Ask and Completed are for one connection alone
abbrev pub is_announcement : Signal → Bool
is_announcement (signal.Ask prompt round kind label wrong) = false
is_announcement (signal.Completed prompt dismissed completion) = false
is_announcement (signal.CollectionCreated collection) = true
is_announcement (signal.CollectionDeleted collection) = true
is_announcement (signal.CollectionChanged collection) = true
is_announcement (signal.ItemCreated collection item) = true
is_announcement (signal.ItemDeleted collection item) = true
is_announcement (signal.ItemChanged collection item) = true
is_announcement (signal.PropertiesChanged object changed invalidated) = true

-- whether an output is such a signal
abbrev pub announces : Out → Bool
announces (out.Return serial body) = false
announces (out.Error serial name) = false
announces (out.Signal signal) = is_announcement signal

-- whether the recipient is every connection
abbrev pub is_everyone : Recipient → Bool
is_everyone (One conn) = false
is_everyone Everyone = true

-- ---- without secrets

-- an item without the value of its secret
abbrev pub hidden_item : Row → Row
hidden_item row = (row.0, record row.1 { value = [] })

-- what an unlocked collection keeps, without the values of its secrets and without its key
abbrev pub hidden_held : Held → Held
hidden_held held = record { key = []; vector = []; rows = map hidden_item held.rows }

-- a collection without them
abbrev pub hidden : CollectionRow → CollectionRow
hidden row = record row { held = option_map hidden_held row.held }

-- all collections without them
abbrev pub all_hidden : Rows → Rows
all_hidden rows = map (λ (row : List ℕ × CollectionRow). (row.0, hidden row.1)) rows

-- what an event brings, without the value of the secret in its call, or the password
abbrev pub valueless : Brought → Brought
valueless brought = record { now = brought.now; value = [] }
