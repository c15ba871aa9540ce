-- Bytes that are answered to their end.
use Rattle.std.specs.Prelude.{◌≡◌, ℕ, ◌<◌, List, [], length}
use Rattle.dbus_auth.specs.Handshake as shaking
use Rattle.dbus_framing.specs.Messages.{Parts}
use Rattle.dbus_framing.specs.Streams.{Stream}
use Rattle.lone_desk.specs.service_tables.specs.Limits.{most_events}
use Rattle.lone_desk.specs.service_tables.specs.Opened.{Contents}
use Rattle.service_hub.specs.connection_worker.specs.Arrivals.{FirstRequests}
use Rattle.service_hub.specs.connection_worker.specs.Handshakes.{most_bytes}
use Rattle.lone_desk.specs.service_events.specs.Single.{TimedRequest, requests_of}
use Rattle.keyring_program.specs.Events.{events_of}
use Rattle.keyring_program.specs.Serves.{handshake_run}

-- The bytes are a handshake that is open, and after it a stream of messages without a rest; no requests of its
-- first messages have more events than can be counted, whatever the service starts with.
pub record IsWholeInput (uid : ℕ) (seed bytes : List ℕ) : Type 0 where
  pub behind : List ℕ
  pub messages : List Parts
  pub opened : (handshake_run uid seed bytes).end ≡ shaking.opened behind
  pub stream : Stream most_bytes behind messages []
  pub few : (contents : Contents) (asked : List TimedRequest) → FirstRequests most_bytes behind (requests_of asked) → length (events_of contents asked) < most_events
