-- The requests that are the calls of a load.
use Rattle.std.specs.Prelude.{◌≡◌, ℕ, suc, true, List, [], ◌∷◌, Some, Ok}
use Rattle.kr_base.specs.declared.ids.ConnId.{ConnId}
use Rattle.connection_worker.specs.service_events.specs.secret_calls.specs.declared.call.Call.{Call}
use Rattle.connection_worker.specs.service_events.specs.Single.{TimedRequest}
use Rattle.dbus_framing.specs.Messages.{Parts}
use Rattle.client_core.specs.Asked.{said}
use Rattle.load_plan.specs.Answered.{call_with}

-- the connection of a load is the first of its service
abbrev pub the_connection : ConnId
the_connection = record { 0 = 1 }

-- the request is this call, with this serial, and wants a reply
pub record IsAsked (call : Call) (serial : ℕ) (asked : TimedRequest) : Type 0 where
  pub call_is : asked.request.call ≡ Ok call
  pub serial_is : asked.request.serial.number ≡ serial
  pub wants : asked.request.wants_reply ≡ true

-- the requests are these calls, with serials from this one on
abbrev pub AreAsked : ℕ → List Call → List TimedRequest → Type 0
AreAsked serial [] [] = Unit {0}
AreAsked serial (call ∷ calls) (asked ∷ more) = IsAsked call serial asked × AreAsked (suc serial) calls more
AreAsked serial [] (asked ∷ more) = ⊥
AreAsked serial (call ∷ calls) [] = ⊥

-- the requests are the first of these calls, and perhaps all of them
abbrev pub AreFirstAsked : ℕ → List Call → List TimedRequest → Type 0
AreFirstAsked serial calls [] = Unit {0}
AreFirstAsked serial [] (asked ∷ more) = ⊥
AreFirstAsked serial (call ∷ calls) (asked ∷ more) = IsAsked call serial asked × AreFirstAsked (suc serial) calls more

-- the calls with serials from this one on are these
abbrev pub HasFrom : List Call → ℕ → List Call → Type 0
HasFrom all serial [] = Unit {0}
HasFrom all serial (call ∷ calls) = (call_with all serial ≡ Some call) × HasFrom all (suc serial) calls

-- what the messages of these calls say, with serials from this one on
abbrev pub said_from : ℕ → List Call → List Parts
said_from serial [] = []
said_from serial (call ∷ calls) = said call serial ∷ said_from (suc serial) calls
