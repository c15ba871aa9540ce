-- The requests in the bytes of a connection.
use Rattle.std.specs.Prelude.{ℕ, ◌==◌, List, [], ◌∷◌, ◌++◌, filter}
use Rattle.service_desk.specs.secret_calls.specs.declared.call.Request.{Request}
use Rattle.call_wire.specs.CallOf.{CallOf}
use Rattle.dbus_framing.specs.Messages.{Parts}
use Rattle.dbus_framing.specs.Streams.{Cut, Stream}

-- the messages that are method calls
abbrev pub calls_in : List Parts → List Parts
calls_in messages = filter (λ parts. parts.kind == 1) messages

-- each request is that of the call with the same index
abbrev pub AreRequests : List Parts → List Request → Type 0
AreRequests [] [] = Unit {0}
AreRequests (parts ∷ calls) (request ∷ requests) = CallOf parts request × AreRequests calls requests
AreRequests [] (request ∷ requests) = ⊥
AreRequests (parts ∷ calls) [] = ⊥

-- the requests of all complete messages in the bytes, and the rest after these
pub record AllRequests (most : ℕ) (bytes : List ℕ) (requests : List Request) (rest : List ℕ) : Type 0 where
  pub messages : List Parts
  pub stream : Stream most bytes messages rest
  pub are : AreRequests (calls_in messages) requests

-- the requests of the first messages of the bytes, and perhaps more of them
pub record FirstRequests (most : ℕ) (bytes : List ℕ) (requests : List Request) : Type 0 where
  pub messages : List Parts
  pub rest : List ℕ
  pub cut : Cut most bytes messages rest
  pub more : List Request
  pub are : AreRequests (calls_in messages) (requests ++ more)
