-- Lists of events, one after the other.
use Rattle.std.proofs.Common.{◌≡◌, List, [], ◌∷◌, ◌++◌, refl, ap}
use Rattle.service_prompts.specs.service_tables.specs.State.{State}
use Rattle.service_events.specs.declared.event.Event.{Event}
use Rattle.service_events.specs.Step.{step, output_of}
use Rattle.service_events.specs.Replay.{replay, Legal, outputs}

pub replay-append : (state : State) (events more : List Event) → replay state (events ++ more) ≡ replay (replay state events) more
replay-append state [] more = refl
replay-append state (event ∷ events) more = replay-append (step state event) events more

pub Legal-append : (state : State) (events more : List Event) → Legal state events → Legal (replay state events) more → Legal state (events ++ more)
Legal-append state [] more legal then = then
Legal-append state (event ∷ events) more legal then = (legal.0, Legal-append (step state event) events more legal.1 then)

pub outputs-append : (state : State) (events more : List Event) → outputs state (events ++ more) ≡ outputs state events ++ outputs (replay state events) more
outputs-append state [] more = refl
outputs-append state (event ∷ events) more = ap (λ t. output_of state event ∷ t) (outputs-append (step state event) events more)
