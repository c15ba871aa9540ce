-- What events give to the connection is what its takes returned.
use Rattle.std.proofs.Common.{◌≡◌, Bool, true, false, cond, List, [], ◌∷◌, ◌++◌, Option, Some, None, refl, sym, ◌∙◌, ap, append_assoc}
use Rattle.kr_base.specs.declared.ids.ConnId.{ConnId}
use Rattle.service_desk.specs.secret_calls.specs.declared.work.Work.{Work}
use Rattle.service_desk.specs.service_tables.specs.State.{State}
use Rattle.service_desk.specs.service_events.specs.declared.event.Event.{Event}
use Rattle.service_desk.specs.service_events.specs.declared.event.Event.TheVariants as event
use Rattle.service_desk.specs.service_events.specs.Step.{step}
use Rattle.service_desk.specs.service_events.specs.Replay.{replay}
use Rattle.service_desk.specs.service_events.specs.Single.{TimedKey, TimedRequest, arrival, asking, derivation, finishing, is_owed, taking, turn, turns, single, work_for}
use Rattle.service_desk.specs.Records as records
use Rattle.service_desk.proofs.RecordLemmas.{own-append}
use Rattle.connection_worker.specs.Written.{given_by}
use Rattle.connection_worker.proofs.RecordLemmas.{given_by-append}
use Rattle.connection_worker.proofs.ServingLemmas.{same}

pub given-append : (seen more : List records.Seen) → records.given (seen ++ more) ≡ records.given seen ++ records.given more
given-append [] more = refl
given-append (records.Others event ∷ seen) more = given-append seen more
given-append (records.Own event answer ∷ seen) more =
    ap (λ outs. records.outs_in answer ++ outs) (given-append seen more) ∙ sym (append_assoc (records.outs_in answer) (records.given seen) (records.given more))

-- what waits is taken, and nothing is taken if nothing waits
taken-owed : (conn : ConnId) (state : State) → given_by conn state (taking conn state) ≡ records.given (records.of_own state (taking conn state))
taken-owed conn state =
    let pass : (b : Bool) → given_by conn state (cond b (event.Take conn ∷ []) []) ≡ records.given (records.of_own state (cond b (event.Take conn ∷ []) [])) =
    elim [ true ↦ rw (same conn.0) refl | false ↦ refl ] in
    pass (is_owed conn state)

-- events one after the other
taken-behind : (conn : ConnId) (state : State) (events more : List Event) → given_by conn state events ≡ records.given (records.of_own state events)
    → given_by conn (replay state events) more ≡ records.given (records.of_own (replay state events) more)
    → given_by conn state (events ++ more) ≡ records.given (records.of_own state (events ++ more))
taken-behind conn state events more one two =
    given_by-append conn state events more ∙ (λ i. one i ++ two i) ∙ sym (given-append (records.of_own state events) (records.of_own (replay state events) more))
    ∙ ap (λ seen. records.given seen) (sym (own-append state events more))

-- what is given after a key, if it was recorded
taken-finished : (conn : ConnId) (state : State) (work : Option Work) (key : Option TimedKey)
    → given_by conn state (finishing conn state work key) ≡ records.given (records.of_own state (finishing conn state work key))
taken-finished conn state None key = refl
taken-finished conn state (Some work) None = refl
taken-finished conn state (Some work) (Some key) = taken-owed conn (step state (derivation conn work key))

taken-turn : (conn : ConnId) (state : State) (a : TimedRequest) → given_by conn state (turn conn state a) ≡ records.given (records.of_own state (turn conn state a))
taken-turn conn state a =
    let here = replay state (asking conn state a) in
    taken-behind conn state (asking conn state a) (finishing conn here (work_for conn state a) a.key) (taken-owed conn (step state (arrival conn a))) (taken-finished conn here (work_for conn state a) a.key)

taken-turns : (conn : ConnId) (state : State) (asked : List TimedRequest) → given_by conn state (turns conn state asked) ≡ records.given (records.of_own state (turns conn state asked))
taken-turns conn state [] = refl
taken-turns conn state (a ∷ more) =
    let next = replay state (turn conn state a) in
    taken-behind conn state (turn conn state a) (turns conn next more) (taken-turn conn state a) (taken-turns conn next more)

pub taken-single : (conn : ConnId) (state : State) (asked : List TimedRequest) → given_by conn state (single conn state asked) ≡ records.given (records.of_own state (single conn state asked))
taken-single conn state asked = taken-behind conn state (turns conn state asked) (event.Gone conn ∷ []) (taken-turns conn state asked) refl
