-- Requests that were recorded one after the other.
use Rattle.std.proofs.Common.{◌≡◌, ℕ, Bool, true, false, cond, nat_lt, IsTrue, List, [], ◌∷◌, ◌++◌, length, map, Option, Some, None, refl, sym, ◌∙◌, ap, arith, subst, append_assoc, append-nil}
use Rattle.std.specs.List.{AllByRecursion}
use Rattle.std.specs.Option.{is_some}
use Rattle.std.proofs.lemmas.Grind.{flat_map-append}
use Rattle.std.proofs.lemmas.Bool.{lt-ltb}
use Rattle.std.proofs.lemmas.List.{map-append}
use Rattle.kr_base.specs.declared.ids.ConnId.{ConnId}
use Rattle.kr_outside.specs.Clock.{GivesFirst}
use Rattle.service_desk.specs.secret_calls.specs.declared.out.Out.{Out}
use Rattle.service_desk.specs.secret_calls.specs.declared.work.Work.{Work}
use Rattle.service_desk.specs.service_tables.specs.State.{State}
use Rattle.service_desk.specs.service_events.specs.declared.event.Event.{Event}
use Rattle.service_desk.specs.service_events.specs.declared.event.Event.TheVariants as event
use Rattle.service_desk.specs.service_events.specs.Fates.{IsFaultless}
use Rattle.service_desk.specs.service_tables.specs.Connections.{waiting_for}
use Rattle.service_desk.specs.service_events.specs.Step.{step}
use Rattle.service_desk.specs.service_events.specs.Replay.{replay}
use Rattle.service_desk.specs.service_events.proofs.ReplayLemmas.{replay-append}
use Rattle.service_desk.specs.Places.{Place}
use Rattle.service_desk.specs.Records.{Records, of_own}
use Rattle.service_desk.proofs.RecordLemmas.{own-append, own-state, records-none, records-more}
use Rattle.connection_worker.specs.Salts.{Salting}
use Rattle.service_desk.specs.service_events.specs.Single.{TimedKey, TimedRequest, AllFaultless, AllFinished, AreFinished, IsFinished, IsKeyFaultless, MayBeFinished, arrival, asking, derivation, finishing, is_owed, moments_of, taking, turn, turns, work_for}
use Rattle.connection_worker.specs.Serving.{World, place_of, GivesMoments, GivesSalts, behind_salt, Recorded, HasArrived, HasAsked, HasBrought, HasLost, HasGiven}
use Rattle.connection_worker.specs.Written.{given, given_by}
use Rattle.connection_worker.proofs.ServingLemmas.{same}

pub turns-append : (conn : ConnId) (state : State) (one more : List TimedRequest) → turns conn state (one ++ more) ≡ turns conn state one ++ turns conn (replay state (turns conn state one)) more
turns-append conn state [] more = refl
turns-append conn state (asked ∷ one) more =
    let now = turn conn state asked in
    let next = replay state now in
    ap (λ l. now ++ l) (turns-append conn next one more) ∙ sym (append_assoc now (turns conn next one) (turns conn (replay next (turns conn next one)) more))
    ∙ ap (λ s. (now ++ turns conn next one) ++ turns conn s more) (sym (replay-append state now (turns conn next one)))

pub given_by-append : (conn : ConnId) (state : State) (events more : List Event) → given_by conn state (events ++ more) ≡ given_by conn state events ++ given_by conn (replay state events) more
given_by-append conn state [] more = refl
given_by-append conn state (event ∷ events) more =
    ap (λ l. given conn state event ++ l) (given_by-append conn (step state event) events more)
    ∙ sym (append_assoc (given conn state event) (given_by conn (step state event) events) (given_by conn (replay (step state event) events) more))

pub GivesMoments-append : (a b c : Option (ℕ → ℕ)) (one more : List ℕ) → GivesMoments a one b → GivesMoments b more c → GivesMoments a (one ++ more) c
GivesMoments-append a b c [] more p q = let e : b ≡ a = p in subst (λ m. GivesMoments m more c) e q
GivesMoments-append a b c (moment ∷ one) more p q = (p.0, p.1, GivesMoments-append p.0 b c one more p.2 q)

pub GivesSalts-append : (a b c : Salting) (one more : List (List ℕ)) → GivesSalts a one b → GivesSalts b more c → GivesSalts a (one ++ more) c
GivesSalts-append a b c [] more p q = let e : b ≡ a = p in subst (λ s. GivesSalts s more c) e q
GivesSalts-append a b c (salt ∷ one) more p q = (p.0, GivesSalts-append (behind_salt a) b c one more p.1 q)

pub recorded-none : (w : World) → Recorded w w [] [] []
recorded-none w = record { calls = records-none (place_of w); moments = refl; salts = refl }

-- events of its own after others
pub calls-then : (old mid new : Place) (first more : List Event) → Records old mid (of_own old.told.state first) → Records mid new (of_own mid.told.state more) → Records old new (of_own old.told.state (first ++ more))
calls-then old mid new first more p q =
    let here : mid.told.state ≡ replay old.told.state first = own-state old mid first p in
    let all : of_own old.told.state first ++ of_own mid.told.state more ≡ of_own old.told.state (first ++ more) =
    ap (λ s. of_own old.told.state first ++ of_own s more) here ∙ sym (own-append old.told.state first more) in
    subst (λ seen. Records old new seen) all (records-more old mid new (of_own old.told.state first) (of_own mid.told.state more) p q)

-- the events of more requests are those of the same connection, in the state that the first ones lead to
turns-here : (old mid : World) (asked more : List TimedRequest) → Records (place_of old) (place_of mid) (of_own old.told.state (turns old.told.conn old.told.state asked))
    → turns mid.told.conn mid.told.state more ≡ turns old.told.conn (replay old.told.state (turns old.told.conn old.told.state asked)) more
turns-here old mid asked more so =
    ap (λ c. turns c mid.told.state more) so.same.conn ∙ ap (λ s. turns old.told.conn s more) (own-state (place_of old) (place_of mid) (turns old.told.conn old.told.state asked) so)

-- more requests after others
pub recorded-more : (old mid new : World) (asked more refused : List TimedRequest) (late : List ℕ) → Recorded old mid asked [] [] → Recorded mid new more refused late
    → Recorded old new (asked ++ more) refused late
recorded-more old mid new asked more refused late p q =
    let conn = old.told.conn in
    let first = turns conn old.told.state asked in
    let joined : (asked ++ more) ++ refused ≡ (asked ++ []) ++ (more ++ refused) = append_assoc asked more refused ∙ ap (λ l. l ++ (more ++ refused)) (sym (append-nil asked)) in
    let events : first ++ turns mid.told.conn mid.told.state more ≡ turns conn old.told.state (asked ++ more) =
    ap (λ l. first ++ l) (turns-here old mid asked more p.calls) ∙ sym (turns-append conn old.told.state asked more) in
    record {
      calls =
          subst (λ these. Records (place_of old) (place_of new) (of_own old.told.state these)) events
          (calls-then (place_of old) (place_of mid) (place_of new) first (turns mid.told.conn mid.told.state more) p.calls q.calls);
      moments =
          let e : moments_of ((asked ++ more) ++ refused) ++ late ≡ (moments_of (asked ++ []) ++ []) ++ (moments_of (more ++ refused) ++ late) =
          ap (λ l. moments_of l ++ late) joined ∙ ap (λ l. l ++ late) (flat_map-append _ (asked ++ []) (more ++ refused)) ∙ append_assoc (moments_of (asked ++ [])) (moments_of (more ++ refused)) late
          ∙ ap (λ l. l ++ (moments_of (more ++ refused) ++ late)) (sym (append-nil (moments_of (asked ++ [])))) in
          rw e (GivesMoments-append old.coming mid.coming new.coming (moments_of (asked ++ []) ++ []) (moments_of (more ++ refused) ++ late) p.moments q.moments);
      salts =
          let e : map (λ (a : TimedRequest). a.salt) ((asked ++ more) ++ refused) ≡ map (λ (a : TimedRequest). a.salt) (asked ++ []) ++ map (λ (a : TimedRequest). a.salt) (more ++ refused) =
          ap (map (λ (a : TimedRequest). a.salt)) joined ∙ map-append (λ (a : TimedRequest). a.salt) (asked ++ []) (more ++ refused) in
          rw e (GivesSalts-append old.salting mid.salting new.salting (map (λ (a : TimedRequest). a.salt) (asked ++ [])) (map (λ (a : TimedRequest). a.salt) (more ++ refused)) p.salts q.salts);
    }

-- ---- one request

-- without a key nothing is brought
no-key : (conn : ConnId) (state : State) (work : Option Work) (key : Option TimedKey) → key ≡ None → finishing conn state work key ≡ []
no-key conn state work key is = ap (finishing conn state work) is ∙ pass work
  where
    pass : (work : Option Work) → finishing conn state work None ≡ []
    pass None = refl
    pass (Some work) = refl

pub turn-keyless : (conn : ConnId) (state : State) (a : TimedRequest) → a.key ≡ None → turns conn state (a ∷ []) ≡ asking conn state a
turn-keyless conn state a is =
    append-nil (turn conn state a) ∙ ap (λ l. asking conn state a ++ l) (no-key conn (replay state (asking conn state a)) (work_for conn state a) a.key is) ∙ append-nil (asking conn state a)

-- the same request with its key
abbrev pub keyed : TimedRequest → TimedKey → TimedRequest
keyed a key = record a { key = Some key }

pub turn-keyed : (conn : ConnId) (state : State) (a : TimedRequest) (work : Work) (key : TimedKey) → work_for conn state a ≡ Some work
    → turns conn state (keyed a key ∷ []) ≡ asking conn state a ++ finishing conn (replay state (asking conn state a)) (Some work) (Some key)
turn-keyed conn state a work key gives =
    append-nil (turn conn state (keyed a key)) ∙ ap (λ w. asking conn state a ++ finishing conn (replay state (asking conn state a)) w (Some key)) gives

-- what waits was taken, in the state after these events
taking-then : (old mid new : Place) (first : List Event) → Records old mid (of_own old.told.state first) → HasGiven mid new
    → Records old new (of_own old.told.state (first ++ taking old.told.conn (replay old.told.state first)))
taking-then old mid new first p q =
    let here : taking mid.told.conn mid.told.state ≡ taking old.told.conn (replay old.told.state first) =
    ap (λ c. taking c mid.told.state) p.same.conn ∙ ap (λ s. taking old.told.conn s) (own-state old mid first p) in
    subst (λ these. Records old new (of_own old.told.state (first ++ these))) here (calls-then old mid new first (taking mid.told.conn mid.told.state) p q)

-- the world of a desk that was called, after which the clock and the generator are as before
abbrev pub behind : World → Place → World
behind mid new = record { told = new.told; has_seen = new.has_seen; coming = mid.coming; salting = mid.salting }

-- one request, after which what waited was taken
pub asking-one : (old mid : World) (new : Place) (a : TimedRequest) → HasArrived old mid a → HasGiven (place_of mid) new → Records (place_of old) new (of_own old.told.state (asking old.told.conn old.told.state a))
asking-one old mid new a p q = taking-then (place_of old) (place_of mid) new (arrival old.told.conn a ∷ []) p.calls q

pub recorded-one : (old mid : World) (new : Place) (a : TimedRequest) → a.key ≡ None → HasArrived old mid a → HasGiven (place_of mid) new → Recorded old (behind mid new) (a ∷ []) [] []
recorded-one old mid new a keyless p q = record {
  calls = subst (λ these. Records (place_of old) new (of_own old.told.state these)) (sym (turn-keyless old.told.conn old.told.state a keyless)) (asking-one old mid new a p q);
  moments = rw keyless (mid.coming, p.moment, refl);
  salts = (p.salt, p.salting);
}

-- the key of it wasn't recorded
pub recorded-late : (old mid : World) (asked : List TimedRequest) (new : World) (moment : ℕ) → Recorded old mid asked [] [] → HasLost mid new moment → Recorded old new asked [] (moment ∷ [])
recorded-late old mid asked new moment p q =
    let conn = old.told.conn in
    let first = turns conn old.told.state asked in
    record {
      calls =
          subst (λ these. Records (place_of old) (place_of new) (of_own old.told.state these)) (append-nil first) (calls-then (place_of old) (place_of mid) (place_of new) first [] p.calls q.calls);
      moments =
          let e : moments_of (asked ++ []) ++ moment ∷ [] ≡ (moments_of (asked ++ []) ++ []) ++ moment ∷ [] = ap (λ l. l ++ moment ∷ []) (sym (append-nil (moments_of (asked ++ [])))) in
          rw e (GivesMoments-append old.coming mid.coming new.coming (moments_of (asked ++ []) ++ []) (moment ∷ []) p.moments (new.coming, q.taken, refl));
      salts = subst (λ s. GivesSalts old.salting (map (λ (a : TimedRequest). a.salt) (asked ++ [])) s) (sym q.salting) p.salts;
    }

-- the key of it was recorded, and what waited after it was taken
pub recorded-keyed : (old mid on last : World) (new : Place) (a : TimedRequest) (work : Work) (key : TimedKey) → work_for old.told.conn old.told.state a ≡ Some work → HasArrived old mid a
    → Records (place_of old) (place_of on) (of_own old.told.state (asking old.told.conn old.told.state a)) → on.coming ≡ mid.coming → on.salting ≡ mid.salting
    → HasBrought on last work key → HasGiven (place_of last) new → Recorded old (behind last new) (keyed a key ∷ []) [] []
recorded-keyed old mid on last new a work key gives arrived asks coming salting brings taken =
    let conn = old.told.conn in
    let first = asking conn old.told.state a in
    let here = replay old.told.state first in
    let brought = derivation conn work key in
    let before : Records (place_of on) new (of_own on.told.state (derivation on.told.conn work key ∷ taking on.told.conn (step on.told.state (derivation on.told.conn work key)))) =
    taking-then (place_of on) (place_of last) new (derivation on.told.conn work key ∷ []) brings.calls taken in
    let same : derivation on.told.conn work key ∷ taking on.told.conn (step on.told.state (derivation on.told.conn work key)) ≡ finishing conn here (Some work) (Some key) =
    ap (λ c. derivation c work key ∷ taking c (step on.told.state (derivation c work key))) asks.same.conn
    ∙ ap (λ s. brought ∷ taking conn (step s brought)) (own-state (place_of old) (place_of on) first asks) in
    let all = calls-then (place_of old) (place_of on) new first (finishing conn here (Some work) (Some key)) asks (subst (λ these. Records (place_of on) new (of_own on.told.state these)) same before) in
    record {
      calls = subst (λ these. Records (place_of old) new (of_own old.told.state these)) (sym (turn-keyed conn old.told.state a work key gives)) all;
      moments = (mid.coming, arrived.moment, (last.coming, subst (λ m. GivesFirst m key.now last.coming) coming brings.moment, refl));
      salts = (arrived.salt, brings.salting ∙ salting ∙ arrived.salting);
    }

-- one that was refused
pub recorded-refused : (old new : World) (a : TimedRequest) → a.key ≡ None → HasAsked old new a → Recorded old new [] (a ∷ []) []
recorded-refused old new a keyless p = record { calls = p.calls; moments = rw keyless (new.coming, p.moment, refl); salts = (p.salt, p.salting) }

-- ---- faults

-- taking what waits isn't a call of a device
pub taking-faultless : (conn : ConnId) (state : State) → AllByRecursion IsFaultless (taking conn state)
taking-faultless conn state =
    let pass : (b : Bool) → AllByRecursion IsFaultless (cond b (event.Take conn ∷ []) []) = elim [ true ↦ (tt, tt) | false ↦ tt ] in
    pass (is_owed conn state)

each-behind : (P : Event → Type 0) (events more : List Event) → AllByRecursion P (events ++ more) → AllByRecursion P more
each-behind P [] more all = all
each-behind P (event ∷ events) more all = each-behind P events more all.1

-- ---- which requests have their keys

-- a request that has its key if it gave work has none if it gave none
finished-may : (conn : ConnId) (state : State) (a : TimedRequest) → IsFinished conn state a → MayBeFinished conn state a
finished-may conn state a is key = sym is ∙ key

first-may : (conn : ConnId) (state : State) (a : TimedRequest) (more : List TimedRequest) → AreFinished conn state (a ∷ more) → MayBeFinished conn state a
first-may conn state a [] are = are
first-may conn state a (next ∷ more) are = finished-may conn state a are.0

others-finished : (conn : ConnId) (state : State) (a : TimedRequest) (more : List TimedRequest) → AreFinished conn state (a ∷ more) → AreFinished conn (replay state (turn conn state a)) more
others-finished conn state a [] are = tt
others-finished conn state a (next ∷ more) are = are.1

pub all-finished : (conn : ConnId) (state : State) (asked : List TimedRequest) → AllFinished conn state asked → AreFinished conn state asked
all-finished conn state [] all = tt
all-finished conn state (a ∷ []) all = finished-may conn state a all.0
all-finished conn state (a ∷ next ∷ more) all = (all.0, all-finished conn (replay state (turn conn state a)) (next ∷ more) all.1)

-- the first of them have theirs
pub finished-front : (conn : ConnId) (state : State) (asked more : List TimedRequest) → AreFinished conn state (asked ++ more) → AreFinished conn state asked
finished-front conn state [] more are = tt
finished-front conn state (a ∷ []) more are = first-may conn state a more are
finished-front conn state (a ∷ next ∷ asked) more are = (are.0, finished-front conn (replay state (turn conn state a)) (next ∷ asked) more are.1)

-- requests after others that have theirs
pub finished-all : (conn : ConnId) (state : State) (asked more : List TimedRequest) → AllFinished conn state asked → AllFinished conn (replay state (turns conn state asked)) more → AllFinished conn state (asked ++ more)
finished-all conn state [] more all then = then
finished-all conn state (a ∷ asked) more all then =
    let now = turn conn state a in
    let next = replay state now in
    (all.0, finished-all conn next asked more all.1 (subst (λ s. AllFinished conn s more) (replay-append state now (turns conn next asked)) then))

pub finished-more : (conn : ConnId) (state : State) (asked more : List TimedRequest) → AllFinished conn state asked → AreFinished conn (replay state (turns conn state asked)) more → AreFinished conn state (asked ++ more)
finished-more conn state [] more all then = then
finished-more conn state (a ∷ []) [] all then = finished-may conn state a all.0
finished-more conn state (a ∷ []) (next ∷ more) all then =
    (all.0, subst (λ s. AreFinished conn s (next ∷ more)) (ap (replay state) (append-nil (turn conn state a))) then)
finished-more conn state (a ∷ b ∷ asked) more all then =
    let now = turn conn state a in
    let next = replay state now in
    (all.0, finished-more conn next (b ∷ asked) more all.1 (subst (λ s. AreFinished conn s more) (replay-append state now (turns conn next (b ∷ asked))) then))

-- a key whose events have no fault has none, and what comes after it has none
finishing-faultless : (conn : ConnId) (state : State) (work : Option Work) (key : Option TimedKey) (more : List Event) → (IsTrue (is_some key) → IsTrue (is_some work))
    → AllByRecursion IsFaultless (finishing conn state work key ++ more) → IsKeyFaultless key × AllByRecursion IsFaultless more
finishing-faultless conn state None None more may all = (tt, all)
finishing-faultless conn state None (Some key) more may all = absurd (let no : false ≡ true = may refl in cc)
finishing-faultless conn state (Some work) None more may all = (tt, all)
finishing-faultless conn state (Some work) (Some key) more may all = (all.0, each-behind IsFaultless (taking conn (step state (derivation conn work key))) more all.1)

-- requests whose events have no fault have none
pub turns-faultless : (conn : ConnId) (state : State) (asked : List TimedRequest) → AreFinished conn state asked → AllByRecursion IsFaultless (turns conn state asked) → AllFaultless asked
turns-faultless conn state [] finished all = tt
turns-faultless conn state (a ∷ more) finished all =
    let mid = step state (arrival conn a) in
    let takes = taking conn mid in
    let here = replay mid takes in
    let ends = finishing conn here (work_for conn state a) a.key in
    let next = replay state (turn conn state a) in
    let rest = turns conn next more in
    let behind : AllByRecursion IsFaultless (takes ++ (ends ++ rest)) = subst (AllByRecursion IsFaultless) (append_assoc takes ends rest) all.1 in
    let key = finishing-faultless conn here (work_for conn state a) a.key rest (first-may conn state a more finished) (each-behind IsFaultless takes (ends ++ rest) behind) in
    ((all.0, key.0), turns-faultless conn next more (others-finished conn state a more finished) key.1)

-- ---- what is given

-- what is taken is what waits
pub given-taking : (conn : ConnId) (state : State) → given_by conn state (taking conn state) ≡ waiting_for conn state.connections.rows
given-taking conn state =
    let waiting = waiting_for conn state.connections.rows in
    let pass : (outs : List Out) → waiting ≡ outs → given_by conn state (taking conn state) ≡ waiting = elim [
      | [] ↦ λ is. let none : is_owed conn state ≡ false = ap (λ l. nat_lt 0 (length l)) is in rw none (sym is)
      | out ∷ outs ↦ λ is. let some : is_owed conn state ≡ true = ap (λ l. nat_lt 0 (length l)) is ∙ lt-ltb 0 (length (out ∷ outs)) (omega arith) in rw some (rw (same conn.0) (append-nil waiting))
    ] in
    pass waiting refl

-- what one request gives is what waits after it
pub given-keyless : (conn : ConnId) (state : State) (a : TimedRequest) → a.key ≡ None → given_by conn state (turns conn state (a ∷ [])) ≡ waiting_for conn (step state (arrival conn a)).connections.rows
given-keyless conn state a keyless = ap (given_by conn state) (turn-keyless conn state a keyless) ∙ given-taking conn (step state (arrival conn a))

-- and with its key, what waits after that, too
pub given-keyed : (conn : ConnId) (state : State) (a : TimedRequest) (work : Work) (key : TimedKey) → work_for conn state a ≡ Some work
    → given_by conn state (turns conn state (keyed a key ∷ []))
    ≡ waiting_for conn (step state (arrival conn a)).connections.rows ++ waiting_for conn (step (replay state (asking conn state a)) (derivation conn work key)).connections.rows
given-keyed conn state a work key gives =
    let here = replay state (asking conn state a) in
    let one = given-taking conn (step state (arrival conn a)) in
    let two = given-taking conn (step here (derivation conn work key)) in
    ap (given_by conn state) (turn-keyed conn state a work key gives) ∙ given_by-append conn state (asking conn state a) (finishing conn here (Some work) (Some key)) ∙ (λ i. one i ++ two i)
