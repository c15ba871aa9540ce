-- What the calls of a desk that is alone change.
use Rattle.std.proofs.Common.{◌≡◌, ℕ, ◌≤◌, IsTrue, Bool, true, false, List, length, Option, Some, refl, ap, ◌∙◌, subst, arith, rules, nat_lt, ◌==◌}
use Rattle.kr_outside.specs.Clock.{GivesFirst}
use Rattle.service_desk.specs.secret_calls.specs.declared.out.Out.{Out}
use Rattle.service_desk.specs.secret_calls.specs.declared.work.Work.{Work}
use Rattle.service_desk.specs.secret_calls.specs.Works.{finished}
use Rattle.service_desk.specs.service_events.specs.declared.event.Derivation.{Derivation}
use Rattle.service_desk.specs.service_events.specs.declared.event.Event.TheVariants as event
use Rattle.service_desk.specs.service_events.specs.declared.event.Output.TheVariants as output
use Rattle.service_desk.specs.service_events.specs.Incoming.{IsBroughtBy}
use Rattle.service_desk.specs.service_events.specs.Replay.{replay}
use Rattle.service_desk.specs.service_events.specs.Step.{output_of}
use Rattle.service_desk.specs.service_tables.specs.Connections.{has, desk_of}
use Rattle.service_desk.specs.service_tables.specs.Limits.{most_events}
use Rattle.service_desk.specs.Places.{Told, Place, Looks, Extends}
use Rattle.service_desk.specs.Calls.{Finishes}
use Rattle.service_desk.proofs.RecordLemmas.{alone-looks, alone-extends}
use Rattle.connection_worker.specs.Salts.{Salting, words_at}
use Rattle.service_desk.specs.service_events.specs.Single.{TimedKey, TimedRequest, arrival, derivation, work_for, work_in}
use Rattle.connection_worker.specs.Serving.{IsDue, behind_salt, HasArrived, HasAsked, HasBrought, HasLost}

-- a number is itself
pub same : (n : ℕ) → (n == n) ≡ true
same n = search rules

-- the row of the only connection
pub only-desk : (told : Told) (outs : List Out) (lost : Bool) → IsDue told outs lost
    → desk_of told.conn told.state.connections.rows ≡ Some (record { waits = nat_lt 0 (length outs); overrun = lost; leaving = false })
only-desk told outs lost is = rw is.only (rw (same told.conn.0) refl)

pub only-there : (told : Told) (outs : List Out) (lost : Bool) → IsDue told outs lost → has told.conn told.state.connections.rows ≡ true
only-there told outs lost is = rw is.only (rw (same told.conn.0) refl)

-- ---- a request

pub has-arrived : (old new : Place) (coming behind : Option (ℕ → ℕ)) (salting next : Salting) (asked : TimedRequest) (work : Option Work) → IsTrue old.told.is_alone
    → Extends old new (arrival old.told.conn asked) (output.Arrived (record { work = work }))
    → GivesFirst coming asked.now behind → asked.salt ≡ words_at salting.key salting.stream salting.place → next ≡ behind_salt salting
    → HasArrived (record { told = old.told; has_seen = old.has_seen; coming = coming; salting = salting })
    (record { told = new.told; has_seen = new.has_seen; coming = behind; salting = next }) asked
has-arrived old new coming behind salting next asked work alone so moment salt salted =
    record { calls = alone-extends old new (arrival old.told.conn asked) (output.Arrived (record { work = work })) alone so; moment = moment; salt = salt; salting = salted }

-- the work that is returned is what the request gives
pub has-work : (old new : Place) (asked : TimedRequest) (work : Option Work) → IsTrue old.told.is_alone → Extends old new (arrival old.told.conn asked) (output.Arrived (record { work = work }))
    → work ≡ work_for old.told.conn old.told.state asked
has-work old new asked work alone so =
    ap work_in (so.answers ∙ ap (λ s. output_of s (arrival old.told.conn asked)) (so.reached ∙ ap (replay old.told.state) (so.alone alone)))

pub has-asked : (old new : Place) (coming behind : Option (ℕ → ℕ)) (salting next : Salting) (asked : TimedRequest) → IsTrue old.told.is_alone → Looks old new
    → GivesFirst coming asked.now behind → asked.salt ≡ words_at salting.key salting.stream salting.place → next ≡ behind_salt salting
    → HasAsked (record { told = old.told; has_seen = old.has_seen; coming = coming; salting = salting })
    (record { told = new.told; has_seen = new.has_seen; coming = behind; salting = next }) asked
has-asked old new coming behind salting next asked alone so moment salt salted =
    record { calls = alone-looks old new alone so; moment = moment; salt = salt; salting = salted }

-- ---- a key

-- what is recorded of a key
abbrev pub key_in : Derivation → TimedKey
key_in came = record { now = came.now; fates = came.fates }

-- the event of the key that was derived for work
pub is-derivation : (told : Told) (work : Work) (now : ℕ) (came : Derivation) → IsBroughtBy (record { conn = told.conn; done = finished work; now = now }) came
    → event.Derived came ≡ derivation told.conn work (key_in came)
is-derivation told work now came is = λ i. event.Derived (record {
  conn = is.conn i;
  prompt = is.prompt i;
  round = is.round i;
  password = is.password i;
  salt = is.salt i;
  iterations = is.iterations i;
  now = came.now;
  fates = came.fates;
})

pub has-brought : (old new : Place) (coming behind : Option (ℕ → ℕ)) (salting : Salting) (work : Work) (now : ℕ) → IsTrue old.told.is_alone
    → (so : Finishes old new (record { conn = old.told.conn; done = finished work; now = now })) → GivesFirst coming now behind
    → HasBrought (record { told = old.told; has_seen = old.has_seen; coming = coming; salting = salting })
    (record { told = new.told; has_seen = new.has_seen; coming = behind; salting = salting }) work (key_in so.came)
has-brought old new coming behind salting work now alone so moment = record {
  calls =
      alone-extends old new (derivation old.told.conn work (key_in so.came)) output.Derived alone
      (subst (λ e. Extends old new e output.Derived) (is-derivation old.told work now so.came so.is) so.recorded);
  moment = rw so.is.now moment;
  salting = refl;
}

pub has-lost : (old new : Place) (coming behind : Option (ℕ → ℕ)) (salting : Salting) (now : ℕ) → IsTrue old.told.is_alone → Looks old new → GivesFirst coming now behind
    → HasLost (record { told = old.told; has_seen = old.has_seen; coming = coming; salting = salting })
    (record { told = new.told; has_seen = new.has_seen; coming = behind; salting = salting }) now
has-lost old new coming behind salting now alone so moment = record { calls = alone-looks old new alone so; taken = moment; salting = refl }

-- ---- either

pub spent-before : (old new : Place) → IsTrue old.told.is_alone → Looks old new → most_events ≤ new.told.count → most_events ≤ old.told.count
spent-before old new alone so spent = omega (arith, spent, (alone-looks old new alone so).count)
