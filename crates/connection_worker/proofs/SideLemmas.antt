-- What several calls of a desk recorded of its own, among the events of others.
use Rattle.std.proofs.Common.{◌≡◌, ◌<◌, List, [], ◌∷◌, ◌++◌, refl, ◌∙◌, ap, subst}
use Rattle.service_desk.specs.secret_calls.specs.declared.taken.Refused.{Refused}
use Rattle.service_desk.specs.secret_calls.specs.declared.taken.Refused.TheVariants as refusal
use Rattle.service_desk.specs.service_tables.specs.Limits.{most_events, IsSpent}
use Rattle.service_desk.specs.service_events.specs.declared.event.Event.{Event}
use Rattle.service_desk.specs.service_events.specs.declared.event.Output.{Output}
use Rattle.service_desk.specs.service_events.specs.Step.{IsMissing}
use Rattle.service_desk.specs.Calls.{IsRefusal}
use Rattle.service_desk.specs.Places.{Place, Looks, Extends}
use Rattle.service_desk.specs.Records.{Seen, Others, Own, Records, of_others}
use Rattle.service_desk.proofs.RecordLemmas.{looks-records, extends-records, records-more}
use Rattle.connection_worker.specs.Sides.{own_in, told_after}

pub own_in-append : (seen more : List Seen) → own_in (seen ++ more) ≡ own_in seen ++ own_in more
own_in-append [] more = refl
own_in-append (Others event ∷ seen) more = own_in-append seen more
own_in-append (Own event answer ∷ seen) more = ap (λ l. Own event answer ∷ l) (own_in-append seen more)

pub own_in-others : (events : List Event) → own_in (of_others events) ≡ []
own_in-others [] = refl
own_in-others (event ∷ events) = own_in-others events

-- the desk recorded these events of its own
abbrev pub Saw : Place → Place → List Seen → Type 0
Saw old new own = (seen : List Seen) × Records old new seen × (own_in seen ≡ own)

-- none by a call that looks
pub saw-looks : (old new : Place) → Looks old new → Saw old new []
saw-looks old new so = (of_others so.between, looks-records old new so, own_in-others so.between)

-- one by a call that records it
pub saw-extends : (old new : Place) (event : Event) (answer : Output) → Extends old new event answer → Saw old new (Own event answer ∷ [])
saw-extends old new event answer so = (
  of_others so.between ++ Own event answer ∷ [],
  extends-records old new event answer so,
  own_in-append (of_others so.between) (Own event answer ∷ []) ∙ ap (λ l. l ++ Own event answer ∷ []) (own_in-others so.between),
)

pub saw-more : (old mid new : Place) (one more : List Seen) → Saw old mid one → Saw mid new more → Saw old new (one ++ more)
saw-more old mid new one more p q = (p.0 ++ q.0, records-more old mid new p.0 q.0 p.1 q.1, own_in-append p.0 q.0 ∙ (λ i. p.2 i ++ q.2 i))

-- why a desk refused, by what it had seen
pub refusal-seen : (why : Refused) (old new : Place) (seen : List Seen) → Records old new seen → IsRefusal why new.told → IsRefusal why (told_after old.told seen)
refusal-seen refusal.EventsSpent old new seen so is = subst (λ n. IsSpent n) so.count is
refusal-seen refusal.Gone old new seen so is =
    (subst (λ n. n < most_events) so.count is.0, subst (λ s. IsMissing old.told.conn s) so.state (subst (λ c. IsMissing c new.told.state) so.same.conn is.1))
refusal-seen refusal.OutOfMemory old new seen so is = (
  subst (λ n. n < most_events) so.count is.0,
  subst (λ s. ¬ (IsMissing old.told.conn s)) so.state (subst (λ c. ¬ (IsMissing c new.told.state)) so.same.conn is.1),
)
