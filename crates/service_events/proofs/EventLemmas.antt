-- An event fits a state in one way at most.
use Rattle.std.proofs.Common.{◌≡◌, ℕ, Bool, true, false, IfSome, List, [], ◌∷◌, length, Option, Some, None, Result, Ok}
use mathlib.Core.HLevel.{×_prop, Unit-prop}
use Rattle.std.proofs.Props.{props}
use Rattle.std.specs.Coded.{le_prop}
use Rattle.std.specs.List.{AllByRecursion-prop}
use Rattle.kr_base.specs.declared.ids.ConnId.{ConnId}
use Rattle.service_prompts.specs.collection_table.specs.Rows.{CollectionRow, Rows}
use Rattle.service_prompts.specs.secret_calls.specs.declared.call.Call.{Call}
use Rattle.service_prompts.specs.secret_calls.specs.declared.call.Call.TheVariants as call
use Rattle.service_prompts.specs.secret_calls.specs.declared.call.CallFault.{CallFault}
use Rattle.service_prompts.specs.service_tables.specs.declared.fate.Fate.{Fate}
use Rattle.service_prompts.specs.service_tables.specs.declared.fate.Fate.TheVariants as fate
use Rattle.service_prompts.specs.service_tables.specs.declared.fate.ReadFate.{ReadFate}
use Rattle.service_prompts.specs.service_tables.specs.declared.fate.ReadFate.TheVariants as read
use Rattle.service_prompts.specs.service_tables.specs.declared.fate.StoreFate.{StoreFate}
use Rattle.service_prompts.specs.service_tables.specs.declared.fate.StoreFate.TheVariants as stored
use Rattle.service_prompts.specs.service_tables.specs.State.{State}
use Rattle.service_prompts.specs.service_tables.specs.Storing.{Brought}
use Rattle.service_prompts.specs.service_tables.proofs.TypedLemmas.{alias-prop, attributes-prop, item-prop, secret-prop, text-prop}
use Rattle.service_events.specs.declared.event.Event.{Event}
use Rattle.service_events.specs.declared.event.Event.TheVariants as event
use Rattle.service_events.specs.declared.event.Recorded.{Recorded}
use Rattle.service_events.specs.Plan.{Plan, Ends, Asks, Resolves, Opens}
use Rattle.service_events.specs.Run.{AreFates, AreNone, asked, by_read, by_reading, by_store, by_test, demanded, fits, is_in_doubt, promised, settled, unlocked_with}
use Rattle.replace_slot.specs.Cell.{new_image, old_image}
use Rattle.service_events.specs.Step.{AreByteFiles, AreByteImages, Fits, FitsRequest, HasTypes, IsSalt, IsTypedName, brought_by, plan_of, FitsDerivation, brought_derived, terms_of}
use Rattle.service_events.specs.Derivation.{derived}
use Rattle.keyring_text.specs.Fields.{IsBytes}
use Rattle.service_events.specs.declared.event.Derivation.{Derivation}

none-prop : (fates : List Fate) → IsProp (AreNone fates)
none-prop [] = Unit-prop
none-prop (fate ∷ fates) = λ a b. absurd a

-- what has at most one proof in each case has at most one
test-prop : (b : Bool) (one other : Type 0) → IsProp one → IsProp other → IsProp (by_test b one other)
test-prop true one other first second = first
test-prop false one other first second = second

store-prop : (next : StoreFate → List Fate → Type 0) → ((ended : StoreFate) (rest : List Fate) → IsProp (next ended rest)) → (fates : List Fate) → IsProp (by_store ⊥ next fates)
store-prop next each [] = λ a b. absurd a
store-prop next each (fate.Store ended ∷ rest) = each ended rest
store-prop next each (fate.Read ended ∷ rest) = λ a b. absurd a

read-prop : (next : ReadFate → List Fate → Type 0) → ((ended : ReadFate) (rest : List Fate) → IsProp (next ended rest)) → (fates : List Fate) → IsProp (by_read ⊥ next fates)
read-prop next each [] = λ a b. absurd a
read-prop next each (fate.Store ended ∷ rest) = λ a b. absurd a
read-prop next each (fate.Read ended ∷ rest) = each ended rest

reading-prop : (ended : ReadFate) (one other : Type 0) → IsProp one → IsProp other → IsProp (by_reading ended one other)
reading-prop read.ReadFailed one other first second = first
reading-prop read.Old one other first second = second
reading-prop read.New one other first second = second
reading-prop read.Other one other first second = second

fates-prop : (caller : ConnId) (brought : Brought) (plan : Plan) (fates : List Fate) (state : State) → IsProp (AreFates caller brought plan fates state)
fates-prop caller brought (Ends answer changes) fates state = none-prop fates
fates-prop caller brought (Asks demand next) fates state =
    test-prop (fits (promised caller state (next stored.Stored))) _ (AreNone fates)
    (store-prop _ (λ ended rest. fates-prop caller brought (next ended) rest (demanded brought demand ended state)) fates) (none-prop fates)
fates-prop caller brought (Resolves reading unread next) fates state =
    test-prop (is_in_doubt reading state) _ _
    (read-prop _
    (λ ended rest. reading-prop ended _ _ (fates-prop caller brought unread rest (settled reading ended state)) (fates-prop caller brought (next (asked caller brought (settled reading ended state))) rest (settled reading ended state))) fates)
    (fates-prop caller brought (next (asked caller brought state)) fates state)
fates-prop caller brought (Opens stem terms next) fates state = fates-prop caller brought next fates (unlocked_with brought stem terms state)

name-prop : (alias : Option (List ℕ)) → IsProp (IsTypedName alias)
name-prop None = Unit-prop
name-prop (Some alias) = alias-prop alias

bytes-prop : (bytes : List ℕ) → IsProp (IsBytes bytes)
bytes-prop bytes one other = λ i n. le_prop (one n) (other n) i

types-prop : (given : Result Call CallFault) → IsProp (HasTypes given)
types-prop (Ok (call.SetAlias alias object)) = alias-prop alias
types-prop (Ok (call.CreateItem collection label attributes secret replace)) = ×_prop (item-prop label attributes) (secret-prop secret.value secret.content)
types-prop (Ok (call.SetSecret stem item secret)) = secret-prop secret.value secret.content
types-prop (Ok (call.SetCollectionLabel collection label)) = text-prop label
types-prop (Ok (call.SetItemLabel stem item label)) = text-prop label
types-prop (Ok (call.SetAttributes stem item attributes)) = attributes-prop attributes
types-prop (Ok (call.CreateCollection label alias)) = ×_prop (text-prop label) (name-prop alias)
types-prop (Ok (call.Answer prompt round password)) = bytes-prop password
types-prop _ = Unit-prop

-- the random bytes
number-prop : (m n : ℕ) → IsProp (m ≡ n)
number-prop m n = Prim.hlevel props

salt-prop : (salt : List ℕ) → IsProp (IsSalt salt)
salt-prop salt one other = λ i. record { eight = number-prop (length salt) 8 one.eight other.eight i; bytes = λ n. le_prop (one.bytes n) (other.bytes n) i }

request-prop : (came : Recorded) (state : State) → IsProp (FitsRequest came state)
request-prop came state one other = λ i. record {
  moment = le_prop one.moment other.moment i;
  salt = salt-prop came.arrival.salt one.salt other.salt i;
  types = types-prop came.arrival.request.call one.types other.types i;
  fates = fates-prop came.arrival.conn (brought_by came.arrival) (plan_of came.arrival.salt came.arrival.request.call (asked came.arrival.conn (brought_by came.arrival) state)) came.fates state one.fates other.fates i;
}

image-prop : (image : Option (List ℕ)) → IsProp (IfSome image IsBytes)
image-prop None = Unit-prop
image-prop (Some bytes) = bytes-prop bytes

files-prop : (rows : Rows) → IsProp (AreByteFiles rows)
files-prop rows one other =
    AllByRecursion-prop (λ (row : List ℕ × CollectionRow). AreByteImages row.1.file)
    (λ row. ×_prop (image-prop (old_image row.1.file)) (image-prop (new_image row.1.file))) rows one other

derivation-prop : (came : Derivation) (state : State) → IsProp (FitsDerivation came state)
derivation-prop came state one other = λ i. record {
  moment = le_prop one.moment other.moment i;
  round = le_prop one.round other.round i;
  password = bytes-prop came.password one.password other.password i;
  salt = salt-prop came.salt one.salt other.salt i;
  iterations = le_prop one.iterations other.iterations i;
  files = files-prop state.collections one.files other.files i;
  fates = fates-prop came.conn (brought_derived came) (derived came.prompt came.round (terms_of came) (asked came.conn (brought_derived came) state)) came.fates state one.fates other.fates i;
}

-- that an event fits has at most one proof
pub fits-prop : (state : State) (event : Event) → IsProp (Fits state event)
fits-prop state (event.Connect conn) = Prim.hlevel props
fits-prop state (event.Arrive came) = ×_prop (Prim.hlevel props) (request-prop came state)
fits-prop state (event.Derived came) = ×_prop (Prim.hlevel props) (derivation-prop came state)
fits-prop state (event.Leave conn) = Prim.hlevel props
fits-prop state (event.Take conn) = Prim.hlevel props
fits-prop state (event.Gone conn) = Prim.hlevel props
