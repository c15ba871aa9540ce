-- What is sent after a storing: by how it ended, it is what the plan that asked for it sends.
use Rattle.std.proofs.Common.{◌≡◌, ℕ, true, false, cond, List, [], Option, Some, None, refl, sym, ap, ◌∙◌}
use Rattle.kr_base.specs.Attributes.{value_at}
use Rattle.std.specs.Option.{is_some, option_map_or}
use Rattle.service_events.specs.collection_store.specs.declared.change.Change.{Change}
use Rattle.service_events.specs.collection_store.specs.declared.change.Changed.{Changed}
use Rattle.service_events.specs.collection_table.specs.Rows.{CollectionRow, Rows, has, is_open, is_unlocked}
use Rattle.service_events.specs.service_prompts.specs.Announcing.{announced, change_signals, gone_signals, lock_signals, store_signals}
use Rattle.service_events.specs.service_tables.specs.Connections.{spread}
use Rattle.service_events.specs.service_tables.specs.State.{State}
use Rattle.service_events.specs.service_tables.specs.Storing.{Brought, Edit, answered_at, change_of}
use Rattle.service_events.specs.service_tables.specs.declared.fate.StoreFate.{StoreFate}
use Rattle.service_events.specs.service_tables.specs.declared.fate.StoreFate.TheVariants as stored
use Rattle.service_events.specs.service_tables.specs.signal_fanout.specs.declared.rows.Delivery.{Delivery}
use Rattle.service_events.specs.Plan.{Erase, Store}
use Rattle.service_events.specs.Run.{sent_asked}
use Rattle.service_calls.specs.Done.{said_by}

-- an edit that would do this
pub store-said : (brought : Brought) (stem : List ℕ) (edit : Edit) (it : Change) (answer : Changed) (some : StoreFate) (state : State) (done perhaps : List Delivery)
    → it ≡ change_of brought.value edit → answered_at stem it brought.now state.collections ≡ Some answer
    → done ≡ spread state.connections.rows (announced (change_signals stem it answer)) → perhaps ≡ spread state.connections.rows (announced (lock_signals stem true))
    → said_by done perhaps some ≡ spread state.connections.rows (sent_asked brought (Store stem edit) some state)
store-said brought stem edit it answer some state done perhaps is made was maybe =
    let rows = state.connections.rows in
    let by : (some : StoreFate) → said_by done perhaps some ≡ spread rows (announced (store_signals stem it some (Some answer))) =
    elim [ stored.Stored ↦ was | stored.Before ↦ refl | stored.Unsure ↦ maybe ] in
    by some
    ∙ ap (λ o. spread rows (announced (store_signals stem it some o))) (sym made)
    ∙ ap (λ (its : Change). spread rows (announced (store_signals stem its some (answered_at stem its brought.now state.collections)))) is

-- a collection that is unlocked is there
open-has : (stem : List ℕ) (rows : Rows) → is_open stem rows ≡ true → has stem rows ≡ true
open-has stem rows unlocked =
    let pass : (o : Option CollectionRow) → option_map_or is_unlocked o false ≡ true → is_some o ≡ true = elim [ None ↦ λ no. no | Some row ↦ λ is. refl ] in
    pass (value_at stem rows) unlocked

-- the removal of the file of a collection that is unlocked
pub erase-said : (brought : Brought) (stem : List ℕ) (some : StoreFate) (state : State) (done perhaps : List Delivery) → is_open stem state.collections ≡ true
    → done ≡ spread state.connections.rows (announced (gone_signals stem)) → perhaps ≡ spread state.connections.rows (announced (lock_signals stem true))
    → said_by done perhaps some ≡ spread state.connections.rows (sent_asked brought (Erase stem) some state)
erase-said brought stem some state done perhaps unlocked was maybe =
    let rows = state.connections.rows in
    let by : (some : StoreFate) → said_by done perhaps some ≡ spread rows (sent_asked brought (Erase stem) some state) =
    elim [
      | stored.Stored ↦ was ∙ ap (λ b. spread rows (announced (cond b (gone_signals stem) []))) (sym (open-has stem state.collections unlocked))
      | stored.Before ↦ refl
      | stored.Unsure ↦ maybe ∙ ap (λ b. spread rows (announced (cond b (lock_signals stem true) []))) (sym unlocked)
    ] in
    by some
