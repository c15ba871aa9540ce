-- The effects of calls whose return may be too large, and the plans of these calls.
use Rattle.std.specs.Prelude.{◌≡◌, map, true, Some}
use Rattle.kr_base.specs.declared.ids.ConnId.{ConnId}
use Rattle.service_events.specs.CollectionCalls.{storing}
use Rattle.service_events.specs.Plan.{Lock_collection, Plan, answered}
use Rattle.service_events.specs.PublicBody.{PublicBody}
use Rattle.service_events.specs.Run.{asked}
use Rattle.service_events.specs.ServiceCalls.{with_new_prompt}
use Rattle.service_events.specs.service_tables.specs.State.{State}
use Rattle.service_events.specs.service_tables.specs.Storing.{Brought, Edit, answered_at, change_of, storable_at}
use Rattle.service_calls.specs.declared.effect.Effect.{Effect}
use Rattle.service_calls.specs.declared.effect.Effect.TheVariants as effect

-- the effect is possible in a state: an edit can be made of its collection, whatever the size of the files, and does this
abbrev pub IsReady : Effect → State → Type 0
IsReady (effect.Lock stems) state = Unit {0}
IsReady (effect.Begin kind) state = Unit {0}
IsReady (effect.Store stem change answer now) state = answered_at stem.now change now state.collections ≡ Some answer

-- the plan of a call that has this effect in a state, and returns this if it is small enough
abbrev pub Plans : ConnId → Brought → State → PublicBody → Effect → Plan → Type 0
Plans caller brought state its (effect.Lock stems) plan = plan ≡ answered its (map Lock_collection stems.stems)
Plans caller brought state its (effect.Begin kind) plan = plan ≡ with_new_prompt true (λ _. its) kind (asked caller brought state)
Plans caller brought state its (effect.Store stem change answer now) plan =
    (edit : Edit) × (change ≡ change_of brought.value edit) × (brought.now ≡ now)
    × (plan ≡ storing stem.now edit (λ _. its) (storable_at stem.now change now state.collections))
