-- The writers that sleep, and those of them for which something waits.
use Rattle.std.specs.Prelude.{◌≡◌, ◌<◌, ◌||◌, ℕ, Bool, true, false, List, [], ◌∷◌, length, slice_index_or}
use Rattle.std.specs.Option.{option_map_or}
use Rattle.kr_base.specs.declared.ids.ConnId.{ConnId}
use Rattle.service_desk.specs.secret_calls.specs.declared.taken.Taken.{Taken}
use Rattle.service_desk.specs.secret_calls.specs.declared.taken.Taken.TheVariants as taken
use Rattle.service_desk.specs.service_tables.specs.Connections.{desk_of}
use Rattle.service_desk.specs.service_tables.specs.State.{State}
use Rattle.service_desk.specs.service_tables.specs.signal_fanout.specs.declared.rows.DeskRow.{DeskRow}
use Rattle.shared_service.specs.declared.sleepers.Call.{Call}
use Rattle.shared_service.specs.declared.sleepers.Call.TheVariants as call

-- a take of the connection returns something: outputs, or why there are none
abbrev pub has_work : State → ConnId → Bool
has_work state conn = option_map_or (λ (desk : DeskRow). desk.waits || desk.overrun || desk.leaving) (desk_of conn state.connections.rows) true

-- nothing waits for any of these connections
abbrev pub AreAtRest : State → List ConnId → Type 0
AreAtRest state [] = Unit {0}
AreAtRest state (conn ∷ conns) = (has_work state conn ≡ false) × AreAtRest state conns

-- the place is one of the list, and something waits for the connection that is there
abbrev pub HasWorkAt : State → List ConnId → ℕ → Type 0
HasWorkAt state conns place = (place < length conns) × ((other : ConnId) → has_work state (slice_index_or conns place other) ≡ true)

-- unless they are to be looked through, nothing waits for any of these connections
abbrev pub IsWatched : State → List ConnId → Bool → Type 0
IsWatched state conns due = due ≡ false → AreAtRest state conns

-- what a call of `take` was that returned this
abbrev pub call_of : Taken → Call
call_of (taken.Outs outs) = call.Takes
call_of taken.Empty = call.Sleeps
call_of taken.Overrun = call.Takes
call_of taken.Closed = call.Tells
call_of taken.Missing = call.Takes
