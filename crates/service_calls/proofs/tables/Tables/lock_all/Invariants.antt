use Rattle.std.proofs.Common.{◌≡◌, drop, map}
use Rattle.kr_base.specs.declared.ids.ConnId.{ConnId}
use Rattle.service_events.specs.Plan.{Lock_collection}
use Rattle.service_calls.specs.Rows.{disk_of, rows_of}
use Rattle.service_events.specs.Run.{performed_all}
use Rattle.service_calls.proofs.tables.Tables.lock_all.Given as goal

-- what locking those that are left leads to is what locking all leads to; nothing else changes
abbrev pub invariant-loop-stem : goal.invariant-loop-stem
invariant-loop-stem g l =
    ((conn : ConnId) → performed_all conn (map Lock_collection (drop l.stem-index l.stems)) (rows_of l.self) ≡ performed_all conn (map Lock_collection l.stems) (rows_of l.initial.self))
    × (l.self.connections ≡ l.initial.self.connections) × (disk_of l.self ≡ disk_of l.initial.self)
