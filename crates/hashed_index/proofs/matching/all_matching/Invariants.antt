use Rattle.std.proofs.Common.{◌≡◌, ◌++◌, drop, map}
use Rattle.kr_base.specs.declared.ids.ItemId.{ItemId}
use Rattle.hashed_index.specs.Matching.{matching_ids}
use Rattle.hashed_index.proofs.matching.all_matching.Given as goal

-- what was found, and what is left to find
abbrev pub invariant-loop-place : goal.invariant-loop-place
invariant-loop-place l = map (λ (id : ItemId). id.0) l.ids.items ++ matching_ids l.wanted (drop l.place l.items) ≡ matching_ids l.wanted l.items
