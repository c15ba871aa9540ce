use Rattle.std.proofs.Common.{◌≡◌, ◌++◌, drop, map}
use Rattle.std.specs.List.{flat_map}
use Rattle.kr_base.specs.declared.ids.ItemId.{ItemId}
use Rattle.hashed_index.specs.Matching.{id_at}
use Rattle.hashed_index.proofs.matching.matching_at.Given as goal

-- what was found, and what is left to find
abbrev pub invariant-loop-next : goal.invariant-loop-next
invariant-loop-next l = map (λ (id : ItemId). id.0) l.ids.items ++ flat_map (id_at l.wanted l.items) (drop l.next l.places) ≡ flat_map (id_at l.wanted l.items) l.places
