use Rattle.std.proofs.Common.{◌≡◌, map, take}
use Rattle.call_wire.proofs.properties.listed.Given as goal

abbrev pub invariant-loop-row : goal.invariant-loop-row
invariant-loop-row l = l.listed.items ≡ map (λ row. row.property) (take l.row-index l.rows)
