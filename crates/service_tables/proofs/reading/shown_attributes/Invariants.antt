use Rattle.std.proofs.Common.{◌≡◌, map, take}
use Rattle.service_tables.specs.TablesReading.{shown_attribute}
use Rattle.service_tables.proofs.reading.shown_attributes.Given as goal

abbrev pub invariant-loop-name : goal.invariant-loop-name
invariant-loop-name l = l.shown.items ≡ map shown_attribute (take l.name-index l.pairs)
