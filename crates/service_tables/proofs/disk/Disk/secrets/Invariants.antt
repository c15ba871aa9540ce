use Rattle.std.proofs.Common.{◌≡◌, ◌++◌, drop}
use Rattle.std.specs.List.{filter_map}
use Rattle.service_tables.specs.Disk.{contents_in}
use Rattle.service_tables.specs.TablesReading.{item_secret}
use Rattle.service_tables.proofs.disk.Disk.secrets.Given as goal

-- the secrets so far, and those of the items that are left
abbrev pub invariant-loop-item : goal.invariant-loop-item
invariant-loop-item g l =
    let given = item_secret l.session (contents_in l.self).collections in
    l.secrets.items ++ filter_map given (drop l.item-index l.items) ≡ filter_map given l.items
