use Rattle.std.proofs.Common.{◌≡◌, drop, filter}
use Rattle.std.specs.List.{fold}
use Rattle.service_tables.specs.Objects.{HaveSamePaths, is_open_item, once, paths_of, with_object}
use Rattle.service_tables.specs.Disk.{contents_in}
use Rattle.service_tables.specs.TablesReading.{asked_collections}
use Rattle.service_tables.proofs.disk.Disk.open_items.Given as goal

-- the paths of the objects that are listed so far are noted, and these with those that are left are all
abbrev pub invariant-loop-object : goal.invariant-loop-object
invariant-loop-object g l =
    let is = is_open_item (asked_collections (contents_in l.self)) in
    HaveSamePaths l.noted.keys (paths_of l.listed.items) × (fold with_object l.listed.items (filter is (drop l.object-index l.objects)) ≡ once (filter is l.objects))
