use Rattle.std.proofs.Common.{◌≡◌, ◌++◌, drop}
use Rattle.std.specs.List.{filter_map}
use Rattle.service_tables.specs.Objects.{collection_around}
use Rattle.service_tables.specs.Disk.{contents_in}
use Rattle.service_tables.specs.TablesReading.{asked_collections}
use Rattle.service_tables.proofs.disk.Disk.collections_around.Given as goal

-- the stems so far, and those of the objects that are left
abbrev pub invariant-loop-object : goal.invariant-loop-object
invariant-loop-object g l =
    let around = collection_around (asked_collections (contents_in l.self)) in
    l.stems.items ++ filter_map around (drop l.object-index l.objects) ≡ filter_map around l.objects
