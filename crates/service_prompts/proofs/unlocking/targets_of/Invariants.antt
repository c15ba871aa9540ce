use Rattle.std.proofs.Common.{◌≡◌, drop}
use Rattle.std.specs.List.{filter_map, fold}
use Rattle.service_tables.specs.Disk.{contents_in}
use Rattle.service_tables.specs.Objects.{HaveSamePaths}
use Rattle.service_tables.specs.TablesReading.{asked_collections}
use Rattle.service_prompts.specs.Unlocking.{given_of, target_of, targets_of, with_target}
use Rattle.service_prompts.proofs.unlocking.targets_of.Given as goal

-- the paths of the targets so far are noted, and these with those of the objects that are left are all
abbrev pub invariant-loop-object : goal.invariant-loop-object
invariant-loop-object g l =
    let asked = asked_collections (contents_in l.disk) in
    HaveSamePaths l.noted.keys (given_of l.targets.items) × (fold with_target l.targets.items (filter_map (target_of asked) (drop l.object-index l.objects)) ≡ targets_of asked l.objects)
