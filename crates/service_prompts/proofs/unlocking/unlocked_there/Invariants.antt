use Rattle.std.proofs.Common.{◌≡◌, drop, filter}
use Rattle.std.specs.List.{fold}
use Rattle.service_tables.specs.Disk.{contents_in}
use Rattle.service_tables.specs.Objects.{HaveSamePaths, once, paths_of, with_path}
use Rattle.service_tables.specs.TablesReading.{asked_collections}
use Rattle.service_prompts.specs.Unlocking.{is_unlocked}
use Rattle.service_prompts.proofs.unlocking.unlocked_there.Given as goal

-- the paths so far are noted, and these with those of the objects that are left are all
abbrev pub invariant-loop-object : goal.invariant-loop-object
invariant-loop-object g l =
    let is = is_unlocked (asked_collections (contents_in l.disk)) in
    HaveSamePaths l.noted.keys l.paths.items × (fold with_path l.paths.items (paths_of (filter is (drop l.object-index l.objects))) ≡ paths_of (once (filter is l.objects)))
