use Rattle.std.proofs.Common.{◌≡◌, [], filter, sym, ap, subst}
use Rattle.std.specs.List.{fold}
use Rattle.service_tables.specs.Disk.{contents_in}
use Rattle.service_tables.specs.Objects.{HaveSamePaths, is_listed, once, paths_of, with_path}
use Rattle.service_tables.specs.TablesReading.{asked_collections}
use Rattle.service_tables.proofs.NotedLemmas.{once-paths}
use Rattle.service_prompts.specs.Unlocking.{is_unlocked}
use Rattle.service_prompts.proofs.unlocking.unlocked_there.Goals as goal

-- objects with each path once have the paths, each once
pub loop-object-init : goal.loop-object-init
loop-object-init g c =
    let these = filter (is_unlocked (asked_collections (contents_in c.args.disk.now))) c.args.objects.now in
    subst (λ paths. HaveSamePaths c.new-noted.result.keys paths × (fold with_path paths (paths_of these) ≡ paths_of (once these))) (sym c.new-paths.ensures.items)
    ((λ path. ap (λ keys. is_listed path keys) c.new-noted.ensures.empty), once-paths [] these)
