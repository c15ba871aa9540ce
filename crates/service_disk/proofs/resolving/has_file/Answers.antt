use Rattle.service_disk.proofs.ResolvingLemmas.{file-tested}
use Rattle.service_disk.proofs.resolving.has_file.Goals as goal

-- the clear part is shown by a file, which has bytes
pub returns : goal.returns
returns g c = file-tested c.args.collection.now.file c.args.collection.now.clear c.longest.result c.requires c.is_open-shown.ensures.shows c.longest.ensures
