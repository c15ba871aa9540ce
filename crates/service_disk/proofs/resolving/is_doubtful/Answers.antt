use Rattle.std.proofs.Common.{◌∙◌}
use Rattle.service_disk.proofs.ResolvingLemmas.{doubt-missing, doubt-there, known-tested}
use Rattle.service_disk.proofs.resolving.is_doubtful.Goals as goal

-- what is known of the file is in its row
pub returns-in-Some : goal.returns-in-Some
returns-in-Some g c =
    known-tested c.is_known.result c.in-Some.collection.now.file c.is_known.ensures ∙ doubt-there c.args.stem.now c.args.disk.now.collections.entries c.in-Some.collection.now c.in-Some.ensures

pub returns-in-None : goal.returns-in-None
returns-in-None g c = doubt-missing c.args.stem.now c.args.disk.now.collections.entries c.in-None.ensures
