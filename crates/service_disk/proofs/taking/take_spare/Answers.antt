use Rattle.std.proofs.Common.{sym}
use Rattle.service_disk.proofs.TakingLemmas.{without-none}
use Rattle.service_disk.proofs.taking.take_spare.Goals as goal

-- nothing was kept for the stem
pub returns-in-None-clause-rest : goal.returns-in-None-clause-rest
returns-in-None-clause-rest g c = sym (without-none c.args.stem.now c.args.spare.now.items (rw c.as_slice.ensures.value at c.in-None.ensures.none))
