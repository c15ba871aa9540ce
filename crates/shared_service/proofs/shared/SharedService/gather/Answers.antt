use Rattle.shared_service.proofs.Ends.{met-idle}
use Rattle.shared_service.proofs.shared.SharedService.gather.Goals as goal

pub invariant_of-pass : goal.invariant_of-pass
invariant_of-pass g c = met-idle c.pass.inside.inner c.other.inside.inner c.gather.new.pass c.pass.invariant c.other.invariant c.gather.ensures
