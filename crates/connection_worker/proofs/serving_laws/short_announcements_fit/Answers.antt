use Rattle.connection_worker.proofs.BesideLemmas.{beside}
use Rattle.connection_worker.proofs.serving_laws.short_announcements_fit.Goals as goal

pub returns : goal.returns
returns c = beside
