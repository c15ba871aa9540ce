use Rattle.shared_service.proofs.sleepers.Sleepers.took.Goals as goal

pub next-requires : goal.next-requires
next-requires g c = record { watched = c.remove.ensures c.args.service.now.history.state c.requires.watched }
