use Rattle.shared_service.proofs.sleepers.Sleepers.slept.Goals as goal

pub returns-then-not-add-clause-watched : goal.returns-then-not-add-clause-watched
returns-then-not-add-clause-watched g c =
    let state = c.args.service.now.history.state in
    c.add.ensures state c.requires.sleeps (c.remove.ensures state c.requires.watched)

pub next-requires : goal.next-requires
next-requires g c =
    let state = c.args.service.now.history.state in
    record { watched = c.add.ensures state c.requires.sleeps (c.remove.ensures state c.requires.watched) }
