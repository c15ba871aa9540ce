use Rattle.service_disk.proofs.taking.keep_used.Goals as goal

pub returns-clause-unused : goal.returns-clause-unused
returns-clause-unused g c = λ other off. c.others_were_unused.ensures c.args.stem other c.args.disk.now.used.stems off
