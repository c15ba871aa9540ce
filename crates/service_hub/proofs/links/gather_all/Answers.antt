use Rattle.std.proofs.Common.{[], rules}
use Rattle.std.proofs.lemmas.List.{nil_from_length}
use Rattle.service_hub.proofs.GatherLemmas.{none-gathered, one-gathered, all-gathered}
use Rattle.service_hub.proofs.links.gather_all.Goals as goal

-- none was gathered yet
pub loop-served-init : goal.loop-served-init
loop-served-init g c = none-gathered c.args.pass.now c.args.done.items c.requires.of_it

-- those of one more connection
pub loop-served-preserved : goal.loop-served-preserved
loop-served-preserved g c =
    one-gathered c.args.pass.now c.loop-served.pass c.gather.new.pass c.gather-in-Some.new.pass c.args.done.items c.loop-served.done.items c.pop.new.self.items c.in-Some.served []
    c.loop-served.invariant c.in-Some.ensures.items (rw c.into_pass.ensures at c.gather.ensures) (rw c.into_pass-in-Some.ensures at c.gather-in-Some.ensures)

-- all were
pub returns : goal.returns
returns g c = all-gathered c.args.pass.now c.loop-served.pass c.args.done.items c.loop-served.done.items c.loop-served.invariant (nil_from_length _ (search rules))
