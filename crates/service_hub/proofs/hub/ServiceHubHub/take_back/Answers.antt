use Rattle.service_hub.proofs.GatherLemmas.{same-home}
use Rattle.service_hub.proofs.HubLemmas.{takes-back}
use Rattle.service_hub.proofs.hub.ServiceHubHub.take_back.Goals as goal

-- the passes of both desks were gathered
pub returns-clause-back : goal.returns-clause-back
returns-clause-back g c =
    takes-back c.args.self.now.pass c.gather.new.pass c.gather-2.new.pass c.args.reader.pass c.args.writer.pass (same-home _ _ c.requires.writer) (same-home _ _ c.requires.reader)
    (rw c.into_pass.ensures at c.gather.ensures) (rw c.into_pass-2.ensures at c.gather-2.ensures)
