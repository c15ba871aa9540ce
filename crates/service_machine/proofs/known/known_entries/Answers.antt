use Rattle.keyring_file.proofs.KnownLemmas.{all_more, all_of_taken}
use Rattle.service_answers.specs.service_events.specs.Step.{AreByteImages}
use Rattle.service_machine.proofs.known.known_entries.Goals as goal

pub loop-entry-preserved : goal.loop-entry-preserved
loop-entry-preserved g c =
    all_more (λ entry. AreByteImages entry.1.file) c.args.entries.now c.loop-entry.entry-index c.entry-item.result c.loop-entry-test.true c.entry-item.is c.loop-entry.invariant
    (c.known_file.ensures.older, c.known_file.ensures.newer)

pub returns : goal.returns
returns g c = all_of_taken (λ entry. AreByteImages entry.1.file) c.args.entries.now c.loop-entry.entry-index c.loop-entry-test.false c.loop-entry.invariant
