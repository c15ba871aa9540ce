use Rattle.keyring_file.specs.Known.{IsKnownAccess}
use Rattle.keyring_file.proofs.KnownLemmas.{all_more, all_of_taken}
use Rattle.keyring_file.proofs.known.known_access.Goals as goal

pub loop-entry-preserved : goal.loop-entry-preserved
loop-entry-preserved c = all_more IsKnownAccess c.args.entries.now c.loop-entry.entry-index c.entry-item.result c.loop-entry-test.true c.entry-item.is c.loop-entry.invariant c.known_entry.ensures

pub returns : goal.returns
returns c = all_of_taken IsKnownAccess c.args.entries.now c.loop-entry.entry-index c.loop-entry-test.false c.loop-entry.invariant
