use Rattle.keyring_file.proofs.KnownLemmas.{all_more, all_of_taken}
use Rattle.keyring_seal.specs.Arranged.{IsKnownLent}
use Rattle.keyring_seal.proofs.sealing.known_rows.Goals as goal

pub loop-row-preserved : goal.loop-row-preserved
loop-row-preserved c =
    all_more IsKnownLent c.args.rows.now c.loop-row.row-index c.row-item.result c.loop-row-test.true c.row-item.is c.loop-row.invariant (record { clear = c.known_clear_item.ensures; item = c.known_item.ensures })

pub returns : goal.returns
returns c = all_of_taken IsKnownLent c.args.rows.now c.loop-row.row-index c.loop-row-test.false c.loop-row.invariant
