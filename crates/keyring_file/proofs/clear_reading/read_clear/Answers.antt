use Rattle.std.proofs.Common.{arith}
use Rattle.keyring_file.proofs.Answering.{clear_found, clear_only, clear_cut, clear_few}
use Rattle.keyring_file.proofs.clear_reading.read_clear.Goals as goal

pub returns-clause-found : goal.returns-clause-found
returns-clause-found c = clear_found c.args.file.now c.placed.result (λ i. omega (arith, c.type_inv.file i)) c.placed.ensures.exact

pub returns-clause-only : goal.returns-clause-only
returns-clause-only c = clear_only c.args.file.now c.placed.result c.placed.ensures.exact

pub returns-clause-cut : goal.returns-clause-cut
returns-clause-cut c = clear_cut c.args.file.now c.placed.result c.placed.ensures.exact

pub returns-clause-few : goal.returns-clause-few
returns-clause-few c = clear_few c.args.file.now c.placed.result (λ i. omega (arith, c.type_inv.file i)) c.placed.ensures.exact
