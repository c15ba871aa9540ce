use Rattle.std.proofs.Common.{None, Some, arith}
use Rattle.keyring_seal.specs.Arranged.{of_lent}
use Rattle.keyring_seal.proofs.LentLemmas.{lent_sealable, sizes_are}
use Rattle.keyring_seal.proofs.SealLemmas.{length-sealed}
use Rattle.keyring_seal.proofs.sealing.rows_sealed.Goals as goal

pub returns-in-None : goal.returns-in-None
returns-in-None c =
    let long = length-sealed (of_lent c.args.front.now c.args.rows.now) c.args.key c.args.vector (lent_sealable c.args.front.now c.args.rows.now c.requires.rising c.requires.iterations) in
    let over = sizes_are c.args.front.now c.args.rows.now c.min.result None c.in-None.ensures in
    omega (arith, long, over, c.min.ensures)

pub rows_file-requires-clause-within : goal.rows_file-requires-clause-within
rows_file-requires-clause-within c =
    let sizes = sizes_are c.args.front.now c.args.rows.now c.min.result (Some c.in-Some.found) c.in-Some.ensures in
    omega (arith, sizes.2, c.min.ensures)

pub rows_file-requires-clause-area : goal.rows_file-requires-clause-area
rows_file-requires-clause-area c = let sizes = sizes_are c.args.front.now c.args.rows.now c.min.result (Some c.in-Some.found) c.in-Some.ensures in sizes.0

pub returns-in-Ok : goal.returns-in-Ok
returns-in-Ok c =
    let long = length-sealed (of_lent c.args.front.now c.args.rows.now) c.args.key c.args.vector (lent_sealable c.args.front.now c.args.rows.now c.requires.rising c.requires.iterations) in
    let sizes = sizes_are c.args.front.now c.args.rows.now c.min.result (Some c.in-Some.found) c.in-Some.ensures in
    (c.in-Ok.ensures, omega (arith, long, sizes.2, c.min.ensures))

pub returns-in-Err : goal.returns-in-Err
returns-in-Err c =
    let long = length-sealed (of_lent c.args.front.now c.args.rows.now) c.args.key c.args.vector (lent_sealable c.args.front.now c.args.rows.now c.requires.rising c.requires.iterations) in
    let sizes = sizes_are c.args.front.now c.args.rows.now c.min.result (Some c.in-Some.found) c.in-Some.ensures in
    omega (arith, long, sizes.2, c.min.ensures)
