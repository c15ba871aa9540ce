use Rattle.std.proofs.Common.{arith}
use Rattle.keyring_seal.proofs.SealLemmas.{length-sealed}
use Rattle.keyring_seal.proofs.sealing.content_sealed.Goals as goal

pub returns-in-None : goal.returns-in-None
returns-in-None c =
    let long = length-sealed c.args.content.now c.args.key c.args.vector c.requires.sealable in
    omega (arith, long, c.in-None.ensures)

pub content_file-requires-clause-within : goal.content_file-requires-clause-within
content_file-requires-clause-within c = c.in-Some.ensures.2

pub content_file-requires-clause-area : goal.content_file-requires-clause-area
content_file-requires-clause-area c = c.in-Some.ensures.0

pub returns-in-Ok : goal.returns-in-Ok
returns-in-Ok c =
    let long = length-sealed c.args.content.now c.args.key c.args.vector c.requires.sealable in
    (c.in-Ok.ensures, omega (arith, long, c.in-Some.ensures.2))

pub returns-in-Err : goal.returns-in-Err
returns-in-Err c =
    let long = length-sealed c.args.content.now c.args.key c.args.vector c.requires.sealable in
    omega (arith, long, c.in-Some.ensures.2)
