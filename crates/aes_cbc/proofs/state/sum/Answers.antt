use Rattle.std.proofs.Common.{◌++◌}
use Rattle.aes_cbc.specs.Aes.{added}
use Rattle.aes_cbc.proofs.WordLemmas.{to_be_bytes-xor}
use Rattle.aes_cbc.proofs.state.sum.Goals as goal

-- each column is a sum of words
pub returns : goal.returns
unfolding added
returns c =
    let a = c.args.a in
    let b = c.args.b in
    λ i. to_be_bytes-xor a.first b.first i ++ (to_be_bytes-xor a.second b.second i
    ++ (to_be_bytes-xor a.third b.third i ++ to_be_bytes-xor a.fourth b.fourth i))
