use Rattle.std.proofs.Common.{rules}
use Rattle.aes_cbc.proofs.CbcLemmas.{encrypted-decrypted, length-decrypted}
use Rattle.aes_cbc.proofs.cipher_laws.encrypting_undoes_decrypting.Goals as goal

pub returns-clause-undone : goal.returns-clause-undone
returns-clause-undone c =
    encrypted-decrypted c.args.key c.args.vector c.args.blocks.now c.requires
    (record { byte = λ i. search rules }) (record { byte = λ i. search rules })

pub returns-clause-as_long : goal.returns-clause-as_long
returns-clause-as_long c = length-decrypted c.args.key c.args.vector c.args.blocks.now c.requires
