use Rattle.std.proofs.Common.{rules}
use Rattle.aes_cbc.proofs.CbcLemmas.{decrypted-encrypted, length-encrypted}
use Rattle.aes_cbc.proofs.cipher_laws.decrypting_undoes_encrypting.Goals as goal

pub returns-clause-undone : goal.returns-clause-undone
returns-clause-undone c =
    decrypted-encrypted c.args.key c.args.vector c.args.blocks.now c.requires
    (record { byte = λ i. search rules }) (record { byte = λ i. search rules })

pub returns-clause-as_long : goal.returns-clause-as_long
returns-clause-as_long c = length-encrypted c.args.key c.args.vector c.args.blocks.now c.requires
