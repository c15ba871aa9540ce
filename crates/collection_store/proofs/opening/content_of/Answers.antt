use Rattle.std.proofs.Common.{◌≡◌, Err, rules}
use Rattle.key_derivation.specs.Kdf.{key_of, vector_of}
use Rattle.keyring_seal.specs.Whole.{opened}
use Rattle.keyring_seal.specs.declared.opening.OpenFault.TheVariants as open_fault
use Rattle.collection_store.proofs.OpenedLemmas.{no_clear_fault}
use Rattle.collection_store.proofs.opening.content_of.Goals as goal

pub unreachable-requires : goal.unreachable-requires
unreachable-requires c =
    let fault : opened c.args.file.now (key_of c.args.key.now) (vector_of c.args.key.now) ≡ Err (open_fault.Clear c.in-Err-Fault-Clear.field-0-0-0) = search rules in
    no_clear_fault c.a_file_that_is_spelled_so_is_read.ensures c.args.file.now (key_of c.args.key.now) (vector_of c.args.key.now) c.requires.0 c.requires.1 c.in-Err-Fault-Clear.field-0-0-0 fault
