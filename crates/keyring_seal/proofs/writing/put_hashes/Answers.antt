use Rattle.std.proofs.lemmas.List.Elements.{All-from_recursion}
use Rattle.attribute_hash.specs.Hash.{pair_hash}
use Rattle.keyring_file.specs.Short.{IsShortPair}
use Rattle.keyring_seal.proofs.writing.put_hashes.Goals as goal

pub put_hashed-requires : goal.put_hashed-requires
put_hashed-requires c = rw c.pair-item.is (All-from_recursion (λ pair. IsShortPair (pair_hash pair)) c.args.pairs.now c.requires c.loop-pair.pair-index _ c.loop-pair-test.true)
