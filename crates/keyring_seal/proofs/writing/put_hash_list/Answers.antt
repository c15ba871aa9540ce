use Rattle.std.proofs.Common.{◌++◌, ap, ◌∙◌}
use Rattle.attribute_hash.specs.Hash.{pair_hash}
use Rattle.keyring_text.specs.Fields.{number}
use Rattle.keyring_file.specs.Canonical.{pair_text}
use Rattle.keyring_file.specs.Short.{IsShortPair}
use Rattle.keyring_seal.proofs.RowLemmas.{all_of_map, list_put}
use Rattle.keyring_seal.proofs.writing.put_hash_list.Goals as goal

pub put_hashes-requires : goal.put_hashes-requires
put_hashes-requires c = rw c.as_slice.ensures.value (all_of_map IsShortPair pair_hash c.args.attributes.now c.requires.each)

pub returns : goal.returns
returns c =
    list_put c.put_hashes.result pair_text pair_hash c.args.attributes.now c.args.out.now.items c.put_number.new.out.items c.put_hashes.new.out.items (c.in_ok-put_number.ensures ∙ ap (λ n. c.args.out.now.items ++ number n) c.len.ensures.value) (rw (← c.as_slice.ensures.value) c.put_hashes.ensures)
