use Rattle.std.proofs.Common.{rules}
use Rattle.keyring_text.specs.Fields.{IsBytes}
use Rattle.collection_store.proofs.OpenedLemmas.{opened_has}
use Rattle.collection_store.proofs.sealing.image_of.Goals as goal

pub returns-in-Ok-new-clause-clear : goal.returns-in-Ok-new-clause-clear
returns-in-Ok-new-clause-clear c =
    let bytes : IsBytes c.in-Ok.bytes.items = search rules in
    rw c.in-Ok-new.ensures (opened_has c.a_file_that_is_read_is_spelled_so.ensures c.in-Ok.bytes.items c.args.key c.args.vector _ bytes c.in-Ok.ensures.opens)
