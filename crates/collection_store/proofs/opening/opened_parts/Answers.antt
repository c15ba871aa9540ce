use Rattle.std.proofs.Common.{ap, sym, ◌∙◌}
use Rattle.key_derivation.specs.Kdf.{key_of, vector_of}
use Rattle.keyring_file.specs.Clear.{ClearPart}
use Rattle.collection_store.specs.State.{by_id}
use Rattle.collection_store.proofs.OpenedLemmas.{opened_clear}
use Rattle.collection_store.proofs.opening.opened_parts.Goals as goal

-- the clear part that was read is the one that was known
pub take_parts-requires : goal.take_parts-requires
take_parts-requires c =
    let read = opened_clear c.a_file_that_is_spelled_so_is_read.ensures c.args.file.now (key_of c.args.key.now) (vector_of c.args.key.now) c.requires.0 c.in_ok-content.content c.requires.1 c.in_ok-content.ensures.opened in
    record { sealable = c.in_ok-content.ensures.sealable; shown = c.requires.2 ∙ sym (ap (λ (t : ClearPart). by_id t) read) }
