use Rattle.std.proofs.Common.{◌≡◌, [], Some, None, rules, arith}
use Rattle.key_derivation.specs.Kdf.{key_of, vector_of}
use Rattle.replace_slot.specs.Cell.{Doubt}
use Rattle.collection_store.proofs.StateLemmas.{kept_created, kept_perhaps}
use Rattle.collection_store.proofs.collection.Collection.create.Goals as goal

pub image_of-requires : goal.image_of-requires
image_of-requires g c = record {
  rising = λ k lt. absurd (omega (arith, lt));
  version = record { known = omega arith; plain = λ e. tt };
  kept = tt;
  iterations = rw c.iterations.ensures c.requires.iterations;
}

pub invariant_of-result : goal.invariant_of-result
invariant_of-result g c =
    let none : c.rising-told.result.items ≡ [] = search rules in
    let opens = rw (c.key-2.ensures, c.vector.ensures) at c.in-Ok.ensures.opens in
    rw (c.in-Ok-replace.ensures.stored, c.new.ensures, c.key-in-Ok-replace.ensures, c.vector-in-Ok-replace.ensures) (kept_created c.in-Ok.image (key_of c.args.key) (vector_of c.args.key) c.rising-told.result none (rw c.rising-told.ensures c.in-Ok.ensures.clear) (rw c.rising-told.ensures opens))

pub invariant_of-result-in-Err-FaultUnsure : goal.invariant_of-result-in-Err-FaultUnsure
invariant_of-result-in-Err-FaultUnsure g c =
    let none : c.rising-told.result.items ≡ [] = search rules in
    let unsure : c.replace.new.self.file ≡ Doubt None (Some c.in-Ok.image) = search rules in
    rw unsure (kept_perhaps c.in-Ok.image c.rising-told.result none (rw c.rising-told.ensures c.in-Ok.ensures.clear))
