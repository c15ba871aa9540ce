use Rattle.std.proofs.Common.{◌≡◌, length, subst, rules}
use Rattle.std.specs.List.{zip}
use Rattle.key_derivation.specs.Kdf.{key_of, vector_of}
use Rattle.keyring_seal.specs.Arranged.{rows}
use Rattle.keyring_seal.specs.Whole.{IsFileOf}
use Rattle.keyring_seal.specs.declared.content.Content.{Content}
use Rattle.keyring_seal.proofs.WholeLemmas.{sealable}
use Rattle.collection_store.specs.State.{AreParts}
use Rattle.collection_store.proofs.InPlaceLemmas.{AreOwn}
use Rattle.collection_store.proofs.PartsLemmas.{by_id_stays}
use Rattle.collection_store.proofs.opening.told_items.Goals as goal

pub have_own_hashes-requires : goal.have_own_hashes-requires
have_own_hashes-requires c =
    let content : Content = record { clear = c.args.clear.now; items = c.in-Some.items.items } in
    let is : IsFileOf c.args.file.now (key_of c.args.key.now) (vector_of c.args.key.now) content = search rules in
    let counted : length c.in-Some.items.items ≡ length c.args.clear.now.items = is.counted in
    search rules

pub items_in_place-requires : goal.items_in_place-requires
items_in_place-requires c =
    let content : Content = record { clear = c.args.clear.now; items = c.in-Some.items.items } in
    let is : IsFileOf c.args.file.now (key_of c.args.key.now) (vector_of c.args.key.now) content = search rules in
    let first : c.as_slice.result.now ≡ c.args.clear.now.items = search rules in
    let second : c.as_slice-2.result.now ≡ c.in-Some.items.items = search rules in
    let own : AreOwn (rows content) = subst AreOwn (λ i. zip (first i) (second i)) (c.have_own_hashes.ensures.0 c.if-not-have_own_hashes.false) in
    record { sealable = sealable c.args.file.now (key_of c.args.key.now) (vector_of c.args.key.now) content is; in_place = record { rising = c.requires.rising; hashed = own } }

pub returns-in-Ok-clause-parts : goal.returns-in-Ok-clause-parts
returns-in-Ok-clause-parts c =
    let content : Content = record { clear = c.args.clear.now; items = c.in-Some.items.items } in
    let is : IsFileOf c.args.file.now (key_of c.args.key.now) (vector_of c.args.key.now) content = search rules in
    record {
      content = content;
      opens = c.a_file_of_a_content_opens_to_it.ensures c.args.file.now (key_of c.args.key.now) (vector_of c.args.key.now) content is;
      parts = subst (λ told. AreParts content told c.in-Ok.store) (by_id_stays c.args.clear.now c.requires.rising) c.in-Ok.ensures;
    }
