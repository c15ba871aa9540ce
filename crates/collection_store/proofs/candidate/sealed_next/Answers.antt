use Rattle.std.proofs.Common.{◌≡◌, map, subst, IfOk, rules}
use Rattle.keyring_file.specs.Clear.{ClearPart, IsOfVersion}
use Rattle.keyring_seal.specs.Arranged.{of_lent, of_rows}
use Rattle.keyring_seal.specs.declared.content.Content.{Content}
use Rattle.collection_store.specs.Preparing.{looked}
use Rattle.keyring_file.specs.ClearText.{HasClear}
use Rattle.collection_store.proofs.PreparedLemmas.{lent_kept, lent_rising, lent_version, see}
use Rattle.collection_store.proofs.candidate.sealed_next.Goals as goal

pub image_of-requires-clause-rising : goal.image_of-requires-clause-rising
image_of-requires-clause-rising c =
    let seen : map see c.as_slice-2.result.now ≡ looked c.args.next.now.items c.args.rows.now = search rules in
    lent_rising c.as_slice-2.result.now _ c.args.next.now.items seen c.requires.there c.clear-clear.ensures.by_id

pub image_of-requires-clause-version : goal.image_of-requires-clause-version
image_of-requires-clause-version c =
    let seen : map see c.as_slice-2.result.now ≡ looked c.args.next.now.items c.args.rows.now = search rules in
    let is : c.clear-clear.result.now ≡ c.args.next.now = c.clear-clear.ensures.value in
    let version : IsOfVersion c.clear-clear.result.now.minor c.clear-clear.result.now.items = search rules in
    lent_version c.as_slice-2.result.now _ c.args.next.now.items seen c.requires.there c.clear-clear.result.now.minor (subst (λ (t : ClearPart). IsOfVersion c.clear-clear.result.now.minor t.items) is version)

pub image_of-requires-clause-kept : goal.image_of-requires-clause-kept
image_of-requires-clause-kept c =
    let seen : map see c.as_slice-2.result.now ≡ looked c.args.next.now.items c.args.rows.now = search rules in
    lent_kept c.as_slice-2.result.now _ c.args.next.now.items seen c.requires.there c.requires.hashed

pub returns-clause-clear : goal.returns-clause-clear
returns-clause-clear c =
    let seen : map see c.as_slice-2.result.now ≡ looked c.args.next.now.items c.args.rows.now = search rules in
    let same : of_lent c.clear-clear.result.now c.as_slice-2.result.now ≡ of_rows c.args.next.now (looked c.args.next.now.items c.args.rows.now) = λ i. of_rows (c.clear-clear.ensures.value i) (seen i) in
    subst (λ (t : Content). IfOk c.image_of.result (λ image. HasClear image t.clear)) same c.image_of.ensures.clear
