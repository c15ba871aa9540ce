use Rattle.std.proofs.Common.{◌≡◌, rules}
use Rattle.collection_store.proofs.PreparedLemmas.{version_made}
use Rattle.collection_store.proofs.candidate.next_told.Goals as goal

pub invariant_of-rising : goal.invariant_of-rising
invariant_of-rising c =
    let items : c.as_slice.result.now ≡ c.new.result = search rules in
    rw (c.minor_for-minor.ensures, items) (version_made c.clear.inside.minor c.new.result c.clear.invariant.known)
