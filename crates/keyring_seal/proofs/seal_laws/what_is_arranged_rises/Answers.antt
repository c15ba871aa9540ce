use Rattle.keyring_seal.proofs.ArrangedLemmas.{arranged_stay, is_arrangement}
use Rattle.keyring_seal.proofs.OnlyLemmas.{only_arrangement}
use Rattle.keyring_seal.proofs.seal_laws.what_is_arranged_rises.Goals as goal

pub returns-clause-same : goal.returns-clause-same
returns-clause-same c = is_arrangement

pub returns-clause-only : goal.returns-clause-only
returns-clause-only c = only_arrangement

pub returns-clause-stays : goal.returns-clause-stays
returns-clause-stays c = arranged_stay
