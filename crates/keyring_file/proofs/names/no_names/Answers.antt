use Rattle.std.proofs.Common.{refl}
use Rattle.keyring_file.proofs.names.no_names.Goals as goal

pub returns : goal.returns
returns c q = rw c.new.ensures.empty refl
