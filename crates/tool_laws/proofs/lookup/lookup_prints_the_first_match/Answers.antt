use Rattle.tool_laws.proofs.LookupLemmas.{looked-up}
use Rattle.tool_laws.proofs.lookup.lookup_prints_the_first_match.Goals as goal

pub returns : goal.returns
returns c = looked-up (λ path name at. (c.a_path_is_that_of_its_name.ensures path name).0 at)
