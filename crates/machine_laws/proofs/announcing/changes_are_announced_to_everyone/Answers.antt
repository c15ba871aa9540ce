use Rattle.machine_laws.proofs.AnnouncingLemmas.{goes_right}
use Rattle.machine_laws.proofs.announcing.changes_are_announced_to_everyone.Goals as goal

-- a reply goes to one connection, and so do the signals of prompts
pub returns : goal.returns
returns c = goes_right
