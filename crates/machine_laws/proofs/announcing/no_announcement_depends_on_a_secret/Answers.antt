use Rattle.machine_laws.proofs.HiddenLemmas.{closing_hidden, demand_hidden, opening_alone, reading_hidden}
use Rattle.machine_laws.proofs.announcing.no_announcement_depends_on_a_secret.Goals as goal

-- which item is made or changed depends on numbers and attributes alone
pub returns-clause-stored : goal.returns-clause-stored
returns-clause-stored c = demand_hidden

-- the label of a collection is in its clear part
pub returns-clause-read : goal.returns-clause-read
returns-clause-read c = reading_hidden

pub returns-clause-locked : goal.returns-clause-locked
returns-clause-locked c = closing_hidden

pub returns-clause-unlocked : goal.returns-clause-unlocked
returns-clause-unlocked c = opening_alone
