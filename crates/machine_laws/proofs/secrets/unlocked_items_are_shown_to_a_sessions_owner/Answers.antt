use Rattle.machine_laws.proofs.SecretLemmas.{shown_if_listed, shown_on_calls}
use Rattle.machine_laws.proofs.secrets.unlocked_items_are_shown_to_a_sessions_owner.Goals as goal

pub returns-clause-sound : goal.returns-clause-sound
returns-clause-sound c = shown_if_listed

pub returns-clause-any_state : goal.returns-clause-any_state
returns-clause-any_state c = shown_on_calls
