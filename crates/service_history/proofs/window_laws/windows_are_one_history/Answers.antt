use Rattle.std.proofs.Common.{◌∙◌, zero-add}
use Rattle.service_history.specs.Windows.{first_window}
use Rattle.service_history.proofs.WindowLemmas.{legal-in_row, replay-in_row, era-in_row}
use Rattle.service_history.proofs.window_laws.windows_are_one_history.Goals as goal

pub returns-clause-legal : goal.returns-clause-legal
returns-clause-legal c = λ start. legal-in_row (first_window start)

pub returns-clause-replay : goal.returns-clause-replay
returns-clause-replay c = λ start. replay-in_row (first_window start)

pub returns-clause-era : goal.returns-clause-era
returns-clause-era c = λ start windows row. era-in_row (first_window start) windows row ∙ zero-add _
