-- The statuses of the tool, and their numbers (docs/secret_tool.1, "EXIT STATUS").
use Rattle.std.specs.Prelude.{ℕ}
use Rattle.tool_script.specs.declared.steps.ScriptStatus.{ScriptStatus}
use Rattle.tool_script.specs.declared.steps.ScriptStatus.TheVariants as script
use Rattle.client_tool.specs.declared.status.BadReply.TheVariants as bad
use Rattle.client_tool.specs.declared.status.Stop.{Stop}
use Rattle.client_tool.specs.declared.status.Stop.TheVariants as stop
use Rattle.client_tool.specs.declared.status.ToolStatus.{ToolStatus}
use Rattle.client_tool.specs.declared.status.ToolStatus.TheVariants as status

-- the exit status of a process
abbrev pub number_of : ToolStatus → ℕ
number_of status.Done = 0
number_of status.NotFound = 1
number_of status.Usage = 2
number_of status.LinkFault = 3
number_of status.OutputFault = 4
number_of (status.Refused name) = 5
number_of (status.BadReply cause) = 6
number_of status.Locked = 7
number_of status.InputFault = 8
number_of status.Memory = 9
number_of status.TooLarge = 10

-- the status of a run whose script ended so
abbrev pub status_of : ScriptStatus → ToolStatus
status_of script.Done = status.Done
status_of script.NotFound = status.NotFound
status_of script.Locked = status.Locked
status_of (script.Refused name) = status.Refused name
status_of script.BadReply = status.BadReply bad.OtherValues

-- the status of a run that stopped so
abbrev pub stopped_with : Stop → ToolStatus
stopped_with stop.InputFault = status.InputFault
stopped_with stop.LinkFault = status.LinkFault
stopped_with (stop.BadReply cause) = status.BadReply cause
stopped_with stop.Memory = status.Memory
stopped_with stop.TooLarge = status.TooLarge
