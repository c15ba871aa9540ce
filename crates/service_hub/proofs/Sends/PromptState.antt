-- What of prompt_state may be sent to another thread.
use denote.Param.Send.{IsSend, sendable}
use Rattle.std.proofs.Crossing as heap
use Rattle.std.proofs.MapsCrossing as maps
use Rattle.prompt_state.specs.contracts.row.PromptKind as PromptKind
use Rattle.prompt_state.specs.contracts.row.PromptRow as PromptRow
use Rattle.prompt_state.specs.contracts.row.Stage as Stage
use Rattle.prompt_state.specs.contracts.table.PromptState as PromptState
use Rattle.prompt_state.specs.contracts.targets.Target as Target
use Rattle.prompt_state.specs.contracts.targets.Targets as Targets
use Rattle.service_hub.proofs.Sends.KrBase.{Stem-send, Text-send}

Target-send : IsSend Target.the_row
Target-send = search (Text-send, Stem-send, sendable) depth 40

Targets-send : IsSend Targets.the_row
Targets-send = search (Target-send, sendable, heap.crosses) depth 40

PromptKind-send : IsSend (PromptKind.the_field).row
PromptKind-send = search (Targets-send, Text-send, sendable) depth 40

Stage-send : IsSend (Stage.the_field).row
Stage-send = search sendable depth 40

PromptRow-send : IsSend (PromptRow.the_field).row
PromptRow-send = search (PromptKind-send, Stage-send, sendable) depth 40 fits 20000

pub PromptState-send : IsSend PromptState.the_row
PromptState-send = search (PromptRow-send, sendable, heap.crosses, maps.crosses) depth 40 fits 20000
