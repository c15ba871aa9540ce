-- What of stem_choice may be sent to another thread.
use denote.Param.Send.{IsSend, sendable}
use Rattle.std.proofs.Crossing as heap
use Rattle.stem_choice.specs.contracts.used_stems.UsedStems as UsedStems
use Rattle.service_hub.proofs.Sends.KrBase.{Stem-send}

pub UsedStems-send : IsSend UsedStems.the_row
UsedStems-send = search (Stem-send, sendable, heap.crosses) depth 40
