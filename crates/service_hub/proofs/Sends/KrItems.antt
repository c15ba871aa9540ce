-- What of kr_items may be sent to another thread.
use denote.RattleType.{RattleType}
use denote.Param.Send.{IsSend, IsSync, sendable}
use Rattle.std.proofs.Crossing as heap
use Rattle.kr_items.specs.contracts.items.Items as Items

pub Items-send : (T : RattleType) → IsSend T → IsSend (Items.the_row T)
Items-send T of-element = search (sendable, heap.crosses) depth 30

pub Items-sync : (T : RattleType) → IsSync T → IsSync (Items.the_row T)
Items-sync T of-element = search (sendable, heap.crosses) depth 30
