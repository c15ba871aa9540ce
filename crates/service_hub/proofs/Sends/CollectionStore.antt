-- What of collection_store may be sent to another thread.
use denote.RattleType.{RattleType}
use denote.Param.Send.{IsSend, sendable}
use Rattle.std.proofs.Crossing as heap
use Rattle.kr_outside.specs.declared.slot.Slot as slot
use Rattle.shared_service.specs.collection_store.specs.contracts.collection.Collection as Collection
use Rattle.shared_service.specs.collection_store.specs.contracts.holding.Open as Open
use Rattle.shared_service.specs.collection_store.specs.contracts.told.Told as Told
use Rattle.service_hub.proofs.Sends.HashedIndex.{HashedIndex-send}
use Rattle.service_hub.proofs.Sends.ItemStore.{ItemStore-send}
use Rattle.service_hub.proofs.Sends.KeyringFile.{Clear-send}
use Rattle.service_hub.proofs.Sends.ReplaceSlot.{FileCell-send}

Told-send : IsSend Told.the_row
Told-send = search (Clear-send, HashedIndex-send, sendable) depth 40

Open-send : IsSend Open.the_row
Open-send = search (ItemStore-send, Told-send, sendable) depth 40

pub Collection-send : (S : RattleType) (s : slot.Ghosts S.Denot) → IsSend S → IsSend (Collection.the_row S s)
Collection-send S s of-slot = search (FileCell-send, Told-send, Open-send, sendable, heap.crosses) depth 40
