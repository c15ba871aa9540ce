-- What of item_store may be sent to another thread.
use denote.Param.Send.{IsSend, sendable}
use Rattle.std.proofs.Crossing as heap
use Rattle.shared_service.specs.item_store.specs.contracts.rows.RowList as RowList
use Rattle.shared_service.specs.item_store.specs.contracts.store.ItemStore as ItemStore
use Rattle.service_hub.proofs.Sends.AttributeIndex.{AttributeIndex-send}
use Rattle.service_hub.proofs.Sends.KeyringFile.{FullItem-send}

RowList-send : IsSend RowList.the_row
RowList-send = search (FullItem-send, sendable, heap.crosses) depth 40

pub ItemStore-send : IsSend ItemStore.the_row
ItemStore-send = search (RowList-send, AttributeIndex-send, sendable) depth 40
