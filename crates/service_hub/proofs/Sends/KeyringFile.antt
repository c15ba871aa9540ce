-- What of keyring_file may be sent to another thread.
use denote.Param.Send.{IsSend, sendable}
use Rattle.keyring_file.specs.contracts.area.Access as Access
use Rattle.keyring_file.specs.contracts.area.FullItem as FullItem
use Rattle.keyring_file.specs.contracts.clear.Clear as Clear
use Rattle.keyring_file.specs.contracts.clear.ClearItem as ClearItem
use Rattle.service_hub.proofs.Sends.KrBase.{Attributes-send, Bytes-send, HashedPair-send, Text-send}
use Rattle.service_hub.proofs.Sends.KrItems.{Items-send}

ClearItem-send : IsSend ClearItem.the_row
ClearItem-send = search (Text-send, HashedPair-send, Items-send, sendable) depth 40

pub Clear-send : IsSend Clear.the_row
Clear-send = search (Text-send, ClearItem-send, Items-send, sendable) depth 40 fits 20000

Access-send : IsSend Access.the_row
Access-send = search (Text-send, sendable) depth 40

pub FullItem-send : IsSend (FullItem.the_field).row
FullItem-send = search (Text-send, Bytes-send, Attributes-send, Access-send, Items-send, sendable) depth 40 fits 20000
