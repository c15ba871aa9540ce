-- What of kr_names may be sent to another thread.
use denote.Param.Send.{IsSend, sendable}
use Rattle.kr_names.specs.contracts.object_name.ObjectName as ObjectName
use Rattle.service_hub.proofs.Sends.KrBase.{Stem-send, Text-send}

pub ObjectName-send : IsSend ObjectName.the_row
ObjectName-send = search (Stem-send, Text-send, sendable) depth 30

pub ObjectName-field-send : IsSend (ObjectName.the_field).row
ObjectName-field-send = search (Stem-send, Text-send, sendable) depth 30
