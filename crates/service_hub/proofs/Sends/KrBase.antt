-- What of kr_base may be sent to another thread.
use denote.Param.Send.{IsSend, IsSync, sendable}
use Rattle.std.proofs.Crossing as heap
use Rattle.kr_base.specs.contracts.text.Text as Text
use Rattle.kr_base.specs.contracts.bytes.Bytes as Bytes
use Rattle.kr_base.specs.contracts.stem.Stem as Stem
use Rattle.kr_base.specs.contracts.attributes.AttrValue as AttrValue
use Rattle.kr_base.specs.contracts.attributes.Attributes as Attributes
use Rattle.kr_base.specs.contracts.hashed.HashedValue as HashedValue
use Rattle.kr_base.specs.contracts.hashed.HashedPair as HashedPair
use Rattle.kr_base.specs.contracts.id_list.IdList as IdList

pub Text-send : IsSend Text.the_row
Text-send = search (sendable, heap.crosses) depth 30

pub Text-sync : IsSync Text.the_row
Text-sync = search (sendable, heap.crosses) depth 30

pub Bytes-send : IsSend Bytes.the_row
Bytes-send = search (sendable, heap.crosses) depth 30

pub Stem-send : IsSend Stem.the_row
Stem-send = search (Text-send, sendable) depth 30

AttrValue-send : IsSend AttrValue.the_row
AttrValue-send = search (Text-send, sendable) depth 30

pub Attributes-send : IsSend Attributes.the_row
Attributes-send = search (Text-send, AttrValue-send, sendable, heap.crosses) depth 30

HashedValue-send : IsSend (HashedValue.the_field).row
HashedValue-send = search (Bytes-send, sendable) depth 30

pub HashedPair-send : IsSend HashedPair.the_row
HashedPair-send = search (Text-send, HashedValue-send, sendable) depth 30

pub IdList-send : IsSend IdList.the_row
IdList-send = search (sendable, heap.crosses) depth 40
