-- What of hashed_index may be sent to another thread.
use denote.Param.Send.{IsSend, sendable}
use Rattle.std.proofs.Crossing as heap
use Rattle.hashed_index.specs.contracts.entries.Entry as Entry
use Rattle.hashed_index.specs.contracts.index.HashedIndex as HashedIndex

Entry-send : IsSend (Entry.the_field).row
Entry-send = search sendable depth 30

pub HashedIndex-send : IsSend HashedIndex.the_row
HashedIndex-send = search (Entry-send, sendable, heap.crosses) depth 30
