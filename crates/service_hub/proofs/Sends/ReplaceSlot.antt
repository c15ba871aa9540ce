-- What of replace_slot may be sent to another thread.
use denote.RattleType.{RattleType}
use denote.Param.Send.{IsSend, sendable}
use Rattle.std.proofs.Crossing as heap
use Rattle.kr_outside.specs.declared.slot.Slot as slot
use Rattle.replace_slot.specs.contracts.cell.FileCell as FileCell
use Rattle.replace_slot.specs.contracts.image.Image as Image
use Rattle.replace_slot.specs.contracts.images.Images as Images

Image-send : IsSend Image.the_row
Image-send = search (sendable, heap.crosses) depth 30

Images-send : IsSend Images.the_row
Images-send = search (Image-send, sendable) depth 30

pub FileCell-send : (S : RattleType) (s : slot.Ghosts S.Denot) → IsSend S → IsSend (FileCell.the_row S s)
FileCell-send S s of-slot = search (Images-send, sendable) depth 40
