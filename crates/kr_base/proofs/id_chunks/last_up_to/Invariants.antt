use Rattle.std.proofs.Common.{◌-◌, ◌<◌, ◌≤◌, length, slice_index}
use Rattle.kr_base.specs.IdLists.{keys}
use Rattle.kr_base.proofs.id_chunks.last_up_to.Given as goal

abbrev pub invariant-loop-high : goal.invariant-loop-high
invariant-loop-high l =
    (l.low < l.high) × (l.high ≤ length l.chunks)
    × (0 < l.low → slice_index (keys l.by l.chunks) l.low ≤ l.bound)
    × (l.high < length l.chunks → l.bound < slice_index (keys l.by l.chunks) l.high)

abbrev pub decreases-loop-high : goal.decreases-loop-high
decreases-loop-high l = l.high - l.low
