-- The messages so far, and those of the calls that are left, are all messages.
use Rattle.std.proofs.Common.{◌≡◌, ◌≤◌, ◌<◌, ◌+◌, ◌++◌, length}
use Rattle.std.specs.List.{AllByRecursion}
use Rattle.client_core.specs.Askable.{IsAskable}
use Rattle.load_plan.specs.Sending.{sent_from}
use Rattle.load_plan.proofs.sending.add_messages.Given as goal

abbrev pub invariant-loop-rest : goal.invariant-loop-rest
invariant-loop-rest l =
    (l.bytes.items ++ sent_from l.serial l.rest ≡ l.fn.bytes.items ++ sent_from 1 l.calls) × AllByRecursion IsAskable l.rest × (1 ≤ l.serial) × (l.serial + length l.rest < 4294967296)

abbrev pub decreases-loop-rest : goal.decreases-loop-rest
decreases-loop-rest l = length l.rest
