use Rattle.std.proofs.Common.{Result, Ok, Err, IfOk, ◌↔◌, ◌≡◌, List, ℕ, Contains, IsTrue, filter}
use Rattle.ring_check.specs.Folder.{is_checked}
use Rattle.ring_check.proofs.FindsLemmas.{if_ok, among_checked}
use Rattle.ring_check.proofs.names.checked_in_order.Goals as goal

pub returns-clause-same : goal.returns-clause-same
returns-clause-same c =
    if_ok c.in_order.result _ _ c.in_order.ensures.same (λ sorted same. among_checked c.args.names.items _ sorted.items c.keep_checked.ensures same)
