-- A call of a script can be asked.
use Rattle.std.proofs.Common.{◌≡◌, Some}
use Rattle.std.proofs.lemmas.Result.{IfOk-weaker}
use Rattle.tool_script.specs.Script.{step_after, CanBeSent}
use Rattle.tool_script.proofs.TextLemmas.{step-can}
use Rattle.tool_script.proofs.script.Script.next.Goals as goal

pub returns-clause-can_be_sent : goal.returns-clause-can_be_sent
returns-clause-can_be_sent c =
    IfOk-weaker c.step_after.result (λ it. step_after c.self.inside.command c.as_slice.result.now ≡ Some it) CanBeSent
    (λ it is. step-can (λ path name at. (c.a_path_is_that_of_its_name.ensures path name).1 at) c.self.inside.command c.as_slice.result.now it c.self.invariant is) c.step_after.ensures
