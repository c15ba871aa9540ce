use Rattle.tool_script.specs.Script.{heard}
use Rattle.client_tool.proofs.TalkingLemmas.{step-unsent}
use Rattle.client_tool.proofs.sending.send_next.Goals as goal

-- the call wasn't sent
pub returns-in-Err-clause-sends : goal.returns-in-Err-clause-sends
returns-in-Err-clause-sends g c =
    let all = heard c.args.script.now c.args.reply in
    step-unsent all.command all.replies c.in-Ok.step c.args.serial _ _ c.in-Err.stop (rw c.in-Ok.ensures.heard at c.in-Ok.ensures.next) c.in-Err.ensures
