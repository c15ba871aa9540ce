use Rattle.kr_dialer.specs.Carrying.{link_of}
use Rattle.client_tool.proofs.RunningLemmas.{converse-never}
use Rattle.client_tool.proofs.running.converse.Goals as goal

-- there was no memory for a piece
pub returns-in_default : goal.returns-in_default
returns-in_default g c =
    let it = g.D.Dialer in
    converse-never c.args.uid c.args.script.now.command (link_of it.dialled it.left it.written it.faults it.is_steady c.args.dialer.now)
