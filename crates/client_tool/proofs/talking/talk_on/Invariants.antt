-- Whatever came before: the script's calls up to the one that waits are sent, and the replies to those before it came.
use Rattle.std.proofs.Common.{◌≡◌, ℕ, List}
use Rattle.kr_dialer.specs.Carrying.{LinkState, link_of}
use Rattle.client_tool.specs.Talking.{most_bytes, Talking}
use Rattle.client_tool.proofs.talking.talk_on.Given as goal

abbrev pub invariant-loop : goal.invariant-loop
invariant-loop g l =
    let it = g.D.Dialer in
    (l.framer.most ≡ most_bytes) × (it.dialled l.dialer ≡ it.dialled l.fn.dialer)
    × ((before : List ℕ) (start : LinkState)
    → Talking l.fn.script.command before l.fn.framer.rest l.fn.call 1 l.fn.script.replies start (link_of it.dialled it.left it.written it.faults it.is_steady l.fn.dialer)
    → (l.script.command ≡ l.fn.script.command)
    × Talking l.fn.script.command before l.framer.rest l.call l.serial l.script.replies start (link_of it.dialled it.left it.written it.faults it.is_steady l.dialer))
