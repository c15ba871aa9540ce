-- What was read so far is the secret so far, which isn't too long.
use Rattle.std.proofs.Common.{◌≡◌, ◌≤◌, length}
use Rattle.client_tool.specs.Streams.{input_of, Took}
use Rattle.client_tool.specs.Secrets.{most_secret}
use Rattle.client_tool.proofs.secret.read_all.Given as goal

abbrev pub invariant-loop : goal.invariant-loop
invariant-loop g l =
    let it = g.I.Source in
    Took (input_of it.left it.faults it.is_steady it.is_closed l.fn.input) (input_of it.left it.faults it.is_steady it.is_closed l.input) l.secret.items
    × (length l.secret.items ≤ most_secret) × (it.faults l.input ≡ it.faults l.fn.input)
