use Rattle.std.proofs.Common.{◌≡◌, true, ◌∙◌, rules}
use Rattle.std.specs.Str.{bytes_eq}
use Rattle.bus_address.specs.Pairs.{key_of}
use Rattle.bus_address.proofs.EntryLemmas.{key_here}
use Rattle.bus_address.proofs.pairs.has_key.Goals as goal

pub returns-then-is_key : goal.returns-then-is_key
returns-then-is_key c =
    let is : true ≡ bytes_eq (key_of c.in-Some.pair.now) c.args.key.now = search rules in
    key_here c.args.key.now c.loop-pair.rest.now c.in-Some.pair.now c.in-Some.more.now c.in-Some.ensures is ∙ c.loop-pair.invariant
