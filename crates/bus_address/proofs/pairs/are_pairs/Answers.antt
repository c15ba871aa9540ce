use Rattle.std.proofs.Common.{◌≡◌, true, false, ◌∙◌, rules}
use Rattle.bus_address.specs.Pairs.{is_pair, has_key, key_of}
use Rattle.bus_address.specs.Pieces.{pieces}
use Rattle.bus_address.proofs.EntryLemmas.{no_pair_here, twice_here}
use Rattle.bus_address.proofs.pairs.are_pairs.Goals as goal
use Rattle.bus_address.proofs.pairs.are_pairs.Goals.{then-not-is_pair-via-then-not-is_pair, then-not-is_pair-via-else-not-is_pair+then-has_key}

pub returns-then-not-is_pair : goal.returns-then-not-is_pair
returns-then-not-is_pair c =
    elim c.then-not-is_pair.branch [
      | then-not-is_pair-via-then-not-is_pair w ↦
          let off : is_pair c.in-Some.pair.now ≡ false = search rules in
          no_pair_here c.loop-pair.rest.now c.in-Some.pair.now c.in-Some.more.now c.in-Some.ensures off ∙ c.loop-pair.invariant
      | then-not-is_pair-via-else-not-is_pair+then-has_key w ↦
          let there : has_key (key_of c.in-Some.pair.now) (pieces 44 c.in-Some.more.now) ≡ true = search rules in
          twice_here c.loop-pair.rest.now c.in-Some.pair.now c.in-Some.more.now c.in-Some.ensures there ∙ c.loop-pair.invariant
    ]
