use Rattle.std.proofs.Common.{◌+◌, ◌∙◌, refl, ap, arith}
use Rattle.keyring_seal.proofs.RisingLemmas.{place_by_rising, rising_at, rising_by_place, rising_end}
use Rattle.collection_store.proofs.order.is_rising.Goals as goal

pub returns : goal.returns
returns g c =
    let rising = c.loop-i.invariant (rising_end g.T.Numbered.number_of c.args.these.now c.loop-i.i (omega arith)) in
    (λ _. place_by_rising g.T.Numbered.number_of c.args.these.now rising, λ _. refl)

pub returns-then-number : goal.returns-then-number
returns-then-number g c = (
  λ never. absurd cc,
  λ increasing.
      let xs = c.args.these.now in
      let number = g.T.Numbered.number_of in
      let rising = rising_by_place number xs increasing in
      let up = rising_at number xs c.loop-i.i (c.loop-i.i + 1) c.index-these-i.result c.index-these-i-in-loop-i.result refl (omega arith) rising in
      let here = c.number.ensures ∙ ap number c.index-these-i.is in
      let next = c.number-in-loop-i.ensures ∙ ap number c.index-these-i-in-loop-i.is in
      absurd (omega (arith, up, here, next, c.if-number.true)),
)
