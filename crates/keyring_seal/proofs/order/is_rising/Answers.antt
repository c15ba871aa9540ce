use Rattle.std.proofs.Common.{ℕ, ◌+◌, refl, ap, arith}
use Rattle.keyring_file.specs.declared.clear.ClearItem.{ClearItem}
use Rattle.keyring_seal.proofs.RisingLemmas.{place_by_rising, rising_at, rising_by_place, rising_end}
use Rattle.keyring_seal.proofs.order.is_rising.Goals as goal

pub returns : goal.returns
returns c =
    let rising = c.loop-i.invariant (rising_end (λ item. item.id.0) c.args.clear.now c.loop-i.i (omega arith)) in
    (λ _. place_by_rising (λ (item : ClearItem). item.id.0) c.args.clear.now rising, λ _. refl)

pub returns-then-clear-i : goal.returns-then-clear-i
returns-then-clear-i c = (
  λ no. absurd cc,
  λ increasing.
      let xs = c.args.clear.now in
      let number : ClearItem → ℕ = λ item. item.id.0 in
      let rising = rising_by_place number xs increasing in
      let up = rising_at number xs c.loop-i.i (c.loop-i.i + 1) c.index-clear-i.result c.index-clear-i-in-loop-i.result refl (omega arith) rising in
      let here = ap number c.index-clear-i.is in
      let next = ap number c.index-clear-i-in-loop-i.is in
      absurd (omega (arith, up, here, next, c.if-clear-i.true)),
)
