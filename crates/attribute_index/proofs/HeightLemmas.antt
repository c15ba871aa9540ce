-- How many pairs a balanced tree of a height has.
use Rattle.std.proofs.Common.{◌≡◌, ℕ, zero, suc, ◌+◌, ◌-◌, ◌*◌, ◌/◌, ◌^◌, ◌<◌, ◌≤◌, max, arith, sym, subst, ⊎_elim}
use Rattle.std.proofs.Math.Nat.{le-max_left, le-max_right, max-eq_left}
use Rattle.std.proofs.Math.Pow.{pow_mono}
use Rattle.std.proofs.lemmas.Nat.{pow_pos}
use Rattle.std.proofs.lemmas.Bool.{cases_lt}
use Rattle.attribute_index.specs.Entries.{Fill}
use Rattle.attribute_index.specs.Heights.{DifferByAtMost, fewest, greatest_height}

-- ---- the higher of two sides

pub lower-before : (a b m most : ℕ) → m ≡ max a b → m < most → a < most
lower-before a b m most is fits = omega (arith, is, fits, le-max_left a b)

pub lower-after : (a b m most : ℕ) → m ≡ max a b → m < most → b < most
lower-after a b m most is fits = omega (arith, is, fits, le-max_right a b)

-- ---- one level more

fewest-more : (h : ℕ) → fewest h ≤ fewest (suc h)
fewest-more zero = omega arith
fewest-more (suc zero) = omega arith
fewest-more (suc (suc h)) = omega arith

-- ---- a tree of few pairs has few levels

fewest-above : (h more : ℕ) → fewest h ≤ fewest (more + h)
fewest-above h zero =
    let is : zero + h ≡ h = omega arith in
    subst (λ k. fewest h ≤ fewest k) (sym is) (omega arith)
fewest-above h (suc more) =
    let below = fewest-above h more in
    let step = fewest-more (more + h) in
    let is : suc more + h ≡ suc (more + h) = omega arith in
    subst (λ k. fewest h ≤ fewest k) (sym is) (omega (arith, below, step))

fewest-doubled : (bits : ℕ) → 2 ^ suc bits ≤ fewest (2 * bits + 1) + 1
fewest-doubled zero = omega arith
fewest-doubled (suc bits) =
    let below = fewest-doubled bits in
    let step = fewest-more (2 * bits + 1) in
    let is : 2 * suc bits + 1 ≡ suc (suc (2 * bits + 1)) = omega arith in
    subst (λ k. 2 ^ suc (suc bits) ≤ fewest k + 1) (sym is) (omega (arith, below, step))

pub few-levels : (bits h count : ℕ) → fewest h ≤ count → count < 2 ^ bits → h ≤ 2 * bits
few-levels bits h count many few =
    ⊎_elim
    (λ high.
    let is : (h - (2 * bits + 1)) + (2 * bits + 1) ≡ h = omega (arith, high) in
    let more : fewest (2 * bits + 1) ≤ fewest h = subst (λ k. fewest (2 * bits + 1) ≤ fewest k) is (fewest-above (2 * bits + 1) (h - (2 * bits + 1))) in
    let doubled = fewest-doubled bits in
    omega (arith, more, doubled, many, few))
    (λ low. low)
    (cases_lt (2 * bits) h)

-- ---- two halves that fill trees

-- a number below the double of a power is below that of a height that isn't less
fill-below : (a b ha hb : ℕ) → a ≤ b + 1 → Fill a ha → Fill b hb → ha ≤ hb + 1
fill-below a b ha hb near one other =
    ⊎_elim
    (λ high.
    let more = pow_mono {i = suc (suc hb)} {j = ha} (omega (arith, high)) in
    let some = pow_pos hb in
    absurd (omega (arith, more, some, near, one.1, other.0)))
    (λ low. low)
    (cases_lt (hb + 1) ha)

fill-least : (a b ha hb : ℕ) → b ≤ a → Fill a ha → Fill b hb → hb ≤ ha
fill-least a b ha hb less one other =
    ⊎_elim
    (λ high.
    let more = pow_mono {i = suc ha} {j = hb} (omega (arith, high)) in
    absurd (omega (arith, more, less, one.0, other.1)))
    (λ low. low)
    (cases_lt ha hb)

-- one level above two halves
fill-more : (count half h : ℕ) → 0 < count → 2 * half ≤ count → count ≤ 2 * half + 1 → Fill half h → Fill count (suc h)
fill-more count half zero some low high fill = (omega (arith, some, low, high, fill.0), omega (arith, some, low, high, fill.1))
fill-more count half (suc h) some low high fill = (omega (arith, some, low, high, fill.0), omega (arith, some, low, high, fill.1))

module _ (count ha hb : ℕ) (some : 0 < count) (one : Fill (count / 2) ha) (other : Fill ((count - 1) / 2) hb) where
  lower : hb ≤ ha
  lower = fill-least (count / 2) ((count - 1) / 2) ha hb (omega (arith, some)) one other

  higher : max ha hb ≡ ha
  higher = max-eq_left lower

  pub halves-alike : DifferByAtMost 1 ha hb
  halves-alike = (fill-below (count / 2) ((count - 1) / 2) ha hb (omega (arith, some)) one other, omega (arith, lower))

  pub halves-fit : count < 18446744073709551616 → max ha hb < greatest_height
  halves-fit fits =
      ⊎_elim
      (λ high.
      let more = pow_mono {i = 65} {j = ha} (omega (arith, high)) in
      absurd (omega (arith, more, fits, one.1)))
      (λ low. omega (arith, low, higher))
      (cases_lt 254 ha)

  pub halves-fill : (h : ℕ) → h ≡ max ha hb → Fill count (h + 1)
  halves-fill h is =
      let more = fill-more count (count / 2) ha some (omega arith) (omega arith) one in
      let same : suc ha ≡ h + 1 = omega (arith, is, higher) in
      subst (Fill count) same more
