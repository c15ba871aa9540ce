-- What the result of sealing says, clause by clause.
use Rattle.std.proofs.Common.{◌≡◌, ℕ, ◌≤◌, ◌<◌, List, length, Result, Ok, Err, refl, sym, subst, arith}
use Rattle.std.specs.Prelude.{IfOk, OnOk, IsErrOf, Vec}
use Rattle.std.specs.declared.alloc.Global.{Global}
use Rattle.keyring_seal.specs.Room.{Seals}
use Rattle.keyring_seal.specs.declared.sealing.SealRefused.{SealRefused}
use Rattle.keyring_seal.specs.declared.sealing.SealRefused.TheVariants as refused

module _ (room : ℕ) (text : List ℕ) where
  pub seals_text : (r : Result (Vec ℕ Global) SealRefused) → Seals room text r → IfOk r (λ file. file.items ≡ text)
  seals_text (Ok file) h = h.0
  seals_text (Err e) h = tt

  pub seals_within : (r : Result (Vec ℕ Global) SealRefused) → Seals room text r → OnOk r (length text ≤ room)
  seals_within (Ok file) h = h.1
  seals_within (Err e) h = tt

  pub seals_over : (r : Result (Vec ℕ Global) SealRefused) → Seals room text r → IsErrOf r refused.TooLarge → room < length text
  seals_over (Ok file) h is = absurd cc
  seals_over (Err refused.TooLarge) h is = h
  seals_over (Err refused.OutOfMemory) h is = absurd cc

  pub seals_measured : (r : Result (Vec ℕ Global) SealRefused) → Seals room text r → room < length text → IsErrOf r refused.TooLarge
  seals_measured (Ok file) h over = absurd (omega (arith, h.1, over))
  seals_measured (Err refused.TooLarge) h over = refl
  seals_measured (Err refused.OutOfMemory) h over = absurd (omega (arith, h, over))

  -- what is true of a text for which there is room is true of the file
  pub seals_so : (Q : List ℕ → Type 0) → (length text ≤ room → Q text) → (r : Result (Vec ℕ Global) SealRefused) → Seals room text r → IfOk r (λ file. Q file.items)
  seals_so Q so (Ok file) h = subst Q (sym h.0) (so h.1)
  seals_so Q so (Err e) h = tt
