-- What a crash leaves during several steps of a slot.
use Rattle.std.proofs.Common.{ℕ, ◌⊎◌, ⊎_elim, inl, inr, Result, arith}
use Rattle.kr_outside.specs.RenameDisk.{Image}
use Rattle.kr_outside.specs.Moments.{Elapses, LeavesOnly}

module _ {S : Type 0} (moment : S → ℕ) (left_since : S → ℕ → Image → Type 0) (may_leave : S → Image → Type 0) where
  -- before the first step
  pub LeavesOnly-none : (old : S) (images : Image → Type 0) → ((image : Image) → left_since old (moment old) image → images image)
      → LeavesOnly moment left_since old old images
  LeavesOnly-none old images here = record { later = omega arith; each = here; before = λ t image le left. inl left }

  -- one more step, after which a crash leaves these images
  pub LeavesOnly-step : {T E : Type 0} (old mid new : S) (result : Result T E) (images : Image → Type 0) → LeavesOnly moment left_since old mid images
      → Elapses moment left_since may_leave mid new result → ((image : Image) → may_leave new image → images image)
      → LeavesOnly moment left_since old new images
  LeavesOnly-step old mid new result images so_far step here = record {
    later = omega (arith, so_far.later, step.later);
    each = λ image left. ⊎_elim (so_far.each image) (here image) (step.nothing_else (moment old) image so_far.later left);
    before = λ t image le left. ⊎_elim (so_far.before t image le) (λ now. inr (here image now)) (step.nothing_else t image (omega (arith, le, so_far.later)) left);
  }

module _ {S : Type 0} (moment : S → ℕ) (left_since : S → ℕ → Image → Type 0) where
  -- more images
  pub LeavesOnly-weaker : (old new : S) (images wider : Image → Type 0) → ((image : Image) → images image → wider image)
      → LeavesOnly moment left_since old new images → LeavesOnly moment left_since old new wider
  LeavesOnly-weaker old new images wider within only = record {
    later = only.later;
    each = λ image left. within image (only.each image left);
    before = λ t image le left. ⊎_elim (λ was. inl was) (λ is. inr (within image is)) (only.before t image le left);
  }

  -- one run after another
  pub LeavesOnly-trans : (old mid new : S) (first second : Image → Type 0) → LeavesOnly moment left_since old mid first
      → LeavesOnly moment left_since mid new second → LeavesOnly moment left_since old new (λ image. first image ⊎ second image)
  LeavesOnly-trans old mid new first second p q = record {
    later = omega (arith, p.later, q.later);
    each = λ image left. ⊎_elim (λ was. inl (p.each image was)) (λ is. inr is) (q.before (moment old) image p.later left);
    before = λ t image le left. ⊎_elim
        (λ was. ⊎_elim (λ old_one. inl old_one) (λ is. inr (inl is)) (p.before t image le was))
        (λ is. inr (inr is)) (q.before t image (omega (arith, le, p.later)) left);
  }

  -- one run after another that leaves no fewer images
  pub LeavesOnly-behind : (old mid new : S) (first images : Image → Type 0) → ((image : Image) → first image → images image)
      → LeavesOnly moment left_since old mid first → LeavesOnly moment left_since mid new images → LeavesOnly moment left_since old new images
  LeavesOnly-behind old mid new first images within p q =
      LeavesOnly-weaker old new (λ image. first image ⊎ images image) images (λ image one. ⊎_elim (within image) (λ is. is) one)
      (LeavesOnly-trans old mid new first images p q)
