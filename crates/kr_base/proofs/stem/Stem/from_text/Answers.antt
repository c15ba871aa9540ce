use Rattle.std.proofs.Common.{refl}
use Rattle.kr_base.proofs.stem.Stem.from_text.Goals as goal

pub returns-then-not-is_stem-clause-no_stem : goal.returns-then-not-is_stem-clause-no_stem
returns-then-not-is_stem-clause-no_stem c = (λ _. rw (← c.as_str.ensures.value) (c.if-not-is_stem.ensures.no), λ _. refl)
