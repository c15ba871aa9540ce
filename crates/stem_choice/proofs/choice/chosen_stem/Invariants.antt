use Rattle.std.proofs.Common.{◌+◌, ◌-◌, length}
use Rattle.stem_choice.proofs.ChoiceLemmas.{LooksAt}
use Rattle.stem_choice.proofs.choice.chosen_stem.Given as goal

abbrev pub invariant-loop-count : goal.invariant-loop-count
invariant-loop-count l = LooksAt l.label l.used.stems l.text.items l.count

abbrev pub decreases-loop-count : goal.decreases-loop-count
decreases-loop-count l = length l.used.stems + 1 - l.count
