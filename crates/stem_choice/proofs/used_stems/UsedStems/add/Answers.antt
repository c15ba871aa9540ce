use Rattle.std.proofs.Common.{◌≡◌, true, sym, rules}
use Rattle.stem_choice.specs.UsedStems.{is_used}
use Rattle.stem_choice.proofs.UsedLemmas.{with_stem-used}
use Rattle.stem_choice.proofs.used_stems.UsedStems.add.Goals as goal

-- the stem is there
pub returns-then-has_in-clause-added : goal.returns-then-has_in-clause-added
returns-then-has_in-clause-added c =
    let there : is_used c.args.stem.now c.args.self.now.stems ≡ true = search rules in
    sym (with_stem-used c.args.stem.now c.args.self.now.stems c.as_slice.ensures.ordered there)
