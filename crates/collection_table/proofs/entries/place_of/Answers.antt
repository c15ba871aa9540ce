use Rattle.std.proofs.Common.{rules}
use Rattle.std.specs.Cmp.Lexicographic.{slice_cmp}
use Rattle.std.specs.Ordering.{nat_cmp}
use Rattle.std.proofs.lemmas.Fn.{always_returns_same}
use Rattle.kr_base.proofs.AttributeLemmas.{found_none}
use Rattle.collection_table.proofs.EntryLemmas.{placed}
use Rattle.collection_table.proofs.entries.place_of.Goals as goal

-- the closure compares a stem with the one that is looked for
pub returns-in-Ok-clause-found : goal.returns-in-Ok-clause-found
returns-in-Ok-clause-found g c =
    let equal = c.in-Ok.ensures.position (λ p. slice_cmp nat_cmp p.0 c.args.stem.now) (always_returns_same _ _ _ (λ a r h called. (search rules, search rules))) in
    placed c.args.entries.now c.args.stem.now c.in-Ok.place c.in-Ok.ensures.bound equal

pub returns-in-Err-clause-none : goal.returns-in-Err-clause-none
returns-in-Err-clause-none g c =
    let parted = c.in-Err.ensures.position (λ p. slice_cmp nat_cmp p.0 c.args.stem.now) (always_returns_same _ _ _ (λ a r h called. (search rules, search rules))) in
    found_none c.args.entries.now c.requires c.args.stem.now c.in-Err.field-0 parted
