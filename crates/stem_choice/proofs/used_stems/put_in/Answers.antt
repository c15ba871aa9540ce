use Rattle.std.proofs.Common.{sym, ◌∙◌, rules}
use Rattle.std.specs.Cmp.Lexicographic.{slice_cmp}
use Rattle.std.specs.Ordering.{nat_cmp}
use Rattle.std.proofs.lemmas.Fn.{always_returns_same}
use Rattle.stem_choice.proofs.UsedLemmas.{found, inserted, with_room, with_stem-used}
use Rattle.stem_choice.proofs.used_stems.put_in.Goals as goal

-- the stem is there
pub returns-in-Ok-clause-stems : goal.returns-in-Ok-clause-stems
returns-in-Ok-clause-stems c =
    let equal = c.in-Ok.ensures.position (λ p. slice_cmp nat_cmp p c.args.stem) (always_returns_same _ _ _ (λ a r h called. (search rules, search rules))) in
    let there = found c.args.stem _ c.in-Ok.field-0 c.in-Ok.ensures.bound equal in
    sym (with_stem-used c.args.stem c.args.stems.now.items c.requires.order (rw c.deref.ensures.value at there))

-- the search missed at the place between those before it and those after it
pub returns-in-Err-clause-stems : goal.returns-in-Err-clause-stems
returns-in-Err-clause-stems c =
    let gap = c.in-Err.ensures.position (λ p. slice_cmp nat_cmp p c.args.stem) (always_returns_same _ _ _ (λ a r h called. (search rules, search rules))) in
    let within = rw c.deref.ensures.value at c.in-Err.ensures.bound in
    let there = rw c.deref.ensures.value at gap in
    let made = inserted c.args.stem c.args.stems.now.items c.in-Err.place c.requires.order within there in
    with_room c.insert.result _ _ _ (c.insert.ensures.succeeds c.requires.room) c.insert.ensures.items ∙ made
