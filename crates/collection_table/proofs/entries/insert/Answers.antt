use Rattle.std.proofs.Common.{◌∙◌, rules}
use Rattle.std.specs.Cmp.Lexicographic.{slice_cmp}
use Rattle.std.specs.Ordering.{nat_cmp}
use Rattle.std.proofs.lemmas.Fn.{always_returns_same}
use Rattle.collection_table.proofs.EntryLemmas.{insert_parted, missed, placed, with_room}
use Rattle.collection_table.proofs.entries.insert.Goals as goal

-- the stem isn't there
pub unreachable-requires : goal.unreachable-requires
unreachable-requires g c =
    let equal = c.in-Ok.ensures.position (λ p. slice_cmp nat_cmp p.0 c.args.stem) (always_returns_same _ _ _ (λ a r h called. (search rules, search rules))) in
    let there = placed _ c.args.stem c.in-Ok.field-0 c.in-Ok.ensures.bound equal in
    missed c.args.stem c.args.entries.now.items c.in-Ok.field-0 c.requires.order c.requires.none (rw c.deref.ensures.value at there)

-- the search missed at the place between those before it and those after it
pub returns-clause-entries : goal.returns-clause-entries
returns-clause-entries g c =
    let parted = c.in-Err.ensures.position (λ p. slice_cmp nat_cmp p.0 c.args.stem) (always_returns_same _ _ _ (λ a r h called. (search rules, search rules))) in
    let within = rw c.deref.ensures.value at c.in-Err.ensures.bound in
    let there = rw c.deref.ensures.value at parted in
    let made = insert_parted c.args.stem c.args.collection c.args.entries.now.items c.in-Err.place c.requires.order within there in
    with_room c.insert.result _ _ _ (c.insert.ensures.succeeds c.requires.room) c.insert.ensures.items ∙ made
