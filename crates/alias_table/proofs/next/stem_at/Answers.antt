use Rattle.std.proofs.Common.{sym, rules}
use Rattle.std.specs.Cmp.Lexicographic.{slice_cmp}
use Rattle.std.specs.Ordering.{nat_cmp}
use Rattle.std.proofs.lemmas.Fn.{always_returns_same}
use Rattle.kr_base.proofs.AttributeLemmas.{found_at, found_none}
use Rattle.alias_table.proofs.next.stem_at.Goals as goal

-- the closure compares the name of an alias with the name that is looked for
pub returns-in-Ok : goal.returns-in-Ok
returns-in-Ok c =
    let equal = c.in-Ok.ensures.position (λ p. slice_cmp nat_cmp p.0 c.args.name.now) (always_returns_same _ _ _ (λ a r g called. (search rules, search rules))) in
    let found = found_at c.args.aliases.now c.requires c.args.name.now c.in-Ok.place c.index-aliases-place.result c.in-Ok.ensures.bound (equal c.index-aliases-place.result) in
    sym found

pub returns-in-Err : goal.returns-in-Err
returns-in-Err c =
    let parted = c.in-Err.ensures.position (λ p. slice_cmp nat_cmp p.0 c.args.name.now) (always_returns_same _ _ _ (λ a r g called. (search rules, search rules))) in
    sym (found_none c.args.aliases.now c.requires c.args.name.now c.in-Err.field-0 parted)
