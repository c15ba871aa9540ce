use Rattle.std.proofs.Common.{rules}
use Rattle.std.specs.Ordering.{nat_cmp}
use Rattle.std.proofs.lemmas.Fn.{always_returns_same}
use Rattle.item_store.proofs.PlaceLemmas.{missing, placed}
use Rattle.item_store.proofs.rows.place_of.Goals as goal

-- the closure compares a row's number with the wanted one
pub returns-in-Ok-clause-found : goal.returns-in-Ok-clause-found
returns-in-Ok-clause-found c =
    let equal = c.in-Ok.ensures.position (λ row. nat_cmp row.0.0 c.args.number) (always_returns_same _ _ _ (λ a r g called. (search rules, search rules))) in
    placed c.args.number c.args.rows.now c.in-Ok.place c.in-Ok.ensures.bound equal

pub returns-in-Err-clause-none : goal.returns-in-Err-clause-none
returns-in-Err-clause-none c =
    let parted = c.in-Err.ensures.position (λ row. nat_cmp row.0.0 c.args.number) (always_returns_same _ _ _ (λ a r g called. (search rules, search rules))) in
    missing c.args.number c.args.rows.now c.in-Err.field-0 c.requires parted
