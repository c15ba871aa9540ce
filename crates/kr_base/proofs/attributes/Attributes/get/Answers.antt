use Rattle.std.proofs.Common.{◌≡◌, ap, sym, ◌∙◌, rules, get_or, Some}
use Rattle.std.specs.Cmp.Lexicographic.{slice_cmp}
use Rattle.std.specs.Ordering.{nat_cmp}
use Rattle.std.proofs.lemmas.Fn.{always_returns_same}
use Rattle.kr_base.proofs.AttributeLemmas.{found_at, found_none}
use Rattle.kr_base.proofs.attributes.Attributes.get.Goals as goal

-- the closure compares a pair's name with the one that is looked for
pub returns-in-Ok : goal.returns-in-Ok
returns-in-Ok c =
    let equal = c.in-Ok.ensures.position (λ p. slice_cmp nat_cmp p.0 c.args.name.now) (always_returns_same _ _ _ (λ a r g called. (search rules, search rules))) in
    let items : c.deref.result.now ≡ c.args.self.now = c.deref.ensures.value ∙ c.self.view_is in
    let place : c.index.result.now ≡ get_or c.args.self.now c.in-Ok.place c.index.result.now = rw (← c.self.view_is) c.index.ensures in
    let found = found_at c.args.self.now (rw (← c.self.view_is) c.self.invariant) c.args.name.now c.in-Ok.place c.index.result.now (rw (← items) c.in-Ok.ensures.bound) (rw items at (equal c.index.result.now)) in
    sym (found ∙ ap (λ p. Some p.1) (sym place))

pub returns-in-Err : goal.returns-in-Err
returns-in-Err c =
    let parted = c.in-Err.ensures.position (λ p. slice_cmp nat_cmp p.0 c.args.name.now) (always_returns_same _ _ _ (λ a r g called. (search rules, search rules))) in
    let items : c.deref.result.now ≡ c.args.self.now = c.deref.ensures.value ∙ c.self.view_is in
    sym (found_none c.args.self.now (rw (← c.self.view_is) c.self.invariant) c.args.name.now c.in-Err.field-0 (rw items at parted))
