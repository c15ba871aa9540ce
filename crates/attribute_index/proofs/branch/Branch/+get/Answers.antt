use Rattle.std.proofs.Common.{◌∙◌, ap, sym, refl, subst, arith, length}
use Rattle.attribute_index.specs.Around.{Around, all_of}
use Rattle.attribute_index.specs.Branches.{pairs_after, pairs_before}
use Rattle.attribute_index.specs.Index.{IsSorted}
use Rattle.attribute_index.proofs.BranchLemmas.{are-before, are-after, fewer-before, fewer-after}
use Rattle.attribute_index.proofs.ThereLemmas.{get-before, get-after, get-same}
use Rattle.attribute_index.proofs.branch.Branch.+get.Goals as goal

pub get-requires : goal.get-requires
get-requires t c =
    let own = c.args.self.now in
    let side = sym (ap (λ (a : Around). a.before) c.self.view_is) ∙ ap pairs_before c.in-Before.is in
    let s = subst IsSorted side (are-before own (all_of own) own.before own.after refl c.requires.sorted) in
    rw c.deref.ensures (omega (arith, c.decreases, ap (λ l. length l) side, fewer-before own (all_of own) own.before own.after refl), (s, c.requires.key))

pub get-requires-in-Both : goal.get-requires-in-Both
get-requires-in-Both t c =
    let own = c.args.self.now in
    let side = sym (ap (λ (a : Around). a.before) c.self.view_is) ∙ ap pairs_before c.in-Both.is in
    let s = subst IsSorted side (are-before own (all_of own) own.before own.after refl c.requires.sorted) in
    rw c.deref-in-Both.ensures (omega (arith, c.decreases, ap (λ l. length l) side, fewer-before own (all_of own) own.before own.after refl), (s, c.requires.key))

pub get-requires-in-After-sides : goal.get-requires-in-After-sides
get-requires-in-After-sides t c =
    let own = c.args.self.now in
    let side = sym (ap (λ (a : Around). a.after) c.self.view_is) ∙ ap pairs_after c.in-After-sides.is in
    let s = subst IsSorted side (are-after own (all_of own) own.before own.after refl c.requires.sorted) in
    rw c.deref-in-After-sides.ensures (omega (arith, c.decreases, ap (λ l. length l) side, fewer-after own (all_of own) own.before own.after refl), (s, c.requires.key))

pub get-requires-in-Both-sides : goal.get-requires-in-Both-sides
get-requires-in-Both-sides t c =
    let own = c.args.self.now in
    let side = sym (ap (λ (a : Around). a.after) c.self.view_is) ∙ ap pairs_after c.in-Both-sides.is in
    let s = subst IsSorted side (are-after own (all_of own) own.before own.after refl c.requires.sorted) in
    rw c.deref-in-Both-sides.ensures (omega (arith, c.decreases, ap (λ l. length l) side, fewer-after own (all_of own) own.before own.after refl), (s, c.requires.key))

pub returns-in-Equal : goal.returns-in-Equal
returns-in-Equal t c = get-same _ c.args.self.now c.self.view_is c.requires.sorted (c.args.name.now, c.args.text.now) c.in-Equal.ensures

pub returns-in-Before : goal.returns-in-Before
returns-in-Before t c =
    let found = rw c.deref.ensures at c.get.ensures in
    get-before _ c.args.self.now c.self.view_is c.requires.sorted (c.args.name.now, c.args.text.now) _ _ (ap pairs_before c.in-Before.is) c.in-Less.ensures found

pub returns-in-Both : goal.returns-in-Both
returns-in-Both t c =
    let found = rw c.deref-in-Both.ensures at c.get-in-Both.ensures in
    get-before _ c.args.self.now c.self.view_is c.requires.sorted (c.args.name.now, c.args.text.now) _ _ (ap pairs_before c.in-Both.is) c.in-Less.ensures found

pub returns-in-After : goal.returns-in-After
returns-in-After t c = get-before _ c.args.self.now c.self.view_is c.requires.sorted (c.args.name.now, c.args.text.now) _ _ (ap pairs_before c.in-After.is) c.in-Less.ensures refl

pub returns-in-Before-sides : goal.returns-in-Before-sides
returns-in-Before-sides t c = get-after _ c.args.self.now c.self.view_is c.requires.sorted (c.args.name.now, c.args.text.now) _ _ (ap pairs_after c.in-Before-sides.is) c.in-Greater.ensures refl

pub returns-in-Both-sides : goal.returns-in-Both-sides
returns-in-Both-sides t c =
    let found = rw c.deref-in-Both-sides.ensures at c.get-in-Both-sides.ensures in
    get-after _ c.args.self.now c.self.view_is c.requires.sorted (c.args.name.now, c.args.text.now) _ _ (ap pairs_after c.in-Both-sides.is) c.in-Greater.ensures found
