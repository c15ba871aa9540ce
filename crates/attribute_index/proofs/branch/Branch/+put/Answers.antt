use Rattle.std.proofs.Common.{◌∙◌, ap, sym, refl, subst, arith, length}
use Rattle.attribute_index.specs.Around.{Around, all_of}
use Rattle.attribute_index.specs.Branches.{pairs_after, pairs_before}
use Rattle.attribute_index.specs.Index.{IsSorted}
use Rattle.attribute_index.proofs.BranchLemmas.{are-before, are-after, fewer-before, fewer-after}
use Rattle.attribute_index.proofs.ThereLemmas.{count-after, count-before, count-same, put-before, put-after, put-same, put-none-before, put-none-after}
use Rattle.attribute_index.proofs.branch.Branch.+put.Goals as goal
use Rattle.attribute_index.proofs.branch.Branch.+put.Goals.{in-Before, in-Both, in-After, in-Neither, in-After-sides, in-Both-sides, in-Before-sides, in-Neither-sides}

pub put-requires : goal.put-requires
put-requires t c =
    let own = c.args.self.now in
    let side = sym (ap (λ (a : Around). a.before) c.self.view_is) ∙ ap pairs_before c.in-Before.is in
    let s = subst IsSorted side (are-before own (all_of own) own.before own.after refl c.requires.sorted) in
    rw c.deref_mut.ensures.value (omega (arith, c.decreases, ap (λ l. length l) side, fewer-before own (all_of own) own.before own.after refl), (s, c.requires.key))

pub put-requires-in-Both : goal.put-requires-in-Both
put-requires-in-Both t c =
    let own = c.args.self.now in
    let side = sym (ap (λ (a : Around). a.before) c.self.view_is) ∙ ap pairs_before c.in-Both.is in
    let s = subst IsSorted side (are-before own (all_of own) own.before own.after refl c.requires.sorted) in
    rw c.deref_mut-in-Both.ensures.value (omega (arith, c.decreases, ap (λ l. length l) side, fewer-before own (all_of own) own.before own.after refl), (s, c.requires.key))

pub put-requires-in-After-sides : goal.put-requires-in-After-sides
put-requires-in-After-sides t c =
    let own = c.args.self.now in
    let side = sym (ap (λ (a : Around). a.after) c.self.view_is) ∙ ap pairs_after c.in-After-sides.is in
    let s = subst IsSorted side (are-after own (all_of own) own.before own.after refl c.requires.sorted) in
    rw c.deref_mut-in-After-sides.ensures.value (omega (arith, c.decreases, ap (λ l. length l) side, fewer-after own (all_of own) own.before own.after refl), (s, c.requires.key))

pub put-requires-in-Both-sides : goal.put-requires-in-Both-sides
put-requires-in-Both-sides t c =
    let own = c.args.self.now in
    let side = sym (ap (λ (a : Around). a.after) c.self.view_is) ∙ ap pairs_after c.in-Both-sides.is in
    let s = subst IsSorted side (are-after own (all_of own) own.before own.after refl c.requires.sorted) in
    rw c.deref_mut-in-Both-sides.ensures.value (omega (arith, c.decreases, ap (λ l. length l) side, fewer-after own (all_of own) own.before own.after refl), (s, c.requires.key))

pub returns-in-Equal-clause-put : goal.returns-in-Equal-clause-put
returns-in-Equal-clause-put t c = put-same _ c.args.self.now c.self.view_is c.requires.sorted (c.args.name.now, c.args.text.now) c.args.id.0 _ _ _ c.in-Equal.ensures c.insert.ensures.put c.insert.ensures.unchanged refl

pub returns-after-self-clause-put : goal.returns-after-self-clause-put
returns-after-self-clause-put t c =
    elim c.match-self.branch [
      | in-Before w ↦ rw (w.self-inside-is, w.result-is) (put-before _ c.args.self.now c.self.view_is c.requires.sorted (c.args.name.now, c.args.text.now) c.args.id.0 _ _ _ _ (ap pairs_before w.in-Before.is) c.in-Less.ensures (rw w.deref_mut.ensures.value at w.put.ensures.put) _ (ap pairs_after w.in-Before.is) refl)
      | in-Both w ↦ rw (w.self-inside-is, w.result-is) (put-before _ c.args.self.now c.self.view_is c.requires.sorted (c.args.name.now, c.args.text.now) c.args.id.0 _ _ _ _ (ap pairs_before w.in-Both.is) c.in-Less.ensures (rw w.deref_mut-in-Both.ensures.value at w.put-in-Both.ensures.put) _ (ap pairs_after w.in-Both.is) refl)
      | in-After w ↦ rw (w.self-inside-is, w.result-is) (put-none-before _ c.args.self.now c.self.view_is c.requires.sorted (c.args.name.now, c.args.text.now) _ (ap pairs_before w.in-After.is) c.in-Less.ensures refl)
      | in-Neither w ↦ rw (w.self-inside-is, w.result-is) (put-none-before _ c.args.self.now c.self.view_is c.requires.sorted (c.args.name.now, c.args.text.now) _ (ap pairs_before w.in-Neither.is) c.in-Less.ensures refl)
    ]

pub returns-after-self-2-clause-put : goal.returns-after-self-2-clause-put
returns-after-self-2-clause-put t c =
    elim c.match-self-2.branch [
      | in-After-sides w ↦ rw (w.self-inside-is, w.result-is) (put-after _ c.args.self.now c.self.view_is c.requires.sorted (c.args.name.now, c.args.text.now) c.args.id.0 _ _ _ _ (ap pairs_after w.in-After-sides.is) c.in-Greater.ensures (rw w.deref_mut-in-After-sides.ensures.value at w.put-in-After-sides.ensures.put) _ (ap pairs_before w.in-After-sides.is) refl)
      | in-Both-sides w ↦ rw (w.self-inside-is, w.result-is) (put-after _ c.args.self.now c.self.view_is c.requires.sorted (c.args.name.now, c.args.text.now) c.args.id.0 _ _ _ _ (ap pairs_after w.in-Both-sides.is) c.in-Greater.ensures (rw w.deref_mut-in-Both-sides.ensures.value at w.put-in-Both-sides.ensures.put) _ (ap pairs_before w.in-Both-sides.is) refl)
      | in-Before-sides w ↦ rw (w.self-inside-is, w.result-is) (put-none-after _ c.args.self.now c.self.view_is c.requires.sorted (c.args.name.now, c.args.text.now) _ (ap pairs_after w.in-Before-sides.is) c.in-Greater.ensures refl)
      | in-Neither-sides w ↦ rw (w.self-inside-is, w.result-is) (put-none-after _ c.args.self.now c.self.view_is c.requires.sorted (c.args.name.now, c.args.text.now) _ (ap pairs_after w.in-Neither-sides.is) c.in-Greater.ensures refl)
    ]

-- as many pairs as before
pub returns-after-self-clause-count : goal.returns-after-self-clause-count
returns-after-self-clause-count t c =
    elim c.match-self.branch [
      | in-Before w ↦ rw w.self-inside-is (count-before _ c.args.self.now c.self.view_is _ _ _ _ (ap pairs_before w.in-Before.is) (ap pairs_after w.in-Before.is) (rw w.deref_mut.ensures.value at w.put.ensures.count) refl)
      | in-Both w ↦ rw w.self-inside-is (count-before _ c.args.self.now c.self.view_is _ _ _ _ (ap pairs_before w.in-Both.is) (ap pairs_after w.in-Both.is) (rw w.deref_mut-in-Both.ensures.value at w.put-in-Both.ensures.count) refl)
      | in-After w ↦ rw w.self-inside-is (count-same _ c.args.self.now _ c.self.view_is refl)
      | in-Neither w ↦ rw w.self-inside-is (count-same _ c.args.self.now _ c.self.view_is refl)
    ]

pub returns-after-self-2-clause-count : goal.returns-after-self-2-clause-count
returns-after-self-2-clause-count t c =
    elim c.match-self-2.branch [
      | in-After-sides w ↦ rw w.self-inside-is (count-after _ c.args.self.now c.self.view_is _ _ _ _ (ap pairs_after w.in-After-sides.is) (ap pairs_before w.in-After-sides.is) (rw w.deref_mut-in-After-sides.ensures.value at w.put-in-After-sides.ensures.count) refl)
      | in-Both-sides w ↦ rw w.self-inside-is (count-after _ c.args.self.now c.self.view_is _ _ _ _ (ap pairs_after w.in-Both-sides.is) (ap pairs_before w.in-Both-sides.is) (rw w.deref_mut-in-Both-sides.ensures.value at w.put-in-Both-sides.ensures.count) refl)
      | in-Before-sides w ↦ rw w.self-inside-is (count-same _ c.args.self.now _ c.self.view_is refl)
      | in-Neither-sides w ↦ rw w.self-inside-is (count-same _ c.args.self.now _ c.self.view_is refl)
    ]
