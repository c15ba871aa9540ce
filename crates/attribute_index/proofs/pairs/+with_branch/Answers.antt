use Rattle.std.proofs.Common.{◌∙◌, ap, sym, arith}
use Rattle.attribute_index.specs.Around.{all_of, between}
use Rattle.attribute_index.specs.Branches.{pairs_of}
use Rattle.attribute_index.proofs.BranchLemmas.{are-before, are-after, fewer-before, fewer-after, one-before, one-after}
use Rattle.attribute_index.proofs.HeightLemmas.{lower-after, lower-before}
use Rattle.attribute_index.proofs.pairs.+with_branch.Goals as goal

pub with_branch-before-requires : goal.with_branch-before-requires
with_branch-before-requires t c =
    let are = ap pairs_of c.in-Some.is ∙ c.parted-before.ensures.pairs in
    (omega (arith, c.decreases, fewer-before c.parted-before.result.1.value _ _ _ are), (are-before c.parted-before.result.1.value _ _ _ are c.requires.sorted, lower-before _ _ _ _ c.parted-before.ensures.under c.parted-before.ensures.fits))

-- the side before is as high as it was
pub returns-in-Some-after-clause-pairs : goal.returns-in-Some-after-clause-pairs
returns-in-Some-after-clause-pairs t c =
    let are = ap pairs_of c.in-Some.is ∙ c.parted-before.ensures.pairs in
    let is = rw (c.deref-2.ensures, c.deref-3.ensures) at c.if-is_before.ensures in
    let at = c.with_both.ensures.pairs ∙ ap (λ side. between (all_of c.with_branch-before.result.value) c.parted-before.result.1.value (pairs_of side)) (sym c.in-Some-after.is) in
    one-before c.parted-before.result.1.value _ _ _ are c.requires.sorted c.args.own.value _ _ is at c.with_branch-before.ensures.pairs

pub returns-in-None-after-clause-pairs : goal.returns-in-None-after-clause-pairs
returns-in-None-after-clause-pairs t c =
    let are = ap pairs_of c.in-Some.is ∙ c.parted-before.ensures.pairs in
    let is = rw (c.deref-2.ensures, c.deref-3.ensures) at c.if-is_before.ensures in
    let at = c.balanced.ensures.pairs ∙ ap (λ side. between (all_of c.with_branch-before.result.value) c.parted-before.result.1.value (pairs_of side)) (sym c.in-None-after.is) in
    one-before c.parted-before.result.1.value _ _ _ are c.requires.sorted c.args.own.value _ _ is at c.with_branch-before.ensures.pairs

-- the side before is higher
pub returns-then-is_before-clause-pairs : goal.returns-then-is_before-clause-pairs
returns-then-is_before-clause-pairs t c =
    let are = ap pairs_of c.in-Some.is ∙ c.parted-before.ensures.pairs in
    let is = rw (c.deref-2.ensures, c.deref-3.ensures) at c.if-is_before.ensures in
    one-before c.parted-before.result.1.value _ _ _ are c.requires.sorted c.args.own.value _ _ is c.balanced-then-is_before.ensures.pairs c.with_branch-before.ensures.pairs

pub with_branch-after-requires : goal.with_branch-after-requires
with_branch-after-requires t c =
    let are = ap pairs_of c.in-Some.is ∙ c.parted-before.ensures.pairs in
    (omega (arith, c.decreases, fewer-after c.parted-before.result.1.value _ _ _ are), (are-after c.parted-before.result.1.value _ _ _ are c.requires.sorted, lower-after _ _ _ _ c.parted-before.ensures.under c.parted-before.ensures.fits))

-- the side after is as high as it was
pub returns-in-Some-before-clause-pairs : goal.returns-in-Some-before-clause-pairs
returns-in-Some-before-clause-pairs t c =
    let are = ap pairs_of c.in-Some.is ∙ c.parted-before.ensures.pairs in
    let is = rw (c.deref-2.ensures, c.deref-3.ensures) at c.if-is_before.ensures in
    let at = c.with_both-in-Some-before.ensures.pairs ∙ ap (λ side. between (pairs_of side) c.parted-before.result.1.value (all_of c.with_branch-after.result.value)) (sym c.in-Some-before.is) in
    one-after c.parted-before.result.1.value _ _ _ are c.requires.sorted c.args.own.value _ _ is at c.with_branch-after.ensures.pairs

pub returns-in-None-before-clause-pairs : goal.returns-in-None-before-clause-pairs
returns-in-None-before-clause-pairs t c =
    let are = ap pairs_of c.in-Some.is ∙ c.parted-before.ensures.pairs in
    let is = rw (c.deref-2.ensures, c.deref-3.ensures) at c.if-is_before.ensures in
    let at = c.balanced-in-None-before.ensures.pairs ∙ ap (λ side. between (pairs_of side) c.parted-before.result.1.value (all_of c.with_branch-after.result.value)) (sym c.in-None-before.is) in
    one-after c.parted-before.result.1.value _ _ _ are c.requires.sorted c.args.own.value _ _ is at c.with_branch-after.ensures.pairs

-- the side after is higher
pub returns-clause-pairs : goal.returns-clause-pairs
returns-clause-pairs t c =
    let are = ap pairs_of c.in-Some.is ∙ c.parted-before.ensures.pairs in
    let is = rw (c.deref-2.ensures, c.deref-3.ensures) at c.if-is_before.ensures in
    one-after c.parted-before.result.1.value _ _ _ are c.requires.sorted c.args.own.value _ _ is c.balanced-2.ensures.pairs c.with_branch-after.ensures.pairs
