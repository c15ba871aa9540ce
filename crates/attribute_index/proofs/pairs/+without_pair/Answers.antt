use Rattle.std.proofs.Common.{◌∙◌, ap, arith, sym}
use Rattle.attribute_index.specs.Branches.{pairs_of}
use Rattle.attribute_index.proofs.BranchLemmas.{are-before, are-after, fewer-before, fewer-after, gone-before, gone-after, gone-same}
use Rattle.attribute_index.proofs.pairs.+without_pair.Goals as goal

pub without_pair-before-requires : goal.without_pair-before-requires
without_pair-before-requires t c =
    let are = ap pairs_of c.in-Some.is ∙ c.parted-before.ensures.pairs in
    (omega (arith, c.decreases, fewer-before c.parted-before.result.1.value _ _ _ are), (are-before c.parted-before.result.1.value _ _ _ are c.requires.sorted, c.requires.key))

pub without_pair-after-requires : goal.without_pair-after-requires
without_pair-after-requires t c =
    let are = ap pairs_of c.in-Some.is ∙ c.parted-before.ensures.pairs in
    (omega (arith, c.decreases, fewer-after c.parted-before.result.1.value _ _ _ are), (are-after c.parted-before.result.1.value _ _ _ are c.requires.sorted, c.requires.key))

pub returns-in-Equal-clause-pairs : goal.returns-in-Equal-clause-pairs
returns-in-Equal-clause-pairs t c =
    let are = ap pairs_of c.in-Some.is ∙ c.parted-before.ensures.pairs in
    let order = rw c.deref.ensures at c.in-Equal.ensures in
    gone-same c.parted-before.result.1.value _ _ _ are c.requires.sorted (c.args.name.now, c.args.text.now) _ (sym order) c.joined.ensures.pairs

pub returns-in-Less-clause-pairs : goal.returns-in-Less-clause-pairs
returns-in-Less-clause-pairs t c =
    let are = ap pairs_of c.in-Some.is ∙ c.parted-before.ensures.pairs in
    let order = rw c.deref.ensures at c.in-Less.ensures in
    gone-before c.parted-before.result.1.value _ _ _ are c.requires.sorted (c.args.name.now, c.args.text.now) _ _ (sym order) c.balanced.ensures.pairs c.without_pair-before.ensures.pairs

pub returns-in-Greater-clause-pairs : goal.returns-in-Greater-clause-pairs
returns-in-Greater-clause-pairs t c =
    let are = ap pairs_of c.in-Some.is ∙ c.parted-before.ensures.pairs in
    let order = rw c.deref.ensures at c.in-Greater.ensures in
    gone-after c.parted-before.result.1.value _ _ _ are c.requires.sorted (c.args.name.now, c.args.text.now) _ _ (sym order) c.balanced-in-Greater.ensures.pairs c.without_pair-after.ensures.pairs
