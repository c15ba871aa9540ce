use Rattle.collection_store.proofs.AnswerLemmas.{answer_known}
use Rattle.collection_store.proofs.collection.Collection.answer_to.Goals as goal

pub returns : goal.returns
returns g c = λ now.
    let kept = rw c.in-Some.is at c.self.invariant in
    rw (← c.self.view_is, c.in-Some.is) (answer_known c.args.change.now now c.self.inside.cell.slot c.self.inside.cell.file c.self.inside.told c.self.inside.newer c.in-Some.held c.answer_in.result kept c.answer_in.ensures)
