use Rattle.std.proofs.Common.{ap, sym, ◌∙◌}
use Rattle.std.proofs.lemmas.Result.{on_ok_weaker}
use Rattle.attribute_index.specs.Around.{Around}
use Rattle.attribute_index.specs.Entries.{own_pairs}
use Rattle.attribute_index.specs.Index.{pair_cmp}
use Rattle.attribute_index.proofs.MakingLemmas.{put-last, put-after}
use Rattle.attribute_index.proofs.chain.put_last.Goals as goal

pub returns-in-Equal-clause-put : goal.returns-in-Equal-clause-put
returns-in-Equal-clause-put c =
    let same = sym c.in-Equal.is ∙ c.order.ensures ∙ ap (λ (a : Around). pair_cmp (c.args.name.now, c.args.text.now) (a.name, a.text)) c.deref.ensures in
    on_ok_weaker c.insert.result (put-last c.args.name.now c.args.text.now c.args.id.0 c.fits.ensures _ _ _ (c.behind-last.view_is ∙ c.deref_mut.ensures.value) c.requires.sorted same c.insert.new.self) c.insert.ensures.put

pub returns-in-Greater-clause-put : goal.returns-in-Greater-clause-put
returns-in-Greater-clause-put c =
    let more = sym c.in-Greater.is ∙ c.order.ensures ∙ ap (λ (a : Around). pair_cmp (c.args.name.now, c.args.text.now) (a.name, a.text)) c.deref.ensures in
    on_ok_weaker c.append.result (put-after c.args.name.now c.args.text.now c.args.id.0 c.fits.ensures (own_pairs c.args.done.now.items) _ c.requires.sorted _ more) c.append.ensures
