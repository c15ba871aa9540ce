use Rattle.std.proofs.Common.{sym}
use Rattle.item_store.specs.Rows.{kept_of}
use Rattle.item_store.proofs.IndexLemmas.{at-just}
use Rattle.item_store.proofs.store.move_id.Goals as goal

pub change-requires : goal.change-requires
change-requires c =
    let there = rw c.in-Some.is at c.get.ensures.row in
    at-just c.args.rows.now c.args.index.now c.requires.kept.rising c.requires.kept.indexed c.args.number (kept_of c.in-Some.row.now) (sym there)
