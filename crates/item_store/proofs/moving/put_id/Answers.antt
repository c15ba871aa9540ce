use Rattle.std.proofs.Common.{sym}
use Rattle.item_store.specs.Rows.{kept_of}
use Rattle.item_store.proofs.IndexLemmas.{at-just}
use Rattle.item_store.proofs.moving.put_id.Goals as goal

pub put_also-requires : goal.put_also-requires
put_also-requires c =
    let there = rw c.in-Some.is at c.get.ensures.row in
    at-just c.args.rows.now c.args.index.now c.requires.kept.rising c.requires.kept.indexed c.args.number (kept_of c.in-Some.row.now) (sym there)
