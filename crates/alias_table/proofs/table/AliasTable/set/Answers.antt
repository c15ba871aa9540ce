use Rattle.std.proofs.Common.{refl}
use Rattle.alias_table.specs.Table.{known, unread}
use Rattle.alias_table.proofs.TableLemmas.{sets_settled}
use Rattle.alias_table.proofs.table.AliasTable.set.Goals as goal

-- the file is known
pub returns-then-is_known-clause-sets : goal.returns-then-is_known-clause-sets
returns-then-is_known-clause-sets g c =
    known c.store.result c.store.new.self.rows (c.if-is_known.ensures.known.0 refl) c.store.ensures.stores

-- what was prepared for the image that was found is stored
pub returns-in-Ok-clause-sets : goal.returns-in-Ok-clause-sets
returns-in-Ok-clause-sets g c =
    sets_settled _ c.in-Ok.field-0-0 c.args.change c.args.self.now.rows c.resolve.new.self.rows c.store-in-Ok.new.self.rows c.in-Ok.change.next c.store-in-Ok.result
    (λ known. (let wrong = c.if-is_known.ensures.known.1 known in cc)) (
      record {
        slot = c.resolve.new.self.slot;
        buffer = c.in-Ok.change.buffer;
        later = c.resolve.ensures.kept.later;
        earlier = c.store-in-Ok.ensures.kept.later;
        by_read = c.in-Ok.ensures.by_read;
      },
      c.in-Ok.ensures.by_name,
    )
    c.in-Ok.ensures.resolved c.in-Ok.ensures.chosen c.store-in-Ok.ensures.stores

-- the resolve failed
pub returns-in-Err-clause-sets : goal.returns-in-Err-clause-sets
returns-in-Err-clause-sets g c =
    rw c.in-Err.ensures.unchanged (unread (λ known. (let wrong = c.if-is_known.ensures.known.1 known in cc)))
