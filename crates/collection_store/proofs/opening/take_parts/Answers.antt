use Rattle.std.proofs.Common.{List, refl, ap, sym, subst, ◌∙◌}
use Rattle.keyring_file.specs.Clear.{ClearPart}
use Rattle.keyring_file.specs.declared.area.FullItem.{FullItem}
use Rattle.collection_store.specs.State.{AreParts, by_id, without_hashes}
use Rattle.collection_store.proofs.opening.take_parts.Goals as goal

-- the two clear parts are the same except for the hashes
pub take_own-written-requires : goal.take_own-written-requires
take_own-written-requires c = c.in_ok-own.ensures.same ∙ ap (λ (t : ClearPart). without_hashes t) (sym c.requires.shown)

pub returns-then-is_in_place : goal.returns-then-is_in_place
returns-then-is_in_place c =
    let given = c.in_ok-store.ensures in
    let parts = subst (λ (these : List FullItem). AreParts (record { clear = c.args.content.clear; items = these }) (by_id c.args.content.clear) c.in_ok-store.store) c.into_vec.ensures given in
    record { parts = rw c.requires.shown parts; apart = tt; same = refl; unchanged = tt }

pub returns : goal.returns
returns c =
    let own = c.in_ok-own.ensures in
    rw c.take_own-written.ensures.told (record {
      parts = record { rows = own.rows; ids = own.ids; hashed = own.hashed; same = own.same };
      apart = c.take_own-written.ensures.apart;
      same = c.take_own-written.ensures.same;
      unchanged = tt;
    })
