-- The numbers of connections are below the next one, whatever becomes of their rows.
use Rattle.std.proofs.Common.{◌≡◌, ℕ, ◌<◌, Bool, true, false, cond, List, [], ◌∷◌, subst, sym}
use Rattle.kr_base.specs.declared.ids.ConnId.{ConnId}
use Rattle.signal_fanout.specs.declared.rows.ConnRow.{ConnRow}
use Rattle.signal_fanout.specs.declared.rows.Delivery.{Delivery}
use Rattle.signal_fanout.proofs.SpreadLemmas.{with-conn}
use Rattle.service_tables.specs.Connections.{AreBelow, changed, handed, is_row, with_out}

-- a change of a row leaves its connection's number
pub below-changed : (next : ℕ) (conn : ConnId) (change : ConnRow → ConnRow) (rows : List ConnRow) → ((row : ConnRow) → (change row).conn ≡ row.conn) → AreBelow next rows → AreBelow next (changed conn change rows)
below-changed next conn change [] same below = tt
below-changed next conn change (row ∷ rows) same below =
    let pass : (b : Bool) → (cond b (change row) row).conn.0 < next =
    elim [ true ↦ subst (λ (c : ConnId). c.0 < next) (sym (same row)) below.0 | false ↦ below.0 ] in
    (pass (is_row conn row), below-changed next conn change rows same below.1)

-- so do deliveries
pub below-handed : (next : ℕ) (outs : List Delivery) (rows : List ConnRow) → AreBelow next rows → AreBelow next (handed outs rows)
below-handed next [] rows below = below
below-handed next (sent ∷ outs) rows below =
    below-handed next outs (changed sent.to (with_out sent.out) rows) (below-changed next sent.to (with_out sent.out) rows (with-conn sent.out) below)
