use Rattle.std.proofs.Common.{◌≡◌, ◌++◌, ◌∷◌, [], length, ap, ◌∙◌, arith, rules}
use Rattle.folder_store.specs.Opened.{items_in, bytes_in}
use Rattle.folder_store.specs.Ring.{rows_of, bytes_of}
use Rattle.folder_store.proofs.OpeningLemmas.{items_rows, bytes_rows}
use Rattle.folder_store.proofs.opening.Opening.push.Goals as goal

-- the sums over one more collection
pub invariant_of-self : goal.invariant_of-self
invariant_of-self g c =
    let pushed : c.push.new.self.items ≡ c.self.inside.rings.items ++ c.args.ring ∷ [] = c.in-Ok.ensures.items in
    let items = items_rows c.self.inside.rings.items c.args.ring in
    let bytes = bytes_rows c.self.inside.rings.items c.args.ring in
    let items_now = ap (λ l. items_in (rows_of l)) pushed in
    let bytes_now = ap (λ l. bytes_in (rows_of l)) pushed in
    let counted : c.len-clear.result ≡ length c.args.ring.clear.items = search rules in
    let long : length c.bytes-bytes.result.now ≡ length (bytes_of c.args.ring.cell.file) = ap length (c.bytes-bytes.ensures ∙ c.image.ensures) in
    (omega (arith, items, items_now, counted, c.self.invariant.0), omega (arith, bytes, bytes_now, long, c.self.invariant.1))
