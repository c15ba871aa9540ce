use Rattle.std.proofs.Common.{◌≡◌, List, ◌++◌, ap, ◌∙◌, rules}
use Rattle.keyring_file.specs.Canonical.{clear_text}
use Rattle.keyring_file.specs.declared.clear.ClearItem.{ClearItem}
use Rattle.keyring_seal.specs.Arranged.{of_lent}
use Rattle.keyring_seal.proofs.LentLemmas.{kept_short, kept_told, lent_sealable, lent_seen}
use Rattle.keyring_seal.proofs.SealedLemmas.{lent_clear_items, lent_few, lent_items, lent_name, sealed_told}
use Rattle.keyring_seal.proofs.sealing.rows_file.Goals as goal

pub encrypted_area-requires : goal.encrypted_area-requires
encrypted_area-requires c =
    let front = c.args.front.now in
    let lent = c.args.rows.now in
    let can = lent_sealable front lent c.requires.rising c.requires.iterations in
    let seen = lent_seen front lent c.requires.rising in
    lent_items (of_lent front lent) c.args.key c.args.vector can c.requires.known c.requires.within lent seen

pub put_kept_clear-requires-clause-name : goal.put_kept_clear-requires-clause-name
put_kept_clear-requires-clause-name c =
    let front = c.args.front.now in
    let lent = c.args.rows.now in
    let can = lent_sealable front lent c.requires.rising c.requires.iterations in
    lent_name (of_lent front lent) c.args.key c.args.vector can c.requires.known c.requires.within

pub put_kept_clear-requires-clause-few : goal.put_kept_clear-requires-clause-few
put_kept_clear-requires-clause-few c =
    let front = c.args.front.now in
    let lent = c.args.rows.now in
    let can = lent_sealable front lent c.requires.rising c.requires.iterations in
    let seen = lent_seen front lent c.requires.rising in
    lent_few (of_lent front lent) c.args.key c.args.vector can c.requires.known c.requires.within lent seen

pub put_kept_clear-requires-clause-short : goal.put_kept_clear-requires-clause-short
put_kept_clear-requires-clause-short c =
    let front = c.args.front.now in
    let lent = c.args.rows.now in
    let can = lent_sealable front lent c.requires.rising c.requires.iterations in
    let seen = lent_seen front lent c.requires.rising in
    kept_short lent c.requires.kept (lent_clear_items (of_lent front lent) c.args.key c.args.vector can c.requires.known c.requires.within lent seen)

pub returns : goal.returns
returns c =
    let front = c.args.front.now in
    let lent = c.args.rows.now in
    let can = lent_sealable front lent c.requires.rising c.requires.iterations in
    let seen = lent_seen front lent c.requires.rising in
    let area = c.in_ok-area.area.items in
    let told = rw c.in_ok-file.ensures.items at c.in_ok-put_kept_clear.ensures in
    let first = told ∙ ap (λ (items : List ClearItem). clear_text (record front { items = items }) c.args.area_len) (kept_told lent c.requires.kept) in
    let whole : c.extend_from_slice.new.self.items ≡ c.put_kept_clear.new.file.items ++ area = search rules in
    sealed_told (of_lent front lent) c.args.key c.args.vector can c.requires.known c.requires.within lent seen c.extend_from_slice.new.self.items c.put_kept_clear.new.file.items area c.args.area_len c.requires.area first c.in_ok-area.ensures whole
