use Rattle.std.proofs.Common.{rules, sym, ap, ◌∙◌}
use Rattle.service_tables.specs.collection_store.specs.declared.refused.UnlockRefused.TheVariants as refused
use Rattle.service_tables.specs.collection_table.specs.Entries.{row_of}
use Rattle.service_disk.specs.declared.opening.Opening.TheVariants as ends
use Rattle.service_disk.proofs.OpeningLemmas.{damaged-in, opened-in, refused-in, row-stays, settled-in, unfit-in}
use Rattle.service_disk.proofs.opening.unlock_in.Goals as goal

-- it is unlocked already
pub returns-then-is_open-clause-opening : goal.returns-then-is_open-clause-opening
returns-then-is_open-clause-opening g c = sym (settled-in c.args.key c.is_open.result (row_of c.args.collection.now) c.is_open.ensures.value c.if-is_open.true)

pub returns-then-is_open-clause-row : goal.returns-then-is_open-clause-row
returns-then-is_open-clause-row g c =
    let row = row_of c.args.collection.now in
    sym (row-stays c.args.key ends.Settled row (settled-in c.args.key c.is_open.result row c.is_open.ensures.value c.if-is_open.true) tt)

-- the key doesn't fit
pub returns-then-not-fits-clause-opening : goal.returns-then-not-fits-clause-opening
returns-then-not-fits-clause-opening g c =
    sym (unfit-in c.args.key c.is_open.result c.fits.result (row_of c.args.collection.now) c.is_open.ensures.value c.if-is_open.false c.fits.ensures c.if-not-fits.true)

pub returns-then-not-fits-clause-row : goal.returns-then-not-fits-clause-row
returns-then-not-fits-clause-row g c =
    let row = row_of c.args.collection.now in
    sym (row-stays c.args.key ends.Unfit row
    (unfit-in c.args.key c.is_open.result c.fits.result row c.is_open.ensures.value c.if-is_open.false c.fits.ensures c.if-not-fits.true) tt)

-- its file opens
pub returns-in-Ok-clause-opening : goal.returns-in-Ok-clause-opening
returns-in-Ok-clause-opening g c =
    sym (opened-in c.args.key c.args.collection.now c.unlock.new.self (c.fits.ensures.0 c.if-not-fits.false) c.in-Ok.ensures.unlocked).0

pub returns-in-Ok-clause-row : goal.returns-in-Ok-clause-row
returns-in-Ok-clause-row g c = (opened-in c.args.key c.args.collection.now c.unlock.new.self (c.fits.ensures.0 c.if-not-fits.false) c.in-Ok.ensures.unlocked).1

-- it doesn't
pub returns-in-Err-WrongPassword-clause-opening : goal.returns-in-Err-WrongPassword-clause-opening
returns-in-Err-WrongPassword-clause-opening g c =
    sym (refused-in c.args.key (row_of c.args.collection.now) refused.WrongPassword (λ no. cc) (c.fits.ensures.0 c.if-not-fits.false)
    (c.in-Err-WrongPassword.ensures.refused refused.WrongPassword (search rules)))

pub returns-in-Err-WrongPassword-clause-row : goal.returns-in-Err-WrongPassword-clause-row
returns-in-Err-WrongPassword-clause-row g c =
    let row = row_of c.args.collection.now in
    ap row_of c.in-Err-WrongPassword.ensures.unchanged
    ∙ sym (row-stays c.args.key ends.WrongPassword row
    (refused-in c.args.key row refused.WrongPassword (λ no. cc) (c.fits.ensures.0 c.if-not-fits.false) (c.in-Err-WrongPassword.ensures.refused refused.WrongPassword (search rules))) tt)

pub returns-in-Err-Damaged-clause-opening : goal.returns-in-Err-Damaged-clause-opening
returns-in-Err-Damaged-clause-opening g c =
    sym (damaged-in c.args.key (row_of c.args.collection.now) c.in-Err-Damaged.field-0 _ c.in-Err-Damaged.field-0-is (c.fits.ensures.0 c.if-not-fits.false)
    (c.in-Err-Damaged.ensures.refused c.in-Err-Damaged.field-0 (search rules)))

pub returns-in-Err-Damaged-clause-row : goal.returns-in-Err-Damaged-clause-row
returns-in-Err-Damaged-clause-row g c =
    let row = row_of c.args.collection.now in
    ap row_of c.in-Err-Damaged.ensures.unchanged
    ∙ sym (row-stays c.args.key ends.Damaged row
    (damaged-in c.args.key row c.in-Err-Damaged.field-0 _ c.in-Err-Damaged.field-0-is (c.fits.ensures.0 c.if-not-fits.false)
    (c.in-Err-Damaged.ensures.refused c.in-Err-Damaged.field-0 (search rules))) tt)
