use Rattle.std.proofs.Common.{◌∙◌, refl}
use Rattle.std.proofs.lemmas.Result.{err_from_is_err_and}
use Rattle.keyring_text.proofs.SeenLemmas.{new-twice, new-rest}
use Rattle.keyring_file.specs.declared.fault.ClearFault.TheVariants.{DuplicateId}
use Rattle.keyring_file.specs.Numbers.{has_number}
use Rattle.keyring_file.specs.FileReading.{id_at, item_behind}
use Rattle.keyring_file.proofs.Keeps.{behind-keeps}
use Rattle.keyring_file.proofs.clear_reading.new_item_at.Goals as goal

pub returns-then-not-branch-clause-read : goal.returns-then-not-branch-clause-read
returns-then-not-branch-clause-read c =
    let id = c.in_ok-id.id in
    new-twice id_at DuplicateId (item_behind c.args.minor) (has_number c.args.items.now) c.args.bytes.now c.in_ok-id.rest.now id id c.in_ok-is_new.field-0 c.in_ok-id.ensures refl c.in_ok-is_new.ensures.test c.if-not-branch.true

pub returns-in_err-item-clause-read : goal.returns-in_err-item-clause-read
returns-in_err-item-clause-read c =
    let id = c.in_ok-id.id in
    let e = new-rest id_at DuplicateId (item_behind c.args.minor) (has_number c.args.items.now) c.args.bytes.now c.in_ok-id.rest.now id id c.in_ok-is_new.field-0 c.in_ok-id.ensures refl c.in_ok-is_new.ensures.test c.if-not-branch.false in
    let p = err_from_is_err_and c.from_residual-in_err-item.result c.from_residual-in_err-item.ensures.1 in
    rw (p.1, p.2, e) c.in_err-item.ensures

pub returns-clause-read : goal.returns-clause-read
returns-clause-read c =
    let id = c.in_ok-id.id in
    let e = new-rest id_at DuplicateId (item_behind c.args.minor) (has_number c.args.items.now) c.args.bytes.now c.in_ok-id.rest.now id id c.in_ok-is_new.field-0 c.in_ok-id.ensures refl c.in_ok-is_new.ensures.test c.if-not-branch.false in
    e ∙ c.in_ok-item.ensures

pub returns-clause-kept : goal.returns-clause-kept
returns-clause-kept c = c.in_ok-is_new.ensures.kept c.if-not-branch.false c.in_ok-item.item (behind-keeps c.args.minor c.in_ok-id.id c.in_ok-id.rest.now c.in_ok-item.item c.in_ok-item.rest.now c.in_ok-item.ensures)
