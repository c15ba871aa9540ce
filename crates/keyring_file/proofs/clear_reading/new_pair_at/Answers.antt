use Rattle.std.proofs.Common.{subst, ◌∙◌, refl}
use Rattle.std.proofs.lemmas.Result.{err_from_is_err_and}
use Rattle.keyring_text.specs.declared.fault.FieldFault.TheVariants.{DuplicateName}
use Rattle.keyring_text.specs.FieldReading.{text_at}
use Rattle.keyring_text.proofs.SeenLemmas.{new-twice, new-rest, fails-bind}
use Rattle.keyring_file.specs.Names.{has_name, AddsName}
use Rattle.keyring_file.specs.FileReading.{pair_at, hashed_at}
use Rattle.keyring_file.proofs.clear_reading.new_pair_at.Goals as goal

pub returns-then-not-branch-clause-read : goal.returns-then-not-branch-clause-read
returns-then-not-branch-clause-read c =
    new-twice text_at DuplicateName pair_at (has_name c.args.names.now) c.args.bytes.now c.in_ok-name.rest.now c.in_ok-name.name c.in_ok-name.spelled.now c.in_ok-is_new_name.field-0 c.in_ok-name.ensures.text c.in_ok-name.ensures.bytes
    c.in_ok-is_new_name.ensures.test c.if-not-branch.true

pub returns-in_err-value-clause-read : goal.returns-in_err-value-clause-read
unfolding pair_at
returns-in_err-value-clause-read c =
    let stood = has_name c.args.names.now in
    let e = new-rest text_at DuplicateName pair_at stood c.args.bytes.now c.in_ok-name.rest.now c.in_ok-name.name c.in_ok-name.spelled.now c.in_ok-is_new_name.field-0 c.in_ok-name.ensures.text c.in_ok-name.ensures.bytes c.in_ok-is_new_name.ensures.test
    c.if-not-branch.false in
    let p = err_from_is_err_and c.from_residual-in_err-value.result c.from_residual-in_err-value.ensures.1 in
    rw (p.1, p.2, e) (fails-bind c.in_err-value.field-0.0 (hashed_at c.in_ok-name.rest.now) _ c.in_err-value.ensures)

pub returns-clause-read : goal.returns-clause-read
unfolding pair_at
returns-clause-read c =
    let stood = has_name c.args.names.now in
    let e = new-rest text_at DuplicateName pair_at stood c.args.bytes.now c.in_ok-name.rest.now c.in_ok-name.name c.in_ok-name.spelled.now c.in_ok-is_new_name.field-0 c.in_ok-name.ensures.text c.in_ok-name.ensures.bytes c.in_ok-is_new_name.ensures.test
    c.if-not-branch.false in
    e ∙ rw c.in_ok-value.ensures refl

pub returns-clause-seen : goal.returns-clause-seen
returns-clause-seen c =
    subst (λ name. AddsName c.args.names.now c.is_new_name.new.names name) c.in_ok-name.ensures.bytes (c.in_ok-is_new_name.ensures.kept c.if-not-branch.false)
