use Rattle.std.proofs.Common.{◌≡◌, [], rules}
use Rattle.command_words.specs.Found.{listed, value_of, flag_of}
use Rattle.command_words.proofs.CommandLemmas.{not_single, with_value, no_password, has_check, on_err}
use Rattle.command_words.proofs.commands.check_line.Goals as goal

pub returns-in_default-clause-answer : goal.returns-in_default-clause-answer
returns-in_default-clause-answer c =
    not_single (listed c.args.found.operands) (value_of c.args.found.uid) (value_of c.args.found.connections) (flag_of c.args.found.flag) c.in_default.ensures

pub returns-then-not-has_no_value-clause-answer : goal.returns-then-not-has_no_value-clause-answer
returns-then-not-has_no_value-clause-answer c =
    let some : (value_of c.args.found.uid ≡ []) × (value_of c.args.found.connections ≡ []) → ⊥ = search rules in
    with_value (listed c.args.found.operands) (value_of c.args.found.uid) (value_of c.args.found.connections) (flag_of c.args.found.flag) some

pub returns-in_default-has_flag-clause-answer : goal.returns-in_default-has_flag-clause-answer
returns-in_default-has_flag-clause-answer c =
    no_password (listed c.args.found.operands) (value_of c.args.found.uid) (value_of c.args.found.connections) (flag_of c.args.found.flag)
    c.in_default-has_flag.ensures

pub returns-in_err-folder-clause-memory : goal.returns-in_err-folder-clause-memory
returns-in_err-folder-clause-memory c =
    let bare : (value_of c.args.found.uid ≡ []) × (value_of c.args.found.connections ≡ []) = search rules in
    on_err c.from_residual.result
    (has_check c.in-Some.folder.now c.in-Some-has_flag.password (listed c.args.found.operands) (value_of c.args.found.uid) (value_of c.args.found.connections)
    (flag_of c.args.found.flag) c.in-Some.ensures bare c.in-Some-has_flag.ensures)
