use Rattle.std.proofs.Common.{ap, rules, ◌≡◌, []}
use Rattle.command_words.specs.Found.{value_of, flag_of}
use Rattle.command_words.proofs.CommandLemmas.{no_user, no_uid, no_count, no_end, has_serve, on_err}
use Rattle.command_words.proofs.commands.serve_line.Goals as goal

pub returns-in_default-clause-answer : goal.returns-in_default-clause-answer
returns-in_default-clause-answer c =
    let none : value_of c.args.user ≡ [] = search rules in
    no_user c.args.folder.now c.args.socket.now (value_of c.args.user) (value_of c.args.connections) (flag_of c.args.flag) none

pub returns-in_default-short_number-clause-answer : goal.returns-in_default-short_number-clause-answer
returns-in_default-short_number-clause-answer c =
    no_uid c.args.folder.now c.args.socket.now c.in-Some.user.now (value_of c.args.user) (value_of c.args.connections) (flag_of c.args.flag) (ap value_of c.in-Some.is)
    c.in_default-short_number.ensures

pub returns-in_default-count_of-clause-answer : goal.returns-in_default-count_of-clause-answer
returns-in_default-count_of-clause-answer c =
    no_count c.args.folder.now c.args.socket.now (value_of c.args.user) (value_of c.args.connections) (flag_of c.args.flag) c.in_default-count_of.ensures

pub returns-in_default-has_flag-clause-answer : goal.returns-in_default-has_flag-clause-answer
returns-in_default-has_flag-clause-answer c =
    no_end c.args.folder.now c.args.socket.now (value_of c.args.user) (value_of c.args.connections) (flag_of c.args.flag) c.in_default-has_flag.ensures

pub returns-in_err-folder-clause-memory : goal.returns-in_err-folder-clause-memory
returns-in_err-folder-clause-memory c =
    on_err c.from_residual.result
    (has_serve c.in-Some-has_flag.until_eof c.args.folder.now c.args.socket.now c.in-Some.user.now c.in-Some-short_number.uid c.in-Some-count_of.connections (value_of c.args.user)
    (value_of c.args.connections) (flag_of c.args.flag) (ap value_of c.in-Some.is) c.in-Some-short_number.ensures c.in-Some-count_of.ensures c.in-Some-has_flag.ensures)

pub returns-in_err-socket-clause-memory : goal.returns-in_err-socket-clause-memory
returns-in_err-socket-clause-memory c =
    on_err c.from_residual-in_err-socket.result
    (has_serve c.in-Some-has_flag.until_eof c.args.folder.now c.args.socket.now c.in-Some.user.now c.in-Some-short_number.uid c.in-Some-count_of.connections (value_of c.args.user)
    (value_of c.args.connections) (flag_of c.args.flag) (ap value_of c.in-Some.is) c.in-Some-short_number.ensures c.in-Some-count_of.ensures c.in-Some-has_flag.ensures)
