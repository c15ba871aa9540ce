use Rattle.std.proofs.lemmas.Result.{IfOk-weaker, on_err_weaker}
use Rattle.command_words.specs.Found.{listed, value_of, flag_of}
use Rattle.command_words.proofs.CommandLemmas.{no_arguments, answered, has_line}
use Rattle.command_words.proofs.commands.read_words.Goals as goal

pub returns-in_default-arguments_of-clause-read : goal.returns-in_default-arguments_of-clause-read
returns-in_default-arguments_of-clause-read c =
    no_arguments c.args.words.now c.in-Some.rest.now c.in-Some.name.now c.in-Some.ensures.cases.0 c.in_default-arguments_of.ensures

pub returns-clause-read : goal.returns-clause-read
returns-clause-read c =
    let found = c.in-Some-arguments_of.found in
    IfOk-weaker c.command_of.result _ _
    (λ answer is. answered c.args.words.now c.in-Some.rest.now (listed found.operands) (value_of found.uid) (value_of found.connections) (flag_of found.flag) c.in-Some.name.now answer
    c.in-Some.ensures.cases.0 c.in-Some-arguments_of.ensures is)
    (rw c.as_str.ensures.value at c.command_of.ensures.answer)

pub returns-clause-memory : goal.returns-clause-memory
returns-clause-memory c =
    let found = c.in-Some-arguments_of.found in
    on_err_weaker c.command_of.result
    (λ is. has_line c.args.words.now c.in-Some.rest.now (listed found.operands) (value_of found.uid) (value_of found.connections) (flag_of found.flag) c.in-Some.name.now
    c.in-Some.ensures.cases.0 c.in-Some-arguments_of.ensures is)
    (rw c.as_str.ensures.value at c.command_of.ensures.memory)
