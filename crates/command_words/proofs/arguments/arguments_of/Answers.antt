use Rattle.command_words.specs.Arguments.{operand, option, flag}
use Rattle.command_words.proofs.FoundLemmas.{read_more, read_whole, read_full, read_fault, any_form, end_found}
use Rattle.command_words.proofs.arguments.arguments_of.Goals as goal

pub returns-in-Nothing : goal.returns-in-Nothing
returns-in-Nothing c = read_whole c.args.words.now c.loop-found.rest.now c.loop-found.found c.loop-found.invariant c.in-Nothing.ensures

-- one more operand
pub returns-in_default : goal.returns-in_default
returns-in_default c =
    read_full c.args.words.now c.loop-found.rest.now c.in-Operand.more.now (operand c.in-Operand.word.now) c.loop-found.found c.loop-found.invariant
    c.in-Operand.ensures c.in_default.ensures

pub loop-found-preserved-in-Operand : goal.loop-found-preserved-in-Operand
loop-found-preserved-in-Operand c =
    read_more c.args.words.now c.loop-found.rest.now c.in-Operand.more.now (operand c.in-Operand.word.now) c.loop-found.found c.in-Some.longer
    c.loop-found.invariant c.in-Operand.ensures c.in-Some.ensures

-- one more option
pub returns-in_default-with_option : goal.returns-in_default-with_option
returns-in_default-with_option c =
    read_full c.args.words.now c.loop-found.rest.now c.in-Option.more.now (option c.in-Option.ensures.0 c.in-Option.name c.in-Option.value.now) c.loop-found.found
    c.loop-found.invariant c.in-Option.ensures.1 c.in_default-with_option.ensures

pub loop-found-preserved-in-Option : goal.loop-found-preserved-in-Option
loop-found-preserved-in-Option c =
    read_more c.args.words.now c.loop-found.rest.now c.in-Option.more.now (option c.in-Option.ensures.0 c.in-Option.name c.in-Option.value.now)
    c.loop-found.found c.in-Some-with_option.longer c.loop-found.invariant c.in-Option.ensures.1
    (any_form c.loop-found.found c.in-Some-with_option.longer c.in-Option.ensures.0 c.in-Option.name c.in-Option.value.now c.in-Some-with_option.ensures)

-- one more flag
pub returns-in_default-with_flag : goal.returns-in_default-with_flag
returns-in_default-with_flag c =
    read_full c.args.words.now c.loop-found.rest.now c.in-Flag.more.now (flag c.in-Flag.name) c.loop-found.found c.loop-found.invariant c.in-Flag.ensures
    c.in_default-with_flag.ensures

pub loop-found-preserved : goal.loop-found-preserved
loop-found-preserved c =
    read_more c.args.words.now c.loop-found.rest.now c.in-Flag.more.now (flag c.in-Flag.name) c.loop-found.found c.in-Some-with_flag.longer
    c.loop-found.invariant c.in-Flag.ensures c.in-Some-with_flag.ensures

pub returns-in-End : goal.returns-in-End
returns-in-End c =
    end_found c.args.words.now c.loop-found.rest.now c.in-End.more.now c.loop-found.found c.with_operands.result c.loop-found.invariant c.in-End.ensures
    c.with_operands.ensures

pub returns-in-Fault : goal.returns-in-Fault
returns-in-Fault c = read_fault c.args.words.now c.loop-found.rest.now c.loop-found.found c.loop-found.invariant c.in-Fault.ensures
