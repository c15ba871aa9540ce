use Rattle.std.proofs.Common.{◌≡◌, [], rules}
use Rattle.std.specs.Prelude.{codes}
use Rattle.command_words.specs.Found.{listed, value_of, flag_of}
use Rattle.command_words.proofs.CommandLemmas.{not_two, not_bare, no_name}
use Rattle.command_words.proofs.commands.command_of.Goals as goal

pub returns-in_default-clause-answer : goal.returns-in_default-clause-answer
returns-in_default-clause-answer c =
    let check : c.args.name.now ≡ codes "check" → ⊥ = search rules in
    not_two c.args.name.now (listed c.args.found.operands) (value_of c.args.found.uid) (value_of c.args.found.connections) (flag_of c.args.found.flag) check c.in_default.ensures

pub returns-then-not-is_bare-clause-answer : goal.returns-then-not-is_bare-clause-answer
returns-then-not-is_bare-clause-answer c =
    let serve : c.args.name.now ≡ codes "serve" → ⊥ = search rules in
    let check : c.args.name.now ≡ codes "check" → ⊥ = search rules in
    let bare : (value_of c.args.found.uid ≡ []) × (value_of c.args.found.connections ≡ []) × (flag_of c.args.found.flag ≡ []) → ⊥ = search rules in
    not_bare c.args.name.now (listed c.args.found.operands) (value_of c.args.found.uid) (value_of c.args.found.connections) (flag_of c.args.found.flag) serve check bare

pub returns-clause-answer : goal.returns-clause-answer
returns-clause-answer c =
    let serve : c.args.name.now ≡ codes "serve" → ⊥ = search rules in
    let stdio : c.args.name.now ≡ codes "stdio" → ⊥ = search rules in
    let load : c.args.name.now ≡ codes "load" → ⊥ = search rules in
    let check : c.args.name.now ≡ codes "check" → ⊥ = search rules in
    no_name c.args.name.now (listed c.args.found.operands) (value_of c.args.found.uid) (value_of c.args.found.connections) (flag_of c.args.found.flag) serve stdio load check
