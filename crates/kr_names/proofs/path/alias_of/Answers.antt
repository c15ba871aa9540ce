use Rattle.std.proofs.Common.{rules}
use Rattle.kr_names.specs.Path.{aliases, IsAliasName}
use Rattle.kr_names.proofs.PathLemmas.{alias_read, not_alias}
use Rattle.kr_names.proofs.path.alias_of.Goals as goal

pub returns-in_default : goal.returns-in_default
unfolding aliases
returns-in_default c = λ alias is. c.in_default.ensures alias is.spelled

pub returns-then-not-is_alias_name : goal.returns-then-not-is_alias_name
unfolding aliases
returns-then-not-is_alias_name c =
    let off : IsAliasName c.in-Some.name.now → ⊥ = search rules in
    not_alias c.args.path.now c.in-Some.name.now c.in-Some.ensures off

pub returns : goal.returns
unfolding aliases
returns c =
    let is : IsAliasName c.in-Some.name.now = search rules in
    alias_read c.args.path.now c.in-Some.name.now c.in-Some.ensures c.from_str.result is c.from_str.ensures.made c.from_str.ensures.zero
