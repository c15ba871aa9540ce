use Rattle.std.proofs.Common.{◌≡◌, refl, sym, subst}
use Rattle.kr_names.specs.Escape.{IsEscapeOf}
use Rattle.alias_text.specs.Line.{IsPair}
use Rattle.alias_text.proofs.LineLemmas.{not_cut, not_alias, not_escape, is_pair, alias_no_zero}
use Rattle.alias_text.proofs.line.pair_in.Goals as goal

-- the line contains no `=`
pub returns-in_default : goal.returns-in_default
returns-in_default c value pair = not_cut c.args.line.now value.0 value.1 c.in_default.ensures pair

-- the part before the first one isn't a name of an alias
pub returns-then-not-is_alias_name : goal.returns-then-not-is_alias_name
returns-then-not-is_alias_name c value pair =
    not_alias c.args.line.now c.in-Some.name.now c.in-Some.escaped.now value.0 value.1 c.in-Some.ensures
    (λ alias. let wrong = c.if-not-is_alias_name.ensures.1 alias in cc) pair

-- the part after it isn't an escaped stem
pub returns-in_default-2 : goal.returns-in_default-2
returns-in_default-2 c value pair =
    not_escape c.args.line.now c.in-Some.name.now c.in-Some.escaped.now value.0 value.1 c.in-Some.ensures
    (rw c.in_default-2.is at c.in_ok-stem.ensures) pair

-- a name of an alias is a text
pub returns-in-None : goal.returns-in-None
returns-in-None c value pair =
    alias_no_zero c.in-Some.name.now (c.if-not-is_alias_name.ensures.0 refl) (c.in_ok-name.ensures.zero.0 cc)

pub returns-in-Some-3 : goal.returns-in-Some-3
returns-in-Some-3 c =
    let escape : IsEscapeOf c.in-Some-2.stem c.in-Some.escaped.now = rw c.in-Some-2.is at c.in_ok-stem.ensures in
    let named : c.in-Some-3.name ≡ c.in-Some.name.now = rw c.in-Some-3.is at c.in_ok-name.ensures.made in
    subst (λ name. IsPair c.args.line.now name c.in-Some-2.stem) (sym named)
    (is_pair c.args.line.now c.in-Some.name.now c.in-Some.escaped.now c.in-Some-2.stem c.in-Some.ensures (c.if-not-is_alias_name.ensures.0 refl) escape)
