use Rattle.std.proofs.Common.{◌↔◌, ℕ, IsTrue, List, subst}
use Rattle.kr_names.specs.Path.{IsAliasName}
use Rattle.secret_calls.proofs.AliasLemmas.{accepted, refused}
use Rattle.secret_calls.proofs.alias.AliasName.from_text.Goals as goal

pub returns-then-not-is_alias_name : goal.returns-then-not-is_alias_name
returns-then-not-is_alias_name c =
    refused c.is_alias_name.result c.args.text (subst (λ (t : List ℕ). IsTrue c.is_alias_name.result ↔ IsAliasName t) c.as_str.ensures.value c.is_alias_name.ensures) c.if-not-is_alias_name.true

pub returns : goal.returns
returns c =
    accepted c.is_alias_name.result c.args.text (subst (λ (t : List ℕ). IsTrue c.is_alias_name.result ↔ IsAliasName t) c.as_str.ensures.value c.is_alias_name.ensures) c.if-not-is_alias_name.false
