use Rattle.std.proofs.Common.{◌↔◌, IsTrue, sym}
use Rattle.kr_names.specs.Path.{IsAliasName}
use Rattle.service_tables.proofs.AliasLemmas.{alias-test}
use Rattle.service_tables.proofs.objects.is_alias.Goals as goal

-- the test decides the fact
pub returns : goal.returns
returns c =
    let both : IsTrue c.is_alias_name.result ↔ IsAliasName c.args.alias.now = rw c.as_str.ensures.value at c.is_alias_name.ensures in
    record { test = sym (alias-test c.args.alias.now c.is_alias_name.result both); name = both }
