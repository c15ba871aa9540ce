use Rattle.std.proofs.Common.{◌≡◌, rules}
use Rattle.std.specs.BTreeMap.{IsFromIterResult}
use Rattle.std.specs.Cmp.Lexicographic.{slice_cmp}
use Rattle.std.specs.Ordering.{nat_cmp}
use Rattle.kr_base.proofs.AttributeLemmas.{Gathers-from_map}
use Rattle.alias_text.proofs.pairs.gathered.Goals as goal

pub returns : goal.returns
returns c =
    let entries : c.in_ok-collect.field-0.items ≡ c.in_ok-gathered.gathered.entries = search rules in
    let made : IsFromIterResult (slice_cmp nat_cmp) c.args.pairs.items c.in_ok-gathered.gathered = search rules in
    rw entries (Gathers-from_map c.args.pairs.items c.in_ok-gathered.gathered made)
