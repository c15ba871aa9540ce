use Rattle.std.proofs.Common.{ap, sym, ◌∙◌, ◌||◌}
use Rattle.std.specs.Cmp.Lexicographic.{slice_cmp}
use Rattle.std.specs.Ordering.{nat_cmp}
use Rattle.kr_base.specs.Attributes.{is_name}
use Rattle.keyring_text.specs.Seen.{stood_in}
use Rattle.keyring_text.proofs.SeenLemmas.{adds_key, or-swap}
use Rattle.keyring_file.specs.Names.{has_in_row}
use Rattle.keyring_file.proofs.names.is_new_name.Goals as goal

pub returns-clause-kept : goal.returns-clause-kept
returns-clause-kept c on q =
    let adds = adds_key is_name (λ k. k.now) (λ x y. slice_cmp nat_cmp x.now y.now) c.args.name c.args.names.now.many.keys c.insert.new.self.keys (sym on ∙ c.in_ok-insert.ensures.added) c.in_ok-insert.ensures.keys in
    ap (λ b. has_in_row c.args.names.now q || b) (adds q) ∙ or-swap (has_in_row c.args.names.now q) (is_name q c.args.name.now) (stood_in is_name (λ k. k.now) c.args.names.now.many.keys q)
