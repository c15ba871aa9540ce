use Rattle.std.proofs.Common.{◌∙◌, refl, arith}
use Rattle.keyring_file.proofs.Answering.{place_of}
use Rattle.keyring_file.proofs.clear_reading.placed.Goals as goal

pub returns-in-Ok-clause-exact : goal.returns-in-Ok-clause-exact
returns-in-Ok-clause-exact c =
    let at = place_of c.args.file.now c.in-Ok.area.now c.in-Ok.clear (λ i. omega (arith, c.type_inv.file i)) c.in-Ok.ensures in
    c.in-Ok.ensures ∙ rw (c.saturating_sub-place.ensures, at) refl
