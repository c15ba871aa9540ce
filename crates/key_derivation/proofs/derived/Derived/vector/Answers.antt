use Rattle.std.proofs.Common.{◌≡◌, ◌-◌, ◌++◌, ◌≤◌, drop, length, ap, ◌∙◌, arith}
use Rattle.std.proofs.lemmas.List.{length-drop, take_all}
use Rattle.key_derivation.specs.Kdf.{vector_of}
use Rattle.key_derivation.proofs.KdfLemmas.{length-hashed}
use Rattle.key_derivation.proofs.derived.Derived.vector.Goals as goal

-- after the first half comes the second and no more
pub returns : goal.returns
returns c =
    let from = c.self.inside in
    let whole : length from.digest ≡ 32 = ap length c.self.invariant ∙ length-hashed (from.iterations - 1) (from.password ++ from.salt) in
    let half : length (drop 16 from.digest) ≤ 16 = let rest = length-drop 16 from.digest in omega arith in
    c.copy_from_slice.ensures.after ∙ take_all 16 (drop 16 from.digest) half ∙ ap (drop 16) c.self.invariant ∙ ap vector_of c.self.view_is
