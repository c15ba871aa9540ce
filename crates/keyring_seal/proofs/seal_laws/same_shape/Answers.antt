use Rattle.std.proofs.Common.{◌≤◌, length, subst, arith}
use Rattle.aes_cbc.specs.Cbc.{encrypted}
use Rattle.key_derivation.specs.Kdf.{key_of, vector_of}
use Rattle.keyring_file.specs.Canonical.{area_text}
use Rattle.keyring_file.specs.Clear.{ClearPart}
use Rattle.keyring_file.specs.ClearText.{ClearText}
use Rattle.keyring_seal.specs.Arranged.{arranged}
use Rattle.keyring_seal.specs.Whole.{most_bytes, sealed}
use Rattle.keyring_seal.proofs.FileLemmas.{sealed_clear}
use Rattle.keyring_seal.proofs.ShapeLemmas.{same_clear, same_length}
use Rattle.keyring_seal.proofs.seal_laws.same_shape.Goals as goal

pub returns-clause-as_long : goal.returns-clause-as_long
returns-clause-as_long c = same_length c.args.one.now c.args.two.now (key_of c.args.key.now) (vector_of c.args.key.now) c.requires.first c.requires.second c.requires.alike

pub returns-clause-clear_part : goal.returns-clause-clear_part
returns-clause-clear_part c = λ small.
    let one = c.args.one.now in
    let two = c.args.two.now in
    let key = key_of c.args.key.now in
    let vector = vector_of c.args.key.now in
    let long = same_length one two key vector c.requires.first c.requires.second c.requires.alike in
    let other : length (sealed two key vector) ≤ most_bytes = omega (arith, small, long) in
    let hidden = encrypted key vector (area_text (arranged two).items) in
    record {
      clear = (arranged one).clear;
      first = encrypted key vector (area_text (arranged one).items);
      second = hidden;
      is_first = sealed_clear one c.requires.first c.known_content.ensures key vector small;
      is_second = subst (λ (clear : ClearPart). ClearText (sealed two key vector) clear hidden) (same_clear one two c.requires.alike) (sealed_clear two c.requires.second c.known_content-2.ensures key vector other);
    }
