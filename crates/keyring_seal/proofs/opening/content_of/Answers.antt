use Rattle.std.proofs.Common.{◌≡◌, ℕ, List, length, drop, Ok, ap, subst, ◌∙◌, rules, arith}
use Rattle.keyring_text.specs.Fields.{IsBytes}
use Rattle.keyring_file.specs.AreaText.{AreaText}
use Rattle.keyring_file.specs.FileReading.{area_read}
use Rattle.aes_cbc.specs.Cbc.{decrypted}
use Rattle.key_derivation.specs.Kdf.{key_of, vector_of}
use Rattle.keyring_seal.proofs.opening.content_of.Goals as goal

pub returns-in-Ok-read_area-clause-found : goal.returns-in-Ok-read_area-clause-found
returns-in-Ok-read_area-clause-found c =
    let file = c.args.file.now in
    let key = key_of c.args.key.now in
    let vector = vector_of c.args.key.now in
    let part = c.in-Ok.found.0 in
    let hidden = drop c.in-Ok.found.1 file in
    let told = c.in_ok-area.ensures in
    let behind : c.split_at.result.1.now ≡ hidden = search rules in
    let text : c.in_ok-area.area.items ≡ decrypted key vector hidden = told ∙ ap (decrypted key vector) behind in
    let bytes : IsBytes c.in_ok-area.area.items = search rules in
    let read : area_read (length part.items) c.in_ok-area.area.items ≡ Ok c.new.result = search rules in
    let both = c.an_area_that_is_read_is_spelled_so.ensures c.in_ok-area.area.items (length part.items) c.new.result bytes read in
    record {
      area = hidden;
      clear = c.a_file_that_is_read_is_spelled_so.ensures file hidden part (λ i. omega (arith, c.type_inv.file i)) c.in-Ok.ensures.exact;
      items = subst (λ (bytes : List ℕ). AreaText bytes c.new.result) text both.0;
      counted = both.1;
    }
