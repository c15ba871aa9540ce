use Rattle.std.proofs.Common.{◌≡◌, ◌+◌, ◌<◌, ◌≤◌, ◌%◌, ◌^◌, length, rules}
use Rattle.keyring_seal.proofs.SpelledLemmas.{found_so}
use Rattle.keyring_seal.proofs.comparing.hidden_after.Goals as goal

pub returns : goal.returns
returns c =
    let n = c.in_ok-area_length.area_length in
    let rest = c.in_ok-rest.rest.now in
    let left : n + 4 ≡ length rest = search rules in
    let enough : 16 ≤ n = search rules in
    let blocks : n % 16 ≡ 0 = search rules in
    let few : n < 2 ^ 32 = search rules in
    found_so (λ hidden. hidden.now) c.after_number.result c.a_canonical_clear_part_is_spelled_so.ensures c.args.clear.now c.args.file.now rest n c.requires.sound c.requires.short c.in_ok-rest.ensures left enough blocks few c.after_number.ensures
