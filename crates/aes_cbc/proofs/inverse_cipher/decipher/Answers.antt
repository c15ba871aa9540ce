use Rattle.std.proofs.Common.{ap, ◌∙◌, arith}
use Rattle.aes_cbc.specs.Aes.{added, inverse_cipher, inverse_rounds, inverse_shift_rows, inverse_sub_bytes}
use Rattle.aes_cbc.specs.State.{bytes_in}
use Rattle.aes_cbc.proofs.RoundLemmas.{inverse_rounds_more, round_key-last, round_key-first}
use Rattle.aes_cbc.proofs.inverse_cipher.decipher.Goals as goal

-- round by round
pub returns : goal.returns
unfolding inverse_rounds inverse_cipher
returns c = λ w is.
    let d = c.args.words.now in
    let s = bytes_in c.args.s in
    let after0 = c.sum-s.ensures ∙ ap (added s) (c.key_of_round.ensures ∙ round_key-last d w is) in
    let after1 = inverse_rounds_more d w s _ _ 0 9 is (omega arith) (omega arith) after0 c.inverse_round-s.ensures in
    let after2 = inverse_rounds_more d w s _ _ 1 8 is (omega arith) (omega arith) after1 c.inverse_round-s-2.ensures in
    let after3 = inverse_rounds_more d w s _ _ 2 7 is (omega arith) (omega arith) after2 c.inverse_round-s-3.ensures in
    let after4 = inverse_rounds_more d w s _ _ 3 6 is (omega arith) (omega arith) after3 c.inverse_round-s-4.ensures in
    let after5 = inverse_rounds_more d w s _ _ 4 5 is (omega arith) (omega arith) after4 c.inverse_round-s-5.ensures in
    let after6 = inverse_rounds_more d w s _ _ 5 4 is (omega arith) (omega arith) after5 c.inverse_round-s-6.ensures in
    let after7 = inverse_rounds_more d w s _ _ 6 3 is (omega arith) (omega arith) after6 c.inverse_round-s-7.ensures in
    let after8 = inverse_rounds_more d w s _ _ 7 2 is (omega arith) (omega arith) after7 c.inverse_round-s-8.ensures in
    let after9 = inverse_rounds_more d w s _ _ 8 1 is (omega arith) (omega arith) after8 c.inverse_round-s-9.ensures in
    c.last_inverse_round.ensures
    ∙ (λ i. added (inverse_sub_bytes (inverse_shift_rows (after9 i))) (round_key-first d w is i))
