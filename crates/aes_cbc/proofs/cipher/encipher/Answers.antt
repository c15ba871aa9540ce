use Rattle.std.proofs.Common.{ap, ◌∙◌}
use Rattle.aes_cbc.specs.Aes.{added, cipher, round_key, rounds, shift_rows, sub_bytes}
use Rattle.aes_cbc.specs.State.{bytes_in}
use Rattle.aes_cbc.proofs.RoundLemmas.{rounds_more}
use Rattle.aes_cbc.proofs.cipher.encipher.Goals as goal

-- round by round
pub returns : goal.returns
unfolding rounds cipher
returns c =
    let w = c.args.words.now in
    let s = bytes_in c.args.s in
    let after0 = c.sum-s.ensures ∙ ap (added s) c.key_of_round.ensures in
    let after1 = rounds_more w s _ _ 0 after0 c.round-s.ensures in
    let after2 = rounds_more w s _ _ 1 after1 c.round-s-2.ensures in
    let after3 = rounds_more w s _ _ 2 after2 c.round-s-3.ensures in
    let after4 = rounds_more w s _ _ 3 after3 c.round-s-4.ensures in
    let after5 = rounds_more w s _ _ 4 after4 c.round-s-5.ensures in
    let after6 = rounds_more w s _ _ 5 after5 c.round-s-6.ensures in
    let after7 = rounds_more w s _ _ 6 after6 c.round-s-7.ensures in
    let after8 = rounds_more w s _ _ 7 after7 c.round-s-8.ensures in
    let after9 = rounds_more w s _ _ 8 after8 c.round-s-9.ensures in
    c.last_round.ensures ∙ ap (λ x. added (shift_rows (sub_bytes x)) (round_key w 10)) after9
