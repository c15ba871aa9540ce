use Rattle.std.proofs.Common.{◌≡◌, ◌≤◌, ◌-◌, ◌*◌, ◌/◌, ◌++◌, drop, length, ap, sym, ◌∙◌, arith}
use Rattle.std.proofs.lemmas.List.{append-nil, take_all}
use Rattle.aes_cbc.specs.Aes.{added, inverse_cipher, key_schedule}
use Rattle.aes_cbc.specs.Cbc.{deciphered}
use Rattle.aes_cbc.specs.State.{bytes_in}
use Rattle.aes_cbc.proofs.CbcLemmas.{deciphered_more}
use Rattle.aes_cbc.proofs.key.Key.decrypt_in_place.Goals as goal

pub loop-i-init : goal.loop-i-init
loop-i-init c =
    let all : length c.args.blocks.now / 16 - 0 ≡ length c.args.blocks.now / 16 = omega arith in
    (λ i. deciphered (key_schedule c.args.self.now)
    ((c.load-last.ensures ∙ take_all 16 c.args.vector (omega arith)) i) (all i) c.args.blocks.now)

pub loop-i-preserved : goal.loop-i-preserved
loop-i-preserved c =
    let key = c.self.invariant.encrypting ∙ ap key_schedule c.self.view_is in
    let inverse_is = c.decipher.ensures c.self.inside.encrypting c.self.invariant.decrypting in
    let clear_is = c.sum-clear.ensures
    ∙ ap (λ x. added x (bytes_in c.loop-i.last)) (inverse_is ∙ ap (λ w. inverse_cipher w (bytes_in c.load-block.result)) key) in
    deciphered_more (key_schedule c.args.self.now) (bytes_in c.loop-i.last) c.loop-i.blocks c.store.new.bytes (bytes_in c.load-block.result) (bytes_in c.sum-clear.result) _
    c.loop-i.i (length c.args.blocks.now / 16) c.loop-i-test.true c.load-block.ensures clear_is c.store.ensures.front c.store.ensures.behind c.loop-i.invariant

-- nothing is left at the end
pub returns : goal.returns
unfolding deciphered
returns c =
    let n = length c.args.blocks.now / 16 in
    let done : n - c.loop-i.i ≡ 0 = omega arith in
    let ends : length c.loop-i.blocks ≤ 16 * c.loop-i.i = omega arith in
    sym (append-nil c.loop-i.blocks)
    ∙ (λ j. sym (take_all (16 * c.loop-i.i) c.loop-i.blocks ends) j
    ++ ap (λ k. deciphered (key_schedule c.args.self.now) (bytes_in c.loop-i.last) k (drop (16 * c.loop-i.i) c.loop-i.blocks)) (sym done) j)
    ∙ c.loop-i.invariant
