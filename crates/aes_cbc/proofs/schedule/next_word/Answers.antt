use Rattle.std.proofs.Common.{◌≡◌, ◌-◌, ◌/◌, [], ◌∷◌, ap, ◌∙◌, arith, bit_xor, refl, slice_index, w32}
use Rattle.std.specs.Int.{from_be_bytes}
use Rattle.aes_cbc.specs.Aes.{round_constant}
use Rattle.aes_cbc.proofs.ScheduleLemmas.{ROUND_CONSTANTS_at, next_word-fourth, next_word-other}
use Rattle.aes_cbc.proofs.schedule.next_word.Goals as goal

pub returns-then-i-eq0 : goal.returns-then-i-eq0
returns-then-i-eq0 c =
    let w = c.args.words.now in
    let i = c.args.i in
    let constant : c.from_be_bytes-constant.result ≡ round_constant (i / 4) =
    c.from_be_bytes-constant.ensures ∙ ap (λ x. from_be_bytes w32 (x ∷ 0 ∷ 0 ∷ 0 ∷ [])) (ROUND_CONSTANTS_at (i / 4 - 1) (omega arith)) in
    next_word-fourth w i _ c.if-i-eq0.true
    (λ j. bit_xor (slice_index w (i - 4)) (bit_xor (c.substituted_rotated.ensures j) (constant j)))

pub returns-else-i-eq0 : goal.returns-else-i-eq0
returns-else-i-eq0 c = next_word-other c.args.words.now c.args.i _ c.if-i-eq0.false refl
