use Rattle.std.proofs.Common.{◌≡◌, ◌+◌, length, take, vec_len, ◌∙◌, ap, arith}
use Rattle.std.proofs.lemmas.List.{length-append}
use Rattle.kr_names.specs.Escape.{escape, escaped}
use Rattle.alias_text.proofs.WritingLemmas.{part_fits}
use Rattle.alias_text.proofs.writing.put_escaped.Goals as goal

-- there is room for the byte
pub put_byte-requires : goal.put_byte-requires
put_byte-requires c =
    let so_far : vec_len c.loop-byte.text ≡ length c.args.text.now.items + length (escaped (take c.loop-byte.byte-index c.args.stem.now)) =
    c.loop-byte.text.ok.0 ∙ ap length c.loop-byte.invariant.0 ∙ length-append c.args.text.now.items (escaped (take c.loop-byte.byte-index c.args.stem.now)) in
    record {
      room = omega (arith, so_far, c.args.text.now.ok.0, part_fits escape c.args.stem.now c.loop-byte.byte-index 0 (omega (arith, c.loop-byte-test.true)), c.requires.room, c.loop-byte.invariant.1);
    }
