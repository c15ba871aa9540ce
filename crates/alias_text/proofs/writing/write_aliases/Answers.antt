use Rattle.std.proofs.Common.{◌≡◌, length, take, vec_len, ◌∙◌, ap, arith}
use Rattle.alias_text.specs.Writing.{text_of}
use Rattle.alias_text.proofs.WritingLemmas.{line_fits}
use Rattle.alias_text.proofs.writing.write_aliases.Goals as goal

-- there is room for the line
pub put_line-requires : goal.put_line-requires
put_line-requires c =
    let so_far : vec_len c.loop-alias.text ≡ length (text_of (take c.loop-alias.alias-index c.args.aliases.now)) =
    c.loop-alias.text.ok.0 ∙ ap length c.loop-alias.invariant.0 in
    record {
      room = omega (arith, so_far, line_fits c.args.aliases.now c.loop-alias.alias-index c.alias-item.result (omega (arith, c.loop-alias-test.true)) c.alias-item.is, c.loop-alias.invariant.1);
    }
