use Rattle.std.proofs.Common.{ℕ, List, ◌++◌, length, sym, ap, ◌∙◌, append_assoc}
use Rattle.std.proofs.lemmas.Bool.{lt-leb, le-leb}
use Rattle.std.specs.Int.{w32}
use Rattle.dbus_marshal.specs.Wire.{behind, number_bytes}
use Rattle.dbus_marshal.specs.Spelling.{aligned}
use Rattle.dbus_marshal.proofs.WritingLemmas.{bytes_array}
use Rattle.dbus_marshal.proofs.writers.write_bytes.Goals as goal

pub returns-then-bytes-gt-ARRAY_LIMIT : goal.returns-then-bytes-gt-ARRAY_LIMIT
returns-then-bytes-gt-ARRAY_LIMIT c = lt-leb _ _ c.if-bytes-gt-ARRAY_LIMIT.true

pub returns : goal.returns
returns c =
    let place = behind c.args.phase (length c.args.out.now.items) in (
      c.in_ok-extend_from_slice.ensures.items ∙ ap (λ (l : List ℕ). l ++ c.args.bytes.now) c.in_ok-write_u32.ensures.0
          ∙ append_assoc c.args.out.now.items (aligned 4 place (number_bytes c.args.endian w32 (length c.args.bytes.now))) c.args.bytes.now
          ∙ ap (λ (r : List ℕ). c.args.out.now.items ++ r) (sym (bytes_array c.args.endian c.args.bytes.now place)),
      le-leb _ _ c.if-bytes-gt-ARRAY_LIMIT.false,
    )
