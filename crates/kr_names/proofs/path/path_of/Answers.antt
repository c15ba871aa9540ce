use Rattle.std.proofs.Common.{refl}
use Rattle.std.specs.Prelude.{string_bytes}
use Rattle.kr_names.proofs.NameLemmas.{path_no_zero}
use Rattle.kr_names.proofs.path.path_of.Goals as goal

-- a path contains no zero byte
pub unreachable-requires : goal.unreachable-requires
unreachable-requires c = path_no_zero (string_bytes c.in_ok-spelled.field-0) c.args.name.now c.in_ok-spelled.ensures (c.in-None.ensures.zero.0 refl)
