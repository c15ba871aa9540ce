use Rattle.std.proofs.Common.{◌≡◌, ◌<◌, ◌∙◌, true, false, IfOk, length, sym, subst}
use Rattle.replace_slot.specs.Cell.{longest_of}
use Rattle.service_tables.proofs.DiskLemmas.{file-there}
use Rattle.service_disk.proofs.ResolvingLemmas.{doubt-missing}
use Rattle.service_disk.proofs.resolving.buffer_for.Goals as goal

-- a collection in doubt is there
pub unreachable-requires : goal.unreachable-requires
unreachable-requires g c = let no : false ≡ true = doubt-missing c.args.stem.now c.args.disk.now.collections.entries c.in-None.ensures ∙ c.requires in cc

pub returns : goal.returns
returns g c =
    subst (λ file. IfOk c.buffer_in.result (λ buffer. longest_of file < length buffer.items))
    (sym (file-there c.args.stem.now c.args.disk.now.collections.entries c.in-Some.collection.now (sym c.in-Some.ensures))) c.buffer_in.ensures
