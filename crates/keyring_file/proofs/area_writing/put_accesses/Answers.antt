use Rattle.std.proofs.lemmas.List.Elements.{All-from_recursion}
use Rattle.keyring_file.specs.Canonical.{access_text}
use Rattle.keyring_file.proofs.Writing.{one_more}
use Rattle.keyring_file.specs.Short.{IsShortAccess}
use Rattle.keyring_file.proofs.area_writing.put_accesses.Goals as goal

pub put_access-requires : goal.put_access-requires
put_access-requires c = rw c.access-item.is (All-from_recursion IsShortAccess c.args.entries.now c.requires c.loop-access.access-index _ c.loop-access-test.true)

pub loop-access-preserved : goal.loop-access-preserved
loop-access-preserved c =
    one_more access_text c.args.entries.now c.loop-access.access-index c.access-item.result c.args.out.now.items c.loop-access.out.items c.put_access.new.out.items c.loop-access-test.true c.access-item.is c.loop-access.invariant c.in_ok-put_access.ensures
