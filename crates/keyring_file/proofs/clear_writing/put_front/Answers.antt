use Rattle.keyring_text.specs.Fields.{number, time, string}
use Rattle.keyring_file.specs.Canonical.{zeros}
use Rattle.keyring_file.specs.ClearText.{magic, version}
use Rattle.keyring_file.proofs.Writing.{front-put}
use Rattle.keyring_file.proofs.clear_writing.put_front.Goals as goal

pub returns : goal.returns
returns c =
    let clear = c.args.clear.now in
    front-put c.put_limits.result c.args.out.now.items c.put_version.new.out.items c.put_name.new.out.items c.put_limits.new.out.items magic (version clear.minor) (string clear.name) (time clear.created) (time clear.modified) (number clear.flags)
    (number clear.timeout) (number clear.iterations) clear.salt (zeros 16) c.in_ok-put_version.ensures c.in_ok-put_name.ensures c.put_limits.ensures
