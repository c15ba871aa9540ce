use Rattle.keyring_text.specs.Fields.{number, string, none_length}
use Rattle.keyring_file.proofs.Writing.{five-put}
use Rattle.keyring_file.proofs.area_writing.put_access.Goals as goal

pub returns : goal.returns
returns c =
    let access = c.args.access.now in
    rw (← c.as_bytes.ensures.value, ← c.as_bytes-2.ensures.value)
    (five-put c.put_number-3.result c.args.out.now.items c.put_number.new.out.items c.put_string.new.out.items c.put_string-2.new.out.items c.put_number-2.new.out.items c.put_number-3.new.out.items (number access.allowed) (string c.as_bytes.result.now)
    (string c.as_bytes-2.result.now) (number none_length) (number 0) c.in_ok-put_number.ensures c.in_ok-put_string.ensures c.in_ok-put_string-2.ensures c.in_ok-put_number-2.ensures c.put_number-3.ensures)
