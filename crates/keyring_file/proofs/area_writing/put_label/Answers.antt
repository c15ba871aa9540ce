use Rattle.keyring_text.specs.Fields.{string, time}
use Rattle.keyring_file.proofs.Writing.{four-put}
use Rattle.keyring_file.proofs.area_writing.put_label.Goals as goal

pub returns : goal.returns
returns c =
    let item = c.args.item.now in
    rw (← c.as_bytes.ensures.value, ← c.as_slice.ensures)
    (four-put c.put_time-2.result c.args.out.now.items c.put_string.new.out.items c.put_string-2.new.out.items c.put_time.new.out.items c.put_time-2.new.out.items (string c.as_bytes.result.now) (string c.as_slice.result.now) (time item.created) (time item.modified)
    c.in_ok-put_string.ensures c.in_ok-put_string-2.ensures c.in_ok-put_time.ensures c.put_time-2.ensures)
