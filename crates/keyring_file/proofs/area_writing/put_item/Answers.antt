use Rattle.keyring_text.specs.Fields.{number, time, string, none_length}
use Rattle.keyring_file.specs.Canonical.{zeros, list_text, attribute_text, access_text}
use Rattle.keyring_file.proofs.Writing.{item-put}
use Rattle.keyring_file.proofs.area_writing.put_item.Goals as goal

pub returns : goal.returns
returns c =
    let item = c.args.item.now in
    item-put c.put_lists.result c.args.out.now.items c.put_label.new.out.items c.put_number.new.out.items c.put_reserved.new.out.items c.put_lists.new.out.items (string item.label) (string item.value) (time item.created) (time item.modified)
    (number none_length) (zeros 16) (list_text attribute_text item.attributes) (list_text access_text item.access) c.in_ok-put_label.ensures c.in_ok-put_number.ensures c.in_ok-put_reserved.ensures c.put_lists.ensures
