use Rattle.keyring_text.specs.Fields.{number, string}
use Rattle.keyring_file.proofs.Writing.{two-put}
use Rattle.keyring_file.proofs.clear_writing.put_hashed.Goals as goal

pub returns-in_ok-put_number-in-Text : goal.returns-in_ok-put_number-in-Text
returns-in_ok-put_number-in-Text c =
    rw (c.in-Text.is, ← c.as_slice.ensures)
    (two-put c.put_string.result c.args.out.now.items _ c.put_string.new.out.items (number 0) (string c.as_slice.result.now) c.in_ok-put_number-in-Text.ensures c.put_string.ensures)

pub returns-in_ok-put_number-in-Number : goal.returns-in_ok-put_number-in-Number
returns-in_ok-put_number-in-Number c =
    rw c.in-Number.is
    (two-put _ c.args.out.now.items _ _ (number 1) (number c.in-Number.number) c.in_ok-put_number-in-Number.ensures c.put_number-in-Number-2.ensures)
