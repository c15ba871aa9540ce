use Rattle.std.proofs.Common.{sym, ◌∙◌, [], Err}
use Rattle.connection_worker.specs.Streams.{input_of}
use Rattle.connection_worker.proofs.HandshakeLemmas.{never_began, no_zero, began-at, more_behind, first_is}
use Rattle.connection_worker.proofs.opening.handshake.Goals as goal

-- nothing was read, or there was no memory for it
pub returns-in-Err : goal.returns-in-Err
returns-in-Err g c =
    let source = g.I.Source in
    let from = input_of source.left source.faults source.is_steady source.is_closed c.args.input.now in
    let to = input_of source.left source.faults source.is_steady source.is_closed c.read_more.new.input in
    never_began c.args.auth.uid c.args.auth.guid c.read_more.new.held.items from to _ c.in-Err.end
    (more_behind c.new-held.result.items [] c.read_more.new.held.items from to (Err c.in-Err.end) c.new-held.ensures.items c.in-Err.ensures)

-- the first byte isn't zero
pub returns-then-index-ne0 : goal.returns-then-index-ne0
returns-then-index-ne0 g c =
    let more = rw c.new-held.ensures.items at c.in_default-read_more.ensures in
    no_zero c.args.auth.uid c.args.auth.guid c.read_more.new.held.items _ _ _ more
    (λ none. c.if-index-ne0.true (first_is c.read_more.new.held.items _ c.index.ensures (rw more.2 more.3) ∙ none))

-- it is, and lines follow
pub returns : goal.returns
returns g c =
    let more = rw c.new-held.ensures.items at c.in_default-read_more.ensures in
    began-at c.args.auth c.read_more.new.held.items c.remove_front.new.bytes.items _ _ _ _ _ c.requires.fresh c.remove_front.ensures more
    (sym (first_is c.read_more.new.held.items _ c.index.ensures (rw more.2 more.3)) ∙ c.if-index-ne0.false) c.shake.ensures
