use Rattle.std.proofs.Common.{true, false, ◌++◌, refl, ap, ◌∙◌}
use Rattle.service_calls.specs.service_prompts.specs.Announcing.{announced}
use Rattle.service_calls.specs.service_tables.specs.Connections.{spread}
use Rattle.service_calls.specs.service_tables.specs.declared.fate.ReadFate.TheVariants as ends
use Rattle.service_calls.specs.Rows.{rows_of}
use Rattle.service_calls.proofs.LeadsLemmas.{room-alone, room-keeps, room-sent}
use Rattle.service_answers.proofs.answering.prepare_found.Goals as goal

-- that it is gone, and what is sent as the prompt advances
pub returns-clause-gone : goal.returns-clause-gone
returns-clause-gone g c =
    let rows = (rows_of c.args.tables.now).connections.rows in
    c.in_ok-append.ensures.items
    ∙ (λ i. (c.in_ok-gone.ensures ∙ ap (λ signals. spread rows (announced signals)) c.in_ok-signals.ensures) i ++ c.in_ok-advance.ensures rows i)

-- the label of the newer image
pub returns-clause-newer : goal.returns-clause-newer
returns-clause-newer g c =
    let rows = (rows_of c.args.tables.now).connections.rows in
    c.in_ok-newer.ensures ∙ ap (λ signals. spread rows (announced signals)) c.in_ok-signals-2.ensures

-- there is room for each of the two, and for none
pub returns-clause-room : goal.returns-clause-room
returns-clause-room g c =
    let conn = c.args.conn in
    let gone = c.append.new.self.items in
    let newer = c.in_ok-newer.newer.items in
    let first = c.reserve_for.new.self.rooms in
    let rooms = c.reserve_for-2.new.self.rooms in
    let one = room-keeps conn gone first rooms c.reserve_for-2.ensures.kept (room-sent conn c.deref.result.now gone gone first c.deref.ensures.value refl c.in_ok-reserve_for.ensures.room) in
    let other = room-sent conn c.deref-2.result.now newer newer rooms c.deref-2.ensures.value refl c.in_ok-reserve_for-2.ensures.room in
    let none = room-alone conn newer rooms other in
    elim [
      | ends.Old ↦ elim [ true ↦ none | false ↦ one ]
      | ends.New ↦ elim [ true ↦ other | false ↦ one ]
      | ends.Other ↦ elim [ true ↦ none | false ↦ one ]
      | ends.ReadFailed ↦ elim [ true ↦ none | false ↦ one ]
    ]
