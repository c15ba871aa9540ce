use Rattle.std.proofs.Common.{◌≡◌, ◌++◌, Some, true, false, cond, [], refl, sym, ap, ◌∙◌}
use Rattle.service_calls.specs.Rows.{rows_of}
use Rattle.service_calls.specs.service_prompts.specs.Announcing.{announced, lock_signals}
use Rattle.service_calls.specs.service_prompts.specs.Prompting.{completed_sent}
use Rattle.service_calls.specs.service_tables.specs.Connections.{spread}
use Rattle.service_calls.specs.service_tables.specs.declared.fate.StoreFate.TheVariants as fate
use Rattle.service_calls.proofs.LeadsLemmas.{room-keeps, room-sent}
use Rattle.service_answers.proofs.changing.prepare_ends.Goals as goal

-- each of them was made
pub returns-clause-ends : goal.returns-clause-ends
returns-clause-ends g c = λ unlocked.
    let old = rows_of c.args.tables.now in
    let rows = old.connections.rows in
    elim [
      | fate.Stored ↦ c.in_ok-stored.ensures rows ∙ ap (λ stem. spread rows (completed_sent c.args.prompt false (Some stem) old.prompts)) c.in_ok-copy.ensures
      | fate.Before ↦ c.in_ok-before.ensures rows
      | fate.Unsure ↦ c.in_ok-append.ensures.items
          ∙ (λ i. (c.in_ok-unsure.ensures ∙ ap (λ signals. spread rows (announced signals)) (c.in_ok-signals.ensures ∙ sym (ap (λ b. cond b (lock_signals c.args.stem.now true) []) unlocked))) i
          ++ c.in_ok-dismissed.ensures rows i)
    ]

pub returns-clause-before : goal.returns-clause-before
returns-clause-before g c = c.in_ok-before.ensures (rows_of c.args.tables.now).connections.rows

-- and there is room for each
pub returns-clause-room : goal.returns-clause-room
returns-clause-room g c =
    let conn = c.args.conn in
    let stored = c.in_ok-stored.stored.items in
    let before = c.in_ok-before.before.items in
    let unsure = c.append.new.self.items in
    let first = c.reserve_for.new.self.rooms in
    let second = c.reserve_for-2.new.self.rooms in
    let rooms = c.reserve_for-3.new.self.rooms in
    let one = room-sent conn c.deref.result.now stored stored first c.deref.ensures.value refl c.in_ok-reserve_for.ensures.room in
    let other = room-sent conn c.deref-2.result.now before before second c.deref-2.ensures.value refl c.in_ok-reserve_for-2.ensures.room in
    let last = room-sent conn c.deref-3.result.now unsure unsure rooms c.deref-3.ensures.value refl c.in_ok-reserve_for-3.ensures.room in
    elim [
      | fate.Stored ↦ room-keeps conn stored second rooms c.reserve_for-3.ensures.kept (room-keeps conn stored first second c.reserve_for-2.ensures.kept one)
      | fate.Before ↦ room-keeps conn before second rooms c.reserve_for-3.ensures.kept other
      | fate.Unsure ↦ last
    ]
