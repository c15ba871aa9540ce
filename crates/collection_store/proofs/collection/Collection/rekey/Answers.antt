use Rattle.std.proofs.Common.{inl, inr, refl, rules, sym, ◌∙◌}
use Rattle.std.specs.Option.{option_map}
use Rattle.collection_store.specs.State.{held_of}
use Rattle.collection_store.specs.Storing.{parts_of}
use Rattle.collection_store.specs.declared.refused.ChangeRefused.TheVariants as refused
use Rattle.collection_store.proofs.ChangeLemmas.{call_so, err_of, in_step, is_back, is_ready, is_unlocked, no_other, same_now}
use Rattle.collection_store.proofs.KeyLemmas.{before_key, before_or_told, err_told, fault_or_told, fault_told, fits_key, image_key, kept_rows, keyed, large_key, measured_key, moments_key, moments_none, none_key, no_key_fault, stored_key, unsure_key}
use Rattle.collection_store.proofs.collection.Collection.rekey.Goals as goal

pub prepare_key-prepared-requires-clause-step : goal.prepare_key-prepared-requires-clause-step
prepare_key-prepared-requires-clause-step g c = in_step c.self.inside.cell.file c.self.inside.told c.self.inside.newer c.self.inside.held c.self.invariant

pub store-requires-clause-kept : goal.store-requires-clause-kept
store-requires-clause-kept g c = rw (is_back (record { time = c.args.now; longest = c.longest.result; room = c.args.room; key = c.key-2.result; vector = c.vector.result }) (keyed c.salt.result c.iterations.result c.self.inside.told) c.self.inside.told kept_rows c.self.inside.held c.self.inside.held c.in-Ok.prepared c.in-Ok.ensures.prepared) c.self.invariant

pub store-requires-clause-unlocked : goal.store-requires-clause-unlocked
store-requires-clause-unlocked g c = is_unlocked (record { time = c.args.now; longest = c.longest.result; room = c.args.room; key = c.key-2.result; vector = c.vector.result }) (keyed c.salt.result c.iterations.result c.self.inside.told) c.self.inside.told kept_rows c.self.inside.held c.self.inside.held c.in-Ok.prepared c.in-Ok.ensures.prepared

pub store-requires-clause-ready : goal.store-requires-clause-ready
store-requires-clause-ready g c = is_ready (record { time = c.args.now; longest = c.longest.result; room = c.args.room; key = c.key-2.result; vector = c.vector.result }) (keyed c.salt.result c.iterations.result c.self.inside.told) c.self.inside.told kept_rows c.self.inside.held c.self.inside.held c.in-Ok.prepared c.in-Ok.ensures.prepared

pub returns-in-Ok-clause-stored : goal.returns-in-Ok-clause-stored
returns-in-Ok-clause-stored g c = rw (← c.key-2.ensures, ← c.vector.ensures, ← c.salt.ensures, ← c.iterations.ensures, ← c.self.view_is) (rw c.answered.ensures (stored_key {S = g.row.S.Denot} c.args.now c.longest.result c.args.room c.key-2.result c.vector.result c.salt.result c.iterations.result c.self.inside.cell.slot c.self.inside.cell.file c.self.inside.told c.self.inside.newer c.self.inside.held c.in-Ok.prepared c.store.new.cell.slot c.store.new.cell.file c.store.new.told c.store.new.newer c.store.new.held c.store.result c.longest.ensures c.self.invariant c.in-Ok.ensures.prepared c.store.ensures.stored))

pub returns-in-Ok-clause-no_item : goal.returns-in-Ok-clause-no_item
returns-in-Ok-clause-no_item g c = λ fault is. no_other c.store.result (refused.Item fault) c.store.ensures.faults (err_told c.store.result (refused.Item fault) (sym c.answered.ensures ∙ is)) (λ e. absurd cc) (λ e. absurd cc)

pub returns-in-Ok-clause-too_large : goal.returns-in-Ok-clause-too_large
returns-in-Ok-clause-too_large g c = λ is. absurd (no_other c.store.result refused.TooLarge c.store.ensures.faults (err_told c.store.result refused.TooLarge (sym c.answered.ensures ∙ is)) (λ e. absurd cc) (λ e. absurd cc))

pub returns-in-Ok-clause-measured : goal.returns-in-Ok-clause-measured
returns-in-Ok-clause-measured g c = rw (← c.key-2.ensures, ← c.vector.ensures, ← c.salt.ensures, ← c.iterations.ensures, ← c.self.view_is) (fits_key {S = g.row.S.Denot} c.args.now c.longest.result c.args.room c.key-2.result c.vector.result c.salt.result c.iterations.result c.self.inside.cell.slot c.self.inside.cell.file c.self.inside.told c.self.inside.newer c.self.inside.held c.in-Ok.prepared _ c.longest.ensures c.self.invariant c.in-Ok.ensures.prepared)

pub returns-in-Ok-clause-unsure : goal.returns-in-Ok-clause-unsure
returns-in-Ok-clause-unsure g c = λ is. rw (← c.key-2.ensures, ← c.vector.ensures, ← c.salt.ensures, ← c.iterations.ensures, ← c.self.view_is) (unsure_key {S = g.row.S.Denot} c.args.now c.longest.result c.args.room c.key-2.result c.vector.result c.salt.result c.iterations.result c.self.inside.cell.slot c.self.inside.cell.file c.self.inside.told c.self.inside.newer c.self.inside.held c.in-Ok.prepared c.store.new.cell.slot c.store.new.cell.file c.store.new.told c.store.new.newer c.store.new.held c.longest.ensures c.self.invariant c.in-Ok.ensures.prepared (c.store.ensures.unsure (err_told c.store.result refused.FaultUnsure (sym c.answered.ensures ∙ is))))

pub returns-in-Ok-clause-unchanged : goal.returns-in-Ok-clause-unchanged
returns-in-Ok-clause-unchanged g c = rw (c.answered.ensures, ← c.self.view_is) (before_or_told _ c.store.result c.store.ensures.faults (λ is. before_key {S = g.row.S.Denot} c.args.now c.longest.result c.args.room c.key-2.result c.vector.result c.salt.result c.iterations.result c.self.inside.cell.slot c.self.inside.cell.file c.self.inside.told c.self.inside.newer c.self.inside.held c.in-Ok.prepared c.store.new.cell.slot c.store.new.cell.file c.store.new.told c.store.new.newer c.store.new.held c.in-Ok.ensures.prepared (c.store.ensures.before is)))

pub returns-in-Ok-clause-untouched : goal.returns-in-Ok-clause-untouched
returns-in-Ok-clause-untouched g c = rw c.answered.ensures (fault_or_told _ c.store.result c.store.ensures.faults)

pub returns-in-Ok-clause-any_moment : goal.returns-in-Ok-clause-any_moment
returns-in-Ok-clause-any_moment g c = λ honest. rw (← c.key-2.ensures, ← c.vector.ensures, ← c.salt.ensures, ← c.iterations.ensures, ← c.self.view_is) (moments_key {S = g.row.S.Denot} c.args.now c.longest.result c.args.room c.key-2.result c.vector.result c.salt.result c.iterations.result c.self.inside.cell.slot c.self.inside.cell.file c.self.inside.told c.self.inside.newer g.S.Slot.moment g.S.Slot.left_since c.store.new.cell.slot c.self.inside.held c.in-Ok.prepared c.longest.ensures c.self.invariant c.in-Ok.ensures.prepared (c.store.ensures.any_moment (rw (← c.self.view_is) at honest)))

pub returns-in-Ok-clause-kept : goal.returns-in-Ok-clause-kept
returns-in-Ok-clause-kept g c =
    let told = fault_told c.store.result in
    rw (c.answered.ensures, ← c.self.view_is) (search rules)

pub returns-clause-no_item : goal.returns-clause-no_item
returns-clause-no_item g c = λ fault is. none_key {S = g.row.S.Denot} c.args.now c.longest.result c.args.room c.key-2.result c.vector.result c.salt.result c.iterations.result c.self.inside.cell.slot c.self.inside.cell.file c.self.inside.told c.self.inside.newer c.self.inside.held c.in-Err.refused fault c.in-Err.ensures.refused (err_of _ _ is)

pub returns-clause-too_large : goal.returns-clause-too_large
returns-clause-too_large g c = λ is. rw (← c.key-2.ensures, ← c.vector.ensures, ← c.salt.ensures, ← c.iterations.ensures, ← c.self.view_is) (large_key {S = g.row.S.Denot} c.args.now c.longest.result c.args.room c.key-2.result c.vector.result c.salt.result c.iterations.result c.self.inside.cell.slot c.self.inside.cell.file c.self.inside.told c.self.inside.newer c.self.inside.held c.in-Err.refused c.longest.ensures c.self.invariant c.in-Err.ensures.refused (err_of _ _ is))

pub returns-clause-measured : goal.returns-clause-measured
returns-clause-measured g c = rw (← c.key-2.ensures, ← c.vector.ensures, ← c.salt.ensures, ← c.iterations.ensures, ← c.self.view_is) (measured_key {S = g.row.S.Denot} c.args.now c.longest.result c.args.room c.key-2.result c.vector.result c.salt.result c.iterations.result c.self.inside.cell.slot c.self.inside.cell.file c.self.inside.told c.self.inside.newer c.self.inside.held c.in-Err.refused c.in-Err.ensures.refused)

pub returns-clause-unsure : goal.returns-clause-unsure
returns-clause-unsure g c = λ is. absurd (no_key_fault {S = g.row.S.Denot} c.args.now c.longest.result c.args.room c.key-2.result c.vector.result c.salt.result c.iterations.result c.self.inside.cell.slot c.self.inside.cell.file c.self.inside.told c.self.inside.newer c.self.inside.held c.in-Err.refused c.in-Err.ensures.refused (inr is))

pub returns-clause-unchanged : goal.returns-clause-unchanged
returns-clause-unchanged g c = inr (rw (← c.self.view_is) (same_now c.self.inside.cell.slot c.self.inside.cell.file c.self.inside.told c.self.inside.newer c.self.inside.held c.self.inside.held refl))

pub returns-clause-any_moment : goal.returns-clause-any_moment
returns-clause-any_moment g c = λ honest. rw (← c.key-2.ensures, ← c.vector.ensures, ← c.salt.ensures, ← c.iterations.ensures, ← c.self.view_is) (moments_none {S = g.row.S.Denot} c.args.now c.longest.result c.args.room c.key-2.result c.vector.result c.salt.result c.iterations.result c.self.inside.cell.slot c.self.inside.cell.file c.self.inside.told c.self.inside.newer g.S.Slot.moment g.S.Slot.left_since c.self.inside.held c.self.invariant (c.untouched.ensures.any_moment (rw (← c.self.view_is) at honest)))

pub returns-clause-kept : goal.returns-clause-kept
returns-clause-kept g c =
    let none = no_key_fault {S = g.row.S.Denot} c.args.now c.longest.result c.args.room c.key-2.result c.vector.result c.salt.result c.iterations.result c.self.inside.cell.slot c.self.inside.cell.file c.self.inside.told c.self.inside.newer c.self.inside.held c.in-Err.refused c.in-Err.ensures.refused in
    search rules

pub returns-in-Ok-clause-old_alone : goal.returns-in-Ok-clause-old_alone
returns-in-Ok-clause-old_alone g c = λ honest. rw (c.answered.ensures, ← c.self.view_is) (before_or_told _ c.store.result c.store.ensures.faults (λ is. c.store.ensures.old_alone (rw (← c.self.view_is) at honest) is))

pub returns-in-Ok-clause-before_call : goal.returns-in-Ok-clause-before_call
returns-in-Ok-clause-before_call g c = λ is. c.store.ensures.before_call (err_told c.store.result refused.FaultBefore (sym c.answered.ensures ∙ is))

pub returns-in-Ok-clause-unsure_call : goal.returns-in-Ok-clause-unsure_call
returns-in-Ok-clause-unsure_call g c = λ is. rw (← c.key-2.ensures, ← c.vector.ensures, ← c.salt.ensures, ← c.iterations.ensures, ← c.self.view_is) (call_so (held_of c.self.inside.told (option_map parts_of c.self.inside.held)) _ _ _ _ _ (λ seen. image_key {S = g.row.S.Denot} c.args.now c.longest.result c.args.room c.key-2.result c.vector.result c.salt.result c.iterations.result c.self.inside.cell.slot c.self.inside.cell.file c.self.inside.told c.self.inside.newer c.self.inside.held c.in-Ok.prepared _ c.longest.ensures c.self.invariant c.in-Ok.ensures.prepared seen) (c.store.ensures.unsure_call (err_told c.store.result refused.FaultUnsure (sym c.answered.ensures ∙ is))))

pub returns-clause-old_alone : goal.returns-clause-old_alone
returns-clause-old_alone g c = λ honest. inr (rw (← c.self.view_is) (c.untouched.ensures.any_moment (rw (← c.self.view_is) at honest)))

pub returns-clause-before_call : goal.returns-clause-before_call
returns-clause-before_call g c = λ is. absurd (no_key_fault {S = g.row.S.Denot} c.args.now c.longest.result c.args.room c.key-2.result c.vector.result c.salt.result c.iterations.result c.self.inside.cell.slot c.self.inside.cell.file c.self.inside.told c.self.inside.newer c.self.inside.held c.in-Err.refused c.in-Err.ensures.refused (inl is))

pub returns-clause-unsure_call : goal.returns-clause-unsure_call
returns-clause-unsure_call g c = λ is. absurd (no_key_fault {S = g.row.S.Denot} c.args.now c.longest.result c.args.room c.key-2.result c.vector.result c.salt.result c.iterations.result c.self.inside.cell.slot c.self.inside.cell.file c.self.inside.told c.self.inside.newer c.self.inside.held c.in-Err.refused c.in-Err.ensures.refused (inr is))
