use Rattle.std.proofs.Common.{Err, inl, inr, rules, subst}
use Rattle.std.specs.Prelude.{IfSome}
use Rattle.std.specs.Option.{option_map}
use Rattle.collection_store.specs.Changes.{rows_made}
use Rattle.collection_store.specs.State.{CollectionState, held_of}
use Rattle.collection_store.specs.Storable.{EndsAs, storable}
use Rattle.collection_store.specs.Storing.{parts_of}
use Rattle.collection_store.specs.declared.change.Changed.{Changed}
use Rattle.collection_store.specs.declared.refused.ChangeRefused.TheVariants as refused
use Rattle.collection_store.proofs.ChangeLemmas.{before_ok, before_or, call_so, changed_ok, err_of, fault_or, fits_ok, front_of, image_ok, in_step, is_back, is_ready, is_unlocked, item_no, known_no, known_ok, large_no, measured_no, moments_no, moments_ok, never_ok, no_fault, no_item_no, no_other, same_now, unsure_ok}
use Rattle.collection_store.proofs.collection.Collection.change.Goals as goal

pub prepare_in-requires-clause-step : goal.prepare_in-requires-clause-step
prepare_in-requires-clause-step g c = in_step c.self.inside.cell.file c.self.inside.told c.self.inside.newer c.self.inside.held c.self.invariant

pub store-requires-clause-kept : goal.store-requires-clause-kept
store-requires-clause-kept g c = rw (is_back c.frame_of-frame.result (front_of c.args.change c.self.inside.told) c.self.inside.told (rows_made c.args.change c.frame_of-frame.result.time) c.self.inside.held c.prepare_in.new.held c.in-Ok.prepared c.in-Ok.ensures.prepared) c.self.invariant

pub store-requires-clause-unlocked : goal.store-requires-clause-unlocked
store-requires-clause-unlocked g c = is_unlocked c.frame_of-frame.result (front_of c.args.change c.self.inside.told) c.self.inside.told (rows_made c.args.change c.frame_of-frame.result.time) c.self.inside.held c.prepare_in.new.held c.in-Ok.prepared c.in-Ok.ensures.prepared

pub store-requires-clause-ready : goal.store-requires-clause-ready
store-requires-clause-ready g c = is_ready c.frame_of-frame.result (front_of c.args.change c.self.inside.told) c.self.inside.told (rows_made c.args.change c.frame_of-frame.result.time) c.self.inside.held c.prepare_in.new.held c.in-Ok.prepared c.in-Ok.ensures.prepared

pub returns-in-Ok-clause-changed : goal.returns-in-Ok-clause-changed
returns-in-Ok-clause-changed g c = rw (← c.self.view_is) (changed_ok {S = g.row.S.Denot} c.args.change c.args.now c.longest.result c.args.room c.self.inside.cell.slot c.self.inside.cell.file c.self.inside.told c.self.inside.newer c.frame_of-frame.result c.self.inside.held c.prepare_in.new.held c.in-Ok.prepared c.store.new.cell.slot c.store.new.cell.file c.store.new.told c.store.new.newer c.store.new.held c.store.result c.longest.ensures c.self.invariant c.frame_of-frame.ensures c.in-Ok.ensures.prepared c.store.ensures.stored)

pub returns-in-Ok-clause-no_item : goal.returns-in-Ok-clause-no_item
returns-in-Ok-clause-no_item g c = λ fault. rw (← c.self.view_is) (never_ok {S = g.row.S.Denot} c.args.change c.args.now c.longest.result c.args.room c.self.inside.cell.slot c.self.inside.cell.file c.self.inside.told c.self.inside.newer c.frame_of-frame.result c.self.inside.held c.prepare_in.new.held c.in-Ok.prepared fault _ c.longest.ensures c.self.invariant c.frame_of-frame.ensures c.in-Ok.ensures.prepared)

pub returns-in-Ok-clause-measured : goal.returns-in-Ok-clause-measured
returns-in-Ok-clause-measured g c = rw (← c.self.view_is) (fits_ok {S = g.row.S.Denot} c.args.change c.args.now c.longest.result c.args.room c.self.inside.cell.slot c.self.inside.cell.file c.self.inside.told c.self.inside.newer c.frame_of-frame.result c.self.inside.held c.prepare_in.new.held c.in-Ok.prepared _ c.longest.ensures c.self.invariant c.frame_of-frame.ensures c.in-Ok.ensures.prepared)

pub returns-in-Ok-clause-unsure : goal.returns-in-Ok-clause-unsure
returns-in-Ok-clause-unsure g c = λ is. rw (← c.self.view_is) (unsure_ok {S = g.row.S.Denot} c.args.change c.args.now c.longest.result c.args.room c.self.inside.cell.slot c.self.inside.cell.file c.self.inside.told c.self.inside.newer c.frame_of-frame.result c.self.inside.held c.prepare_in.new.held c.in-Ok.prepared c.store.new.cell.slot c.store.new.cell.file c.store.new.told c.store.new.newer c.store.new.held c.longest.ensures c.self.invariant c.frame_of-frame.ensures c.in-Ok.ensures.prepared (c.store.ensures.unsure is))

pub returns-in-Ok-clause-item : goal.returns-in-Ok-clause-item
returns-in-Ok-clause-item g c = λ fault is. absurd (no_other c.store.result (refused.Item fault) c.store.ensures.faults is (λ e. absurd cc) (λ e. absurd cc))

pub returns-in-Ok-clause-too_large : goal.returns-in-Ok-clause-too_large
returns-in-Ok-clause-too_large g c = λ is. absurd (no_other c.store.result refused.TooLarge c.store.ensures.faults is (λ e. absurd cc) (λ e. absurd cc))

pub returns-in-Ok-clause-unchanged : goal.returns-in-Ok-clause-unchanged
returns-in-Ok-clause-unchanged g c = rw (← c.self.view_is) (before_or _ c.store.result c.store.ensures.faults (λ is. before_ok {S = g.row.S.Denot} c.args.change c.args.now c.longest.result c.args.room c.self.inside.cell.slot c.self.inside.cell.file c.self.inside.told c.self.inside.newer c.frame_of-frame.result c.self.inside.held c.prepare_in.new.held c.in-Ok.prepared c.store.new.cell.slot c.store.new.cell.file c.store.new.told c.store.new.newer c.store.new.held c.in-Ok.ensures.prepared (c.store.ensures.before is)))

pub returns-in-Ok-clause-untouched : goal.returns-in-Ok-clause-untouched
returns-in-Ok-clause-untouched g c = fault_or _ c.store.result c.store.ensures.faults

pub returns-in-Ok-clause-any_moment : goal.returns-in-Ok-clause-any_moment
returns-in-Ok-clause-any_moment g c = λ honest. rw (← c.self.view_is) (moments_ok {S = g.row.S.Denot} c.args.change c.args.now c.longest.result c.args.room c.self.inside.cell.slot c.self.inside.cell.file c.self.inside.told c.self.inside.newer g.S.Slot.moment g.S.Slot.left_since c.store.new.cell.slot c.frame_of-frame.result c.self.inside.held c.prepare_in.new.held c.in-Ok.prepared c.longest.ensures c.self.invariant c.frame_of-frame.ensures c.in-Ok.ensures.prepared (c.store.ensures.any_moment (rw (← c.self.view_is) at honest)))

pub returns-in-Ok-clause-old_alone : goal.returns-in-Ok-clause-old_alone
returns-in-Ok-clause-old_alone g c = λ honest. rw (← c.self.view_is) (before_or _ c.store.result c.store.ensures.faults (λ is. c.store.ensures.old_alone (rw (← c.self.view_is) at honest) is))

pub returns-in-Ok-clause-unsure_call : goal.returns-in-Ok-clause-unsure_call
returns-in-Ok-clause-unsure_call g c = λ is. rw (← c.self.view_is) (call_so (held_of c.self.inside.told (option_map parts_of c.self.inside.held)) _ _ _ _ _ (λ seen. image_ok {S = g.row.S.Denot} c.args.change c.args.now c.longest.result c.args.room c.self.inside.cell.slot c.self.inside.cell.file c.self.inside.told c.self.inside.newer c.frame_of-frame.result c.self.inside.held c.prepare_in.new.held c.in-Ok.prepared _ c.longest.ensures c.self.invariant c.frame_of-frame.ensures c.in-Ok.ensures.prepared seen) (c.store.ensures.unsure_call is))

pub returns-in-Err-clause-item : goal.returns-in-Err-clause-item
returns-in-Err-clause-item g c = λ fault is. rw (← c.self.view_is) (item_no {S = g.row.S.Denot} c.args.change c.args.now c.longest.result c.args.room c.self.inside.cell.slot c.self.inside.cell.file c.self.inside.told c.self.inside.newer c.frame_of-frame.result c.self.inside.held c.in-Err.refused fault c.self.invariant c.frame_of-frame.ensures c.in-Err.ensures.refused (err_of _ _ is))

pub returns-in-Err-clause-no_item : goal.returns-in-Err-clause-no_item
returns-in-Err-clause-no_item g c = λ fault. rw (← c.self.view_is) (no_item_no {S = g.row.S.Denot} c.args.change c.args.now c.longest.result c.args.room c.self.inside.cell.slot c.self.inside.cell.file c.self.inside.told c.self.inside.newer Changed c.frame_of-frame.result c.self.inside.held c.in-Err.refused fault c.self.invariant c.frame_of-frame.ensures c.in-Err.ensures.refused)

pub returns-in-Err-clause-too_large : goal.returns-in-Err-clause-too_large
returns-in-Err-clause-too_large g c = λ is. rw (← c.self.view_is) (large_no {S = g.row.S.Denot} c.args.change c.args.now c.longest.result c.args.room c.self.inside.cell.slot c.self.inside.cell.file c.self.inside.told c.self.inside.newer c.frame_of-frame.result c.self.inside.held c.in-Err.refused c.longest.ensures c.self.invariant c.frame_of-frame.ensures c.in-Err.ensures.refused (err_of _ _ is))

pub returns-in-Err-clause-measured : goal.returns-in-Err-clause-measured
returns-in-Err-clause-measured g c = rw (← c.self.view_is) (measured_no {S = g.row.S.Denot} c.args.change c.args.now c.longest.result c.args.room c.self.inside.cell.slot c.self.inside.cell.file c.self.inside.told c.self.inside.newer Changed c.frame_of-frame.result c.self.inside.held c.in-Err.refused c.self.invariant c.frame_of-frame.ensures c.in-Err.ensures.refused)

pub returns-in-Err-clause-unsure : goal.returns-in-Err-clause-unsure
returns-in-Err-clause-unsure g c = λ is. absurd (no_fault {S = g.row.S.Denot} c.args.change c.args.now c.longest.result c.args.room c.self.inside.cell.slot c.self.inside.cell.file c.self.inside.told c.self.inside.newer Changed c.frame_of-frame.result (front_of c.args.change c.self.inside.told) (rows_made c.args.change c.frame_of-frame.result.time) c.self.inside.held c.in-Err.refused c.in-Err.ensures.refused (inr is))

pub returns-in-Err-clause-unchanged : goal.returns-in-Err-clause-unchanged
returns-in-Err-clause-unchanged g c = inr (rw (← c.self.view_is) (same_now c.self.inside.cell.slot c.self.inside.cell.file c.self.inside.told c.self.inside.newer c.self.inside.held c.prepare_in.new.held c.in-Err.ensures.unchanged))

pub returns-in-Err-clause-any_moment : goal.returns-in-Err-clause-any_moment
returns-in-Err-clause-any_moment g c = λ honest. rw (← c.self.view_is) (moments_no {S = g.row.S.Denot} c.args.change c.args.now c.longest.result c.args.room c.self.inside.cell.slot c.self.inside.cell.file c.self.inside.told c.self.inside.newer g.S.Slot.moment g.S.Slot.left_since c.self.inside.held c.self.invariant (c.untouched.ensures.any_moment (rw (← c.self.view_is) at honest)))

pub returns-in-Err-clause-old_alone : goal.returns-in-Err-clause-old_alone
returns-in-Err-clause-old_alone g c = λ honest. inr (rw (← c.self.view_is) (c.untouched.ensures.any_moment (rw (← c.self.view_is) at honest)))

pub returns-in-Err-clause-kept : goal.returns-in-Err-clause-kept
returns-in-Err-clause-kept g c =
    let none = no_fault {S = g.row.S.Denot} c.args.change c.args.now c.longest.result c.args.room c.self.inside.cell.slot c.self.inside.cell.file c.self.inside.told c.self.inside.newer Changed c.frame_of-frame.result (front_of c.args.change c.self.inside.told) (rows_made c.args.change c.frame_of-frame.result.time) c.self.inside.held c.in-Err.refused c.in-Err.ensures.refused in
    search rules

pub returns-in-Err-clause-before_call : goal.returns-in-Err-clause-before_call
returns-in-Err-clause-before_call g c = λ is. absurd (no_fault {S = g.row.S.Denot} c.args.change c.args.now c.longest.result c.args.room c.self.inside.cell.slot c.self.inside.cell.file c.self.inside.told c.self.inside.newer Changed c.frame_of-frame.result (front_of c.args.change c.self.inside.told) (rows_made c.args.change c.frame_of-frame.result.time) c.self.inside.held c.in-Err.refused c.in-Err.ensures.refused (inl is))

pub returns-in-Err-clause-unsure_call : goal.returns-in-Err-clause-unsure_call
returns-in-Err-clause-unsure_call g c = λ is. absurd (no_fault {S = g.row.S.Denot} c.args.change c.args.now c.longest.result c.args.room c.self.inside.cell.slot c.self.inside.cell.file c.self.inside.told c.self.inside.newer Changed c.frame_of-frame.result (front_of c.args.change c.self.inside.told) (rows_made c.args.change c.frame_of-frame.result.time) c.self.inside.held c.in-Err.refused c.in-Err.ensures.refused (inr is))

pub returns-in-Ok-clause-known : goal.returns-in-Ok-clause-known
returns-in-Ok-clause-known g c = rw (← c.self.view_is) (known_ok {S = g.row.S.Denot} c.args.change c.args.now c.longest.result c.args.room c.self.inside.cell.slot c.self.inside.cell.file c.self.inside.told c.self.inside.newer c.frame_of-frame.result c.self.inside.held c.prepare_in.new.held c.in-Ok.prepared c.store.new.cell.file c.store.new.told c.store.new.newer c.store.new.held c.store.result c.longest.ensures c.self.invariant c.frame_of-frame.ensures c.in-Ok.ensures.prepared c.store.ensures.stored c.store.ensures.faults)

pub returns-in-Err-clause-known : goal.returns-in-Err-clause-known
returns-in-Err-clause-known g c = subst (λ (state : CollectionState g.row.S.Denot). IfSome state.held (λ held. EndsAs (storable c.args.change c.args.now c.args.room state.file state.clear held) (Err c.in-Err.refused))) c.self.view_is (known_no {S = g.row.S.Denot} c.args.change c.args.now c.longest.result c.args.room c.self.inside.cell.slot c.self.inside.cell.file c.self.inside.told c.self.inside.newer c.frame_of-frame.result c.self.inside.held c.in-Err.refused c.longest.ensures c.self.invariant c.frame_of-frame.ensures c.in-Err.ensures.refused)
