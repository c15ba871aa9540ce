use Rattle.std.proofs.Common.{◌≡◌, ◌⊎◌, inl, inr, IsTrue, IsSome, true, refl, rules}
use Rattle.service_tables.proofs.SlotLemmas.{no-rise}
use Rattle.service_disk.proofs.RekeyingLemmas.{all-as-before, fits-row, large-row, locked-row, moment-as-before, moment-perhaps, moment-under, row-as-before, row-perhaps, row-under}
use Rattle.service_disk.proofs.rekeying.rekey_in.Goals as goal

-- it is locked
pub returns-then-not-is_open-clause-measured : goal.returns-then-not-is_open-clause-measured
returns-then-not-is_open-clause-measured g c = locked-row c.args.key c.args.now c.args.collection.now c.args.collection.now c.is_open.result c.args.room c.is_open.ensures.value c.if-not-is_open.true

pub rekey-requires-clause-unlocked : goal.rekey-requires-clause-unlocked
rekey-requires-clause-unlocked g c = c.is_open.ensures.value.0 c.if-not-is_open.false

-- it is stored
pub returns-in-Ok-clause-row : goal.returns-in-Ok-clause-row
returns-in-Ok-clause-row g c = row-under c.args.key c.args.now c.args.collection.now c.rekey.new.self (c.is_open.ensures.value.0 c.if-not-is_open.false) c.in-Ok.ensures.stored

pub returns-in-Ok-clause-slot : goal.returns-in-Ok-clause-slot
returns-in-Ok-clause-slot g c =
    let ends = c.in-Ok.ensures in
    let old = c.args.collection.now in
    let new = c.rekey.new.self in
    let unlocked : IsSome old.held = c.is_open.ensures.value.0 c.if-not-is_open.false in
    record {
      any_moment = λ honest. moment-under c.args.key c.args.now old new g.S.Slot.moment g.S.Slot.left_since unlocked ends.stored (ends.any_moment honest);
      crash = ends.crash;
      honest = ends.kept.honest;
      steady = ends.kept.steady;
      cause = λ fault. absurd fault;
      never = λ steady fault. fault;
      one = λ honest same. cc;
    }

pub returns-in-Ok-clause-fits : goal.returns-in-Ok-clause-fits
returns-in-Ok-clause-fits g c =
    fits-row c.args.key c.args.now c.args.collection.now c.rekey.new.self c.args.room _ (λ no. elim no [ inl large ↦ cc | inr none ↦ cc ]) (c.is_open.ensures.value.0 c.if-not-is_open.false) c.in-Ok.ensures.measured

-- nothing is stored
pub returns-in-Err-FaultBefore-clause-row : goal.returns-in-Err-FaultBefore-clause-row
returns-in-Err-FaultBefore-clause-row g c =
    row-as-before c.args.key c.args.now c.args.collection.now c.rekey.new.self (elim c.in-Err-FaultBefore.ensures.unchanged [ inl unsure ↦ absurd cc | inr same ↦ same ])

pub returns-in-Err-FaultBefore-clause-slot : goal.returns-in-Err-FaultBefore-clause-slot
returns-in-Err-FaultBefore-clause-slot g c =
    let ends = c.in-Err-FaultBefore.ensures in
    let old = c.args.collection.now in
    let new = c.rekey.new.self in
    record {
      any_moment = λ honest. moment-as-before c.args.key c.args.now old new g.S.Slot.moment g.S.Slot.left_since (elim (ends.old_alone honest) [ inl unsure ↦ absurd cc | inr leaves ↦ leaves ]);
      crash = ends.crash;
      honest = ends.kept.honest;
      steady = ends.kept.steady;
      cause = λ fault. ends.kept.cause (search rules);
      never = λ steady fault. no-rise _ _ _ _ ends.kept.steady steady (g.met.S.Slot.steady_below old.slot steady) (ends.kept.cause (search rules));
      one = λ honest same. cc;
    }

pub returns-in-Err-FaultBefore-clause-fits : goal.returns-in-Err-FaultBefore-clause-fits
returns-in-Err-FaultBefore-clause-fits g c =
    fits-row c.args.key c.args.now c.args.collection.now c.rekey.new.self c.args.room _ (λ no. elim no [ inl large ↦ cc | inr none ↦ cc ]) (c.is_open.ensures.value.0 c.if-not-is_open.false) c.in-Err-FaultBefore.ensures.measured

-- that isn't known
pub returns-in-Err-FaultUnsure-clause-row : goal.returns-in-Err-FaultUnsure-clause-row
returns-in-Err-FaultUnsure-clause-row g c =
    row-perhaps c.args.key c.args.now c.args.collection.now c.rekey.new.self (c.is_open.ensures.value.0 c.if-not-is_open.false) (c.in-Err-FaultUnsure.ensures.unsure (search rules))

pub returns-in-Err-FaultUnsure-clause-slot : goal.returns-in-Err-FaultUnsure-clause-slot
returns-in-Err-FaultUnsure-clause-slot g c =
    let ends = c.in-Err-FaultUnsure.ensures in
    let old = c.args.collection.now in
    let new = c.rekey.new.self in
    let unlocked : IsSome old.held = c.is_open.ensures.value.0 c.if-not-is_open.false in
    record {
      any_moment = λ honest. moment-perhaps c.args.key c.args.now old new g.S.Slot.moment g.S.Slot.left_since unlocked (ends.unsure (search rules)) (ends.any_moment honest);
      crash = ends.crash;
      honest = ends.kept.honest;
      steady = ends.kept.steady;
      cause = λ fault. ends.kept.cause (search rules);
      never = λ steady fault. no-rise _ _ _ _ ends.kept.steady steady (g.met.S.Slot.steady_below old.slot steady) (ends.kept.cause (search rules));
      one = λ honest same. cc;
    }

pub returns-in-Err-FaultUnsure-clause-fits : goal.returns-in-Err-FaultUnsure-clause-fits
returns-in-Err-FaultUnsure-clause-fits g c =
    fits-row c.args.key c.args.now c.args.collection.now c.rekey.new.self c.args.room _ (λ no. elim no [ inl large ↦ cc | inr none ↦ cc ]) (c.is_open.ensures.value.0 c.if-not-is_open.false) c.in-Err-FaultUnsure.ensures.measured

-- its file would be too large
pub returns-in-Err-TooLarge-clause-measured : goal.returns-in-Err-TooLarge-clause-measured
returns-in-Err-TooLarge-clause-measured g c =
    large-row c.args.key c.args.now c.args.collection.now c.rekey.new.self c.args.room (c.is_open.ensures.value.0 c.if-not-is_open.false) (c.in-Err-TooLarge.ensures.too_large (search rules))

pub returns-in-Err-TooLarge-clause-unasked : goal.returns-in-Err-TooLarge-clause-unasked
returns-in-Err-TooLarge-clause-unasked g c =
    let ends = c.in-Err-TooLarge.ensures in
    all-as-before c.args.key c.args.now c.args.collection.now c.rekey.new.self (elim ends.unchanged [ inl unsure ↦ absurd cc | inr same ↦ same ])
    (elim ends.untouched [ inl fault ↦ absurd (elim fault [ inl before ↦ cc | inr unsure ↦ cc ]) | inr same ↦ same ])

-- no memory is left
pub returns-in-Err-OutOfMemory-clause-unchanged : goal.returns-in-Err-OutOfMemory-clause-unchanged
returns-in-Err-OutOfMemory-clause-unchanged g c =
    let ends = c.in-Err-OutOfMemory.ensures in
    all-as-before c.args.key c.args.now c.args.collection.now c.rekey.new.self (elim ends.unchanged [ inl unsure ↦ absurd cc | inr same ↦ same ])
    (elim ends.untouched [ inl fault ↦ absurd (elim fault [ inl before ↦ cc | inr unsure ↦ cc ]) | inr same ↦ same ])
