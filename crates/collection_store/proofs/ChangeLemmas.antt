-- A collection's state after a change, from what was prepared and stored.
use Rattle.std.proofs.Common.{◌≡◌, ℕ, ◌<◌, ◌≤◌, true, false, cond, nat_le, List, length, Option, Some, None, Result, Ok, Err, refl, sym, ap, subst, ◌∙◌, inl, inr, arith}
use Rattle.std.specs.Prelude.{IfSome, IfOk, IsErrOf, IsSome, OnErr, ◌⊎◌}
use Rattle.std.specs.Option.{option_map}
use Rattle.std.proofs.lemmas.Bool.Decides.{nat_tests}
use Rattle.kr_outside.specs.RenameDisk.{Image}
use Rattle.kr_outside.specs.Moments.{LeavesOnly}
use Rattle.kr_outside.proofs.MomentLemmas.{LeavesOnly-weaker}
use Rattle.kr_outside.specs.declared.slot.DeviceCall.{DeviceCall}
use Rattle.replace_slot.specs.Cell.{FailedAfter, File, Known, Doubt, IsOneOf, longest_of, old_image}
use Rattle.keyring_file.specs.Clear.{ClearPart}
use Rattle.keyring_seal.specs.Arranged.{Row, rows}
use Rattle.keyring_seal.specs.Whole.{sealed}
use Rattle.keyring_seal.specs.declared.content.Content.{Content}
use Rattle.keyring_seal.proofs.ArrangedLemmas.{rows_again}
use Rattle.item_store.specs.Rows.{Rows}
use Rattle.item_store.specs.declared.fault.ItemFault.{ItemFault}
use Rattle.collection_store.specs.Changes.{as_content, content_changed, content_stored, name_made, rows_made}
use Rattle.collection_store.specs.Outcomes.{IsChanged, IsFault, IsNewImage, IsOldOrNew, IsSame, IsTooLarge, MayBeChanged, made_of, most_for}
use Rattle.collection_store.specs.Preparing.{IsInStep, IsOver, MayRefuse}
use Rattle.collection_store.specs.Resting.{finished}
use Rattle.collection_store.specs.State.{CollectionState, Held, IsKept, held_of, rows_with, shown_of, without_hashes}
use Rattle.collection_store.specs.Storable.{EndsAs, sized, storable}
use Rattle.collection_store.specs.Storing.{AreBefore, AreStored, AreUnsure, IsPreparedIn, IsReady, MayRefuseIn, frame_for, parts_of, undone_open}
use Rattle.collection_store.specs.declared.candidate.Frame.{Frame}
use Rattle.collection_store.specs.declared.change.Change.{Change}
use Rattle.collection_store.specs.declared.change.Changed.{Changed}
use Rattle.collection_store.specs.declared.holding.Open.{Open}
use Rattle.collection_store.specs.declared.preparing.Prepared.{Prepared}
use Rattle.collection_store.specs.declared.refused.ChangeRefused.{ChangeRefused}
use Rattle.collection_store.specs.declared.refused.ChangeRefused.TheVariants as refused
use Rattle.collection_store.proofs.OpenedLemmas.{few_iterations}
use Rattle.collection_store.proofs.StateLemmas.{newer_none, shown_by}

-- a collection's state
abbrev pub state_of : {S : Type 0} → S → File → ClearPart → Option ClearPart → Option Open → CollectionState S
state_of slot file told newer held = record { slot = slot; file = file; clear = shown_of told (option_map parts_of held); other = newer; held = held_of told (option_map parts_of held) }

-- the front after a change
abbrev pub front_of : Change → ClearPart → ClearPart
front_of change clear = record clear { name = name_made change clear.name }

-- what is stored doesn't depend on the hashes in the clear part
same_content : (change : Change) (now : ℕ) (told shown : ClearPart) (these : List Row) → without_hashes told ≡ without_hashes shown → content_stored now (front_of change told) these ≡ content_stored now (front_of change shown) these
same_content change now told shown these same = ap (λ (t : ClearPart). content_stored now (front_of change t) these) same

-- the file of an unlocked collection is known, and what is shown differs from the clear part in its hashes alone
pub shown_same : (file : File) (told : ClearPart) (newer : Option ClearPart) (was : Open) → IsKept file told newer (Some (parts_of was)) → without_hashes told ≡ without_hashes (shown_of told (Some (parts_of was)))
shown_same (Known None) told newer was kept = absurd kept.opens
shown_same (Known (Some bytes)) told newer was kept = kept.opens.same
shown_same (Doubt old new) told newer was kept = absurd kept.opens

-- the items have the same ids as the clear part
step_at : (file : File) (told : ClearPart) (newer : Option ClearPart) (was : Open) → IsKept file told newer (Some (parts_of was)) → IsInStep told was.items
step_at (Known None) told newer was kept = absurd kept.opens
step_at (Known (Some bytes)) told newer was kept =
    let same = ap (λ (t : ClearPart). t.iterations) kept.opens.same in
    let shown = ap (λ (t : ClearPart). t.iterations) kept.shows.2 in
    let few = few_iterations bytes kept.shows.0 kept.shows.1 in
    record { ids = kept.opens.ids; hashed = kept.opens.hashed; iterations = omega (arith, same, shown, few) }
step_at (Doubt old new) told newer was kept = absurd kept.opens

pub in_step : (file : File) (told : ClearPart) (newer : Option ClearPart) (was : Option Open) → IsKept file told newer (option_map parts_of was) → IfSome was (λ w. IsInStep told w.items)
in_step file told newer None kept = tt
in_step file told newer (Some was) kept = step_at file told newer was kept

one_of : {A : Type 0} (x y : A) → Some x ≡ Some y → x ≡ y
one_of x y e = cc

ok_of : (x y : Content × Changed) → ◌≡◌ {A = Result (Content × Changed) ItemFault} (Ok x) (Ok y) → x ≡ y
ok_of x y e = cc

pub err_of : {A : Type 0} (x y : ChangeRefused) → ◌≡◌ {A = Result A ChangeRefused} (Err x) (Err y) → x ≡ y
err_of x y e = cc

pub known_one : (file : File) (told : ClearPart) (newer : Option ClearPart) (was : Open) → IsKept file told newer (Some (parts_of was)) → (image : Image) → IsOneOf file image → image ≡ old_image file
known_one (Known known) told newer was kept image is = is
known_one (Doubt old new) told newer was kept image is = absurd kept.opens

-- ---- the answers of a call

-- if a call of the device failed, there is no other refusal
pub no_other : {A : Type 0} (result : Result A ChangeRefused) (r : ChangeRefused) → OnErr result (IsFault result) → IsErrOf result r → (r ≡ refused.FaultBefore → ⊥) → (r ≡ refused.FaultUnsure → ⊥) → ⊥
no_other (Ok x) r faults is before unsure = absurd cc
no_other (Err e) r (inl fault) is before unsure = before (sym (err_of e r is) ∙ err_of e refused.FaultBefore fault)
no_other (Err e) r (inr fault) is before unsure = unsure (sym (err_of e r is) ∙ err_of e refused.FaultUnsure fault)

pub before_or : {A : Type 0} (X : Type 0) (result : Result A ChangeRefused) → OnErr result (IsFault result) → (IsErrOf result refused.FaultBefore → X) → OnErr result (IsErrOf result refused.FaultUnsure ⊎ X)
before_or X (Ok x) faults before = tt
before_or X (Err e) (inl is) before = inr (before is)
before_or X (Err e) (inr is) before = inl is

pub fault_or : {A : Type 0} (X : Type 0) (result : Result A ChangeRefused) → OnErr result (IsFault result) → OnErr result (IsFault result ⊎ X)
fault_or X (Ok x) faults = tt
fault_or X (Err e) faults = inl faults

-- what the slot had before the call that failed
pub call_so : (held : Option Held) (call : DeviceCall) (Honest Done : Type 0) (New : Held → Type 0) (failed : Option DeviceCall) → (Done → IfSome held New) → FailedAfter call (Honest → Done) failed → IfSome held (λ h. FailedAfter call (Honest → New h) failed)
call_so None call Honest Done New failed so is = tt
call_so (Some h) call Honest Done New failed so (inl is) = inl is
call_so (Some h) call Honest Done New failed so (inr (is, done)) = inr (is, λ honest. so (done honest))

-- nothing has changed
pub same_now : {S : Type 0} (slot : S) (file : File) (told : ClearPart) (newer : Option ClearPart) (was held : Option Open) → held ≡ was → IsSame (state_of slot file told newer was) (state_of slot file told newer held)
same_now slot file told newer was held same = record {
  file = refl;
  clear = ap (λ h. shown_of told (option_map parts_of h)) same;
  other = refl;
  held = ap (λ h. held_of told (option_map parts_of h)) same;
}

-- ---- what is prepared

pub is_unlocked : (frame : Frame) (front told : ClearPart) (made : List Row → Result (List Row × Changed) ItemFault) (was next : Option Open) (ready : Prepared) → IsPreparedIn frame front told made was next ready → IsSome next
is_unlocked frame front told made None next ready p = absurd p
is_unlocked frame front told made (Some was) None ready p = absurd p
is_unlocked frame front told made (Some was) (Some next) ready p = refl

pub is_ready : (frame : Frame) (front told : ClearPart) (made : List Row → Result (List Row × Changed) ItemFault) (was next : Option Open) (ready : Prepared) → IsPreparedIn frame front told made was next ready → IfSome next (IsReady frame ready)
is_ready frame front told made None next ready p = absurd p
is_ready frame front told made (Some was) None ready p = absurd p
is_ready frame front told made (Some was) (Some next) ready p = record { has = p.1.has; opened = p.1.opened }

back_at : (front : ClearPart) (frame : Frame) (told : ClearPart) (made : List Row → Result (List Row × Changed) ItemFault) (was next : Open) (ready : Prepared) → IsPreparedIn frame front told made (Some was) (Some next) ready → undone_open ready.rest next ≡ was
back_at front frame told made was next ready p =
    ap (λ (o : Open). undone_open ready.rest o) p.0 ∙ ap (λ (i : Rows). record was { items = i }) p.1.undone

pub is_back : (frame : Frame) (front told : ClearPart) (made : List Row → Result (List Row × Changed) ItemFault) (was next : Option Open) (ready : Prepared) → IsPreparedIn frame front told made was next ready → option_map (undone_open ready.rest) next ≡ was
is_back frame front told made None next ready p = absurd p
is_back frame front told made (Some was) None ready p = absurd p
is_back frame front told made (Some was) (Some next) ready p = ap (λ (o : Open). Some o) (back_at front frame told made was next ready p)

before_at : {S : Type 0} (slot slot_now : S) (file file_now : File) (told told_now : ClearPart) (newer newer_now : Option ClearPart) (was next held_now : Option Open) (ready : Prepared) → option_map (undone_open ready.rest) next ≡ was → AreBefore ready file told newer next file_now told_now newer_now held_now
    → IsSame (state_of slot file told newer was) (state_of slot_now file_now told_now newer_now held_now)
before_at slot slot_now file file_now told told_now newer newer_now was next held_now ready back b =
    let held = b.held ∙ back in
    record {
      file = b.file;
      clear = λ i. shown_of (b.told i) (option_map parts_of (held i));
      other = b.newer;
      held = λ i. held_of (b.told i) (option_map parts_of (held i));
    }

-- what is given up is as it was before
pub undone_same : {S : Type 0} (slot : S) (file : File) (told : ClearPart) (newer : Option ClearPart) (frame : Frame) (front : ClearPart) (made : List Row → Result (List Row × Changed) ItemFault) (was next : Option Open) (ready : Prepared) (slot_now : S) (file_now : File) (told_now : ClearPart) (newer_now : Option ClearPart) (held_now : Option Open)
    → IsPreparedIn frame front told made was next ready → AreBefore ready file told newer next file_now told_now newer_now held_now → IsSame (state_of slot file told newer was) (state_of slot_now file_now told_now newer_now held_now)
undone_same slot file told newer frame front made was next ready slot_now file_now told_now newer_now held_now p b = before_at slot slot_now file file_now told told_now newer newer_now was next held_now ready (is_back frame front told made was next ready p) b

-- ---- what was known before

sized_within : (most : ℕ) (held : Held) (content : Content) (answer : Changed) → length (sealed content held.key held.vector) ≤ most → sized most held (Ok (content, answer)) ≡ Ok answer
sized_within most held content answer le =
    let on : nat_le (length (sealed content held.key held.vector)) most ≡ true = grind (arith, nat_tests, le) in
    ap (λ b. cond b (Ok answer) (Err refused.TooLarge)) on

sized_over : (most : ℕ) (held : Held) (content : Content) (answer : Changed) → most < length (sealed content held.key held.vector) → sized most held (Ok (content, answer)) ≡ Err refused.TooLarge
sized_over most held content answer lt =
    let off : nat_le (length (sealed content held.key held.vector)) most ≡ false = grind (arith, nat_tests, lt) in
    ap (λ b. cond b (Ok answer) (Err refused.TooLarge)) off

-- a call that stores ends as was known, or with a fault
ends_at : (known : Result Changed ChangeRefused) (answer : Changed) (result : Result Changed ChangeRefused) → known ≡ Ok answer → IfOk result (λ given. given ≡ answer) → OnErr result (IsFault result) → EndsAs known result
ends_at known answer (Ok given) e same faults = e ∙ ap (λ a. Ok a) (sym same)
ends_at known answer (Err (refused.Item fault)) e same faults = absurd (no_other {A = Changed} (Err (refused.Item fault)) (refused.Item fault) faults refl (λ is. absurd cc) (λ is. absurd cc))
ends_at known answer (Err refused.TooLarge) e same faults = absurd (no_other {A = Changed} (Err refused.TooLarge) refused.TooLarge faults refl (λ is. absurd cc) (λ is. absurd cc))
ends_at known answer (Err refused.FaultBefore) e same faults = rw e refl
ends_at known answer (Err refused.FaultUnsure) e same faults = rw e refl
ends_at known answer (Err refused.OutOfMemory) e same faults = tt

answer_stored : (frame : Frame) (ready : Prepared) (older : Option ClearPart) (was : Option Open) (file_now : File) (told_now : ClearPart) (newer_now : Option ClearPart) (held_now : Option Open) (result : Result Changed ChangeRefused)
    → IfOk result (AreStored frame ready older was file_now told_now newer_now held_now) → IfOk result (λ given. given ≡ ready.answer)
answer_stored frame ready older was file_now told_now newer_now held_now (Ok answer) s = s.is
answer_stored frame ready older was file_now told_now newer_now held_now (Err e) s = tt

-- the content that is stored, with its answer
record Core (change : Change) (now : ℕ) (shown : ClearPart) (these : List Row) (key vector : List ℕ) (most : ℕ) (ready : Prepared) : Type 0 where
  content : Content
  made : content_changed change now shown these ≡ Ok (content, ready.answer)
  image : ready.image ≡ sealed content key vector
  within : length (sealed content key vector) ≤ most
  clear : ready.next ≡ content.clear

module _ {S : Type 0} (change : Change) (now longest room : ℕ) (slot : S) (file : File) (told : ClearPart) (newer : Option ClearPart) where
  abbrev core_at : (w n : Open) (ready : Prepared) → longest ≡ longest_of file → IsKept file told newer (Some (parts_of w)) → IsPreparedIn (frame_for now longest room w) (front_of change told) told (rows_made change now) (Some w) (Some n) ready
      → Core change now (shown_of told (Some (parts_of w))) (rows_with told w.items) w.key w.vector (most_for room file) ready
  core_at w n ready long kept p =
      let these = p.1.rows in
      let shown = shown_of told (Some (parts_of w)) in
      let same = same_content change now told shown these (shown_same file told newer w kept) in
      let image : ready.image ≡ sealed (content_stored now (front_of change shown) these) w.key w.vector = p.1.image ∙ ap (λ t. sealed t w.key w.vector) same in
      record {
        content = content_stored now (front_of change shown) these;
        made = ap (λ m. as_content now (front_of change shown) m) p.1.is_made;
        image = image;
        within = omega (arith, ap length image, p.1.within, long);
        clear = p.1.clear ∙ ap (λ (t : Content). t.clear) same;
      }

  -- a change that was stored
  changed_at : (w n : Open) (ready : Prepared) (slot_now : S) (file_now : File) (told_now : ClearPart) (newer_now : Option ClearPart) (held_now : Option Open) (answer : Changed) → longest ≡ longest_of file → IsKept file told newer (Some (parts_of w))
      → IsPreparedIn (frame_for now longest room w) (front_of change told) told (rows_made change now) (Some w) (Some n) ready → AreStored (frame_for now longest room w) ready newer (Some n) file_now told_now newer_now held_now answer
      → IsChanged change now (state_of slot file told newer (Some w)) (record { key = w.key; vector = w.vector; rows = rows_with told w.items }) (state_of slot_now file_now told_now newer_now held_now) answer
  changed_at w n ready slot_now file_now told_now newer_now held_now answer long kept p s =
      let core = core_at w n ready long kept p in
      let these = p.1.rows in
      let rows_now : rows core.content ≡ these = rows_again these in
      let clear_now : shown_of told_now (option_map parts_of held_now) ≡ core.content.clear = ap (λ h. shown_of told_now (option_map parts_of h)) s.held ∙ s.told ∙ core.clear in
      let items : rows_with told_now (finished ready.rest n.items) ≡ rows core.content = ap (λ (t : ClearPart). rows_with t (finished ready.rest n.items)) s.told ∙ p.1.items ∙ sym rows_now in
      record {
        content = core.content;
        made = core.made ∙ ap (λ a. Ok (core.content, a)) (sym s.is);
        stored = record {
          file = s.file ∙ ap (λ t. Known (Some t)) core.image;
          clear = clear_now;
          other = s.newer ∙ newer_none file told newer (parts_of w) kept;
          held = ap (λ h. held_of told_now (option_map parts_of h)) s.held ∙ ap (λ (r : List Row). Some (record { key = w.key; vector = w.vector; rows = r })) items;
        };
      }

  -- a change that may have been stored or not
  unsure_at : (w n : Open) (ready : Prepared) (slot_now : S) (file_now : File) (told_now : ClearPart) (newer_now : Option ClearPart) (held_now : Option Open) → longest ≡ longest_of file → IsKept file told newer (Some (parts_of w))
      → IsPreparedIn (frame_for now longest room w) (front_of change told) told (rows_made change now) (Some w) (Some n) ready → AreUnsure ready file told (Some n) file_now told_now newer_now held_now
      → MayBeChanged change now (state_of slot file told newer (Some w)) (record { key = w.key; vector = w.vector; rows = rows_with told w.items }) (state_of slot_now file_now told_now newer_now held_now)
  unsure_at w n ready slot_now file_now told_now newer_now held_now long kept p u =
      let core = core_at w n ready long kept p in
      let back : shown_of told (Some (parts_of n)) ≡ shown_of told (Some (parts_of w)) =
      ap (λ (o : Open). shown_of told (Some (parts_of o))) p.0 ∙ shown_by told w.key w.vector n.items w.items w.written in
      record {
        content = core.content;
        answer = ready.answer;
        made = core.made;
        unsure = record {
          file = u.file ∙ ap (λ t. Doubt (old_image file) (Some t)) core.image;
          clear = ap (λ h. shown_of told_now (option_map parts_of h)) u.held ∙ u.told ∙ back;
          other = u.newer ∙ ap (λ t. Some t) core.clear;
          locked = ap (λ h. held_of told_now (option_map parts_of h)) u.held;
        };
      }

  -- the image that is stored
  image_at : (w n : Open) (ready : Prepared) (left : Image) → longest ≡ longest_of file → IsKept file told newer (Some (parts_of w)) → IsPreparedIn (frame_for now longest room w) (front_of change told) told (rows_made change now) (Some w) (Some n) ready
      → left ≡ Some ready.image → IsNewImage change now (state_of slot file told newer (Some w)) (record { key = w.key; vector = w.vector; rows = rows_with told w.items }) left
  image_at w n ready left long kept p is =
      let core = core_at w n ready long kept p in
      record { content = core.content; answer = ready.answer; made = core.made; is = is ∙ ap (λ t. Some t) core.image }

  one_at : (w n : Open) (ready : Prepared) (left : Image) → longest ≡ longest_of file → IsKept file told newer (Some (parts_of w)) → IsPreparedIn (frame_for now longest room w) (front_of change told) told (rows_made change now) (Some w) (Some n) ready
      → IsOneOf (Doubt (old_image file) (Some ready.image)) left → IsOldOrNew change now (state_of slot file told newer (Some w)) (record { key = w.key; vector = w.vector; rows = rows_with told w.items }) left
  one_at w n ready left long kept p (inl is) = inl is
  one_at w n ready left long kept p (inr is) = inr (image_at w n ready left long kept p is)

  -- the change can be made, and isn't too large
  never_at : (w n : Open) (ready : Prepared) (fault : ItemFault) → longest ≡ longest_of file → IsKept file told newer (Some (parts_of w)) → IsPreparedIn (frame_for now longest room w) (front_of change told) told (rows_made change now) (Some w) (Some n) ready
      → made_of change now (state_of slot file told newer (Some w)) (record { key = w.key; vector = w.vector; rows = rows_with told w.items }) ≡ Err fault → ⊥
  never_at w n ready fault long kept p e =
      let core = core_at w n ready long kept p in
      let wrong : ◌≡◌ {A = Result (Content × Changed) ItemFault} (Ok (core.content, ready.answer)) (Err fault) = sym core.made ∙ e in
      absurd cc

  fits_at : (w n : Open) (ready : Prepared) → longest ≡ longest_of file → IsKept file told newer (Some (parts_of w)) → IsPreparedIn (frame_for now longest room w) (front_of change told) told (rows_made change now) (Some w) (Some n) ready
      → IsTooLarge change now (state_of slot file told newer (Some w)) (record { key = w.key; vector = w.vector; rows = rows_with told w.items }) room → ⊥
  fits_at w n ready long kept p large =
      let core = core_at w n ready long kept p in
      let both : ◌≡◌ {A = Result (Content × Changed) ItemFault} (Ok (core.content, ready.answer)) (Ok (large.content, large.answer)) = sym core.made ∙ large.made in
      let one = ap (λ (x : Content × Changed). x.0) (ok_of _ _ both) in
      let long_one = ap (λ (t : Content). length (sealed t w.key w.vector)) one in
      absurd (omega (arith, core.within, large.over, long_one))

  -- why it isn't prepared
  fault_at : (w : Open) (fault : ItemFault) → rows_made change now (rows_with told w.items) ≡ Err fault → made_of change now (state_of slot file told newer (Some w)) (record { key = w.key; vector = w.vector; rows = rows_with told w.items }) ≡ Err fault
  fault_at w fault e = ap (λ m. as_content now (front_of change (shown_of told (Some (parts_of w)))) m) e

  large_at : (w : Open) → longest ≡ longest_of file → IsKept file told newer (Some (parts_of w)) → IsOver (frame_for now longest room w) (front_of change told) (rows_made change now (rows_with told w.items))
      → IsTooLarge change now (state_of slot file told newer (Some w)) (record { key = w.key; vector = w.vector; rows = rows_with told w.items }) room
  large_at w long kept over =
      let these = over.rows in
      let shown = shown_of told (Some (parts_of w)) in
      let same = same_content change now told shown these (shown_same file told newer w kept) in
      let as_long = ap (λ (t : Content). length (sealed t w.key w.vector)) same in
      record {
        content = content_stored now (front_of change shown) these;
        answer = over.answer;
        made = ap (λ m. as_content now (front_of change shown) m) over.is_made;
        over = omega (arith, over.over, as_long, long);
      }

  -- what was known of the answer before the call
  storable_at : (w n : Open) (ready : Prepared) → longest ≡ longest_of file → IsKept file told newer (Some (parts_of w)) → IsPreparedIn (frame_for now longest room w) (front_of change told) told (rows_made change now) (Some w) (Some n) ready
      → storable change now room file (shown_of told (Some (parts_of w))) (record { key = w.key; vector = w.vector; rows = rows_with told w.items }) ≡ Ok ready.answer
  storable_at w n ready long kept p =
      let core = core_at w n ready long kept p in
      let held : Held = record { key = w.key; vector = w.vector; rows = rows_with told w.items } in
      ap (λ m. sized (most_for room file) held m) core.made ∙ sized_within (most_for room file) held core.content ready.answer core.within

  known_at : (w : Open) (r : ChangeRefused) → longest ≡ longest_of file → IsKept file told newer (Some (parts_of w)) → MayRefuse (frame_for now longest room w) (front_of change told) (rows_made change now (rows_with told w.items)) r
      → EndsAs (storable change now room file (shown_of told (Some (parts_of w))) (record { key = w.key; vector = w.vector; rows = rows_with told w.items })) (Err r)
  known_at w (refused.Item fault) long kept m = ap (λ x. sized (most_for room file) (record { key = w.key; vector = w.vector; rows = rows_with told w.items }) x) (fault_at w fault m)
  known_at w refused.TooLarge long kept m =
      let large = large_at w long kept m in
      let held : Held = record { key = w.key; vector = w.vector; rows = rows_with told w.items } in
      ap (λ x. sized (most_for room file) held x) large.made ∙ sized_over (most_for room file) held large.content large.answer large.over
  known_at w refused.FaultBefore long kept m = absurd m
  known_at w refused.FaultUnsure long kept m = absurd m
  known_at w refused.OutOfMemory long kept m = tt

  -- ---- the clauses, if the change is prepared and stored

  by_cases : (P : Option Open → Option Open → Type 0) (frame : Frame) (was next : Option Open) (ready : Prepared) → IsKept file told newer (option_map parts_of was) → option_map (frame_for now longest room) was ≡ Some frame
      → IsPreparedIn frame (front_of change told) told (rows_made change frame.time) was next ready
      → ((w n : Open) → IsKept file told newer (Some (parts_of w)) → frame_for now longest room w ≡ frame → IsPreparedIn (frame_for now longest room w) (front_of change told) told (rows_made change now) (Some w) (Some n) ready → P (Some w) (Some n)) → P was next
  by_cases P frame None next ready kept framed p then = absurd p
  by_cases P frame (Some w) None ready kept framed p then = absurd p
  by_cases P frame (Some w) (Some n) ready kept framed p then =
      let same : frame_for now longest room w ≡ frame = one_of _ _ framed in
      then w n kept same (subst (λ (f : Frame). IsPreparedIn f (front_of change told) told (rows_made change f.time) (Some w) (Some n) ready) (sym same) p)

  pub changed_ok : (frame : Frame) (was next : Option Open) (ready : Prepared) (slot_now : S) (file_now : File) (told_now : ClearPart) (newer_now : Option ClearPart) (held_now : Option Open) (result : Result Changed ChangeRefused)
      → longest ≡ longest_of file → IsKept file told newer (option_map parts_of was) → option_map (frame_for now longest room) was ≡ Some frame → IsPreparedIn frame (front_of change told) told (rows_made change frame.time) was next ready
      → IfOk result (AreStored frame ready newer next file_now told_now newer_now held_now) → IfOk result (λ answer. IfSome (held_of told (option_map parts_of was)) (λ held. IsChanged change now (state_of slot file told newer was) held (state_of slot_now file_now told_now newer_now held_now) answer))
  changed_ok frame was next ready slot_now file_now told_now newer_now held_now (Err e) long kept framed p s = tt
  changed_ok frame was next ready slot_now file_now told_now newer_now held_now (Ok answer) long kept framed p s =
      by_cases (λ was next. AreStored frame ready newer next file_now told_now newer_now held_now answer → IfSome (held_of told (option_map parts_of was)) (λ held. IsChanged change now (state_of slot file told newer was) held (state_of slot_now file_now told_now newer_now held_now) answer))
      frame was next ready kept framed p
      (λ w n kept_w same pw stored. changed_at w n ready slot_now file_now told_now newer_now held_now answer long kept_w pw (subst (λ f. AreStored f ready newer (Some n) file_now told_now newer_now held_now answer) (sym same) stored)) s

  pub known_ok : (frame : Frame) (was next : Option Open) (ready : Prepared) (file_now : File) (told_now : ClearPart) (newer_now : Option ClearPart) (held_now : Option Open) (result : Result Changed ChangeRefused)
      → longest ≡ longest_of file → IsKept file told newer (option_map parts_of was) → option_map (frame_for now longest room) was ≡ Some frame → IsPreparedIn frame (front_of change told) told (rows_made change frame.time) was next ready
      → IfOk result (AreStored frame ready newer next file_now told_now newer_now held_now) → OnErr result (IsFault result)
      → IfSome (held_of told (option_map parts_of was)) (λ held. EndsAs (storable change now room file (shown_of told (option_map parts_of was)) held) result)
  known_ok frame was next ready file_now told_now newer_now held_now result long kept framed p s faults =
      by_cases (λ was next. IfOk result (AreStored frame ready newer next file_now told_now newer_now held_now) → IfSome (held_of told (option_map parts_of was)) (λ held. EndsAs (storable change now room file (shown_of told (option_map parts_of was)) held) result))
      frame was next ready kept framed p
      (λ w n kept_w same pw stored. ends_at _ ready.answer result (storable_at w n ready long kept_w pw) (answer_stored frame ready newer (Some n) file_now told_now newer_now held_now result stored) faults) s

  pub unsure_ok : (frame : Frame) (was next : Option Open) (ready : Prepared) (slot_now : S) (file_now : File) (told_now : ClearPart) (newer_now : Option ClearPart) (held_now : Option Open)
      → longest ≡ longest_of file → IsKept file told newer (option_map parts_of was) → option_map (frame_for now longest room) was ≡ Some frame → IsPreparedIn frame (front_of change told) told (rows_made change frame.time) was next ready
      → AreUnsure ready file told next file_now told_now newer_now held_now → IfSome (held_of told (option_map parts_of was)) (λ held. MayBeChanged change now (state_of slot file told newer was) held (state_of slot_now file_now told_now newer_now held_now))
  unsure_ok frame was next ready slot_now file_now told_now newer_now held_now long kept framed p u =
      by_cases (λ was next. AreUnsure ready file told next file_now told_now newer_now held_now → IfSome (held_of told (option_map parts_of was)) (λ held. MayBeChanged change now (state_of slot file told newer was) held (state_of slot_now file_now told_now newer_now held_now)))
      frame was next ready kept framed p
      (λ w n kept_w same pw un. unsure_at w n ready slot_now file_now told_now newer_now held_now long kept_w pw un) u

  pub image_ok : (frame : Frame) (was next : Option Open) (ready : Prepared) (left : Image)
      → longest ≡ longest_of file → IsKept file told newer (option_map parts_of was) → option_map (frame_for now longest room) was ≡ Some frame → IsPreparedIn frame (front_of change told) told (rows_made change frame.time) was next ready
      → left ≡ Some ready.image → IfSome (held_of told (option_map parts_of was)) (λ held. IsNewImage change now (state_of slot file told newer was) held left)
  image_ok frame was next ready left long kept framed p is =
      by_cases (λ was next. IfSome (held_of told (option_map parts_of was)) (λ held. IsNewImage change now (state_of slot file told newer was) held left)) frame was next ready kept framed p
      (λ w n kept_w same pw. image_at w n ready left long kept_w pw is)

  pub never_ok : (frame : Frame) (was next : Option Open) (ready : Prepared) (fault : ItemFault) (Q : Type 0)
      → longest ≡ longest_of file → IsKept file told newer (option_map parts_of was) → option_map (frame_for now longest room) was ≡ Some frame → IsPreparedIn frame (front_of change told) told (rows_made change frame.time) was next ready
      → IfSome (held_of told (option_map parts_of was)) (λ held. made_of change now (state_of slot file told newer was) held ≡ Err fault → Q)
  never_ok frame was next ready fault Q long kept framed p =
      by_cases (λ was next. IfSome (held_of told (option_map parts_of was)) (λ held. made_of change now (state_of slot file told newer was) held ≡ Err fault → Q)) frame was next ready kept framed p
      (λ w n kept_w same pw e. absurd (never_at w n ready fault long kept_w pw e))

  pub fits_ok : (frame : Frame) (was next : Option Open) (ready : Prepared) (Q : Type 0)
      → longest ≡ longest_of file → IsKept file told newer (option_map parts_of was) → option_map (frame_for now longest room) was ≡ Some frame → IsPreparedIn frame (front_of change told) told (rows_made change frame.time) was next ready
      → IfSome (held_of told (option_map parts_of was)) (λ held. IsTooLarge change now (state_of slot file told newer was) held room → Q)
  fits_ok frame was next ready Q long kept framed p =
      by_cases (λ was next. IfSome (held_of told (option_map parts_of was)) (λ held. IsTooLarge change now (state_of slot file told newer was) held room → Q)) frame was next ready kept framed p
      (λ w n kept_w same pw large. absurd (fits_at w n ready long kept_w pw large))

  -- after a fault before the rename everything is as before
  pub before_ok : (frame : Frame) (was next : Option Open) (ready : Prepared) (slot_now : S) (file_now : File) (told_now : ClearPart) (newer_now : Option ClearPart) (held_now : Option Open)
      → IsPreparedIn frame (front_of change told) told (rows_made change frame.time) was next ready → AreBefore ready file told newer next file_now told_now newer_now held_now → IsSame (state_of slot file told newer was) (state_of slot_now file_now told_now newer_now held_now)
  before_ok frame was next ready slot_now file_now told_now newer_now held_now p b = undone_same slot file told newer frame (front_of change told) (rows_made change frame.time) was next ready slot_now file_now told_now newer_now held_now p b

  -- ---- the clauses, if the change isn't prepared

  refused_cases : (P : Option Open → Type 0) (frame : Frame) (was : Option Open) (r : ChangeRefused) → IsKept file told newer (option_map parts_of was) → option_map (frame_for now longest room) was ≡ Some frame
      → MayRefuseIn frame (front_of change told) told (rows_made change frame.time) was r
      → ((w : Open) → IsKept file told newer (Some (parts_of w)) → MayRefuse (frame_for now longest room w) (front_of change told) (rows_made change now (rows_with told w.items)) r → P (Some w)) → P was
  refused_cases P frame None r kept framed m then = absurd m
  refused_cases P frame (Some w) r kept framed m then =
      let same : frame_for now longest room w ≡ frame = one_of _ _ framed in
      then w kept (subst (λ (f : Frame). MayRefuse f (front_of change told) (rows_made change f.time (rows_with told w.items)) r) (sym same) m)

  pub item_no : (frame : Frame) (was : Option Open) (r : ChangeRefused) (fault : ItemFault) → IsKept file told newer (option_map parts_of was) → option_map (frame_for now longest room) was ≡ Some frame → MayRefuseIn frame (front_of change told) told (rows_made change frame.time) was r
      → r ≡ refused.Item fault → IfSome (held_of told (option_map parts_of was)) (λ held. made_of change now (state_of slot file told newer was) held ≡ Err fault)
  item_no frame was r fault kept framed m is =
      refused_cases (λ was. IfSome (held_of told (option_map parts_of was)) (λ held. made_of change now (state_of slot file told newer was) held ≡ Err fault)) frame was r kept framed m
      (λ w kept_w mw. fault_at w fault (subst (λ x. MayRefuse (frame_for now longest room w) (front_of change told) (rows_made change now (rows_with told w.items)) x) is mw))

  pub large_no : (frame : Frame) (was : Option Open) (r : ChangeRefused) → longest ≡ longest_of file → IsKept file told newer (option_map parts_of was) → option_map (frame_for now longest room) was ≡ Some frame → MayRefuseIn frame (front_of change told) told (rows_made change frame.time) was r
      → r ≡ refused.TooLarge → IfSome (held_of told (option_map parts_of was)) (λ held. IsTooLarge change now (state_of slot file told newer was) held room)
  large_no frame was r long kept framed m is =
      refused_cases (λ was. IfSome (held_of told (option_map parts_of was)) (λ held. IsTooLarge change now (state_of slot file told newer was) held room)) frame was r kept framed m
      (λ w kept_w mw. large_at w long kept_w (subst (λ x. MayRefuse (frame_for now longest room w) (front_of change told) (rows_made change now (rows_with told w.items)) x) is mw))

  pub known_no : (frame : Frame) (was : Option Open) (r : ChangeRefused) → longest ≡ longest_of file → IsKept file told newer (option_map parts_of was) → option_map (frame_for now longest room) was ≡ Some frame → MayRefuseIn frame (front_of change told) told (rows_made change frame.time) was r
      → IfSome (held_of told (option_map parts_of was)) (λ held. EndsAs (storable change now room file (shown_of told (option_map parts_of was)) held) (Err r))
  known_no frame was r long kept framed m =
      refused_cases (λ was. IfSome (held_of told (option_map parts_of was)) (λ held. EndsAs (storable change now room file (shown_of told (option_map parts_of was)) held) (Err r))) frame was r kept framed m
      (λ w kept_w mw. known_at w r long kept_w mw)

  item_again : {A : Type 0} (w : Open) (r : ChangeRefused) (fault : ItemFault) → MayRefuse (frame_for now longest room w) (front_of change told) (rows_made change now (rows_with told w.items)) r
      → made_of change now (state_of slot file told newer (Some w)) (record { key = w.key; vector = w.vector; rows = rows_with told w.items }) ≡ Err fault → IsErrOf {T = A} (Err r) (refused.Item fault) ⊎ IsErrOf {T = A} (Err r) refused.OutOfMemory
  item_again w (refused.Item other) fault m e =
      let both : ◌≡◌ {A = Result (Content × Changed) ItemFault} (Err other) (Err fault) = sym (fault_at w other m) ∙ e in
      let one : other ≡ fault = cc in
      inl (ap (λ f. Err (refused.Item f)) one)
  item_again w refused.TooLarge fault m e =
      let wrong : ◌≡◌ {A = Result (Content × Changed) ItemFault} (Ok (content_stored now (front_of change (shown_of told (Some (parts_of w)))) m.rows, m.answer)) (Err fault) = sym (ap (λ x. as_content now (front_of change (shown_of told (Some (parts_of w)))) x) m.is_made) ∙ e in
      absurd cc
  item_again w refused.FaultBefore fault m e = absurd m
  item_again w refused.FaultUnsure fault m e = absurd m
  item_again w refused.OutOfMemory fault m e = inr refl

  pub no_item_no : (A : Type 0) (frame : Frame) (was : Option Open) (r : ChangeRefused) (fault : ItemFault) → IsKept file told newer (option_map parts_of was) → option_map (frame_for now longest room) was ≡ Some frame → MayRefuseIn frame (front_of change told) told (rows_made change frame.time) was r
      → IfSome (held_of told (option_map parts_of was)) (λ held. made_of change now (state_of slot file told newer was) held ≡ Err fault → IsErrOf {T = A} (Err r) (refused.Item fault) ⊎ IsErrOf {T = A} (Err r) refused.OutOfMemory)
  no_item_no A frame was r fault kept framed m =
      refused_cases (λ was. IfSome (held_of told (option_map parts_of was)) (λ held. made_of change now (state_of slot file told newer was) held ≡ Err fault → IsErrOf {T = A} (Err r) (refused.Item fault) ⊎ IsErrOf {T = A} (Err r) refused.OutOfMemory)) frame was r kept framed m
      (λ w kept_w mw e. item_again w r fault mw e)

  large_again : {A : Type 0} (w : Open) (r : ChangeRefused) → MayRefuse (frame_for now longest room w) (front_of change told) (rows_made change now (rows_with told w.items)) r
      → IsTooLarge change now (state_of slot file told newer (Some w)) (record { key = w.key; vector = w.vector; rows = rows_with told w.items }) room → IsErrOf {T = A} (Err r) refused.TooLarge ⊎ IsErrOf {T = A} (Err r) refused.OutOfMemory
  large_again w (refused.Item other) m large =
      let wrong : ◌≡◌ {A = Result (Content × Changed) ItemFault} (Err other) (Ok (large.content, large.answer)) = sym (fault_at w other m) ∙ large.made in
      absurd cc
  large_again w refused.TooLarge m large = inl refl
  large_again w refused.FaultBefore m large = absurd m
  large_again w refused.FaultUnsure m large = absurd m
  large_again w refused.OutOfMemory m large = inr refl

  pub measured_no : (A : Type 0) (frame : Frame) (was : Option Open) (r : ChangeRefused) → IsKept file told newer (option_map parts_of was) → option_map (frame_for now longest room) was ≡ Some frame → MayRefuseIn frame (front_of change told) told (rows_made change frame.time) was r
      → IfSome (held_of told (option_map parts_of was)) (λ held. IsTooLarge change now (state_of slot file told newer was) held room → IsErrOf {T = A} (Err r) refused.TooLarge ⊎ IsErrOf {T = A} (Err r) refused.OutOfMemory)
  measured_no A frame was r kept framed m =
      refused_cases (λ was. IfSome (held_of told (option_map parts_of was)) (λ held. IsTooLarge change now (state_of slot file told newer was) held room → IsErrOf {T = A} (Err r) refused.TooLarge ⊎ IsErrOf {T = A} (Err r) refused.OutOfMemory)) frame was r kept framed m
      (λ w kept_w mw large. large_again w r mw large)

  -- no call of the device failed
  fault_never : (frame : Frame) (front : ClearPart) (made : List Row → Result (List Row × Changed) ItemFault) (was : Option Open) (r : ChangeRefused) → MayRefuseIn frame front told made was r → (r ≡ refused.FaultBefore) ⊎ (r ≡ refused.FaultUnsure) → ⊥
  fault_never frame front made None r m is = absurd m
  fault_never frame front made (Some w) r m (inl is) = subst (λ x. MayRefuse frame front (made (rows_with told w.items)) x) is m
  fault_never frame front made (Some w) r m (inr is) = subst (λ x. MayRefuse frame front (made (rows_with told w.items)) x) is m

  pub no_fault : (A : Type 0) (frame : Frame) (front : ClearPart) (made : List Row → Result (List Row × Changed) ItemFault) (was : Option Open) (r : ChangeRefused) → MayRefuseIn frame front told made was r → IsFault {A = A} (Err r) → ⊥
  no_fault A frame front made was r m (inl is) = fault_never frame front made was r m (inl (err_of r refused.FaultBefore is))
  no_fault A frame front made was r m (inr is) = fault_never frame front made was r m (inr (err_of r refused.FaultUnsure is))

  -- what a crash leaves without a call of the device
  pub moments_no : (moment : S → ℕ) (left_since : S → ℕ → Image → Type 0) (was : Option Open) → IsKept file told newer (option_map parts_of was) → LeavesOnly moment left_since slot slot (IsOneOf file)
      → IfSome (held_of told (option_map parts_of was)) (λ held. LeavesOnly moment left_since slot slot (IsOldOrNew change now (state_of slot file told newer was) held))
  moments_no moment left_since None kept only = tt
  moments_no moment left_since (Some w) kept only = LeavesOnly-weaker moment left_since slot slot (IsOneOf file) _ (λ image is. inl (known_one file told newer w kept image is)) only

  -- what a crash leaves during its calls
  pub moments_ok : (moment : S → ℕ) (left_since : S → ℕ → Image → Type 0) (slot_now : S) (frame : Frame) (was next : Option Open) (ready : Prepared)
      → longest ≡ longest_of file → IsKept file told newer (option_map parts_of was) → option_map (frame_for now longest room) was ≡ Some frame → IsPreparedIn frame (front_of change told) told (rows_made change frame.time) was next ready
      → LeavesOnly moment left_since slot slot_now (IsOneOf (Doubt (old_image file) (Some ready.image))) → IfSome (held_of told (option_map parts_of was)) (λ held. LeavesOnly moment left_since slot slot_now (IsOldOrNew change now (state_of slot file told newer was) held))
  moments_ok moment left_since slot_now frame was next ready long kept framed p only =
      by_cases (λ was next. IfSome (held_of told (option_map parts_of was)) (λ held. LeavesOnly moment left_since slot slot_now (IsOldOrNew change now (state_of slot file told newer was) held))) frame was next ready kept framed p
      (λ w n kept_w same pw. LeavesOnly-weaker moment left_since slot slot_now (IsOneOf (Doubt (old_image file) (Some ready.image))) _ (λ image is. one_at w n ready image long kept_w pw is) only)
