-- A collection's state after a change of the key, from what was prepared and stored.
use Rattle.std.proofs.Common.{◌≡◌, ℕ, ◌<◌, ◌≤◌, List, length, Option, Some, None, Result, Ok, Err, refl, sym, ap, subst, ◌∙◌, inl, inr, arith}
use Rattle.std.specs.Prelude.{IfSome, IfOk, IsErrOf, OnErr, OnOk, ◌⊎◌}
use Rattle.std.specs.Option.{option_map}
use Rattle.kr_outside.specs.RenameDisk.{Image}
use Rattle.kr_outside.specs.Moments.{LeavesOnly}
use Rattle.kr_outside.proofs.MomentLemmas.{LeavesOnly-weaker}
use Rattle.replace_slot.specs.Cell.{File, Known, Doubt, IsOneOf, longest_of, old_image}
use Rattle.keyring_file.specs.Clear.{ClearPart}
use Rattle.keyring_seal.specs.Arranged.{Row, rows}
use Rattle.keyring_seal.specs.Whole.{sealed}
use Rattle.keyring_seal.specs.declared.content.Content.{Content}
use Rattle.keyring_seal.proofs.ArrangedLemmas.{rows_again}
use Rattle.item_store.specs.declared.fault.ItemFault.{ItemFault}
use Rattle.collection_store.specs.Changes.{content_rekeyed, content_stored}
use Rattle.collection_store.specs.Outcomes.{IsFault, IsOldOrSealed, IsSame, IsStored, IsUnsure, most_for}
use Rattle.collection_store.specs.Preparing.{IsOver, MayRefuse}
use Rattle.collection_store.specs.Resting.{finished}
use Rattle.collection_store.specs.State.{IsKept, held_of, rows_with, shown_of}
use Rattle.collection_store.specs.Storing.{AreBefore, AreStored, AreUnsure, IsPreparedIn, MayRefuseIn, parts_of, without_answer}
use Rattle.collection_store.specs.declared.candidate.Frame.{Frame}
use Rattle.collection_store.specs.declared.change.Changed.{Changed}
use Rattle.collection_store.specs.declared.change.Changed.TheVariants as changed
use Rattle.collection_store.specs.declared.holding.Open.{Open}
use Rattle.collection_store.specs.declared.preparing.Prepared.{Prepared}
use Rattle.collection_store.specs.declared.refused.ChangeRefused.{ChangeRefused}
use Rattle.collection_store.specs.declared.refused.ChangeRefused.TheVariants as refused
use Rattle.collection_store.proofs.StateLemmas.{newer_none}
use Rattle.collection_store.proofs.ChangeLemmas.{err_of, known_one, shown_same, state_of, undone_same}

-- the rows after a change of the key
abbrev pub kept_rows : List Row → Result (List Row × Changed) ItemFault
kept_rows these = Ok (these, changed.Named)

-- the front after it
abbrev pub keyed : List ℕ → ℕ → ClearPart → ClearPart
keyed salt iterations clear = record clear { salt = salt; iterations = iterations }

rows_of_made : (one other : List Row × Changed) → ◌≡◌ {A = Result (List Row × Changed) ItemFault} (Ok one) (Ok other) → one ≡ other
rows_of_made one other e = cc

-- ---- the answers of a call

pub err_told : (result : Result Changed ChangeRefused) (r : ChangeRefused) → IsErrOf (without_answer result) r → IsErrOf result r
err_told (Ok answer) r is = absurd cc
err_told (Err e) r is = ap (λ x. Err x) (err_of e r is)

pub fault_told : (result : Result Changed ChangeRefused) → IsFault (without_answer result) → IsFault result
fault_told result (inl is) = inl (err_told result refused.FaultBefore is)
fault_told result (inr is) = inr (err_told result refused.FaultUnsure is)

pub before_or_told : (X : Type 0) (result : Result Changed ChangeRefused) → OnErr result (IsFault result) → (IsErrOf result refused.FaultBefore → X) → OnErr (without_answer result) (IsErrOf (without_answer result) refused.FaultUnsure ⊎ X)
before_or_told X (Ok x) faults before = tt
before_or_told X (Err e) (inl is) before = inr (before is)
before_or_told X (Err e) (inr is) before = inl (ap (λ x. Err x) (err_of e refused.FaultUnsure is))

pub fault_or_told : (X : Type 0) (result : Result Changed ChangeRefused) → OnErr result (IsFault result) → OnErr (without_answer result) (IsFault (without_answer result) ⊎ X)
fault_or_told X (Ok x) faults = tt
fault_or_told X (Err e) (inl is) = inl (inl (ap (λ x. Err x) (err_of e refused.FaultBefore is)))
fault_or_told X (Err e) (inr is) = inl (inr (ap (λ x. Err x) (err_of e refused.FaultUnsure is)))

-- the content that is stored
record KeyCore (content : Content) (key vector : List ℕ) (most : ℕ) (ready : Prepared) : Type 0 where
  image : ready.image ≡ sealed content key vector
  within : length (sealed content key vector) ≤ most
  clear : ready.next ≡ content.clear

module _ {S : Type 0} (now longest room : ℕ) (key vector salt : List ℕ) (iterations : ℕ) (slot : S) (file : File) (told : ClearPart) (newer : Option ClearPart) where
  abbrev frame : Frame
  frame = record { time = now; longest = longest; room = room; key = key; vector = vector }

  abbrev content_at : Open → Content
  content_at w = content_rekeyed now salt iterations (shown_of told (Some (parts_of w))) (rows_with told w.items)

  own_content : (w : Open) → IsKept file told newer (Some (parts_of w)) → content_stored now (keyed salt iterations told) (rows_with told w.items) ≡ content_at w
  own_content w kept = ap (λ (t : ClearPart). content_stored now (keyed salt iterations t) (rows_with told w.items)) (shown_same file told newer w kept)

  abbrev key_core : (w : Open) (ready : Prepared) → longest ≡ longest_of file → IsKept file told newer (Some (parts_of w)) → IsPreparedIn frame (keyed salt iterations told) told kept_rows (Some w) (Some w) ready → KeyCore (content_at w) key vector (most_for room file) ready
  key_core w ready long kept p =
      let these : p.1.rows ≡ rows_with told w.items = sym (ap (λ (x : List Row × Changed). x.0) (rows_of_made _ _ p.1.is_made)) in
      let content : content_stored now (keyed salt iterations told) p.1.rows ≡ content_at w = ap (λ r. content_stored now (keyed salt iterations told) r) these ∙ own_content w kept in
      let image : ready.image ≡ sealed (content_at w) key vector = p.1.image ∙ ap (λ t. sealed t key vector) content in
      record {
        image = image;
        within = omega (arith, ap length image, p.1.within, long);
        clear = p.1.clear ∙ ap (λ (t : Content). t.clear) content;
      }

  stored_at : (w : Open) (ready : Prepared) (slot_now : S) (file_now : File) (told_now : ClearPart) (newer_now : Option ClearPart) (held_now : Option Open) (answer : Changed) → longest ≡ longest_of file → IsKept file told newer (Some (parts_of w))
      → IsPreparedIn frame (keyed salt iterations told) told kept_rows (Some w) (Some w) ready → AreStored frame ready newer (Some w) file_now told_now newer_now held_now answer → IsStored (content_at w) key vector (state_of slot_now file_now told_now newer_now held_now)
  stored_at w ready slot_now file_now told_now newer_now held_now answer long kept p s =
      let core = key_core w ready long kept p in
      let these : p.1.rows ≡ rows_with told w.items = sym (ap (λ (x : List Row × Changed). x.0) (rows_of_made _ _ p.1.is_made)) in
      let items : rows_with told_now (finished ready.rest w.items) ≡ rows (content_at w) = ap (λ (t : ClearPart). rows_with t (finished ready.rest w.items)) s.told ∙ p.1.items ∙ these ∙ sym (rows_again (rows_with told w.items)) in
      record {
        file = s.file ∙ ap (λ t. Known (Some t)) core.image;
        clear = ap (λ h. shown_of told_now (option_map parts_of h)) s.held ∙ s.told ∙ core.clear;
        other = s.newer ∙ newer_none file told newer (parts_of w) kept;
        held = ap (λ h. held_of told_now (option_map parts_of h)) s.held ∙ ap (λ (r : List Row). Some (record { key = key; vector = vector; rows = r })) items;
      }

  pub stored_key : (was : Option Open) (ready : Prepared) (slot_now : S) (file_now : File) (told_now : ClearPart) (newer_now : Option ClearPart) (held_now : Option Open) (result : Result Changed ChangeRefused) → longest ≡ longest_of file → IsKept file told newer (option_map parts_of was)
      → IsPreparedIn frame (keyed salt iterations told) told kept_rows was was ready → IfOk result (AreStored frame ready newer was file_now told_now newer_now held_now)
      → OnOk (without_answer result) (IfSome (held_of told (option_map parts_of was)) (λ held. IsStored (content_rekeyed now salt iterations (shown_of told (option_map parts_of was)) held.rows) key vector (state_of slot_now file_now told_now newer_now held_now)))
  stored_key was ready slot_now file_now told_now newer_now held_now (Err e) long kept p s = tt
  stored_key None ready slot_now file_now told_now newer_now held_now (Ok answer) long kept p s = tt
  stored_key (Some w) ready slot_now file_now told_now newer_now held_now (Ok answer) long kept p s = stored_at w ready slot_now file_now told_now newer_now held_now answer long kept p s

  unsure_key_at : (w : Open) (ready : Prepared) (slot_now : S) (file_now : File) (told_now : ClearPart) (newer_now : Option ClearPart) (held_now : Option Open) → longest ≡ longest_of file → IsKept file told newer (Some (parts_of w))
      → IsPreparedIn frame (keyed salt iterations told) told kept_rows (Some w) (Some w) ready → AreUnsure ready file told (Some w) file_now told_now newer_now held_now → IsUnsure (content_at w) key vector (state_of slot file told newer (Some w)) (state_of slot_now file_now told_now newer_now held_now)
  unsure_key_at w ready slot_now file_now told_now newer_now held_now long kept p u =
      let core = key_core w ready long kept p in
      record {
        file = u.file ∙ ap (λ t. Doubt (old_image file) (Some t)) core.image;
        clear = ap (λ h. shown_of told_now (option_map parts_of h)) u.held ∙ u.told;
        other = u.newer ∙ ap (λ t. Some t) core.clear;
        locked = ap (λ h. held_of told_now (option_map parts_of h)) u.held;
      }

  pub unsure_key : (was : Option Open) (ready : Prepared) (slot_now : S) (file_now : File) (told_now : ClearPart) (newer_now : Option ClearPart) (held_now : Option Open) → longest ≡ longest_of file → IsKept file told newer (option_map parts_of was)
      → IsPreparedIn frame (keyed salt iterations told) told kept_rows was was ready → AreUnsure ready file told was file_now told_now newer_now held_now
      → IfSome (held_of told (option_map parts_of was)) (λ held. IsUnsure (content_rekeyed now salt iterations (shown_of told (option_map parts_of was)) held.rows) key vector (state_of slot file told newer was) (state_of slot_now file_now told_now newer_now held_now))
  unsure_key None ready slot_now file_now told_now newer_now held_now long kept p u = tt
  unsure_key (Some w) ready slot_now file_now told_now newer_now held_now long kept p u = unsure_key_at w ready slot_now file_now told_now newer_now held_now long kept p u

  -- after FaultUnsure by the last call the slot has the file under the new key
  pub image_key : (was : Option Open) (ready : Prepared) (left : Image) → longest ≡ longest_of file → IsKept file told newer (option_map parts_of was) → IsPreparedIn frame (keyed salt iterations told) told kept_rows was was ready
      → left ≡ Some ready.image
      → IfSome (held_of told (option_map parts_of was)) (λ held. left ≡ Some (sealed (content_rekeyed now salt iterations (shown_of told (option_map parts_of was)) held.rows) key vector))
  image_key None ready left long kept p is = tt
  image_key (Some w) ready left long kept p is = let core = key_core w ready long kept p in is ∙ ap (λ t. Some t) core.image

  pub fits_key : (was : Option Open) (ready : Prepared) (Q : Type 0) → longest ≡ longest_of file → IsKept file told newer (option_map parts_of was) → IsPreparedIn frame (keyed salt iterations told) told kept_rows was was ready
      → IfSome (held_of told (option_map parts_of was)) (λ held. most_for room file < length (sealed (content_rekeyed now salt iterations (shown_of told (option_map parts_of was)) held.rows) key vector) → Q)
  fits_key None ready Q long kept p = tt
  fits_key (Some w) ready Q long kept p = λ over. let core = key_core w ready long kept p in absurd (omega (arith, over, core.within))

  one_key : (w : Open) (ready : Prepared) (left : Image) → longest ≡ longest_of file → IsKept file told newer (Some (parts_of w)) → IsPreparedIn frame (keyed salt iterations told) told kept_rows (Some w) (Some w) ready
      → IsOneOf (Doubt (old_image file) (Some ready.image)) left → IsOldOrSealed file (content_at w) key vector left
  one_key w ready left long kept p (inl is) = inl is
  one_key w ready left long kept p (inr is) = let core = key_core w ready long kept p in inr (is ∙ ap (λ t. Some t) core.image)

  pub moments_key : (moment : S → ℕ) (left_since : S → ℕ → Image → Type 0) (slot_now : S) (was : Option Open) (ready : Prepared) → longest ≡ longest_of file → IsKept file told newer (option_map parts_of was)
      → IsPreparedIn frame (keyed salt iterations told) told kept_rows was was ready → LeavesOnly moment left_since slot slot_now (IsOneOf (Doubt (old_image file) (Some ready.image)))
      → IfSome (held_of told (option_map parts_of was)) (λ held. LeavesOnly moment left_since slot slot_now (IsOldOrSealed file (content_rekeyed now salt iterations (shown_of told (option_map parts_of was)) held.rows) key vector))
  moments_key moment left_since slot_now None ready long kept p only = tt
  moments_key moment left_since slot_now (Some w) ready long kept p only =
      LeavesOnly-weaker moment left_since slot slot_now (IsOneOf (Doubt (old_image file) (Some ready.image))) (IsOldOrSealed file (content_at w) key vector) (λ image is. one_key w ready image long kept p is) only

  pub before_key : (was : Option Open) (ready : Prepared) (slot_now : S) (file_now : File) (told_now : ClearPart) (newer_now : Option ClearPart) (held_now : Option Open)
      → IsPreparedIn frame (keyed salt iterations told) told kept_rows was was ready → AreBefore ready file told newer was file_now told_now newer_now held_now → IsSame (state_of slot file told newer was) (state_of slot_now file_now told_now newer_now held_now)
  before_key was ready slot_now file_now told_now newer_now held_now p b = undone_same slot file told newer frame (keyed salt iterations told) kept_rows was was ready slot_now file_now told_now newer_now held_now p b

  -- ---- if the change isn't prepared

  pub none_key : (was : Option Open) (r : ChangeRefused) (fault : ItemFault) → MayRefuseIn frame (keyed salt iterations told) told kept_rows was r → r ≡ refused.Item fault → ⊥
  none_key None r fault m is = absurd m
  none_key (Some w) r fault m is =
      let wrong : ◌≡◌ {A = Result (List Row × Changed) ItemFault} (kept_rows (rows_with told w.items)) (Err fault) = subst (λ x. MayRefuse frame (keyed salt iterations told) (kept_rows (rows_with told w.items)) x) is m in
      absurd cc

  large_key_at : (w : Open) → longest ≡ longest_of file → IsKept file told newer (Some (parts_of w)) → IsOver frame (keyed salt iterations told) (kept_rows (rows_with told w.items)) → most_for room file < length (sealed (content_at w) key vector)
  large_key_at w long kept over =
      let these : over.rows ≡ rows_with told w.items = sym (ap (λ (x : List Row × Changed). x.0) (rows_of_made _ _ over.is_made)) in
      let content : content_stored now (keyed salt iterations told) over.rows ≡ content_at w = ap (λ r. content_stored now (keyed salt iterations told) r) these ∙ own_content w kept in
      let as_long = ap (λ (t : Content). length (sealed t key vector)) content in
      omega (arith, over.over, as_long, long)

  pub large_key : (was : Option Open) (r : ChangeRefused) → longest ≡ longest_of file → IsKept file told newer (option_map parts_of was) → MayRefuseIn frame (keyed salt iterations told) told kept_rows was r → r ≡ refused.TooLarge
      → IfSome (held_of told (option_map parts_of was)) (λ held. most_for room file < length (sealed (content_rekeyed now salt iterations (shown_of told (option_map parts_of was)) held.rows) key vector))
  large_key None r long kept m is = tt
  large_key (Some w) r long kept m is = large_key_at w long kept (subst (λ x. MayRefuse frame (keyed salt iterations told) (kept_rows (rows_with told w.items)) x) is m)

  measured_at : (w : Open) (r : ChangeRefused) → MayRefuse frame (keyed salt iterations told) (kept_rows (rows_with told w.items)) r → IsErrOf {T = Unit {0}} (Err r) refused.TooLarge ⊎ IsErrOf {T = Unit {0}} (Err r) refused.OutOfMemory
  measured_at w (refused.Item fault) m = let wrong : ◌≡◌ {A = Result (List Row × Changed) ItemFault} (kept_rows (rows_with told w.items)) (Err fault) = m in absurd cc
  measured_at w refused.TooLarge m = inl refl
  measured_at w refused.FaultBefore m = absurd m
  measured_at w refused.FaultUnsure m = absurd m
  measured_at w refused.OutOfMemory m = inr refl

  pub measured_key : (was : Option Open) (r : ChangeRefused) → MayRefuseIn frame (keyed salt iterations told) told kept_rows was r
      → IfSome (held_of told (option_map parts_of was)) (λ held. most_for room file < length (sealed (content_rekeyed now salt iterations (shown_of told (option_map parts_of was)) held.rows) key vector) → IsErrOf {T = Unit {0}} (Err r) refused.TooLarge ⊎ IsErrOf {T = Unit {0}} (Err r) refused.OutOfMemory)
  measured_key None r m = tt
  measured_key (Some w) r m = λ over. measured_at w r m

  pub moments_none : (moment : S → ℕ) (left_since : S → ℕ → Image → Type 0) (was : Option Open) → IsKept file told newer (option_map parts_of was) → LeavesOnly moment left_since slot slot (IsOneOf file)
      → IfSome (held_of told (option_map parts_of was)) (λ held. LeavesOnly moment left_since slot slot (IsOldOrSealed file (content_rekeyed now salt iterations (shown_of told (option_map parts_of was)) held.rows) key vector))
  moments_none moment left_since None kept only = tt
  moments_none moment left_since (Some w) kept only = LeavesOnly-weaker moment left_since slot slot (IsOneOf file) (IsOldOrSealed file (content_at w) key vector) (λ image is. inl (known_one file told newer w kept image is)) only

  pub no_key_fault : (was : Option Open) (r : ChangeRefused) → MayRefuseIn frame (keyed salt iterations told) told kept_rows was r → IsFault {A = Unit {0}} (Err r) → ⊥
  no_key_fault None r m is = absurd m
  no_key_fault (Some w) r m (inl is) = subst (λ x. MayRefuse frame (keyed salt iterations told) (kept_rows (rows_with told w.items)) x) (err_of r refused.FaultBefore is) m
  no_key_fault (Some w) r m (inr is) = subst (λ x. MayRefuse frame (keyed salt iterations told) (kept_rows (rows_with told w.items)) x) (err_of r refused.FaultUnsure is) m
