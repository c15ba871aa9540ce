use Rattle.std.proofs.Common.{◌≡◌, ◌∷◌, [], ◌++◌, ◌+◌, ◌<◌, ◌^◌, Some, length, drop, refl, sym, ap, subst, ◌∙◌}
use Rattle.std.proofs.lemmas.Result.{on_ok_weaker}
use Rattle.keyring_file.specs.ClearText.{ClearText, HasClear}
use Rattle.replace_slot.specs.Cell.{Known, IsKnownFile}
use Rattle.folder_store.specs.Opened.{Takes, left_alone, listed, Fits, items_in, bytes_in}
use Rattle.folder_store.specs.Ring.{rows_of, bytes_of}
use Rattle.folder_store.specs.Walk.{plain, in_ring, by_itself}
use Rattle.folder_store.proofs.OpeningLemmas.{both, row_known, plain_lists, one_clear, no_both, left_out}
use Rattle.folder_store.proofs.opening.Opening.take.Goals as goal

-- the limits don't allow the file to be listed, whichever clear part it has
pub returns-then-not-fits-clause-taken : goal.returns-then-not-fits-clause-taken
returns-then-not-fits-clause-taken g c name named =
    let text : c.deref.result.now ≡ c.args.image.items = c.deref.ensures.value in
    let text-2 : c.deref-in-Ok.result.now ≡ c.args.image.items = c.deref-in-Ok.ensures.value in
    on_ok_weaker c.leave_slot.result
    (λ left. subst (Takes c.args.limits.now name c.args.image.items (plain c.args.self.now)) (sym left)
    (left_alone c.args.stem named
    (left_out c.args.limits.now (rows_of c.args.self.now.rings) c.args.image.items c.in-Ok.clear
    (λ other area is. one_clear _ (other, area) _ refl (c.in-Ok.ensures.only other area (subst (λ t. ClearText t other area) (sym text) is)))
    (λ fits. let wrong = c.if-not-fits.ensures.fits.1 (subst (λ t. Fits c.args.limits.now (rows_of c.args.self.now.rings) c.in-Ok.clear t) (sym text-2) fits) in cc))))
    c.leave_slot.ensures.left

pub new-requires : goal.new-requires
new-requires g c =
    let text : c.deref.result.now ≡ c.args.image.items = c.deref.ensures.value in
    let file : c.known-cell.result.file ≡ Known (Some c.args.image.items) = ap (λ cell. cell.file) c.known-cell.ensures ∙ ap (λ i. Known (Some i)) c.in-Ok-used_and_image.ensures.image in
    subst (λ f. IsKnownFile (λ file. HasClear file c.in-Ok.clear) f) (sym file) (
      drop c.in-Ok.field-0-1 c.deref.result.now,
      subst (λ t. ClearText t c.in-Ok.clear (drop c.in-Ok.field-0-1 c.deref.result.now)) text c.in-Ok.ensures.found,
    )

pub list-requires-clause-items : goal.list-requires-clause-items
list-requires-clause-items g c =
    subst (λ r. items_in (rows_of c.args.self.now.rings) + length r.clear.items < 2 ^ 64) (sym c.new.ensures) (c.if-not-fits.ensures.items refl)

pub list-requires-clause-bytes : goal.list-requires-clause-bytes
list-requires-clause-bytes g c =
    let file : c.new.result.cell.file ≡ Known (Some c.args.image.items) =
    ap (λ r. r.cell.file) c.new.ensures ∙ ap (λ r. r.file) c.known-cell.ensures ∙ ap (λ i. Known (Some i)) c.in-Ok-used_and_image.ensures.image in
    let text-2 : c.deref-in-Ok.result.now ≡ c.args.image.items = c.deref-in-Ok.ensures.value in
    subst (λ f. bytes_in (rows_of c.args.self.now.rings) + length (bytes_of f) < 2 ^ 64) (sym file)
    (subst (λ t. bytes_in (rows_of c.args.self.now.rings) + length t < 2 ^ 64) text-2 (c.if-not-fits.ensures.bytes refl))

pub returns-in-Ok-used_and_image-clause-taken : goal.returns-in-Ok-used_and_image-clause-taken
returns-in-Ok-used_and_image-clause-taken g c name named =
    let text : c.deref.result.now ≡ c.args.image.items = c.deref.ensures.value in
    let text-2 : c.deref-in-Ok.result.now ≡ c.args.image.items = c.deref-in-Ok.ensures.value in
    let row = row_known c.new.result c.known-cell.result c.args.slot c.args.stem c.in-Ok-used_and_image.image c.args.image.items c.in-Ok.clear c.new.ensures c.known-cell.ensures c.in-Ok-used_and_image.ensures.image in
    let fits : Fits c.args.limits.now (rows_of c.args.self.now.rings) c.in-Ok.clear c.args.image.items =
    subst (λ t. Fits c.args.limits.now (rows_of c.args.self.now.rings) c.in-Ok.clear t) text-2 (c.if-not-fits.ensures.fits.0 refl) in
    both c.list.result
    (λ rings used. subst (Takes c.args.limits.now name c.args.image.items (plain c.args.self.now))
    (sym (plain_lists c.args.self.now c.list.new.self c.new.result c.args.stem c.args.image.items c.in-Ok.clear rings
    (used ∙ ap (λ s. c.args.self.now.used ++ s ∷ []) c.in-Ok-used_and_image.ensures.used) row))
    (listed c.args.stem c.in-Ok.clear named (
      drop c.in-Ok.field-0-1 c.deref.result.now,
      subst (λ t. ClearText t c.in-Ok.clear (drop c.in-Ok.field-0-1 c.deref.result.now)) text c.in-Ok.ensures.found,
    )
    fits))
    c.list.ensures.rings c.list.ensures.used

pub returns-in-Ok-used_and_image-clause-kept : goal.returns-in-Ok-used_and_image-clause-kept
returns-in-Ok-used_and_image-clause-kept g c =
    let slot : c.new.result.cell.slot ≡ c.args.slot = ap (λ r. r.cell.slot) c.new.ensures ∙ ap (λ r. r.slot) c.known-cell.ensures in
    on_ok_weaker c.list.result
    (λ rings. in_ring c.new.result (ap (λ r. r.stem) c.new.ensures) slot rings c.list.ensures.left)
    c.list.ensures.rings

-- the slot of a file that is left alone is kept by itself
pub returns-then-not-fits-clause-kept : goal.returns-then-not-fits-clause-kept
returns-then-not-fits-clause-kept g c = on_ok_weaker c.leave_slot.result
    (λ left. by_itself (record { stem = c.args.stem; slot = c.args.slot }) refl refl c.leave_slot.ensures.rings left) c.leave_slot.ensures.slots

pub returns-in-Err-Fault-clause-kept : goal.returns-in-Err-Fault-clause-kept
returns-in-Err-Fault-clause-kept g c = on_ok_weaker c.leave_slot-in-Err-Fault.result
    (λ left. by_itself (record { stem = c.args.stem; slot = c.args.slot }) refl refl c.leave_slot-in-Err-Fault.ensures.rings left) c.leave_slot-in-Err-Fault.ensures.slots

-- no clear part has this text
pub returns-in-Err-Fault-clause-taken : goal.returns-in-Err-Fault-clause-taken
returns-in-Err-Fault-clause-taken g c name named =
    let text : c.deref.result.now ≡ c.args.image.items = c.deref.ensures.value in
    on_ok_weaker c.leave_slot-in-Err-Fault.result
    (λ left. subst (Takes c.args.limits.now name c.args.image.items (plain c.args.self.now)) (sym left)
    (left_alone c.args.stem named
    (λ other reads fits. no_both (other, reads.0) c.in-Err-Fault.field-0-0
    (rw c.in-Err-Fault.field-0-is at (c.in-Err-Fault.ensures.only other reads.0 (subst (λ t. ClearText t other reads.0) (sym text) reads.1))))))
    c.leave_slot-in-Err-Fault.ensures.left
