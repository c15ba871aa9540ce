use Rattle.std.proofs.Common.{◌≡◌, ℕ, nat_eq, [], ◌∷◌, ◌++◌, Ok, subst}
use Rattle.std.proofs.lemmas.Result.{err_from_is_err_and}
use Rattle.keyring_text.specs.FieldReading.{Fails}
use Rattle.keyring_text.proofs.Loops.{seen_after, keyed-goes_on, keyed-ends, keyed-is_done, keyed-begins}
use Rattle.keyring_file.specs.declared.clear.ClearItem.{ClearItem}
use Rattle.keyring_file.specs.declared.fault.ClearFault.TheVariants.{DuplicateId}
use Rattle.keyring_file.specs.Numbers.{Keeps, has_number}
use Rattle.keyring_file.specs.FileReading.{id_at, item_behind, new_item_at, so_many_items_at}
use Rattle.keyring_file.proofs.Keeps.{behind-keeps}
use Rattle.keyring_file.proofs.NumberLemmas.{stood-seen}
use Rattle.keyring_file.proofs.clear_reading.so_many_items_at.Goals as goal

abbrev id_of : ClearItem → ℕ
id_of item = item.id.0

pub loop-init : goal.loop-init
unfolding so_many_items_at
loop-init c =
    let begins = keyed-begins id_at nat_eq DuplicateId (item_behind c.args.minor) id_of (behind-keeps c.args.minor) c.args.count c.args.bytes.now in
    rw c.in_ok-items.ensures.items (record { so_far = begins; kept = c.no_numbers-numbers.ensures.none })

pub loop-preserved : goal.loop-preserved
loop-preserved c =
    let front = c.loop.items.items in
    let item = c.in_ok-item.item in
    let goes = keyed-goes_on id_at nat_eq DuplicateId (item_behind c.args.minor) id_of (behind-keeps c.args.minor) front c.args.count c.loop.counter c.loop.rest.now item c.in_ok-item.after.now (has_number front)
    (so_many_items_at c.args.minor c.args.count c.args.bytes.now) c.loop-test.true (stood-seen nat_eq id_of front) (subst (λ xs. new_item_at c.args.minor (has_number xs) c.loop.rest.now ≡ Ok (item, c.in_ok-item.after.now)) c.as_slice.ensures.value c.in_ok-item.ensures.read) c.loop.invariant.so_far in
    let kept = subst (λ xs. Keeps (xs ++ item ∷ []) c.new_item_at.new.numbers) c.as_slice.ensures.value c.in_ok-item.ensures.kept in
    rw c.in_ok-push.ensures.items (record { so_far = goes; kept = kept })

pub returns-in_err-item : goal.returns-in_err-item
returns-in_err-item c =
    let p = err_from_is_err_and c.from_residual-in_err-item.result c.from_residual-in_err-item.ensures.1 in
    let front = c.loop.items.items in
    let fails = keyed-ends id_at nat_eq DuplicateId (item_behind c.args.minor) id_of (behind-keeps c.args.minor) c.in_err-item.field-0.0 front c.args.count c.loop.counter c.loop.rest.now (has_number front)
    (so_many_items_at c.args.minor c.args.count c.args.bytes.now) c.loop-test.true (stood-seen nat_eq id_of front) (subst (λ xs. Fails c.in_err-item.field-0.0 (new_item_at c.args.minor (has_number xs) c.loop.rest.now)) c.as_slice.ensures.value c.in_err-item.ensures.read) c.loop.invariant.so_far in
    rw (p.1, p.2) fails

pub returns : goal.returns
returns c =
    keyed-is_done id_at nat_eq DuplicateId (item_behind c.args.minor) id_of (behind-keeps c.args.minor) c.loop.items.items (seen_after id_of c.loop.items.items []) c.args.count c.loop.counter c.loop.rest.now
    (so_many_items_at c.args.minor c.args.count c.args.bytes.now) c.loop-test.false c.loop.invariant.so_far
