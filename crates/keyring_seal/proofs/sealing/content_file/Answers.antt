use Rattle.std.proofs.Common.{◌≡◌, ◌++◌, map, ap, ◌∙◌, rules}
use Rattle.std.specs.List.{zip}
use Rattle.keyring_file.specs.Clear.{ClearPart}
use Rattle.keyring_seal.specs.Arranged.{row_number, rows}
use Rattle.keyring_seal.specs.Order.{by_number}
use Rattle.keyring_seal.proofs.ArrangeLemmas.{see}
use Rattle.keyring_seal.proofs.SealedLemmas.{lent_items, lent_clear_items, lent_few, lent_name, sealed_told}
use Rattle.keyring_seal.proofs.sealing.content_file.Goals as goal

pub encrypted_area-requires : goal.encrypted_area-requires
encrypted_area-requires c =
    let first : c.as_slice.result.now ≡ c.args.content.now.clear.items = c.as_slice.ensures ∙ ap (λ (p : ClearPart). p.items) c.clear.view_is in
    let seen : map see c.in_ok-rows.rows.items ≡ by_number row_number (rows c.args.content.now) = c.in_ok-rows.ensures ∙ (λ j. by_number row_number (zip (first j) (c.as_slice-2.ensures j))) in
    rw c.as_slice-3.ensures.value (lent_items c.args.content.now c.args.key c.args.vector c.requires.sealable c.requires.known c.requires.within c.in_ok-rows.rows.items seen)

pub put_clear-requires-clause-name : goal.put_clear-requires-clause-name
put_clear-requires-clause-name c = lent_name c.args.content.now c.args.key c.args.vector c.requires.sealable c.requires.known c.requires.within

pub put_clear-requires-clause-few : goal.put_clear-requires-clause-few
put_clear-requires-clause-few c =
    let first : c.as_slice.result.now ≡ c.args.content.now.clear.items = c.as_slice.ensures ∙ ap (λ (p : ClearPart). p.items) c.clear.view_is in
    let seen : map see c.in_ok-rows.rows.items ≡ by_number row_number (rows c.args.content.now) = c.in_ok-rows.ensures ∙ (λ j. by_number row_number (zip (first j) (c.as_slice-2.ensures j))) in
    rw c.as_slice-4.ensures.value (lent_few c.args.content.now c.args.key c.args.vector c.requires.sealable c.requires.known c.requires.within c.in_ok-rows.rows.items seen)

pub put_clear-requires-clause-short : goal.put_clear-requires-clause-short
put_clear-requires-clause-short c =
    let first : c.as_slice.result.now ≡ c.args.content.now.clear.items = c.as_slice.ensures ∙ ap (λ (p : ClearPart). p.items) c.clear.view_is in
    let seen : map see c.in_ok-rows.rows.items ≡ by_number row_number (rows c.args.content.now) = c.in_ok-rows.ensures ∙ (λ j. by_number row_number (zip (first j) (c.as_slice-2.ensures j))) in
    rw c.as_slice-4.ensures.value (lent_clear_items c.args.content.now c.args.key c.args.vector c.requires.sealable c.requires.known c.requires.within c.in_ok-rows.rows.items seen)

pub returns : goal.returns
returns c =
    let first : c.as_slice.result.now ≡ c.args.content.now.clear.items = c.as_slice.ensures ∙ ap (λ (p : ClearPart). p.items) c.clear.view_is in
    let seen : map see c.in_ok-rows.rows.items ≡ by_number row_number (rows c.args.content.now) = c.in_ok-rows.ensures ∙ (λ j. by_number row_number (zip (first j) (c.as_slice-2.ensures j))) in
    let area = c.in_ok-area.area.items in
    let front = rw c.in_ok-file.ensures.items at c.in_ok-put_clear.ensures in
    let whole : c.extend_from_slice.new.self.items ≡ c.put_clear.new.file.items ++ area = search rules in
    let hidden = c.in_ok-area.ensures in
    sealed_told c.args.content.now c.args.key c.args.vector c.requires.sealable c.requires.known c.requires.within c.in_ok-rows.rows.items seen c.extend_from_slice.new.self.items c.put_clear.new.file.items area c.args.area_len c.requires.area
    (rw c.as_slice-4.ensures.value at front) (rw c.as_slice-3.ensures.value at hidden) whole
