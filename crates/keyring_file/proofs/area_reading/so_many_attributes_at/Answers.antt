use Rattle.std.proofs.Common.{ℕ, List, [], sym, ap, ◌∙◌, ◌||◌}
use Rattle.std.proofs.lemmas.Result.{err_from_is_err_and}
use Rattle.std.specs.List.{list_any}
use Rattle.kr_base.specs.Attributes.{is_name}
use Rattle.kr_base.specs.declared.attributes.AttrValue.{AttrValue}
use Rattle.keyring_text.specs.declared.fault.FieldFault.TheVariants.{DuplicateName}
use Rattle.keyring_text.specs.FieldReading.{text_at}
use Rattle.keyring_text.proofs.Loops.{seen_after, seen_after-push, keyed-goes_on, keyed-ends, keyed-is_done, keyed-begins}
use Rattle.keyring_file.specs.Names.{has_name}
use Rattle.keyring_file.specs.FileReading.{attribute_at, so_many_attributes_at}
use Rattle.keyring_file.proofs.Keeps.{attribute-keeps}
use Rattle.keyring_file.proofs.area_reading.so_many_attributes_at.Goals as goal

abbrev name_of : List ℕ × AttrValue → List ℕ
name_of pair = pair.0

pub loop-init : goal.loop-init
unfolding so_many_attributes_at
loop-init c =
    let begins = keyed-begins text_at is_name DuplicateName attribute_at name_of attribute-keeps c.args.count c.args.bytes.now in
    rw c.in_ok-pairs.ensures.items (record { so_far = begins; agree = c.no_names-names.ensures })

pub loop-preserved : goal.loop-preserved
loop-preserved c =
    let front = c.loop.pairs.items in
    let pair = c.in_ok-pair.pair in
    let stood = has_name c.loop.names in
    let goes = keyed-goes_on text_at is_name DuplicateName attribute_at name_of attribute-keeps front c.args.count c.loop.counter c.loop.rest.now pair c.in_ok-pair.after.now stood (so_many_attributes_at c.args.count c.args.bytes.now) c.loop-test.true
    c.loop.invariant.agree c.in_ok-pair.ensures.read c.loop.invariant.so_far in
    rw c.in_ok-push.ensures.items (record { so_far = goes; agree = λ q. c.in_ok-pair.ensures.seen q ∙ ap (λ b. is_name q (name_of pair) || b) (c.loop.invariant.agree q) ∙ ap (λ seen. list_any (is_name q) seen) (sym (seen_after-push name_of front pair [])) })

pub returns-in_err-pair : goal.returns-in_err-pair
returns-in_err-pair c =
    let p = err_from_is_err_and c.from_residual-in_err-pair.result c.from_residual-in_err-pair.ensures.1 in
    let stood = has_name c.loop.names in
    let fails = keyed-ends text_at is_name DuplicateName attribute_at name_of attribute-keeps c.in_err-pair.field-0.0 c.loop.pairs.items c.args.count c.loop.counter c.loop.rest.now stood (so_many_attributes_at c.args.count c.args.bytes.now) c.loop-test.true
    c.loop.invariant.agree c.in_err-pair.ensures.read c.loop.invariant.so_far in
    rw (p.1, p.2) fails

pub returns : goal.returns
returns c =
    keyed-is_done text_at is_name DuplicateName attribute_at name_of attribute-keeps c.loop.pairs.items (seen_after name_of c.loop.pairs.items []) c.args.count c.loop.counter c.loop.rest.now (so_many_attributes_at c.args.count c.args.bytes.now) c.loop-test.false
    c.loop.invariant.so_far
