use Rattle.std.proofs.Common.{◌∙◌, cond, None, IfOk, ap, subst, sym}
use Rattle.std.specs.Prelude.{IfErr}
use Rattle.item_store.specs.Rows.{first_id}
use Rattle.collection_store.specs.Changes.{made_added, made_new}
use Rattle.collection_store.specs.Preparing.{IsPrepared, MayRefuse}
use Rattle.collection_store.specs.State.{rows_with}
use Rattle.collection_store.proofs.StepLemmas.{equal_same, next_same, over_on, within_off}
use Rattle.collection_store.proofs.preparing.prepare_add.Goals as goal

pub returns-in-None-clause-prepared : goal.returns-in-None-clause-prepared
returns-in-None-clause-prepared c =
    let told = c.args.told.now in
    let none = ap (λ t. cond c.args.replace (first_id t) None) (equal_same c.args.attributes told.items c.args.items.now c.requires.ids) ∙ sym c.in-None.ensures in
    let made = ap (λ o. made_added o c.args.frame.now.time c.args.label c.args.attributes c.args.value c.args.content (rows_with told c.args.items.now)) none ∙ ap (λ n. made_new n c.args.frame.now.time c.args.label c.args.attributes c.args.value c.args.content (rows_with told c.args.items.now)) (next_same told.items c.args.items.now c.requires.ids) in
    subst (λ m. IfOk c.prepare_added.result (IsPrepared c.args.frame.now told m c.args.items.now c.prepare_added.new.items)) (sym made) c.prepare_added.ensures.prepared

pub returns-in-None-clause-refused : goal.returns-in-None-clause-refused
returns-in-None-clause-refused c =
    let told = c.args.told.now in
    let none = ap (λ t. cond c.args.replace (first_id t) None) (equal_same c.args.attributes told.items c.args.items.now c.requires.ids) ∙ sym c.in-None.ensures in
    let made = ap (λ o. made_added o c.args.frame.now.time c.args.label c.args.attributes c.args.value c.args.content (rows_with told c.args.items.now)) none ∙ ap (λ n. made_new n c.args.frame.now.time c.args.label c.args.attributes c.args.value c.args.content (rows_with told c.args.items.now)) (next_same told.items c.args.items.now c.requires.ids) in
    subst (λ m. IfErr c.prepare_added.result (MayRefuse c.args.frame.now told m)) (sym made) c.prepare_added.ensures.refused

pub returns-then-are_too_many-clause-refused : goal.returns-then-are_too_many-clause-refused
returns-then-are_too_many-clause-refused c =
    let told = c.args.told.now in
    let some = ap (λ t. cond c.args.replace (first_id t) None) (equal_same c.args.attributes told.items c.args.items.now c.requires.ids) ∙ sym c.in-Some.ensures in
    ap (λ o. made_added o c.args.frame.now.time c.args.label c.args.attributes c.args.value c.args.content (rows_with told c.args.items.now)) some ∙ over_on c.args.attributes _ (sym c.are_too_many.ensures ∙ c.if-are_too_many.true)

pub returns-else-are_too_many-clause-prepared : goal.returns-else-are_too_many-clause-prepared
returns-else-are_too_many-clause-prepared c =
    let told = c.args.told.now in
    let some = ap (λ t. cond c.args.replace (first_id t) None) (equal_same c.args.attributes told.items c.args.items.now c.requires.ids) ∙ sym c.in-Some.ensures in
    let made = ap (λ o. made_added o c.args.frame.now.time c.args.label c.args.attributes c.args.value c.args.content (rows_with told c.args.items.now)) some ∙ within_off c.args.attributes _ (sym c.are_too_many.ensures ∙ c.if-are_too_many.false) in
    subst (λ m. IfOk c.prepare_replaced.result (IsPrepared c.args.frame.now told m c.args.items.now c.prepare_replaced.new.items)) (sym made) c.prepare_replaced.ensures.prepared

pub returns-else-are_too_many-clause-refused : goal.returns-else-are_too_many-clause-refused
returns-else-are_too_many-clause-refused c =
    let told = c.args.told.now in
    let some = ap (λ t. cond c.args.replace (first_id t) None) (equal_same c.args.attributes told.items c.args.items.now c.requires.ids) ∙ sym c.in-Some.ensures in
    let made = ap (λ o. made_added o c.args.frame.now.time c.args.label c.args.attributes c.args.value c.args.content (rows_with told c.args.items.now)) some ∙ within_off c.args.attributes _ (sym c.are_too_many.ensures ∙ c.if-are_too_many.false) in
    subst (λ m. IfErr c.prepare_replaced.result (MayRefuse c.args.frame.now told m)) (sym made) c.prepare_replaced.ensures.refused
