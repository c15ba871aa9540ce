use Rattle.std.proofs.Common.{sym, ◌∙◌, ap, subst, Some, Err, inl}
use Rattle.kr_outside.proofs.MomentLemmas.{LeavesOnly-weaker}
use Rattle.replace_slot.specs.Cell.{Known, Doubt, IsKnown, IsOneOf, old_image}
use Rattle.alias_table.specs.Table.{too_many}
use Rattle.alias_table.proofs.TableLemmas.{known_none, given_stored, given_unsure, stores_done, stores_failed, stores_unsure}
use Rattle.alias_table.proofs.table.AliasTable.store.Goals as goal

-- there would be too many
pub returns-in_default-clause-stores : goal.returns-in_default-clause-stores
returns-in_default-clause-stores g c = too_many (sym c.into_parts-next.ensures.next ∙ c.in_default.is)

pub returns-in_default-clause-any_moment : goal.returns-in_default-clause-any_moment
returns-in_default-clause-any_moment g c honest =
    LeavesOnly-weaker g.S.Slot.moment g.S.Slot.left_since c.args.self.now.slot c.args.self.now.slot (IsOneOf c.args.self.now.rows.file) _
    (λ image is. inl is) (c.untouched.ensures.any_moment honest)

-- the new aliases are those that the new image gives
pub invariant_of-self : goal.invariant_of-self
invariant_of-self g c =
    let known = subst IsKnown (sym (ap (λ s. s.rows.file) c.self.view_is)) c.requires.known in
    given_stored c.in-Some.next c.into_parts-aliases.result.0 c.replace.new.self.file c.self.inside.newer
    c.into_parts-aliases.ensures.storable c.into_parts-aliases.ensures.aliases
    (c.in-Ok.ensures.stored ∙ ap (λ t. Known (Some t)) c.into_parts-aliases.ensures.image)
    (known_none c.self.inside.cell.file c.self.inside.aliases c.self.inside.newer c.self.invariant known)

pub returns-in-Ok-clause-stores : goal.returns-in-Ok-clause-stores
returns-in-Ok-clause-stores g c =
    let known = subst IsKnown (sym (ap (λ s. s.rows.file) c.self.view_is)) c.requires.known in
    stores_done c.args.change.next c.args.self.now.rows c.in-Some.next c.into_parts-aliases.result.0 c.replace.new.self.file c.self.inside.newer
    (sym c.into_parts-next.ensures.next ∙ c.in-Some.is) c.into_parts-aliases.ensures.aliases
    (c.in-Ok.ensures.stored ∙ ap (λ t. Known (Some t)) c.into_parts-aliases.ensures.image)
    (known_none c.self.inside.cell.file c.self.inside.aliases c.self.inside.newer c.self.invariant known)

-- in doubt, the aliases of both images are kept
pub invariant_of-self-in-Err-FaultUnsure : goal.invariant_of-self-in-Err-FaultUnsure
invariant_of-self-in-Err-FaultUnsure g c =
    let known = subst IsKnown (sym (ap (λ s. s.rows.file) c.self.view_is)) c.requires.known in
    given_unsure c.in-Some.next c.into_parts-aliases.result.0 c.self.inside.aliases c.self.inside.cell.file c.replace.new.self.file c.self.inside.newer
    c.into_parts-aliases.ensures.storable c.into_parts-aliases.ensures.aliases c.self.invariant known
    (c.in-Err-FaultUnsure.ensures.unsure (ap Err c.in-Err-FaultUnsure.field-0-is) ∙ ap (λ t. Doubt (old_image c.self.inside.cell.file) (Some t)) c.into_parts-aliases.ensures.image)

pub returns-in-Err-FaultUnsure-clause-stores : goal.returns-in-Err-FaultUnsure-clause-stores
returns-in-Err-FaultUnsure-clause-stores g c =
    stores_unsure c.args.change.next c.args.self.now.rows c.in-Some.next c.into_parts-aliases.result.0 c.self.inside.aliases c.self.inside.cell.file c.replace.new.self.file c.self.inside.newer
    (sym c.into_parts-next.ensures.next ∙ c.in-Some.is) c.into_parts-aliases.ensures.aliases (ap (λ s. s.rows) c.self.view_is)
    (c.in-Err-FaultUnsure.ensures.unsure (ap Err c.in-Err-FaultUnsure.field-0-is) ∙ ap (λ t. Doubt (old_image c.self.inside.cell.file) (Some t)) c.into_parts-aliases.ensures.image)

pub returns-in-Err-FaultBefore-clause-stores : goal.returns-in-Err-FaultBefore-clause-stores
returns-in-Err-FaultBefore-clause-stores g c =
    stores_failed c.args.change.next c.args.self.now.rows c.in-Some.next c.self.inside.aliases c.self.inside.cell.file c.replace.new.self.file c.self.inside.newer
    (sym c.into_parts-next.ensures.next ∙ c.in-Some.is) (ap (λ s. s.rows) c.self.view_is)
    (c.in-Err-FaultBefore.ensures.before (ap Err c.in-Err-FaultBefore.field-0-is))
