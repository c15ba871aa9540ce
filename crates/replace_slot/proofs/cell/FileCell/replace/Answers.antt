use Rattle.std.proofs.Common.{◌≡◌, ⊎_elim, rules, inl, inr, sym, ◌∙◌, ap, subst, arith}
use Rattle.kr_outside.specs.RenameDisk.{Synced, GivesTemporary}
use Rattle.kr_outside.proofs.MomentLemmas.{LeavesOnly-behind}
use Rattle.replace_slot.specs.Cell.{IsKnown, old_image}
use Rattle.replace_slot.proofs.CellLemmas.{known_only}
use Rattle.replace_slot.proofs.cell.FileCell.replace.Goals as goal

-- the folder was synced: the new image is left
pub invariant_of-self-in-Ok : goal.invariant_of-self-in-Ok
invariant_of-self-in-Ok g c honest =
    let mid = sym c.publish.ensures.kept.honest ∙ honest in
    let was = sym c.prepare.ensures.kept.honest ∙ mid in
    let known = subst IsKnown (sym (ap (λ s. s.file) c.self.view_is)) c.requires in
    let only = known_only c.self.inside.file _ known (c.self.invariant was) in
    let staged = subst (λ b. g.S.Slot.temporary c.prepare.new.slot ≡ Synced b) c.bytes.ensures (c.in_default.ensures.staged was) in
    rw c.set.ensures (c.in-Ok.ensures.stored (old_image c.self.inside.file) c.args.image mid (λ left m. only left (c.prepare.ensures.crash was left m)) staged)

pub returns-in-Ok-clause-crash : goal.returns-in-Ok-clause-crash
returns-in-Ok-clause-crash g c honest = invariant_of-self-in-Ok g c honest

pub returns-in-Ok-clause-any_moment : goal.returns-in-Ok-clause-any_moment
returns-in-Ok-clause-any_moment g c = rw (← c.self.view_is) (λ was.
    let mid = c.prepare.ensures.kept.honest ∙ was in
    let known = subst IsKnown (sym (ap (λ s. s.file) c.self.view_is)) c.requires in
    let only = known_only c.self.inside.file _ known (c.self.invariant was) in
    let staged = subst (λ b. g.S.Slot.temporary c.prepare.new.slot ≡ Synced b) c.bytes.ensures (c.in_default.ensures.staged was) in
    LeavesOnly-behind g.S.Slot.moment g.S.Slot.left_since c.self.inside.slot c.prepare.new.slot c.publish.new.slot _ _ (λ left m. inl (only left m))
    (c.prepare.ensures.any_moment was)
    (c.publish.ensures.any_moment (old_image c.self.inside.file) c.args.image mid (λ left m. only left (c.prepare.ensures.crash was left m)) staged))

-- it was not, or the name stayed: the old image or the new one is left
pub invariant_of-self-in-Err-publish : goal.invariant_of-self-in-Err-publish
invariant_of-self-in-Err-publish g c honest =
    let mid = sym c.publish.ensures.kept.honest ∙ honest in
    let was = sym c.prepare.ensures.kept.honest ∙ mid in
    let known = subst IsKnown (sym (ap (λ s. s.file) c.self.view_is)) c.requires in
    let only = known_only c.self.inside.file _ known (c.self.invariant was) in
    let staged = subst (λ b. g.S.Slot.temporary c.prepare.new.slot ≡ Synced b) c.bytes.ensures (c.in_default.ensures.staged was) in
    rw c.doubt.ensures (c.publish.ensures.crash (old_image c.self.inside.file) c.args.image mid (λ left m. only left (c.prepare.ensures.crash was left m)) staged)

pub returns-in-Err-publish-clause-crash : goal.returns-in-Err-publish-clause-crash
returns-in-Err-publish-clause-crash g c honest = invariant_of-self-in-Err-publish g c honest

pub returns-in-Err-publish-clause-any_moment : goal.returns-in-Err-publish-clause-any_moment
returns-in-Err-publish-clause-any_moment g c = rw (← c.self.view_is) (λ was.
    let mid = c.prepare.ensures.kept.honest ∙ was in
    let known = subst IsKnown (sym (ap (λ s. s.file) c.self.view_is)) c.requires in
    let only = known_only c.self.inside.file _ known (c.self.invariant was) in
    let staged = subst (λ b. g.S.Slot.temporary c.prepare.new.slot ≡ Synced b) c.bytes.ensures (c.in_default.ensures.staged was) in
    LeavesOnly-behind g.S.Slot.moment g.S.Slot.left_since c.self.inside.slot c.prepare.new.slot c.publish.new.slot _ _ (λ left m. inl (only left m))
    (c.prepare.ensures.any_moment was)
    (c.publish.ensures.any_moment (old_image c.self.inside.file) c.args.image mid (λ left m. only left (c.prepare.ensures.crash was left m)) staged))

-- both steps that prepare the file have succeeded
pub returns-in-Err-publish-clause-staged : goal.returns-in-Err-publish-clause-staged
returns-in-Err-publish-clause-staged g c = rw (← c.self.view_is) (λ was _.
    let mid = c.prepare.ensures.kept.honest ∙ was in
    let known = subst IsKnown (sym (ap (λ s. s.file) c.self.view_is)) c.requires in
    let only = known_only c.self.inside.file _ known (c.self.invariant was) in
    let staged = subst (λ b. g.S.Slot.temporary c.prepare.new.slot ≡ Synced b) c.bytes.ensures (c.in_default.ensures.staged was) in
    let rises = c.in_default.ensures.rises was in
    let later = (c.publish.ensures.any_moment (old_image c.self.inside.file) c.args.image mid (λ left m. only left (c.prepare.ensures.crash was left m)) staged).later in
    omega (arith, rises, later))

-- the name stands for the synced temporary file
pub returns-in-Err-publish-clause-unsure_call : goal.returns-in-Err-publish-clause-unsure_call
returns-in-Err-publish-clause-unsure_call g c = rw (← c.self.view_is) (λ _. ⊎_elim
    (λ renamed. inl renamed)
    (λ after. inr (
      after.0,
      λ was.
          let mid = c.prepare.ensures.kept.honest ∙ was in
          let staged = subst (λ b. g.S.Slot.temporary c.prepare.new.slot ≡ Synced b) c.bytes.ensures (c.in_default.ensures.staged was) in
          subst (λ t. GivesTemporary t (g.S.Slot.seen c.publish.new.slot)) staged (after.1 mid),
    ))
    (c.publish.ensures.call (search rules)))
