use Rattle.std.proofs.Common.{◌∙◌, sym, ap, not, refl}
use Rattle.session_table.proofs.KeyLemmas.{given_stay, filter-not_there}
use Rattle.session_table.proofs.RowLemmas.{list_any-rows, filter-rows}
use Rattle.session_table.specs.Sessions.{is_of}
use Rattle.session_table.specs.Keys.{sessions_of}
use Rattle.session_table.proofs.table.SessionTable.close.Goals as goal

pub invariant_of-self : goal.invariant_of-self
invariant_of-self c = record { ordered = c.take.ensures.ordered; given = rw c.take.ensures.others (given_stay _ _ _ c.self.invariant.given) }

pub invariant_of-self-2 : goal.invariant_of-self-2
invariant_of-self-2 c = record { ordered = c.take.ensures.ordered; given = rw c.take.ensures.others (given_stay _ _ _ c.self.invariant.given) }

pub returns-then-not-take-clause-no_session : goal.returns-then-not-take-clause-no_session
returns-then-not-take-clause-no_session c = rw (← c.self.view_is) (sym (list_any-rows (is_of c.args.owner c.args.session) c.self.inside.keys.keys) ∙ sym c.if-not-take.ensures.was_there)

pub returns-then-not-take-clause-unchanged : goal.returns-then-not-take-clause-unchanged
returns-then-not-take-clause-unchanged c = rw (← c.self.view_is) (ap (λ t. sessions_of t c.self.inside.next) (c.take.ensures.others ∙ filter-not_there c.args.owner.0 c.args.session.0 _ (sym c.if-not-take.ensures.was_there)))

pub returns-clause-owned : goal.returns-clause-owned
returns-clause-owned c = rw (← c.self.view_is) (sym (list_any-rows (is_of c.args.owner c.args.session) c.self.inside.keys.keys) ∙ sym c.if-not-take.ensures.was_there)

pub returns-clause-closed : goal.returns-clause-closed
returns-clause-closed c = rw (← c.self.view_is, c.take.ensures.others, filter-rows (λ row. not (is_of c.args.owner c.args.session row)) c.self.inside.keys.keys) refl
