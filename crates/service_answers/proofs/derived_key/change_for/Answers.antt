use Rattle.std.proofs.Common.{◌≡◌, [], IfSome, Some, inl, inr, sym, ap, subst, ◌∙◌}
use Rattle.kr_names.specs.Path.{IsAliasName}
use Rattle.service_calls.specs.collection_table.specs.Entries.{inserted}
use Rattle.service_calls.specs.collection_table.specs.Rows.{CollectionRow, has}
use Rattle.service_calls.specs.service_tables.specs.Aliases.{IsPreparedIn}
use Rattle.service_answers.specs.Purposes.{SetsAlias}
use Rattle.service_calls.specs.Rows.{rows_of}
use Rattle.service_answers.proofs.NewLemmas.{each-ok, empty-is, empty-not, sets-change}
use Rattle.service_answers.proofs.derived_key.change_for.Goals as goal

-- an alias that isn't empty is one
pub prepare_alias_of_new-requires-clause-name : goal.prepare_alias_of_new-requires-clause-name
prepare_alias_of_new-requires-clause-name g c =
    let given : c.args.alias ≡ [] → ⊥ = λ none. empty-not c.as_bytes.result.now (sym c.is_empty.ensures ∙ c.if-is_empty.false) (c.as_bytes.ensures.value ∙ none) in
    subst IsAliasName (sym c.alias.view_is) (elim c.requires.alias [ inl none ↦ absurd (given none) | inr is ↦ is ])

pub prepare_alias_of_new-requires-clause-new : goal.prepare_alias_of_new-requires-clause-new
prepare_alias_of_new-requires-clause-new g c = ap (λ s. has s (rows_of c.args.tables.now).collections) c.in_ok-copy.ensures ∙ c.requires.new

-- none is given
pub returns-then-is_empty : goal.returns-then-is_empty
returns-then-is_empty g c = λ row. inl (sym c.as_bytes.ensures.value ∙ empty-is c.as_bytes.result.now (sym c.is_empty.ensures ∙ c.if-is_empty.true))

-- the change was prepared for it
pub returns : goal.returns
returns g c =
    let old = rows_of c.args.tables.now in
    let given : c.args.alias ≡ [] → ⊥ = λ none. empty-not c.as_bytes.result.now (sym c.is_empty.ensures ∙ c.if-is_empty.false) (c.as_bytes.ensures.value ∙ none) in
    let copied = c.in_ok-copy.field-0 in
    each-ok c.prepare_alias_of_new.result _ _ _
    (λ change prepared none row.
    subst (λ s. SetsAlias c.args.alias s (inserted s row old.collections) old.aliases change) c.in_ok-copy.ensures
    (sets-change c.args.alias copied old.collections old.aliases change given
    (subst (λ a. IfSome change (λ its. (r : CollectionRow) → IsPreparedIn a (Some copied) (inserted copied r old.collections) its old.aliases)) c.alias.view_is prepared) none row))
    c.prepare_alias_of_new.ensures.prepared c.prepare_alias_of_new.ensures.left_alone
