use Rattle.std.proofs.Common.{sym, ap, subst, ◌∙◌}
use Rattle.kr_base.specs.Attributes.{IsInOrder}
use Rattle.std.specs.Cmp.Lexicographic.{slice_cmp}
use Rattle.std.specs.List.Sorted.{IsStrictlySortedBy}
use Rattle.std.specs.Ordering.{nat_cmp}
use Rattle.service_calls.specs.collection_table.specs.Entries.{changed}
use Rattle.service_calls.specs.collection_table.specs.Rows.{Rows, locked}
use Rattle.service_calls.specs.collection_table.proofs.RowLemmas.{keys-rows}
use Rattle.service_calls.specs.service_tables.specs.Opened.{Contents}
use Rattle.service_calls.specs.Rows.{rows_of}
use Rattle.service_answers.proofs.DerivedLemmas.{both-ok, rows-locked, rows-shut}
use Rattle.service_answers.proofs.derived_key.open_with.Goals as goal

-- one that it doesn't open is as before
pub returns-clause-shut : goal.returns-clause-shut
returns-clause-shut g c =
    let old = rows_of c.args.tables.now in
    let ordered : IsInOrder old.collections = subst (IsStrictlySortedBy (slice_cmp nat_cmp)) (keys-rows c.args.tables.now.disk.collections.entries) c.entries-ordered.ensures.ordered in
    both-ok c.unlock.result _ _ _
    (λ how is opened apart.
    ap (λ (contents : Contents). record old { collections = contents.collections; aliases = contents.aliases; used = contents.used }) opened
    ∙ ap (λ (rows : Rows). record old { collections = rows }) (rows-shut c.args.key c.args.stem.now old.collections ordered how apart is))
    c.unlock.ensures.opening c.unlock.ensures.opened

-- and one that it opens was locked
pub returns-clause-locked : goal.returns-clause-locked
returns-clause-locked g c =
    let old = rows_of c.args.tables.now in
    let ordered : IsInOrder old.collections = subst (IsStrictlySortedBy (slice_cmp nat_cmp)) (keys-rows c.args.tables.now.disk.collections.entries) c.entries-ordered.ensures.ordered in
    both-ok c.unlock.result _ _ _
    (λ how is opened opens.
    ap (λ (contents : Contents). changed c.args.stem.now locked contents.collections) opened
    ∙ rows-locked c.args.key c.args.stem.now old.collections ordered (sym is ∙ opens))
    c.unlock.ensures.opening c.unlock.ensures.opened
