use Rattle.std.proofs.Common.{subst, sym}
use Rattle.std.specs.Prelude.{IfErr}
use Rattle.collection_store.specs.Changes.{name_made, rows_made}
use Rattle.collection_store.specs.Preparing.{MayRefuse}
use Rattle.collection_store.specs.State.{rows_with}
use Rattle.collection_store.specs.declared.change.Change.{Change}
use Rattle.collection_store.proofs.preparing.prepare.Goals as goal

pub returns-in-Add-clause-refused : goal.returns-in-Add-clause-refused
returns-in-Add-clause-refused c =
    let told = c.args.told.now in
    subst (λ (x : Change). IfErr c.prepare_add.result (MayRefuse c.args.frame.now (record told { name = name_made x told.name }) (rows_made x c.args.frame.now.time (rows_with told c.args.items.now)))) (sym c.in-Add.is) c.prepare_add.ensures.refused
