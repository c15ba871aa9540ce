use Rattle.std.proofs.Common.{ℕ, List, [], ◌∷◌, subst}
use Rattle.std.specs.List.{AllByRecursion}
use Rattle.service_answers.specs.collection_store.specs.State.{CollectionState}
use Rattle.service_answers.specs.collection_table.specs.Entries.{Entries, rows_of}
use Rattle.service_answers.specs.service_events.specs.Step.{AreByteFiles, AreByteImages}
use Rattle.service_machine.proofs.known.known_files.Goals as goal

files-known : {S : Type 0} (entries : Entries S) → AllByRecursion (λ (entry : List ℕ × CollectionState S). AreByteImages entry.1.file) entries → AreByteFiles (rows_of entries)
files-known [] all = tt
files-known (entry ∷ entries) all = (all.0, files-known entries all.1)

pub returns : goal.returns
returns g c =
    files-known c.args.disk.now.collections.entries (subst (λ entries. AllByRecursion (λ entry. AreByteImages entry.1.file) entries) c.entries.ensures.value c.known_entries.ensures)
