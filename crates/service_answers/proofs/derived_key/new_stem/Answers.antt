use Rattle.service_calls.specs.Rows.{rows_of}
use Rattle.service_calls.proofs.LeadsLemmas.{map-ok}
use Rattle.service_answers.proofs.NewLemmas.{unlisted, unused}
use Rattle.service_answers.proofs.derived_key.new_stem.Goals as goal

-- the stem isn't used, and no collection has it
pub returns-clause-unused : goal.returns-clause-unused
returns-clause-unused g c = map-ok c.chosen_stem.result _ _ (λ stem is. unused stem (rows_of c.args.tables.now).used is.free) c.chosen_stem.ensures.first_free

pub returns-clause-unlisted : goal.returns-clause-unlisted
returns-clause-unlisted g c =
    let old = rows_of c.args.tables.now in
    map-ok c.chosen_stem.result _ _ (λ stem is. unlisted stem old.used old.collections is.free c.requires.stems.taken) c.chosen_stem.ensures.first_free
