use Rattle.std.proofs.Common.{◌∷◌, [], subst}
use Rattle.prompt_state.specs.Prompts.{row_at}
use Rattle.service_calls.specs.service_events.specs.PublicBody as public
use Rattle.service_calls.specs.service_tables.specs.Storing.{Brought}
use Rattle.service_calls.specs.service_events.specs.Derivation.{derived, quietly}
use Rattle.service_answers.specs.declared.derived_key.Purpose.TheVariants as purpose
use Rattle.service_calls.specs.service_events.specs.Plan.{Go_on, KeyTerms, Plan}
use Rattle.service_answers.specs.Purposes.{IsPurposeOf}
use Rattle.service_calls.specs.Rows.{disk_of, rows_of}
use Rattle.service_calls.specs.service_events.specs.Run.{asked}
use Rattle.service_calls.specs.Done.{Leads}
use Rattle.service_answers.proofs.DerivedLemmas.{disk-kept, none-plan, to-target}
use Rattle.service_calls.proofs.LeadsLemmas.{leads-as, map-ok}
use Rattle.service_answers.proofs.derived_key.unlock_target.Goals as goal

-- a target is left
pub returns-in-Some-clause-leads : goal.returns-in-Some-clause-leads
returns-in-Some-clause-leads g c =
    let folder = g.F.Folder in
    let slot = g.F.Cell.Slot in
    let conn = c.args.conn in
    let prompt = c.args.prompt in
    let round = c.args.round in
    let key = c.args.key in
    let terms : KeyTerms = record { salt = key.salt; iterations = key.iterations } in
    let old = rows_of c.args.tables.now in
    let disk = disk_of c.args.tables.now in
    let row = row_at prompt old.prompts in
    let stem = c.in-Some.stem in
    let is = subst (λ s. IsPurposeOf (purpose.Unlock s) row) c.in-Some.is c.requires.purpose in
    map-ok c.try_key.result _ _
    (λ done leads now.
    let brought : Brought = record { now = now; value = key.password } in
    to-target prompt round terms (asked conn brought old)
    (λ (plan : Plan). Leads folder.is_honest folder.is_steady folder.faults folder.images folder.may_leave folder.made slot.is_honest slot.is_steady slot.faults slot.moment slot.left_since slot.may_leave conn brought plan old (rows_of c.try_key.new.tables) disk (disk_of c.try_key.new.tables) done)
    row stem c.requires.derives is (leads now))
    c.try_key.ensures.leads

-- none is
pub returns-in-None-clause-leads : goal.returns-in-None-clause-leads
returns-in-None-clause-leads g c =
    let folder = g.F.Folder in
    let slot = g.F.Cell.Slot in
    let conn = c.args.conn in
    let prompt = c.args.prompt in
    let round = c.args.round in
    let key = c.args.key in
    let terms : KeyTerms = record { salt = key.salt; iterations = key.iterations } in
    let old = rows_of c.args.tables.now in
    let disk = disk_of c.args.tables.now in
    let row = row_at prompt old.prompts in
    let is = subst (λ s. IsPurposeOf (purpose.Unlock s) row) c.in-None.is c.requires.purpose in
    map-ok c.go_on.result _ _
    (λ done leads now.
    let brought : Brought = record { now = now; value = key.password } in
    leads-as folder.is_honest folder.is_steady folder.faults folder.images folder.may_leave folder.made slot.is_honest slot.is_steady slot.faults slot.moment slot.left_since slot.may_leave conn brought old (rows_of c.go_on.new.self) disk (disk_of c.go_on.new.self) (derived prompt round terms (asked conn brought old)) (quietly (Go_on prompt ∷ [])) done
    (none-plan prompt round terms (asked conn brought old) row c.requires.derives is) (leads brought))
    c.go_on.ensures.leads

pub returns-in-None-clause-disk : goal.returns-in-None-clause-disk
returns-in-None-clause-disk g c =
    let folder = g.F.Folder in
    let slot = g.F.Cell.Slot in
    let prompt = c.args.prompt in
    disk-kept folder.is_honest folder.is_steady folder.faults folder.images folder.may_leave folder.made slot.is_honest slot.is_steady slot.faults slot.moment slot.left_since slot.may_leave c.args.conn (record { now = 0; value = [] }) (rows_of c.args.tables.now) (rows_of c.go_on.new.self) (disk_of c.args.tables.now) (disk_of c.go_on.new.self) c.go_on.result public.Empty (Go_on prompt ∷ []) c.go_on.ensures.leads c.go_on.ensures.unchanged
