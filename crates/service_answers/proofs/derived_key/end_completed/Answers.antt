use Rattle.std.proofs.Common.{None, sym, ap, subst}
use Rattle.service_calls.specs.declared.storing.Done.{Done}
use Rattle.service_calls.specs.service_events.specs.Derivation.{alias_given}
use Rattle.service_calls.specs.Rows.{disk_of, rows_of}
use Rattle.service_answers.specs.Settled.{Settles}
use Rattle.service_answers.proofs.NewLemmas.{settles-completed}
use Rattle.service_answers.proofs.derived_key.end_completed.Goals as goal

-- the alias was set, or nothing was, and then the prompt ended
pub returns-clause-settles : goal.returns-clause-settles
returns-clause-settles g c = λ conn brought alias stem rest made sets.
    let folder = g.F.Folder in
    let slot = g.F.Cell.Slot in
    let prompt = c.args.prompt in
    let old = rows_of c.args.tables.now in
    let mid = rows_of c.set_new_alias-set.new.tables in
    let disk = disk_of c.args.tables.now in
    let new = disk_of c.set_new_alias-set.new.tables in
    let its = c.set_new_alias-set.ensures in
    let after = record mid { prompts = c.end-ended.new.self } in
    subst (λ (d : Done). Settles folder.is_honest folder.is_steady folder.faults folder.images folder.may_leave folder.made slot.is_honest slot.is_steady slot.faults slot.moment slot.left_since slot.may_leave conn brought (alias_given prompt alias stem) old after disk new (record { made = None; done = record d { sends = rest } })) (sym c.followed.ensures)
    (settles-completed folder.is_honest folder.is_steady folder.faults folder.images folder.may_leave folder.made slot.is_honest slot.is_steady slot.faults slot.moment slot.left_since slot.may_leave conn brought prompt alias stem old after rest mid disk new c.set_new_alias-set.result
    (ap (λ p. record mid { prompts = p }) c.end-ended.ensures.ended) its.prompts its.silent made c.args.change sets its.set its.unset)
