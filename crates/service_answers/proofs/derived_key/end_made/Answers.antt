use Rattle.std.proofs.Common.{None, sym, ap, subst, ◌∙◌}
use Rattle.service_calls.specs.service_events.specs.Derivation.{making_ended}
use Rattle.service_calls.specs.declared.storing.Done.{Done}
use Rattle.service_calls.specs.Rows.{disk_of, rows_of}
use Rattle.service_calls.specs.service_tables.specs.Connections.{spread}
use Rattle.service_answers.specs.Settled.{Settles, ended_sent}
use Rattle.service_answers.proofs.NewLemmas.{sent-dismissed, settles-dismissed}
use Rattle.service_answers.proofs.derived_key.end_made.Goals as goal

-- it was stored
pub end_completed-requires-clause-prepared : goal.end_completed-requires-clause-prepared
end_completed-requires-clause-prepared g c = c.requires.prepared c.in-Stored.is

pub returns-in-Stored-clause-settles : goal.returns-in-Stored-clause-settles
returns-in-Stored-clause-settles g c = λ conn brought alias stem rest made sets.
    let folder = g.F.Folder in
    let slot = g.F.Cell.Slot in
    subst (λ some. Settles folder.is_honest folder.is_steady folder.faults folder.images folder.may_leave folder.made slot.is_honest slot.is_steady slot.faults slot.moment slot.left_since slot.may_leave conn brought (making_ended c.args.prompt alias stem some) (rows_of c.args.tables.now) (rows_of c.end_completed.new.tables) (disk_of c.args.tables.now) (disk_of c.end_completed.new.tables) (record { made = None; done = record c.end_completed.result { sends = rest } })) (sym c.in-Stored.is)
    (c.end_completed.ensures.settles conn brought alias stem rest
    (λ rows. made rows ∙ ap (λ some. spread rows (ended_sent c.args.prompt stem some (rows_of c.args.tables.now).prompts)) c.in-Stored.is) (sets c.in-Stored.is))

-- it wasn't, or that isn't known
pub returns-in_default-clause-settles : goal.returns-in_default-clause-settles
returns-in_default-clause-settles g c = λ conn brought alias stem rest made sets.
    let folder = g.F.Folder in
    let slot = g.F.Cell.Slot in
    let old = rows_of c.args.tables.now in
    let disk = disk_of c.args.tables.now in
    let after = record old { prompts = c.end-ended.new.self } in
    subst (λ (d : Done). Settles folder.is_honest folder.is_steady folder.faults folder.images folder.may_leave folder.made slot.is_honest slot.is_steady slot.faults slot.moment slot.left_since slot.may_leave conn brought (making_ended c.args.prompt alias stem c.args.fate) old after disk disk (record { made = None; done = record d { sends = rest } })) (sym c.sending.ensures)
    (settles-dismissed folder.is_honest folder.is_steady folder.faults folder.images folder.may_leave folder.made slot.is_honest slot.is_steady slot.faults slot.moment slot.left_since slot.may_leave conn brought c.args.prompt alias stem old after rest c.args.fate disk c.in_default.not-Stored (ap (λ p. record old { prompts = p }) c.end-ended.ensures.ended)
    (λ rows. made rows ∙ ap (spread rows) (sent-dismissed c.args.prompt stem c.args.fate old.prompts c.in_default.not-Stored)))
