use Rattle.std.proofs.Common.{◌≡◌, ◌∷◌, ◌++◌, [], IfSome, None, true, false, refl, sym, ap, subst, ◌∙◌}
use Rattle.prompt_state.specs.Prompts.{row_at}
use Rattle.prompt_state.specs.declared.row.PromptRow.{PromptRow}
use Rattle.service_calls.specs.service_events.specs.PublicBody as public
use Rattle.service_calls.specs.service_disk.specs.Opening.{opening_of}
use Rattle.service_calls.specs.service_disk.specs.declared.opening.Opening.TheVariants as ends
use Rattle.service_calls.specs.service_prompts.specs.Announcing.{announced, lock_signals}
use Rattle.service_calls.specs.service_tables.specs.Connections.{spread}
use Rattle.service_calls.specs.service_tables.specs.State.{State}
use Rattle.service_calls.specs.service_tables.specs.Storing.{Brought}
use Rattle.service_calls.specs.declared.storing.Done.{Done}
use Rattle.service_calls.specs.service_events.specs.Announced.{opening_signals}
use Rattle.service_calls.specs.service_events.specs.Derivation.{dismissing, opening_ended, quietly, wrong_again}
use Rattle.service_calls.specs.service_events.specs.Plan.{Ask_prompt, Clear_wrong, End_prompt, Go_on, KeyTerms}
use Rattle.service_calls.specs.service_events.specs.Run.{sent_all, sent_opened}
use Rattle.service_calls.specs.Rows.{disk_of, rows_of}
use Rattle.service_calls.specs.Done.{Leads}
use Rattle.service_answers.proofs.DerivedLemmas.{disk-kept, if-all, if-some, leads-from, leads-opened}
use Rattle.service_calls.proofs.LeadsLemmas.{map-ok}
use Rattle.service_answers.proofs.derived_key.try_key.Goals as goal

-- it was unlocked already, or is gone
pub returns-in-Settled-clause-leads : goal.returns-in-Settled-clause-leads
returns-in-Settled-clause-leads g c =
    let folder = g.F.Folder in
    let slot = g.F.Cell.Slot in
    let conn = c.args.conn in
    let prompt = c.args.prompt in
    let stem = c.args.stem.now in
    let key = c.args.key in
    let terms : KeyTerms = record { salt = key.salt; iterations = key.iterations } in
    let old = rows_of c.args.tables.now in
    let disk = disk_of c.args.tables.now in
    let its = c.in_ok-open_with.ensures in
    let same : rows_of c.open_with.new.tables ≡ old = its.shut (λ opens. let no : ends.Settled ≡ ends.Opened = sym c.in-Settled.is ∙ opens in cc) in
    let how : opening_of key stem old.collections ≡ ends.Settled = sym its.opening ∙ c.in-Settled.is in
    map-ok c.go_on.result _ _
    (λ done leads now. if-all (row_at prompt old.prompts) _
    (λ row. leads-from folder.is_honest folder.is_steady folder.faults folder.images folder.may_leave folder.made slot.is_honest slot.is_steady slot.faults slot.moment slot.left_since slot.may_leave conn (record { now = now; value = key.password }) old (rows_of c.go_on.new.self) disk (disk_of c.go_on.new.self) _ (quietly (Go_on prompt ∷ [])) (rows_of c.open_with.new.tables) (disk_of c.open_with.new.tables) done
    (ap (opening_ended prompt row.wrong stem terms) how) same its.disk (leads (record { now = now; value = key.password }))))
    c.go_on.ensures.leads

pub returns-in-Settled-clause-disk : goal.returns-in-Settled-clause-disk
returns-in-Settled-clause-disk g c =
    let folder = g.F.Folder in
    let slot = g.F.Cell.Slot in
    let prompt = c.args.prompt in
    disk-kept folder.is_honest folder.is_steady folder.faults folder.images folder.may_leave folder.made slot.is_honest slot.is_steady slot.faults slot.moment slot.left_since slot.may_leave c.args.conn (record { now = 0; value = [] }) (rows_of c.open_with.new.tables) (rows_of c.go_on.new.self) (disk_of c.open_with.new.tables) (disk_of c.go_on.new.self) c.go_on.result public.Empty (Go_on prompt ∷ []) c.go_on.ensures.leads c.go_on.ensures.unchanged
    ∙ c.in_ok-open_with.ensures.disk

-- the key doesn't fit its file
pub returns-in-Unfit-clause-leads : goal.returns-in-Unfit-clause-leads
returns-in-Unfit-clause-leads g c =
    let folder = g.F.Folder in
    let slot = g.F.Cell.Slot in
    let conn = c.args.conn in
    let prompt = c.args.prompt in
    let stem = c.args.stem.now in
    let key = c.args.key in
    let terms : KeyTerms = record { salt = key.salt; iterations = key.iterations } in
    let old = rows_of c.args.tables.now in
    let disk = disk_of c.args.tables.now in
    let its = c.in_ok-open_with.ensures in
    let same : rows_of c.open_with.new.tables ≡ old = its.shut (λ opens. let no : ends.Unfit ≡ ends.Opened = sym c.in-Unfit.is ∙ opens in cc) in
    let how : opening_of key stem old.collections ≡ ends.Unfit = sym its.opening ∙ c.in-Unfit.is in
    map-ok c.ask_again.result _ _
    (λ done leads now. if-all (row_at prompt old.prompts) _
    (λ row. leads-from folder.is_honest folder.is_steady folder.faults folder.images folder.may_leave folder.made slot.is_honest slot.is_steady slot.faults slot.moment slot.left_since slot.may_leave conn (record { now = now; value = key.password }) old (rows_of c.ask_again.new.tables) disk (disk_of c.ask_again.new.tables) _ (quietly (Ask_prompt prompt ∷ [])) (rows_of c.open_with.new.tables) (disk_of c.open_with.new.tables) done
    (ap (opening_ended prompt row.wrong stem terms) how) same its.disk (leads (record { now = now; value = key.password }))))
    c.ask_again.ensures.leads

pub returns-in-Unfit-clause-disk : goal.returns-in-Unfit-clause-disk
returns-in-Unfit-clause-disk g c =
    let folder = g.F.Folder in
    let slot = g.F.Cell.Slot in
    let prompt = c.args.prompt in
    disk-kept folder.is_honest folder.is_steady folder.faults folder.images folder.may_leave folder.made slot.is_honest slot.is_steady slot.faults slot.moment slot.left_since slot.may_leave c.args.conn (record { now = 0; value = [] }) (rows_of c.open_with.new.tables) (rows_of c.ask_again.new.tables) (disk_of c.open_with.new.tables) (disk_of c.ask_again.new.tables) c.ask_again.result public.Empty (Ask_prompt prompt ∷ []) c.ask_again.ensures.leads c.ask_again.ensures.unchanged
    ∙ c.in_ok-open_with.ensures.disk

-- its file is damaged
pub returns-in-Damaged-clause-leads : goal.returns-in-Damaged-clause-leads
returns-in-Damaged-clause-leads g c =
    let folder = g.F.Folder in
    let slot = g.F.Cell.Slot in
    let conn = c.args.conn in
    let prompt = c.args.prompt in
    let stem = c.args.stem.now in
    let key = c.args.key in
    let terms : KeyTerms = record { salt = key.salt; iterations = key.iterations } in
    let old = rows_of c.args.tables.now in
    let disk = disk_of c.args.tables.now in
    let its = c.in_ok-open_with.ensures in
    let same : rows_of c.open_with.new.tables ≡ old = its.shut (λ opens. let no : ends.Damaged ≡ ends.Opened = sym c.in-Damaged.is ∙ opens in cc) in
    let how : opening_of key stem old.collections ≡ ends.Damaged = sym its.opening ∙ c.in-Damaged.is in
    map-ok c.end_dismissed.result _ _
    (λ done leads now. if-all (row_at prompt old.prompts) _
    (λ row. leads-from folder.is_honest folder.is_steady folder.faults folder.images folder.may_leave folder.made slot.is_honest slot.is_steady slot.faults slot.moment slot.left_since slot.may_leave conn (record { now = now; value = key.password }) old (rows_of c.end_dismissed.new.self) disk (disk_of c.end_dismissed.new.self) _ (dismissing prompt) (rows_of c.open_with.new.tables) (disk_of c.open_with.new.tables) done
    (ap (opening_ended prompt row.wrong stem terms) how) same its.disk (leads (record { now = now; value = key.password }))))
    c.end_dismissed.ensures.leads

pub returns-in-Damaged-clause-disk : goal.returns-in-Damaged-clause-disk
returns-in-Damaged-clause-disk g c =
    let folder = g.F.Folder in
    let slot = g.F.Cell.Slot in
    let prompt = c.args.prompt in
    disk-kept folder.is_honest folder.is_steady folder.faults folder.images folder.may_leave folder.made slot.is_honest slot.is_steady slot.faults slot.moment slot.left_since slot.may_leave c.args.conn (record { now = 0; value = [] }) (rows_of c.open_with.new.tables) (rows_of c.end_dismissed.new.self) (disk_of c.open_with.new.tables) (disk_of c.end_dismissed.new.self) c.end_dismissed.result public.Empty (End_prompt prompt true None ∷ []) c.end_dismissed.ensures.leads c.end_dismissed.ensures.unchanged
    ∙ c.in_ok-open_with.ensures.disk

-- the password is wrong
pub returns-in-WrongPassword-clause-leads : goal.returns-in-WrongPassword-clause-leads
returns-in-WrongPassword-clause-leads g c =
    let folder = g.F.Folder in
    let slot = g.F.Cell.Slot in
    let conn = c.args.conn in
    let prompt = c.args.prompt in
    let stem = c.args.stem.now in
    let key = c.args.key in
    let terms : KeyTerms = record { salt = key.salt; iterations = key.iterations } in
    let old = rows_of c.args.tables.now in
    let disk = disk_of c.args.tables.now in
    let its = c.in_ok-open_with.ensures in
    let same : rows_of c.open_with.new.tables ≡ old = its.shut (λ opens. let no : ends.WrongPassword ≡ ends.Opened = sym c.in-WrongPassword.is ∙ opens in cc) in
    let how : opening_of key stem old.collections ≡ ends.WrongPassword = sym its.opening ∙ c.in-WrongPassword.is in
    map-ok c.count_wrong.result _ _
    (λ done leads now.
    let brought : Brought = record { now = now; value = key.password } in
    subst (λ o. IfSome o (λ (row : PromptRow). Leads folder.is_honest folder.is_steady folder.faults folder.images folder.may_leave folder.made slot.is_honest slot.is_steady slot.faults slot.moment slot.left_since slot.may_leave conn brought (opening_ended prompt row.wrong stem terms (opening_of key stem old.collections)) old (rows_of c.count_wrong.new.tables) disk (disk_of c.count_wrong.new.tables) done))
    (ap (row_at prompt) its.prompts)
    (if-some (row_at prompt c.open_with.new.tables.prompts) _ _
    (λ row led. leads-from folder.is_honest folder.is_steady folder.faults folder.images folder.may_leave folder.made slot.is_honest slot.is_steady slot.faults slot.moment slot.left_since slot.may_leave conn brought old (rows_of c.count_wrong.new.tables) disk (disk_of c.count_wrong.new.tables) _ (wrong_again prompt row.wrong) (rows_of c.open_with.new.tables) (disk_of c.open_with.new.tables) done
    (ap (opening_ended prompt row.wrong stem terms) how) same its.disk led)
    (leads brought)))
    c.count_wrong.ensures.leads

-- it is unlocked
pub returns-in-Ok-clause-leads : goal.returns-in-Ok-clause-leads
returns-in-Ok-clause-leads g c = λ now.
    let folder = g.F.Folder in
    let slot = g.F.Cell.Slot in
    let conn = c.args.conn in
    let prompt = c.args.prompt in
    let stem = c.args.stem.now in
    let key = c.args.key in
    let terms : KeyTerms = record { salt = key.salt; iterations = key.iterations } in
    let old = rows_of c.args.tables.now in
    let disk = disk_of c.args.tables.now in
    let its = c.in_ok-open_with.ensures in
    let how : opening_of key stem old.collections ≡ ends.Opened = sym its.opening ∙ c.in-Opened.is in
    let brought : Brought = record { now = now; value = key.password } in
    let done = c.in-Ok.done in
    let after = rows_of c.go_on_opened.new.tables in
    let new = disk_of c.go_on_opened.new.tables in
    let mid = rows_of c.open_with.new.tables in
    let changes = Clear_wrong prompt ∷ Go_on prompt ∷ [] in
    let rest = spread mid.connections.rows (sent_all conn changes mid) in
    let advanced : Done = record done { sends = rest } in
    let same : mid.connections.rows ≡ old.connections.rows = ap (λ (s : State). s.connections.rows) its.opened in
    let sent : announced (lock_signals stem false) ≡ sent_opened brought stem terms old = ap (λ o. announced (opening_signals stem o)) (sym how) in
    let said : done.sends ≡ spread old.connections.rows (sent_opened brought stem terms old) ++ rest = c.in-Ok.ensures.sends ∙ (λ i. spread (same i) (sent i) ++ rest) in
    if-all (row_at prompt old.prompts) _
    (λ row. leads-from folder.is_honest folder.is_steady folder.faults folder.images folder.may_leave folder.made slot.is_honest slot.is_steady slot.faults slot.moment slot.left_since slot.may_leave conn brought old after disk new _ (opening_ended prompt row.wrong stem terms ends.Opened) old disk done (ap (opening_ended prompt row.wrong stem terms) how) refl refl
    (leads-opened folder.is_honest folder.is_steady folder.faults folder.images folder.may_leave folder.made slot.is_honest slot.is_steady slot.faults slot.moment slot.left_since slot.may_leave conn brought old after disk new stem terms public.Empty (Clear_wrong prompt) (Go_on prompt ∷ []) mid advanced its.opened done.sends said
    (leads-from folder.is_honest folder.is_steady folder.faults folder.images folder.may_leave folder.made slot.is_honest slot.is_steady slot.faults slot.moment slot.left_since slot.may_leave conn brought mid after disk new _ (quietly changes) mid (disk_of c.open_with.new.tables) advanced refl refl its.disk (c.in-Ok.ensures.leads brought rest refl))))

pub returns-in-Ok-clause-disk : goal.returns-in-Ok-clause-disk
returns-in-Ok-clause-disk g c = c.go_on_opened.ensures.disk ∙ c.in_ok-open_with.ensures.disk
