use Rattle.std.proofs.Common.{◌≡◌, ◌++◌, ℕ, List, Some, None, Ok, true, false, cond, arith, refl, sym, ap, subst, ◌∙◌}
use Rattle.prompt_state.specs.Prompts as prompts
use Rattle.prompt_state.specs.declared.row.Prompts.{Prompts}
use Rattle.service_calls.specs.Done.{HasRoomToReply}
use Rattle.service_calls.specs.Rows.{disk_of, rows_of}
use Rattle.service_calls.specs.collection_table.specs.Rows.{Rows, is_open}
use Rattle.service_calls.specs.declared.storing.Done.{Done}
use Rattle.service_calls.specs.secret_calls.specs.declared.out.Body.TheVariants as body
use Rattle.service_calls.specs.service_disk.specs.Making.{AreFree}
use Rattle.service_calls.specs.service_disk.specs.Rekeying.{can_rekey, rows_rekeyed}
use Rattle.service_calls.specs.service_events.specs.Derivation.{changing_ended, dismissing, stored_under}
use Rattle.service_calls.specs.service_events.specs.Plan.{Asks, KeyTerms, Rekey}
use Rattle.service_calls.specs.service_events.specs.Run.{asked, demanded, sent_asked}
use Rattle.service_calls.specs.service_events.proofs.SmallLemmas.{empty-small}
use Rattle.service_calls.specs.service_tables.proofs.SlotLemmas.{of-some}
use Rattle.service_calls.specs.service_tables.specs.Connections.{spread}
use Rattle.service_calls.specs.service_tables.specs.Disk.{contents_in, disk_state}
use Rattle.service_calls.specs.service_tables.specs.Opened.{Contents}
use Rattle.service_calls.specs.service_tables.specs.Slots.{StoresAt}
use Rattle.service_calls.specs.service_tables.specs.State.{State}
use Rattle.service_calls.specs.service_tables.specs.Storing.{Brought}
use Rattle.service_calls.specs.service_tables.specs.declared.fate.Fate.TheVariants as fates
use Rattle.service_calls.specs.service_tables.specs.declared.fate.StoreFate.TheVariants as stored_as
use Rattle.service_answers.specs.Settled.{Settles, ended_sent}
use Rattle.service_answers.specs.declared.derived_key.Settled.{Settled}
use Rattle.service_calls.proofs.LeadsLemmas.{at-moved}
use Rattle.service_answers.proofs.ChangingLemmas.{can-has, can-open, changed-settles, free-rekeyed, listed-used, none-is, unchanged-settles}
use Rattle.service_answers.proofs.DerivedLemmas.{settles-as, settles-asked}
use Rattle.service_answers.proofs.changing.store_under.Goals as goal

pub rekey-requires : goal.rekey-requires
rekey-requires g c = omega (arith, c.requires.iterations)

-- it was to be stored
pub returns-in-Some-clause-settles : goal.returns-in-Some-clause-settles
returns-in-Some-clause-settles g c =
    let folder = g.F.Folder in
    let slot = g.F.Cell.Slot in
    let conn = c.args.conn in
    let prompt = c.args.prompt in
    let stem = c.args.stem.now in
    let key = c.args.key in
    let brought : Brought = record { now = c.args.now; value = key.password } in
    let terms : KeyTerms = record { salt = key.salt; iterations = key.iterations } in
    let old = rows_of c.args.tables.now in
    let prepared = rows_of c.prepare_ends.new.tables in
    let fate = c.in-Some.fate in
    let new = contents_in c.rekey.new.disk in
    let mid : State = record prepared { collections = new.collections; aliases = new.aliases; used = new.used } in
    let rows : prepared ≡ old = c.prepare_ends.ensures.rows in
    let state : mid ≡ demanded brought (Rekey stem terms) fate old =
    ap (λ (k : Contents). record prepared { collections = k.collections; aliases = k.aliases; used = k.used }) (of-some _ c.in_ok-stored.stored fate c.in-Some.is c.in_ok-stored.ensures.stored)
    ∙ ap (λ (s : State). demanded brought (Rekey stem terms) fate s) rows in
    let can : can_rekey key c.args.now stem old.collections ≡ true =
    sym (ap (λ (s : State). can_rekey key c.args.now stem s.collections) rows) ∙ of-some _ c.in_ok-stored.stored fate c.in-Some.is c.in_ok-stored.ensures.fits in
    let unlocked : is_open stem old.collections ≡ true = can-open key c.args.now stem old.collections can in
    let did = at-moved slot.is_honest slot.is_steady slot.faults slot.moment slot.left_since slot.may_leave stem (fates.Store fate) _ _ _ _ _ _ _
    (ap (λ (s : State). s.collections) rows) (ap (λ (s : State). s.collections) state) c.prepare_ends.ensures.disk (of-some _ c.in_ok-stored.stored fate c.in-Some.is c.in_ok-stored.ensures.disk) in
    let sends = c.by.result.items in
    let rest = spread old.connections.rows (ended_sent prompt stem fate old.prompts) in
    let said : sends ≡ spread old.connections.rows (sent_asked brought (Rekey stem terms) fate old) ++ rest = c.by.ensures ∙ c.in_ok-ends.ensures.ends unlocked fate in
    let after : State = record mid { prompts = c.end-ended.new.self } in
    let left = disk_state c.rekey.new.disk in
    let performs = ap (λ (p : Prompts). record mid { prompts = p }) c.end-ended.ensures.ended ∙ ap (λ (s : State). record s { prompts = prompts.ended prompt s.prompts }) state in
    let its = changed-settles folder.is_honest folder.is_steady folder.faults folder.images folder.may_leave folder.made slot.is_honest slot.is_steady slot.faults slot.moment slot.left_since slot.may_leave conn brought prompt stem (demanded brought (Rekey stem terms) fate old) after left rest performs fate refl in
    let whole = settles-asked folder.is_honest folder.is_steady folder.faults folder.images folder.may_leave folder.made slot.is_honest slot.is_steady slot.faults slot.moment slot.left_since slot.may_leave conn brought old after (disk_of c.args.tables.now) left (Rekey stem terms) (changing_ended prompt stem) left fate (record { answer = Ok body.Empty; sends = rest; read = None; fate = None }) sends empty-small said did its in
    settles-as folder.is_honest folder.is_steady folder.faults folder.images folder.may_leave folder.made slot.is_honest slot.is_steady slot.faults slot.moment slot.left_since slot.may_leave conn brought old after (disk_of c.args.tables.now) left (stored_under prompt stem terms (asked conn brought old)) (Asks (Rekey stem terms) (changing_ended prompt stem)) _
    (ap (λ b. cond b (Asks (Rekey stem terms) (changing_ended prompt stem)) (dismissing prompt)) can)
    (subst (λ (d : Done). Settles folder.is_honest folder.is_steady folder.faults folder.images folder.may_leave folder.made slot.is_honest slot.is_steady slot.faults slot.moment slot.left_since slot.may_leave conn brought (Asks (Rekey stem terms) (changing_ended prompt stem)) old after (disk_of c.args.tables.now) left (record { made = Some fate; done = d })) (sym c.sending.ensures) whole)

pub returns-in-Some-clause-room : goal.returns-in-Some-clause-room
returns-in-Some-clause-room g c =
    let rooms = c.prepare_ends.new.tables.connections.rooms in
    subst (λ (d : Done). HasRoomToReply c.args.conn d.sends rooms) (sym c.sending.ensures) (subst (λ s. HasRoomToReply c.args.conn s rooms) (sym c.by.ensures) (c.in_ok-ends.ensures.room c.in-Some.fate))

pub returns-in-Some-clause-free : goal.returns-in-Some-clause-free
returns-in-Some-clause-free g c =
    let folder = g.F.Folder in
    let slot = g.F.Cell.Slot in
    let stem = c.args.stem.now in
    let fate = c.in-Some.fate in
    let old = rows_of c.args.tables.now in
    let can : can_rekey c.args.key c.args.now stem old.collections ≡ true =
    sym (ap (λ (s : State). can_rekey c.args.key c.args.now stem s.collections) c.prepare_ends.ensures.rows) ∙ of-some _ c.in_ok-stored.stored fate c.in-Some.is c.in_ok-stored.ensures.fits in
    free-rekeyed folder.is_honest folder.images folder.may_leave folder.made slot.is_honest slot.is_steady slot.faults slot.moment slot.left_since slot.may_leave stem (fates.Store fate) _ _ (disk_of c.args.tables.now) (disk_state c.rekey.new.disk)
    (listed-used stem old.used old.collections c.requires.sound.stems.taken (can-has c.args.key c.args.now stem old.collections can))
    (at-moved slot.is_honest slot.is_steady slot.faults slot.moment slot.left_since slot.may_leave stem (fates.Store fate) _ _ _ _ _ _ _ refl refl c.prepare_ends.ensures.disk
    (of-some _ c.in_ok-stored.stored fate c.in-Some.is c.in_ok-stored.ensures.disk))
    c.requires.free

-- nothing was to be stored
pub returns-in-None-clause-settles : goal.returns-in-None-clause-settles
returns-in-None-clause-settles g c =
    let folder = g.F.Folder in
    let slot = g.F.Cell.Slot in
    let conn = c.args.conn in
    let prompt = c.args.prompt in
    let stem = c.args.stem.now in
    let key = c.args.key in
    let brought : Brought = record { now = c.args.now; value = key.password } in
    let terms : KeyTerms = record { salt = key.salt; iterations = key.iterations } in
    let old = rows_of c.args.tables.now in
    let prepared = rows_of c.prepare_ends.new.tables in
    let new = contents_in c.rekey.new.disk in
    let mid : State = record prepared { collections = new.collections; aliases = new.aliases; used = new.used } in
    let rows : prepared ≡ old = c.prepare_ends.ensures.rows in
    let unasked = none-is _ c.in_ok-stored.stored c.in-None.is c.in_ok-stored.ensures.unasked in
    let state : mid ≡ old = ap (λ (k : Contents). record prepared { collections = k.collections; aliases = k.aliases; used = k.used }) unasked.0 ∙ rows in
    let disk : disk_state c.rekey.new.disk ≡ disk_of c.args.tables.now = unasked.1 ∙ c.prepare_ends.ensures.disk in
    let off : can_rekey key c.args.now stem old.collections ≡ false =
    sym (ap (λ (s : State). can_rekey key c.args.now stem s.collections) rows) ∙ none-is _ c.in_ok-stored.stored c.in-None.is c.in_ok-stored.ensures.measured in
    let after : State = record mid { prompts = c.end-ended.new.self } in
    let left = disk_state c.rekey.new.disk in
    let performs = ap (λ (p : Prompts). record mid { prompts = p }) c.end-ended.ensures.ended ∙ ap (λ (s : State). record s { prompts = prompts.ended prompt s.prompts }) state in
    let its = unchanged-settles folder.is_honest folder.is_steady folder.faults folder.images folder.may_leave folder.made slot.is_honest slot.is_steady slot.faults slot.moment slot.left_since slot.may_leave conn brought prompt stem old after (disk_of c.args.tables.now) _ performs c.in_ok-ends.ensures.before in
    subst (λ d. Settles folder.is_honest folder.is_steady folder.faults folder.images folder.may_leave folder.made slot.is_honest slot.is_steady slot.faults slot.moment slot.left_since slot.may_leave conn brought (stored_under prompt stem terms (asked conn brought old)) old after (disk_of c.args.tables.now) d c.unmade.result) (sym disk)
    (settles-as folder.is_honest folder.is_steady folder.faults folder.images folder.may_leave folder.made slot.is_honest slot.is_steady slot.faults slot.moment slot.left_since slot.may_leave conn brought old after (disk_of c.args.tables.now) (disk_of c.args.tables.now) (stored_under prompt stem terms (asked conn brought old)) (dismissing prompt) _
    (ap (λ b. cond b (Asks (Rekey stem terms) (changing_ended prompt stem)) (dismissing prompt)) off)
    (subst (λ (s : Settled). Settles folder.is_honest folder.is_steady folder.faults folder.images folder.may_leave folder.made slot.is_honest slot.is_steady slot.faults slot.moment slot.left_since slot.may_leave conn brought (dismissing prompt) old after (disk_of c.args.tables.now) (disk_of c.args.tables.now) s)
    (sym (c.unmade.ensures ∙ ap (λ (d : Done). record { made = None; done = d }) c.sending-in-None.ensures)) its))

pub returns-in-None-clause-room : goal.returns-in-None-clause-room
returns-in-None-clause-room g c =
    let rooms = c.prepare_ends.new.tables.connections.rooms in
    subst (λ (s : Settled). HasRoomToReply c.args.conn s.done.sends rooms) (sym (c.unmade.ensures ∙ ap (λ (d : Done). record { made = None; done = d }) c.sending-in-None.ensures)) (c.in_ok-ends.ensures.room stored_as.Before)

pub returns-in-None-clause-free : goal.returns-in-None-clause-free
returns-in-None-clause-free g c =
    let folder = g.F.Folder in
    let slot = g.F.Cell.Slot in
    subst (AreFree folder.is_honest folder.images folder.may_leave folder.made slot.is_honest slot.may_leave)
    (sym ((none-is _ c.in_ok-stored.stored c.in-None.is c.in_ok-stored.ensures.unasked).1 ∙ c.prepare_ends.ensures.disk)) c.requires.free

-- no memory was left
pub returns-in_err-ends-clause-free : goal.returns-in_err-ends-clause-free
returns-in_err-ends-clause-free g c =
    let folder = g.F.Folder in
    let slot = g.F.Cell.Slot in
    subst (AreFree folder.is_honest folder.images folder.may_leave folder.made slot.is_honest slot.may_leave) (sym c.prepare_ends.ensures.disk) c.requires.free

pub returns-in_err-stored-clause-free : goal.returns-in_err-stored-clause-free
returns-in_err-stored-clause-free g c =
    let folder = g.F.Folder in
    let slot = g.F.Cell.Slot in
    subst (AreFree folder.is_honest folder.images folder.may_leave folder.made slot.is_honest slot.may_leave) (sym (c.in_err-stored.ensures.unchanged.1 ∙ c.prepare_ends.ensures.disk)) c.requires.free
