use Rattle.std.proofs.Common.{◌≡◌, true, false, [], Err, IfNone, None, refl, sym, ap, subst, ◌∙◌}
use Rattle.service_events.specs.service_tables.specs.Aliases.{are_doubtful}
use Rattle.service_events.specs.service_tables.specs.Disk.{DiskState, contents_in, disk_state}
use Rattle.service_events.specs.service_tables.specs.Opened.{Contents, contents_of}
use Rattle.service_events.specs.service_tables.specs.State.{State}
use Rattle.service_events.specs.service_tables.specs.declared.fate.Fate.TheVariants as fate
use Rattle.service_events.specs.service_tables.specs.declared.fate.ReadFate.TheVariants as read_as
use Rattle.service_events.specs.secret_calls.specs.declared.out.ErrorName.TheVariants as name
use Rattle.service_events.specs.service_tables.proofs.SlotLemmas.{of-some}
use Rattle.service_events.specs.AliasCalls.{alias_stored}
use Rattle.service_events.specs.Plan.{Aliases_file, refused}
use Rattle.service_calls.specs.Rows.{disk_of, rows_of}
use Rattle.service_events.specs.Run.{asked}
use Rattle.service_calls.specs.Done.{Leads}
use Rattle.service_calls.proofs.AliasLemmas.{for-found, for-moved, for-some}
use Rattle.service_calls.proofs.LeadsLemmas.{leads-done, leads-refused, settles-known, settles-read, settles-unread}
use Rattle.service_calls.proofs.tables.Tables.settle_alias.Goals as goal

-- what was prepared can be stored
pub store_alias-requires-clause-prepared : goal.store_alias-requires-clause-prepared
store_alias-requires-clause-prepared g c = for-some (contents_of (rows_of c.args.self.now)) c.args.change c.requires

pub resolve_aliases-read-requires-clause-prepared : goal.resolve_aliases-read-requires-clause-prepared
resolve_aliases-read-requires-clause-prepared g c = for-some (contents_of (rows_of c.args.self.now)) c.args.change c.requires

-- also for the image that was found
pub store_alias-requires-in-Some-clause-prepared : goal.store_alias-requires-in-Some-clause-prepared
store_alias-requires-in-Some-clause-prepared g c =
    for-found (contents_of (rows_of c.args.self.now)) (contents_in c.resolve_aliases-read.new.self) c.args.change c.in-Some.change c.requires
    (λ alias stem prepared. of-some _ c.resolve_aliases-read.result.1 c.in-Some.change c.in-Some.is (c.resolve_aliases-read.ensures.prepared alias stem prepared))

-- the file is known
pub returns-then-not-has_doubtful_aliases-clause-leads : goal.returns-then-not-has_doubtful_aliases-clause-leads
returns-then-not-has_doubtful_aliases-clause-leads g c = λ conn brought alias stem prepared.
    let folder = g.F.Folder in
    let slot = g.F.Cell.Slot in
    let old = rows_of c.args.self.now in
    let certain : are_doubtful old.aliases ≡ false = sym c.has_doubtful_aliases.ensures ∙ c.if-not-has_doubtful_aliases.true in
    settles-known folder.is_honest folder.is_steady folder.faults folder.images folder.may_leave folder.made slot.is_honest slot.is_steady slot.faults slot.moment slot.left_since slot.may_leave conn brought Aliases_file (refused name.IOError) (alias_stored alias stem) old _ (disk_of c.args.self.now) _ _ certain
    (c.store_alias.ensures.leads conn brought alias stem prepared)

-- it was read again, and what was prepared for what was found is stored
pub returns-in-Some-clause-leads : goal.returns-in-Some-clause-leads
returns-in-Some-clause-leads g c = λ conn brought alias stem prepared.
    let folder = g.F.Folder in
    let slot = g.F.Cell.Slot in
    let old = rows_of c.args.self.now in
    let disk = disk_of c.args.self.now in
    let mid = disk_state c.resolve_aliases-read.new.self in
    let read = c.resolve_aliases-read.result.0 in
    let its = c.resolve_aliases-read.ensures in
    let done = c.store_alias-in-Some.result in
    let after = rows_of c.store_alias-in-Some.new.self in
    let new = disk_of c.store_alias-in-Some.new.self in
    let doubt : are_doubtful old.aliases ≡ true = sym c.has_doubtful_aliases.ensures ∙ c.if-not-has_doubtful_aliases.false in
    let found = of-some _ c.resolve_aliases-read.result.1 c.in-Some.change c.in-Some.is (its.prepared alias stem prepared) in
    let well = of-some _ c.resolve_aliases-read.result.1 c.in-Some.change c.in-Some.is its.read in
    let state = ap (λ (contents : Contents). record old { collections = contents.collections; aliases = contents.aliases; used = contents.used }) its.resolved in
    let stores = for-moved slot.is_honest slot.is_steady slot.faults slot.moment slot.left_since slot.may_leave (fate.Read read) old.aliases _ _ disk mid (ap (λ (contents : Contents). contents.aliases) its.resolved) its.disk in
    let leads = subst (λ (s : State). Leads folder.is_honest folder.is_steady folder.faults folder.images folder.may_leave folder.made slot.is_honest slot.is_steady slot.faults slot.moment slot.left_since slot.may_leave conn brought (alias_stored alias stem (asked conn brought s)) s after mid new done) state
    (c.store_alias-in-Some.ensures.leads conn brought alias stem found) in
    leads-done folder.is_honest folder.is_steady folder.faults folder.images folder.may_leave folder.made slot.is_honest slot.is_steady slot.faults slot.moment slot.left_since slot.may_leave conn brought old after disk new _ _ _ c.after.ensures
    (settles-read folder.is_honest folder.is_steady folder.faults folder.images folder.may_leave folder.made slot.is_honest slot.is_steady slot.faults slot.moment slot.left_since slot.may_leave conn brought Aliases_file (refused name.IOError) (alias_stored alias stem) old after disk new mid done doubt c.store_alias-in-Some.ensures.unread read well done.sends refl stores leads)

-- it couldn't be read
pub returns-in-None-clause-leads : goal.returns-in-None-clause-leads
returns-in-None-clause-leads g c = λ conn brought alias stem prepared.
    let folder = g.F.Folder in
    let slot = g.F.Cell.Slot in
    let old = rows_of c.args.self.now in
    let disk = disk_of c.args.self.now in
    let new = disk_state c.resolve_aliases-read.new.self in
    let read = c.resolve_aliases-read.result.0 in
    let its = c.resolve_aliases-read.ensures in
    let doubt : are_doubtful old.aliases ≡ true = sym c.has_doubtful_aliases.ensures ∙ c.if-not-has_doubtful_aliases.false in
    let failed : read ≡ read_as.ReadFailed = subst (λ o. IfNone o (read ≡ read_as.ReadFailed)) c.in-None.is its.failed in
    let state = ap (λ (contents : Contents). record old { collections = contents.collections; aliases = contents.aliases; used = contents.used }) its.resolved in
    let stores = for-moved slot.is_honest slot.is_steady slot.faults slot.moment slot.left_since slot.may_leave (fate.Read read) old.aliases _ _ disk new (ap (λ (contents : Contents). contents.aliases) its.resolved) its.disk in
    leads-done folder.is_honest folder.is_steady folder.faults folder.images folder.may_leave folder.made slot.is_honest slot.is_steady slot.faults slot.moment slot.left_since slot.may_leave conn brought old _ disk new _ _ _ c.unread.ensures
    (settles-unread folder.is_honest folder.is_steady folder.faults folder.images folder.may_leave folder.made slot.is_honest slot.is_steady slot.faults slot.moment slot.left_since slot.may_leave conn brought Aliases_file (refused name.IOError) (alias_stored alias stem) old _ disk new new (record { answer = Err name.IOError; sends = []; read = None; fate = None }) doubt refl read failed [] refl stores
    (leads-refused folder.is_honest folder.is_steady folder.faults folder.images folder.may_leave folder.made slot.is_honest slot.is_steady slot.faults slot.moment slot.left_since slot.may_leave conn brought _ _ new new name.IOError state refl))

-- all else of the disk stays
pub returns-in-Some-clause-rest : goal.returns-in-Some-clause-rest
returns-in-Some-clause-rest g c =
    let aliases = (disk_of c.store_alias-in-Some.new.self).aliases in
    c.store_alias-in-Some.ensures.rest ∙ ap (λ (d : DiskState g.row.F.Denot g.row.F-Cell.Denot). record d { aliases = aliases }) c.resolve_aliases-read.ensures.disk.rest

pub returns-in-None-clause-rest : goal.returns-in-None-clause-rest
returns-in-None-clause-rest g c = c.resolve_aliases-read.ensures.disk.rest
