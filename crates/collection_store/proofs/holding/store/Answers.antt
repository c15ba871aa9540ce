use Rattle.std.proofs.Common.{◌≡◌, Some, rules}
use Rattle.replace_slot.specs.Cell.{Doubt, old_image}
use Rattle.collection_store.proofs.StateLemmas.{kept_stored, kept_undone, kept_unsure, known_kept}
use Rattle.collection_store.proofs.holding.store.Goals as goal

pub replace-requires : goal.replace-requires
replace-requires g c = known_kept c.args.prepared c.args.cell.now.file c.args.told.now c.args.newer.now c.args.held.now c.requires.kept c.requires.unlocked

pub returns-in-Ok-clause-kept : goal.returns-in-Ok-clause-kept
returns-in-Ok-clause-kept g c =
    kept_stored c.args.frame.now c.args.prepared c.args.cell.now.file c.replace.new.self.file c.args.told.now c.args.newer.now c.args.held.now c.keep.new.held c.requires.kept c.requires.unlocked c.requires.ready c.clear-rising.ensures.by_id c.in-Ok.ensures.stored c.keep.ensures

pub returns-in-Err-FaultBefore-clause-kept : goal.returns-in-Err-FaultBefore-clause-kept
returns-in-Err-FaultBefore-clause-kept g c =
    let same : c.replace.new.self.file ≡ c.args.cell.now.file = search rules in
    kept_undone c.args.prepared c.args.cell.now.file c.replace.new.self.file c.args.told.now c.args.newer.now c.args.held.now c.bring_back.new.held c.requires.kept same c.bring_back.ensures

pub returns-in-Err-FaultUnsure-clause-kept : goal.returns-in-Err-FaultUnsure-clause-kept
returns-in-Err-FaultUnsure-clause-kept g c =
    let unsure : c.replace.new.self.file ≡ Doubt (old_image c.args.cell.now.file) (Some c.args.prepared.image) = search rules in
    kept_unsure c.args.frame.now c.args.prepared c.args.cell.now.file c.replace.new.self.file c.args.told.now c.show_again.new.told c.args.newer.now c.args.held.now c.show_again.new.held c.requires.kept c.requires.unlocked c.requires.ready c.clear-rising.ensures.by_id unsure c.show_again.ensures.told c.show_again.ensures.held
