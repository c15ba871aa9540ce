use Rattle.std.proofs.Common.{◌∙◌}
use Rattle.session_table.proofs.RowLemmas.{list_any-rows}
use Rattle.session_table.specs.Sessions.{is_of}
use Rattle.session_table.proofs.table.SessionTable.owned_by.Goals as goal

-- a row passes if its pair does
pub returns : goal.returns
returns c = c.has.ensures ∙ rw (← c.self.view_is) (list_any-rows (is_of c.args.owner c.args.session) c.self.inside.keys.keys)
