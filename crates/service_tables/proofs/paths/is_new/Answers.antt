use Rattle.std.proofs.Common.{ap, not, ◌∙◌}
use Rattle.service_tables.proofs.NotedLemmas.{contains-listed, noted-more}
use Rattle.service_tables.proofs.paths.is_new.Goals as goal

-- the set's test is that of the list of its paths
pub returns-clause-new : goal.returns-clause-new
returns-clause-new c = c.in_ok-insert.ensures.added ∙ ap not (contains-listed c.args.path c.args.noted.now.keys)

pub returns-clause-noted : goal.returns-clause-noted
returns-clause-noted c = λ other. noted-more other c.args.path c.args.noted.now.keys c.insert.new.self.keys (c.in_ok-insert.ensures.updates.0 other)
