use Rattle.connection_worker.proofs.ReaderLemmas.{reads-never}
use Rattle.connection_worker.proofs.reading.read_on.Goals as goal

-- there was no memory to begin
pub returns-in_default : goal.returns-in_default
returns-in_default g c = reads-never c.args.framer _ _ c.requires.most
