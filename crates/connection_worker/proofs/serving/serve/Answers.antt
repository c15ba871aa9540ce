use Rattle.connection_worker.proofs.ServeLemmas.{never-served}
use Rattle.connection_worker.proofs.serving.serve.Goals as goal

-- there was no memory to begin
pub returns-in_default : goal.returns-in_default
returns-in_default g c = never-served c.args.framer _ _ _ c.requires.most c.requires.idle
