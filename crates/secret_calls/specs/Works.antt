-- The key of a prompt that was answered, which is derived outside the service (docs/SERVICE.md, "Prompts").
use Rattle.secret_calls.specs.declared.work.Finished.{Finished}
use Rattle.secret_calls.specs.declared.work.Work.{Work}

-- the key that was derived for a piece of work: it has the password, the salt and the iterations that it was derived from
abbrev pub finished : Work → Finished
finished work = record {
  prompt = work.prompt;
  round = work.round;
  key = record { password = work.password; salt = work.salt; iterations = work.iterations };
}
