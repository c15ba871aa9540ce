use Rattle.secret_calls.proofs.signal.SignalPutValues.put_to.Goals as goal

pub returns-in-Completed : goal.returns-in-Completed
returns-in-Completed g c = λ before at. rw c.in-Completed.is (c.put_completed.ensures before c.in-Completed.prompt at)
