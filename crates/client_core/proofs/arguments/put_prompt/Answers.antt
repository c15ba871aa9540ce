use Rattle.client_core.proofs.arguments.put_prompt.Goals as goal

pub returns-in-Some : goal.returns-in-Some
returns-in-Some g c = λ before at. rw c.in-Some.is (c.put_numbered_path.ensures before at)
