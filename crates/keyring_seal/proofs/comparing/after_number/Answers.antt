use Rattle.std.proofs.Common.{rules, ◌≡◌, ◌++◌, ap, ◌∙◌}
use Rattle.keyring_text.specs.Fields.{number}
use Rattle.keyring_text.proofs.FieldLaws.{number_law}
use Rattle.keyring_seal.proofs.comparing.after_number.Goals as goal

pub returns-in-Ok : goal.returns-in-Ok
returns-in-Ok c =
    let taken = number_law.takes c.args.bytes.now c.in-Ok.found c.in-Ok.rest.now c.known_bytes.ensures c.in-Ok.ensures in
    let same : c.in-Ok.found ≡ c.args.number = search rules in
    taken.parts ∙ ap (λ text. text ++ c.in-Ok.rest.now) (taken.is.is ∙ ap (λ n. number n) same)
