use Rattle.std.proofs.Common.{rules, ◌≡◌, ◌++◌, length, drop, take, sym, ap, ◌∙◌}
use Rattle.std.proofs.lemmas.List.{take-append-drop}
use Rattle.keyring_seal.proofs.comparing.after_bytes.Goals as goal

pub returns : goal.returns
returns c =
    let n = length c.args.part.now in
    let part : take n c.args.bytes.now ≡ c.args.part.now = search rules in
    let rest : c.in_ok-front.rest.now ≡ drop n c.args.bytes.now = search rules in
    sym (take-append-drop n c.args.bytes.now) ∙ ap (λ w. w ++ drop n c.args.bytes.now) part ∙ ap (λ w. c.args.part.now ++ w) (sym rest)
