use Rattle.std.proofs.Common.{sym, ◌∙◌}
use Rattle.client_core.proofs.AskableLemmas.{all_Decides}
use Rattle.client_core.proofs.askable.are_own.Goals as goal

pub returns : goal.returns
returns c =
    let is = all_Decides c.args.properties.now c.own_properties.result.now c.eq.result c.eq.ensures in
    (λ e. is.0 e ∙ c.own_properties.ensures, λ same. is.1 (same ∙ sym c.own_properties.ensures))
