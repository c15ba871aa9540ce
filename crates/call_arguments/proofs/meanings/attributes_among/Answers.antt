-- The attributes are those gathered from the pairs.
use Rattle.std.proofs.Common.{Some, option_map, sym, ap, ◌∙◌, Vec, Global, List, ℕ}
use Rattle.kr_base.proofs.GatheredLemmas.{is_gathered}
use Rattle.call_arguments.specs.Arguments.{attributes_of}
use Rattle.call_arguments.proofs.meanings.attributes_among.Goals as goal

pub returns-in_ok-from_pairs-in-Some : goal.returns-in_ok-from_pairs-in-Some
returns-in_ok-from_pairs-in-Some c =
    ap Some (is_gathered _ _ c.in_ok-from_pairs-in-Some.ensures)
    ∙ ap (option_map attributes_of) (ap (option_map (λ (them : Vec (List ℕ × List ℕ) Global). them.items)) (sym c.in-Some.is) ∙ c.in_ok-pairs.ensures)
