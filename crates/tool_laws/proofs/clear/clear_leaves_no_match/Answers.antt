use Rattle.tool_laws.specs.Matches.{open_items}
use Rattle.tool_laws.proofs.ClearLemmas.{all-gone, are-gone, none-left}
use Rattle.tool_laws.proofs.clear.clear_leaves_no_match.Goals as goal

pub returns : goal.returns
returns c = record {
  gone = λ caller state last wanted replies end ready answers returns ends.
      are-gone last.collections (open_items wanted state.collections)
      (all-gone (λ path name at. (c.a_path_is_that_of_its_name.ensures path name).0 at) caller state last wanted replies end ready answers returns ends).0.gone;
  none = λ caller state last wanted replies end ready answers returns ends.
      none-left state.collections last.collections wanted ready.sound.collections.ordered
      (all-gone (λ path name at. (c.a_path_is_that_of_its_name.ensures path name).0 at) caller state last wanted replies end ready answers returns ends).0;
  printed = λ caller state last wanted replies end ready answers returns ends.
      (all-gone (λ path name at. (c.a_path_is_that_of_its_name.ensures path name).0 at) caller state last wanted replies end ready answers returns ends).1;
}
