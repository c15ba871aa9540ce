use Rattle.std.proofs.Common.{◌++◌, ◌∙◌}
use Rattle.aes_cbc.proofs.ListLemmas.{take_sixteen}
use Rattle.aes_cbc.proofs.state.load.Goals as goal

pub returns : goal.returns
returns c =
    (λ i. c.load_word.ensures i ++ (c.load_word-2.ensures i ++ (c.load_word-3.ensures i ++ c.load_word-4.ensures i)))
    ∙ take_sixteen c.args.at c.args.bytes.now
