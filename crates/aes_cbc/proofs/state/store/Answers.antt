use Rattle.std.proofs.Common.{◌+◌, ◌∙◌, arith}
use Rattle.aes_cbc.proofs.ListLemmas.{drop_later, take_written}
use Rattle.aes_cbc.proofs.state.store.Goals as goal

pub returns-clause-front : goal.returns-clause-front
returns-clause-front c =
    take_written c.args.at _ _ _ _ _ _ _ _ _ c.store_word.ensures.front c.store_word-2.ensures.front
    c.store_word-3.ensures.front c.store_word-4.ensures.front

-- each word leaves what comes after it unchanged
pub returns-clause-behind : goal.returns-clause-behind
returns-clause-behind c =
    let at = c.args.at in
    drop_later (at + 12 + 4) (at + 16) _ _ (omega arith) c.store_word-4.ensures.behind
    ∙ drop_later (at + 8 + 4) (at + 16) _ _ (omega arith) c.store_word-3.ensures.behind
    ∙ drop_later (at + 4 + 4) (at + 16) _ _ (omega arith) c.store_word-2.ensures.behind
    ∙ drop_later (at + 4) (at + 16) _ _ (omega arith) c.store_word.ensures.behind
