use Rattle.std.proofs.Common.{sym, ap, not, arith}
use Rattle.keyring_file.proofs.NumberLemmas.{not-there, still-below, gathered-push, new-alike, both}
use Rattle.keyring_file.proofs.numbers.is_new.Goals as goal

pub returns-then-id-numbers-clause-test : goal.returns-then-id-numbers-clause-test
returns-then-id-numbers-clause-test c =
    sym (ap (λ b. not b) (not-there c.args.items.now c.args.numbers.now.below c.args.id (c.requires.bounded c.if-numbers.true) (omega (arith, c.if-id-numbers.true))))

pub returns-then-id-numbers-clause-kept : goal.returns-then-id-numbers-clause-kept
returns-then-id-numbers-clause-kept c on item e =
    record {
      bounded = λ r. still-below c.args.items.now item c.args.numbers.now.below c.args.id (c.requires.bounded c.if-numbers.true) (omega (arith, c.if-id-numbers.true)) e;
      gathered = λ r. both c.args.numbers.now.rising c.if-numbers.true r;
    }

pub returns-clause-test : goal.returns-clause-test
returns-clause-test c = new-alike c.args.items.now c.gather.new.numbers.ids.keys c.args.id _ c.in_ok-gather.ensures.set c.in_ok-insert.ensures.added

pub returns-clause-kept : goal.returns-clause-kept
returns-clause-kept c on item e =
    record {
      bounded = λ r. both c.gather.new.numbers.rising r c.in_ok-gather.ensures.settled;
      gathered = λ r. gathered-push c.args.items.now item c.gather.new.numbers.ids.keys c.insert.new.self.keys c.args.id c.in_ok-gather.ensures.set c.in_ok-insert.ensures.keys e;
    }
