use Rattle.std.proofs.Common.{◌≡◌, ◌≤◌, ℕ, List, length, Ok, subst, arith}
use Rattle.std.specs.Prelude.{min}
use Rattle.keyring_seal.specs.Arranged.{of_lent}
use Rattle.keyring_seal.specs.Whole.{most_bytes, opened, sealed}
use Rattle.keyring_seal.specs.declared.content.Content.{Content}
use Rattle.keyring_seal.proofs.LentLemmas.{lent_arranged, lent_known, lent_sealable}
use Rattle.keyring_seal.proofs.SealsLemmas.{seals_measured, seals_over, seals_so, seals_text, seals_within}
use Rattle.keyring_seal.proofs.sealing.seal_rows.Goals as goal

pub rows_sealed-requires-clause-known : goal.rows_sealed-requires-clause-known
rows_sealed-requires-clause-known c = lent_known c.args.front.now c.args.rows.now c.known_clear.ensures c.requires.version c.known_rows.ensures

pub returns-clause-sealed : goal.returns-clause-sealed
returns-clause-sealed c = seals_text (min c.args.room most_bytes) (sealed (of_lent c.args.front.now c.args.rows.now) c.args.key c.args.vector) c.rows_sealed.result c.rows_sealed.ensures

-- the rows are arranged already, so that what is sealed opens to them
pub returns-clause-opens : goal.returns-clause-opens
returns-clause-opens c =
    let front = c.args.front.now in
    let lent = c.args.rows.now in
    let content = of_lent front lent in
    let key = c.args.key in
    let vector = c.args.vector in
    let known = lent_known front lent c.known_clear.ensures c.requires.version c.known_rows.ensures in
    let can = lent_sealable front lent c.requires.rising c.requires.iterations in
    let stays = lent_arranged front lent c.requires.rising c.requires.kept in
    let opens : length (sealed content key vector) ≤ min c.args.room most_bytes → opened (sealed content key vector) key vector ≡ Ok content =
    λ within. subst (λ (made : Content). opened (sealed content key vector) key vector ≡ Ok made) stays (c.what_is_sealed_opens.ensures.opens content key vector known can c.known_bytes.ensures (omega (arith, within))) in
    seals_so (min c.args.room most_bytes) (sealed (of_lent c.args.front.now c.args.rows.now) c.args.key c.args.vector) (λ (file : List ℕ). opened file key vector ≡ Ok content) opens c.rows_sealed.result c.rows_sealed.ensures

pub returns-clause-fits : goal.returns-clause-fits
returns-clause-fits c = seals_within (min c.args.room most_bytes) (sealed (of_lent c.args.front.now c.args.rows.now) c.args.key c.args.vector) c.rows_sealed.result c.rows_sealed.ensures

pub returns-clause-too_large : goal.returns-clause-too_large
returns-clause-too_large c = seals_over (min c.args.room most_bytes) (sealed (of_lent c.args.front.now c.args.rows.now) c.args.key c.args.vector) c.rows_sealed.result c.rows_sealed.ensures

pub returns-clause-measured : goal.returns-clause-measured
returns-clause-measured c = seals_measured (min c.args.room most_bytes) (sealed (of_lent c.args.front.now c.args.rows.now) c.args.key c.args.vector) c.rows_sealed.result c.rows_sealed.ensures
