use Rattle.std.proofs.Common.{[], ◌∷◌, ap, ◌∙◌, slice_index, w32}
use Rattle.std.specs.Int.{from_be_bytes}
use Rattle.aes_cbc.specs.declared.encrypting_tables.TheConstants.{SBOX}
use Rattle.aes_cbc.proofs.ScheduleLemmas.{sub_word-rotated_word}
use Rattle.aes_cbc.proofs.schedule.substituted_rotated.Goals as goal

pub returns : goal.returns
returns c =
    c.from_be_bytes.ensures
    ∙ ap (λ a. from_be_bytes w32 (slice_index SBOX (slice_index a 1) ∷ slice_index SBOX (slice_index a 2)
    ∷ slice_index SBOX (slice_index a 3) ∷ slice_index SBOX (slice_index a 0) ∷ [])) c.to_be_bytes.ensures
    ∙ sub_word-rotated_word c.args.word
