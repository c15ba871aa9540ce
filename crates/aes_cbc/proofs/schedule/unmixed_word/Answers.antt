use Rattle.std.proofs.Common.{ℕ, List, [], ◌∷◌, ap, ◌∙◌, arith, slice_index}
use Rattle.std.specs.Int.{byte_at}
use Rattle.aes_cbc.specs.Aes.{inverse_mixing, mixed_column}
use Rattle.aes_cbc.specs.Field.{inverse_sbox}
use Rattle.aes_cbc.proofs.FieldFacts.{inverse_sbox-sbox}
use Rattle.aes_cbc.proofs.schedule.unmixed_word.Goals as goal

-- the inverse S-box of the tables undoes the S-box
pub returns : goal.returns
returns c =
    let x = c.args.word in
    let boxes : List ℕ → List ℕ = λ bytes. inverse_sbox (slice_index bytes 0) ∷ inverse_sbox (slice_index bytes 1)
    ∷ inverse_sbox (slice_index bytes 2) ∷ inverse_sbox (slice_index bytes 3) ∷ [] in
    c.unmixed.ensures
    ∙ ap (λ bytes. mixed_column inverse_mixing (boxes bytes)) c.substituted-boxed.ensures
    ∙ (λ i. mixed_column inverse_mixing
    (inverse_sbox-sbox (byte_at 3 x) (omega arith) i ∷ inverse_sbox-sbox (byte_at 2 x) (omega arith) i
    ∷ inverse_sbox-sbox (byte_at 1 x) (omega arith) i ∷ inverse_sbox-sbox (byte_at 0 x) (omega arith) i ∷ []))
