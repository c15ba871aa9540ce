-- A state as the code keeps it, four words, and the key schedule of the equivalent inverse cipher.
use Rattle.std.specs.Prelude.{◌≡◌, ℕ, ◌<◌, ◌≤◌, List, [], ◌∷◌, slice_index}
use Rattle.std.specs.Int.{w32, byte_at, to_be_bytes}
use Rattle.aes_cbc.specs.Aes.{inverse_mixing, mixed_column, words_state}
use Rattle.aes_cbc.specs.declared.state.State.{State}

-- the bytes of a state
abbrev pub bytes_in : State → List ℕ
bytes_in s = words_state s.first s.second s.third s.fourth

-- the byte in row 0 of the first word, in row 1 of the second and so on, each through f
abbrev pub across : (ℕ → ℕ) → ℕ → ℕ → ℕ → ℕ → List ℕ
across f a b c d = f (byte_at 3 a) ∷ f (byte_at 2 b) ∷ f (byte_at 1 c) ∷ f (byte_at 0 d) ∷ []

-- d is the schedule w with each word of the rounds 1 to 9 through InvMixColumns (FIPS 197, 5.3.5)
pub record IsInverted (d w : List ℕ) : Type 0 where
  pub first : (i : ℕ) → i < 4 → slice_index d i ≡ slice_index w i
  pub mixed : (i : ℕ) → 4 ≤ i → i < 40
      → to_be_bytes w32 (slice_index d i) ≡ mixed_column inverse_mixing (to_be_bytes w32 (slice_index w i))
  pub last : (i : ℕ) → 40 ≤ i → slice_index d i ≡ slice_index w i
