use Rattle.std.proofs.Common.{◌≡◌, ℕ, ◌<◌, ◌≤◌, length, slice_index, w32}
use Rattle.std.specs.Int.{to_be_bytes}
use Rattle.aes_cbc.specs.Aes.{inverse_mixing, mixed_column}
use Rattle.aes_cbc.proofs.schedule.inverted_schedule.Given as goal

abbrev pub invariant-loop-i : goal.invariant-loop-i
invariant-loop-i l = (length l.words ≡ 44)
    × ((k : ℕ) → k < 4 → slice_index l.words k ≡ slice_index l.encrypting k)
    × ((k : ℕ) → 4 ≤ k → k < l.i
    → to_be_bytes w32 (slice_index l.words k) ≡ mixed_column inverse_mixing (to_be_bytes w32 (slice_index l.encrypting k)))
    × ((k : ℕ) → l.i ≤ k → slice_index l.words k ≡ slice_index l.encrypting k)
