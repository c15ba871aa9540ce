use Rattle.std.proofs.Common.{◌≡◌, ◌-◌, length, take}
use Rattle.aes_cbc.specs.Aes.{words_through}
use Rattle.aes_cbc.proofs.schedule.key_schedule.Given as goal

abbrev pub invariant-loop-i : goal.invariant-loop-i
invariant-loop-i l = (length l.words ≡ 44) × (take l.i l.words ≡ words_through l.fn.key (l.i - 4))
