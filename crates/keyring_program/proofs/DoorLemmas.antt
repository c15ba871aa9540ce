-- How a run over the links of a door ends, by the loop's end.
use Rattle.std.proofs.Common.{◌≡◌, ℕ, ◌⊎◌, inl, inr, Bool, Option, refl, arith}
use Rattle.std.specs.Prelude.{IsTrue}
use Rattle.kr_outside.specs.Faults.{KeepsSteady, IsBelowLast, Rose}
use Rattle.service_hub.specs.daemon.specs.declared.accepting.LoopEnd.{LoopEnd}
use Rattle.service_hub.specs.daemon.specs.declared.accepting.LoopEnd.TheVariants as loop
use Rattle.service_hub.specs.Loop.{HasLoopCause}
use Rattle.keyring_program.specs.Doors.{IsServed}
use Rattle.keyring_program.specs.Status.{IsServeStatus, status_of_loop}
use Rattle.keyring_program.specs.declared.status.Status.TheVariants as status

-- the count of a steady object doesn't rise
pub never-rises : (was now : Bool) (old new : ℕ) → KeepsSteady was now old new → IsBelowLast was old → IsTrue was → Rose old new → ⊥
never-rises was now old new keeps below steady (inl rose) = let still = keeps.still steady in omega (arith, still, rose)
never-rises was now old new keeps below steady (inr last) =
    let still = keeps.still steady in
    let few = below steady in
    omega (arith, still, few, last)

-- the status of each end is one of `serve`
pub loop-status : (how : LoopEnd) → IsServeStatus (status_of_loop how)
loop-status loop.Ended = tt
loop-status loop.Reached = tt
loop-status loop.ListenFault = tt
loop-status loop.Memory = tt

-- it is done only if the door had ended, or had given as many links as were to be accepted
pub loop-done : (how : LoopEnd) (most : Option ℕ) (given old new : ℕ) (has_ended : Bool) → HasLoopCause how most given has_ended old new → status_of_loop how ≡ status.Done → IsServed most given has_ended
loop-done loop.Ended most given old new has_ended cause done = inl cause
loop-done loop.Reached most given old new has_ended cause done = inr cause
loop-done loop.ListenFault most given old new has_ended cause done = absurd (let never : status.ListenFault ≡ status.Done = done in cc)
loop-done loop.Memory most given old new has_ended cause done = absurd (let never : status.Memory ≡ status.Done = done in cc)

-- the door is at fault only if its count rose
pub loop-fault : (how : LoopEnd) (most : Option ℕ) (given old new : ℕ) (has_ended : Bool) → HasLoopCause how most given has_ended old new → status_of_loop how ≡ status.ListenFault → Rose old new
loop-fault loop.Ended most given old new has_ended cause fault = absurd (let never : status.Done ≡ status.ListenFault = fault in cc)
loop-fault loop.Reached most given old new has_ended cause fault = absurd (let never : status.Done ≡ status.ListenFault = fault in cc)
loop-fault loop.ListenFault most given old new has_ended cause fault = cause
loop-fault loop.Memory most given old new has_ended cause fault = absurd (let never : status.Memory ≡ status.ListenFault = fault in cc)

-- over a steady door it is done, or memory ran out
pub loop-complete : (how : LoopEnd) (most : Option ℕ) (given old new : ℕ) (has_ended : Bool) → HasLoopCause how most given has_ended old new → (Rose old new → ⊥)
    → (status_of_loop how ≡ status.Done) ⊎ (status_of_loop how ≡ status.Memory)
loop-complete loop.Ended most given old new has_ended cause never = inl refl
loop-complete loop.Reached most given old new has_ended cause never = inl refl
loop-complete loop.ListenFault most given old new has_ended cause never = absurd (never cause)
loop-complete loop.Memory most given old new has_ended cause never = inr refl

-- the folder isn't at fault then
pub loop-folder : (how : LoopEnd) → status_of_loop how ≡ status.FolderFault → ⊥
loop-folder loop.Ended same = let never : status.Done ≡ status.FolderFault = same in cc
loop-folder loop.Reached same = let never : status.Done ≡ status.FolderFault = same in cc
loop-folder loop.ListenFault same = let never : status.ListenFault ≡ status.FolderFault = same in cc
loop-folder loop.Memory same = let never : status.Memory ≡ status.FolderFault = same in cc
