-- What a read of a file in doubt shows, over an honest slot.
use Rattle.std.proofs.Common.{◌≡◌, ◌≢◌, ◌⊎◌, ⊎_elim, inl, inr, ℕ, ◌<◌, max, List, length, refl, sym, ◌∙◌, ap, arith}
use Rattle.kr_outside.specs.RenameDisk.{Image, Only, LeavesAnyBytes, Reads}
use Rattle.kr_outside.specs.declared.slot.Seen.{Seen}
use Rattle.kr_outside.specs.declared.slot.Seen.TheVariants.{Missing, Whole, Longer}
use Rattle.kr_outside.proofs.RenameDiskLemmas.{LeavesAnyBytes-pair}
use Rattle.replace_slot.specs.Cell.{File, Known, Doubt, IsKnown, LeavesFile, length_of, longest_of}
use Rattle.replace_slot.specs.Found.{Gave, IsFound, IsFoundOf, found_file}
use Rattle.replace_slot.specs.declared.images.Found.{Found}
use Rattle.replace_slot.specs.declared.images.Found.TheVariants.{Old, New, Other}

-- an image that the read shows is the one that the name stands for
pub gave_seen : (answer : Seen) (buffer : List ℕ) (seen image : Image) → Reads seen buffer answer → Gave answer buffer image → seen ≡ image
gave_seen Missing buffer seen image reads gave = reads ∙ sym gave
gave_seen (Whole count) buffer seen image reads gave = reads.1 ∙ sym gave
gave_seen Longer buffer seen image reads gave = absurd gave

-- and the read shows the one that the name stands for, if the buffer is longer
pub seen_gave : (answer : Seen) (buffer : List ℕ) (seen image : Image) → Reads seen buffer answer → seen ≡ image → length_of image < length buffer → Gave answer buffer image
seen_gave Missing buffer seen image reads is short = sym is ∙ reads
seen_gave (Whole count) buffer seen image reads is short = sym is ∙ reads.1
seen_gave Longer buffer seen image (bytes, some, long, front) is short =
    let same : length_of image ≡ length bytes = ap length_of (sym is ∙ some) in
    absurd (omega (arith, same, long, short))

-- the name stands for one of the two images, so the read found one
pub never_other : (old new seen : Image) (answer : Seen) (buffer : List ℕ) (found : Found) → (seen ≡ old) ⊎ (seen ≡ new)
    → Reads seen buffer answer → max (length_of old) (length_of new) < length buffer → IsFound answer buffer found (Doubt old new) → found ≢ Other
never_other old new seen answer buffer Old one reads short is = λ other. cc
never_other old new seen answer buffer New one reads short is = λ other. cc
never_other old new seen answer buffer Other one reads short is = λ other. ⊎_elim
    (λ o. is.0 (seen_gave answer buffer seen old reads o (omega arith)))
    (λ n. is.1 (seen_gave answer buffer seen new reads n (omega arith))) one

-- what is left after the read is the image that was found
pub found_alone : (file : File) (seen : Image) (answer : Seen) (buffer : List ℕ) (found : Found) (before after : Image → Type 0)
    → ¬ (IsKnown file) → longest_of file < length buffer → LeavesFile file before → before seen → Reads seen buffer answer → IsFound answer buffer found file
    → LeavesAnyBytes before ⊎ Only seen after → LeavesFile (found_file found file) after
found_alone (Known image) seen answer buffer found before after doubt short leaves stands reads is settled = absurd (doubt tt)
found_alone (Doubt old new) seen answer buffer Old before after doubt short leaves stands reads is (inl any) = absurd (LeavesAnyBytes-pair old new before leaves any)
found_alone (Doubt old new) seen answer buffer Old before after doubt short leaves stands reads is (inr only) = λ left m. only left m ∙ gave_seen answer buffer seen old reads is
found_alone (Doubt old new) seen answer buffer New before after doubt short leaves stands reads is (inl any) = absurd (LeavesAnyBytes-pair old new before leaves any)
found_alone (Doubt old new) seen answer buffer New before after doubt short leaves stands reads is (inr only) = λ left m. only left m ∙ gave_seen answer buffer seen new reads is.1
found_alone (Doubt old new) seen answer buffer Other before after doubt short leaves stands reads is settled = absurd (never_other old new seen answer buffer Other (leaves seen stands) reads short is refl)

-- the same for a file of either kind
pub never_other_of : (file : File) (seen : Image) (answer : Seen) (buffer : List ℕ) (found : Found) (before : Image → Type 0)
    → ¬ (IsKnown file) → longest_of file < length buffer → LeavesFile file before → before seen → Reads seen buffer answer → IsFound answer buffer found file → found ≢ Other
never_other_of (Known image) seen answer buffer found before doubt short leaves stands reads is = absurd (doubt tt)
never_other_of (Doubt old new) seen answer buffer found before doubt short leaves stands reads is = never_other old new seen answer buffer found (leaves seen stands) reads short is

-- what the read found is what the name stands for
pub found_of : (file : File) (seen : Image) (answer : Seen) (buffer : List ℕ) (found : Found) (before : Image → Type 0)
    → ¬ (IsKnown file) → longest_of file < length buffer → LeavesFile file before → before seen → Reads seen buffer answer → IsFound answer buffer found file → IsFoundOf seen found file
found_of (Known image) seen answer buffer found before doubt short leaves stands reads is = tt
found_of (Doubt old new) seen answer buffer Old before doubt short leaves stands reads is = gave_seen answer buffer seen old reads is
found_of (Doubt old new) seen answer buffer New before doubt short leaves stands reads is =
    (λ same. is.0 (seen_gave answer buffer seen old reads same (omega arith)), gave_seen answer buffer seen new reads is.1)
found_of (Doubt old new) seen answer buffer Other before doubt short leaves stands reads is =
    absurd (never_other old new seen answer buffer Other (leaves seen stands) reads short is refl)
