-- What a crash leaves once the folder is synced after a rename or a removal.
use Rattle.std.proofs.Common.{◌≡◌, ◌⊎◌, ⊎_elim, inl, inr, ℕ, List, None, Some, subst, Result, OnOk}
use Rattle.std.proofs.lemmas.Result.{on_ok_weaker}
use Rattle.kr_outside.specs.RenameDisk.{Image, Temporary, Synced, GivesTemporary, LeavesTemporary, Only, LeavesAnyBytes, LeavesAlso}
use Rattle.kr_outside.proofs.RenameDiskLemmas.{LeavesAnyBytes-pair}

-- after the sync a crash leaves what a read returns, if it could leave two images before
pub settled_pair : {T E : Type 0} (old new seen : Image) (mid after : Image → Type 0) (result : Result T E)
    → ((left : Image) → mid left → (left ≡ old) ⊎ (left ≡ new)) → OnOk result (LeavesAnyBytes mid ⊎ Only seen after) → OnOk result (Only seen after)
settled_pair old new seen mid after result pair settled =
    on_ok_weaker result (λ s. ⊎_elim (λ any. absurd (LeavesAnyBytes-pair old new mid pair any)) (λ only. only) s) settled

-- after a rename of a synced temporary file
pub renamed_for_good : {T E : Type 0} (old : Image) (bytes : List ℕ) (temporary : Temporary) (seen : Image) (before mid after : Image → Type 0) (result : Result T E)
    → Only old before → temporary ≡ Synced bytes → GivesTemporary temporary seen → LeavesAlso before (LeavesTemporary temporary) mid
    → OnOk result (LeavesAnyBytes mid ⊎ Only seen after) → OnOk result (Only (Some bytes) after)
renamed_for_good old bytes temporary seen before mid after result only is gives also settled =
    let has : seen ≡ Some bytes = subst (λ t. GivesTemporary t seen) is gives in
    let more : LeavesAlso before (LeavesTemporary (Synced bytes)) mid = subst (λ t. LeavesAlso before (LeavesTemporary t) mid) is also in
    subst (λ i. OnOk result (Only i after)) has
    (settled_pair old (Some bytes) seen mid after result (λ left m. ⊎_elim (λ was. inl (only left was)) (λ now. inr now) (more left m)) settled)

-- after a removal
pub removed_for_good : {T E : Type 0} (old seen : Image) (before mid after : Image → Type 0) (result : Result T E)
    → Only old before → seen ≡ None → LeavesAlso before (λ image. image ≡ None) mid
    → OnOk result (LeavesAnyBytes mid ⊎ Only seen after) → OnOk result (Only None after)
removed_for_good old seen before mid after result only is also settled =
    subst (λ i. OnOk result (Only i after)) is
    (settled_pair old None seen mid after result (λ left m. ⊎_elim (λ was. inl (only left was)) (λ now. inr now) (also left m)) settled)
