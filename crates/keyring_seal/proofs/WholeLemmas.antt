-- Opening, and the content that a file encodes.
use Rattle.std.proofs.Common.{◌≡◌, ℕ, List, length, Result, Ok, Err, refl, subst}
use Rattle.std.specs.Prelude.{IfOk}
use Rattle.aes_cbc.specs.Cbc.{decrypted}
use Rattle.keyring_file.specs.AreaText.{AreaText}
use Rattle.keyring_file.specs.Clear.{ClearPart}
use Rattle.keyring_file.specs.ClearText.{ClearText}
use Rattle.keyring_file.specs.FileReading.{area_read, clear_read}
use Rattle.keyring_file.specs.declared.area.FullItem.{FullItem}
use Rattle.keyring_file.specs.declared.fault.AreaFault.{AreaFault}
use Rattle.keyring_seal.specs.declared.content.Content.{Content}
use Rattle.keyring_seal.specs.declared.opening.OpenFault.TheVariants as open_fault
use Rattle.keyring_seal.specs.Arranged.{IsSealable}
use Rattle.keyring_seal.specs.Whole.{IsFileOf, opened}

-- the content that both texts encode is opened
pub opened_again : ((file area : List ℕ) (clear : ClearPart) → ClearText file clear area → clear_read file ≡ Ok (clear, area)) → ((area : List ℕ) (items : List FullItem) → AreaText area items → area_read (length items) area ≡ Ok items)
    → (file : List ℕ) (key vector : List ℕ) (content : Content) → IsFileOf file key vector content → opened file key vector ≡ Ok content
unfolding opened
opened_again clear_again area_again file key vector content is =
    let items : area_read (length content.clear.items) (decrypted key vector is.area) ≡ Ok content.items = subst (λ (n : ℕ). area_read n (decrypted key vector is.area) ≡ Ok content.items) is.counted (area_again (decrypted key vector is.area) content.items is.items) in
    rw (clear_again file is.area content.clear is.clear, items) refl

-- the fault of an area is that of the file
pub opened_fault : (file key vector area : List ℕ) (clear : ClearPart) (fault : AreaFault) → clear_read file ≡ Ok (clear, area) → area_read (length clear.items) (decrypted key vector area) ≡ Err fault
    → opened file key vector ≡ Err (open_fault.Area fault)
unfolding opened
opened_fault file key vector area clear fault read damaged = rw (read, damaged) refl

-- the content that a file encodes can be sealed
pub sealable : (file : List ℕ) (key vector : List ℕ) (content : Content) → IsFileOf file key vector content → IsSealable content
sealable file key vector content is =
    let behind_version = is.clear.text.is_first.is_second.is_second in
    record {
      counted = is.counted;
      distinct = behind_version.is_second.is_second.distinct;
      iterations = behind_version.is_first.is_second.is_second.is_second.is_second.is_second.few;
    }

-- what is true of a result, from what is known of it
pub then_holds : {X E : Type 0} (P Q : X → Type 0) (r : Result X E) → ((x : X) → P x → Q x) → IfOk r P → IfOk r Q
then_holds P Q (Ok x) step h = step x h
then_holds P Q (Err e) step h = tt
