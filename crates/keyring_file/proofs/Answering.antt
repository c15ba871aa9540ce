-- The clauses of the two readers, from the result of reading.
use Rattle.std.proofs.Common.{◌≡◌, ℕ, ◌+◌, ◌-◌, ◌*◌, ◌≤◌, ◌<◌, List, ◌++◌, length, take, drop, Result, Ok, Err, sym, ap, subst, ◌∙◌, append_assoc, arith}
use Rattle.std.specs.Result.{IfOk}
use Rattle.std.proofs.lemmas.List.{length-append, drop_at}
use Rattle.keyring_text.specs.declared.fault.ReadRefused.{ReadRefused}
use Rattle.keyring_text.specs.Fields.{IsBytes}
use Rattle.keyring_text.specs.FieldReading.{Gives}
use Rattle.keyring_file.specs.declared.area.FullItem.{FullItem}
use Rattle.keyring_file.specs.declared.fault.AreaFault.{AreaFault}
use Rattle.keyring_file.specs.declared.fault.ClearFault.{ClearFault}
use Rattle.keyring_file.specs.declared.fault.ClearFault.TheVariants as clear_fault
use Rattle.keyring_file.specs.Clear.{ClearPart, pairs_in}
use Rattle.keyring_file.specs.ClearText.{ClearText}
use Rattle.keyring_file.specs.AreaText.{AreaText}
use Rattle.keyring_file.specs.FileReading.{clear_read, area_read}
use Rattle.keyring_file.proofs.FileLaws.{file_found, file_again, file_cut}
use Rattle.keyring_file.proofs.AreaLaws.{area_found, area_again}
use Rattle.keyring_file.proofs.Bounds.{file_few, area_few}

-- ---- the place of the area

behind : (front mid area : List ℕ) (file : List ℕ) → file ≡ front ++ (mid ++ area) → drop (length file - length area) file ≡ area
behind front mid area file e =
    let whole : file ≡ (front ++ mid) ++ area = e ∙ sym (append_assoc front mid area) in
    let place : length (front ++ mid) ≡ length file - length area = omega (arith, ap length whole, length-append (front ++ mid) area) in
    ap (λ w. drop (length file - length area) w) whole ∙ drop_at (front ++ mid) area (length file - length area) place

pub place_of : (file area : List ℕ) (clear : ClearPart) → IsBytes file → clear_read file ≡ Ok (clear, area) → drop (length file - length area) file ≡ area
place_of file area clear fits e =
    let t = (file_found file area clear fits e).text in
    let j = t.is_second in
    behind t.front j.front area file (t.parts ∙ ap (λ w. t.front ++ w) (j.parts ∙ ap (λ w. j.front ++ w) j.is_second))

-- ---- the clear part

abbrev Clears : Type 0
Clears = Result (ClearPart × ℕ) (ReadRefused ClearFault)

abbrev seen : List ℕ → ClearPart × ℕ → ClearPart × List ℕ
seen file x = (x.0, drop x.1 file)

pub clear_found : (file : List ℕ) (r : Clears) → IsBytes file → Gives (seen file) r (clear_read file) → IfOk r (λ x. ClearText file x.0 (drop x.1 file))
clear_found file (Ok x) fits e = file_found file (drop x.1 file) x.0 fits e
clear_found file (Err f) fits e = tt

pub clear_only : (file : List ℕ) (r : Clears) → Gives (seen file) r (clear_read file) → (clear : ClearPart) (area : List ℕ) → ClearText file clear area → Gives (seen file) r (Ok (clear, area))
clear_only file r e clear area t = subst (λ f. Gives (seen file) r f) (file_again file area clear t) e

pub clear_cut : (file : List ℕ) (r : Clears) → Gives (seen file) r (clear_read file) → (whole area : List ℕ) (clear : ClearPart) (n : ℕ) → ClearText whole clear area → n < length whole → file ≡ take n whole → Gives (seen file) r (Err clear_fault.Short)
clear_cut file r e whole area clear n t lt is = subst (λ f. Gives (seen file) r f) (ap clear_read is ∙ file_cut whole area clear n t lt) e

pub clear_few : (file : List ℕ) (r : Clears) → IsBytes file → Gives (seen file) r (clear_read file) → IfOk r (λ x. 12 * (length x.0.items + pairs_in x.0.items) ≤ length file)
clear_few file (Ok x) fits e = file_few file (drop x.1 file) x.0 (file_found file (drop x.1 file) x.0 fits e)
clear_few file (Err f) fits e = tt

-- ---- the area

module _ {V : Type 0} (view : V → List FullItem) (area : List ℕ) (n : ℕ) where
  pub items_found : (r : Result V (ReadRefused AreaFault)) → IsBytes area → Gives view r (area_read n area) → IfOk r (λ v. AreaText area (view v))
  items_found (Ok v) fits e = (area_found area n (view v) fits e).0
  items_found (Err f) fits e = tt

  pub items_count : (r : Result V (ReadRefused AreaFault)) → IsBytes area → Gives view r (area_read n area) → IfOk r (λ v. length (view v) ≡ n)
  items_count (Ok v) fits e = (area_found area n (view v) fits e).1
  items_count (Err f) fits e = tt

  pub items_only : (r : Result V (ReadRefused AreaFault)) → Gives view r (area_read n area) → (these : List FullItem) → length these ≡ n → AreaText area these → Gives view r (Ok these)
  items_only r e these len t = subst (λ f. Gives view r f) (ap (λ m. area_read m area) (sym len) ∙ area_again area these t) e

  pub items_few : (r : Result V (ReadRefused AreaFault)) → IsBytes area → Gives view r (area_read n area) → IfOk r (λ v. 52 * length (view v) ≤ length area)
  items_few (Ok v) fits e = area_few area (view v) (area_found area n (view v) fits e).0
  items_few (Err f) fits e = tt
