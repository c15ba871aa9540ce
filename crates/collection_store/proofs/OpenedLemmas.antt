-- The clear part of a file that was opened.
use Rattle.std.proofs.Common.{◌≡◌, ℕ, ◌≤◌, List, Result, Ok, Err, refl, ap, sym, ◌∙◌}
use Rattle.keyring_text.specs.Fields.{IsBytes}
use Rattle.keyring_text.specs.FieldReading.{◌>>=◌}
use Rattle.keyring_file.specs.Clear.{ClearPart}
use Rattle.keyring_file.specs.ClearText.{ClearText, HasClear, most_iterations}
use Rattle.keyring_file.specs.FileReading.{clear_read}
use Rattle.keyring_file.specs.declared.area.FullItem.{FullItem}
use Rattle.keyring_file.specs.declared.fault.AreaFault.{AreaFault}
use Rattle.keyring_file.specs.declared.fault.ClearFault.{ClearFault}
use Rattle.keyring_seal.specs.declared.content.Content.{Content}
use Rattle.keyring_seal.specs.declared.opening.OpenFault.{OpenFault}
use Rattle.keyring_seal.specs.declared.opening.OpenFault.TheVariants as open_fault
use Rattle.keyring_seal.specs.Whole.{in_area_part, in_clear_part, opened}

-- the text of a clear part is read as that clear part
abbrev pub Spelled : Type 0
Spelled = (file area : List ℕ) (clear : ClearPart) → ClearText file clear area → clear_read file ≡ Ok (clear, area)

-- the content of a clear part and an area that were read
abbrev with_area : ClearPart → Result (List FullItem) AreaFault → Result Content OpenFault
with_area clear read = do
  items ← in_area_part read
  Ok (record { clear = clear; items = items })

area_fault : (clear : ClearPart) (read : Result (List FullItem) AreaFault) (fault : ClearFault)
    → with_area clear read ≡ Err (open_fault.Clear fault) → ⊥
area_fault clear (Ok items) fault e = absurd cc
area_fault clear (Err other) fault e = absurd cc

-- a file whose clear part was read has no fault in it
pub no_clear_fault : Spelled → (file key vector : List ℕ) (clear : ClearPart) → HasClear file clear → (fault : ClearFault) → opened file key vector ≡ Err (open_fault.Clear fault) → ⊥
unfolding opened
no_clear_fault spelled file key vector clear (area, is) fault e =
    let read = spelled file area clear is in
    let after = rw read at e in
    area_fault clear _ fault after

area_opens : (clear : ClearPart) (read : Result (List FullItem) AreaFault) (content : Content)
    → with_area clear read ≡ Ok content → content.clear ≡ clear
area_opens clear (Ok items) content e = let same : record { clear = clear; items = items } ≡ content = cc in sym (ap (λ (c : Content). c.clear) same)
area_opens clear (Err other) content e = absurd cc

-- a file opens to a content with the file's clear part
pub opened_clear : Spelled → (file key vector : List ℕ) (clear : ClearPart) (content : Content) → HasClear file clear → opened file key vector ≡ Ok content → content.clear ≡ clear
unfolding opened
opened_clear spelled file key vector clear content (area, is) e =
    let read = spelled file area clear is in
    let after = rw read at e in
    area_opens clear _ content after

-- a file has one clear part
pub one_clear : Spelled → (file : List ℕ) (one other : ClearPart) → HasClear file one → HasClear file other → one ≡ other
one_clear spelled file one other (area, is) (more, also) =
    let same : Ok (one, area) ≡ Ok (other, more) = sym (spelled file area one is) ∙ spelled file more other also in
    let pairs : (one, area) ≡ (other, more) = cc in
    ap (λ (p : ClearPart × List ℕ). p.0) pairs

-- a file has at most 1,000,000 iterations
pub few_iterations : (file : List ℕ) (clear : ClearPart) → HasClear file clear → clear.iterations ≤ most_iterations
few_iterations file clear (area, is) = is.text.is_first.is_second.is_second.is_first.is_second.is_second.is_second.is_second.is_second.few

-- a file that was read is the text of what was read
abbrev pub Read : Type 0
Read = (file area : List ℕ) (clear : ClearPart) → IsBytes file → clear_read file ≡ Ok (clear, area) → ClearText file clear area

read_of : (read : Result (ClearPart × List ℕ) ClearFault) (rest : ClearPart × List ℕ → Result (List FullItem) AreaFault) (content : Content) → (in_clear_part read) >>= (λ (part : ClearPart × List ℕ). with_area part.0 (rest part)) ≡ Ok content
    → (area : List ℕ) × (read ≡ Ok (content.clear, area))
read_of (Ok (clear, area)) rest content e = let same = area_opens clear (rest (clear, area)) content e in (area, rw same refl)
read_of (Err fault) rest content e = absurd cc

-- bytes that open to a content have its clear part
pub opened_has : Read → (file key vector : List ℕ) (content : Content) → IsBytes file → opened file key vector ≡ Ok content → HasClear file content.clear
unfolding opened
opened_has law file key vector content bytes e = let found = read_of (clear_read file) _ content e in (found.0, law file found.0 content.clear bytes found.1)
