use Rattle.std.proofs.Common.{◌≡◌, ℕ, List, length, Err, ap, sym, subst, ◌∙◌, rules}
use Rattle.std.specs.List.{AllByRecursion}
use Rattle.keyring_file.specs.AreaText.{AreaText}
use Rattle.keyring_file.specs.ClearText.{ClearText}
use Rattle.keyring_file.specs.Known.{IsKnownClearItem}
use Rattle.keyring_file.specs.FileReading.{area_read}
use Rattle.aes_cbc.specs.Cbc.{decrypted}
use Rattle.key_derivation.specs.Kdf.{key_of, vector_of}
use Rattle.keyring_seal.specs.declared.opening.OpenFault.TheVariants as open_fault
use Rattle.keyring_seal.proofs.SpelledLemmas.{short_clear, sound_clear}
use Rattle.keyring_seal.proofs.WholeLemmas.{opened_fault}
use Rattle.keyring_seal.proofs.area.open_area.Goals as goal

pub hidden_after-requires : goal.hidden_after-requires
hidden_after-requires c =
    let items : AllByRecursion IsKnownClearItem c.args.clear.now.items = search rules in
    record { sound = sound_clear c.args.file.now c.args.clear.now c.requires c.known_clear.ensures items; short = short_clear c.args.file.now c.args.clear.now c.requires c.known_clear.ensures items }

pub returns-in-Ok-clause-found : goal.returns-in-Ok-clause-found
returns-in-Ok-clause-found c =
    let key = key_of c.args.key.now in
    let vector = vector_of c.args.key.now in
    let clear = c.args.clear.now in
    let hidden = c.in-Some.hidden.now in
    let place : ClearText c.args.file.now clear hidden = search rules in
    let text : c.as_slice-3.result.now ≡ decrypted key vector hidden = c.as_slice-3.ensures.value ∙ c.in_ok-area.ensures in
    let spelled : AreaText c.as_slice-3.result.now c.in-Ok.items.items = search rules in
    let counted : length c.in-Ok.items.items ≡ length clear.items = search rules in
    record { area = hidden; clear = place; items = subst (λ (bytes : List ℕ). AreaText bytes c.in-Ok.items.items) text spelled; counted = counted }

pub returns-in-Err-Fault-clause-refused : goal.returns-in-Err-Fault-clause-refused
returns-in-Err-Fault-clause-refused c = λ fault is.
    let file = c.args.file.now in
    let key = key_of c.args.key.now in
    let vector = vector_of c.args.key.now in
    let clear = c.args.clear.now in
    let hidden = c.in-Some.hidden.now in
    let place : ClearText file clear hidden = search rules in
    let text : c.as_slice-3.result.now ≡ decrypted key vector hidden = c.as_slice-3.ensures.value ∙ c.in_ok-area.ensures in
    let read : area_read c.len.result c.as_slice-3.result.now ≡ Err c.in-Err-Fault.fault = search rules in
    let count : c.len.result ≡ length clear.items = search rules in
    let damaged : area_read (length clear.items) (decrypted key vector hidden) ≡ Err c.in-Err-Fault.fault = sym (λ i. area_read (count i) (text i)) ∙ read in
    let same : c.in-Err-Fault.fault ≡ fault = cc in
    opened_fault file key vector hidden clear c.in-Err-Fault.fault (c.a_file_that_is_spelled_so_is_read.ensures file hidden clear place) damaged ∙ ap (λ f. Err (open_fault.Area f)) same
