-- What is read in version 0.0 has the plain content type.
use Rattle.std.proofs.Common.{◌≡◌, ℕ, suc, zero, ◌≤◌, Bool, true, false, cond, nat_eq, ltb, List, [], ◌∷◌, Result, Ok, Err, refl, sym, ap, subst, ◌∙◌}
use Rattle.std.specs.List.{AllByRecursion, list_any}
use Rattle.std.proofs.lemmas.Bool.{ltb-false}
use Rattle.keyring_text.specs.declared.fault.FieldFault.{FieldFault}
use Rattle.keyring_text.specs.FieldReading.{◌>>=◌, number_at, keyed_at}
use Rattle.keyring_text.proofs.Laws.{bind_ok, ok_is}
use Rattle.keyring_text.proofs.ListLaws.{found}
use Rattle.keyring_file.specs.declared.clear.ClearItem.{ClearItem}
use Rattle.keyring_file.specs.declared.fault.ClearFault.{ClearFault}
use Rattle.keyring_file.specs.declared.fault.ClearFault.TheVariants as clear_fault
use Rattle.keyring_file.specs.Clear.{plain_content, IsPlain, IsOfVersion}
use Rattle.keyring_file.specs.FileReading.{pairs_at, content_at, clear_item_at, in_clear, id_at, item_behind, so_many_items_at, clear_items_at, version_byte_at, version_at}

-- ---- the items

module _ {A K F : Type 0} (k_at : List ℕ → Result (K × List ℕ) F) (same : K → K → Bool) (twice : F) (rest_at : K → List ℕ → Result (A × List ℕ) F) (P : A → Type 0) (each : (k : K) (bytes : List ℕ) (x : A) (rest : List ℕ) → rest_at k bytes ≡ Ok (x, rest) → P x) where
  tested-ok : (b : Bool) (k : K) (bytes : List ℕ) (x : A) (rest : List ℕ) → cond b (Err twice) (rest_at k bytes) ≡ Ok (x, rest) → rest_at k bytes ≡ Ok (x, rest)
  tested-ok true k bytes x rest e = absurd cc
  tested-ok false k bytes x rest e = e

  keyed-all : (n : ℕ) (seen : List K) (bytes : List ℕ) (xs : List A) (rest : List ℕ) → keyed_at k_at same twice rest_at seen n bytes ≡ Ok (xs, rest) → AllByRecursion P xs
  unfolding keyed_at
  keyed-all zero seen bytes xs rest e = subst (λ ys. AllByRecursion P ys) (ap (λ (w : List A × List ℕ). w.0) (ok_is {F = F} ([], bytes) (xs, rest) e)) tt
  keyed-all (suc n) seen bytes xs rest e =
      let a =
      bind_ok (k_at bytes) (λ k. cond (list_any (same k.0) seen) (Err twice) (rest_at k.0 k.1) >>= λ first. keyed_at k_at same twice rest_at (k.0 ∷ seen) n first.1 >>= λ others. found {F = F} (first.0 ∷ others.0) others.1) (xs, rest) e in
      let b =
      bind_ok (cond (list_any (same a.x.0) seen) (Err twice) (rest_at a.x.0 a.x.1)) (λ first. keyed_at k_at same twice rest_at (a.x.0 ∷ seen) n first.1 >>= λ others. found {F = F} (first.0 ∷ others.0) others.1) (xs, rest) a.then_is in
      let c = bind_ok (keyed_at k_at same twice rest_at (a.x.0 ∷ seen) n b.x.1) (λ others. found {F = F} (b.x.0 ∷ others.0) others.1) (xs, rest) b.then_is in
      let here = each a.x.0 a.x.1 b.x.0 b.x.1 (tested-ok (list_any (same a.x.0) seen) a.x.0 a.x.1 b.x.0 b.x.1 b.was) in
      let more = keyed-all n (a.x.0 ∷ seen) b.x.1 c.x.0 c.x.1 c.was in
      subst (λ ys. AllByRecursion P ys) (ap (λ (w : List A × List ℕ). w.0) (ok_is {F = F} (b.x.0 ∷ c.x.0, c.x.1) (xs, rest) c.then_is)) (here, more)

field_ok : {A : Type 0} (r : Result A FieldFault) (x : A) → in_clear r ≡ Ok x → r ≡ Ok x
field_ok (Ok y) x e = cc
field_ok (Err f) x e = absurd cc

content-plain : (bytes x rest : List ℕ) → content_at 0 bytes ≡ Ok (x, rest) → x ≡ plain_content
unfolding content_at
content-plain bytes x rest e = sym (ap (λ (w : List ℕ × List ℕ). w.0) (ok_is {F = FieldFault} (plain_content, bytes) (x, rest) e))

item-plain : (k : ℕ) (bytes : List ℕ) (x : ClearItem) (rest : List ℕ) → clear_item_at 0 k bytes ≡ Ok (x, rest) → x.content ≡ plain_content
unfolding clear_item_at
item-plain k bytes x rest e =
    let a = bind_ok (number_at bytes) (λ kind. pairs_at kind.1 >>= λ hashed. content_at 0 hashed.1 >>= λ content. Ok (record { id = record { 0 = k }; kind = kind.0; hashed = hashed.0; content = content.0 }, content.1)) (x, rest) e in
    let b = bind_ok (pairs_at a.x.1) (λ hashed. content_at 0 hashed.1 >>= λ content. Ok (record { id = record { 0 = k }; kind = a.x.0; hashed = hashed.0; content = content.0 }, content.1)) (x, rest) a.then_is in
    let d = bind_ok (content_at 0 b.x.1) (λ content. Ok (record { id = record { 0 = k }; kind = a.x.0; hashed = b.x.0; content = content.0 }, content.1)) (x, rest) b.then_is in
    let made : ClearItem × List ℕ = (record { id = record { 0 = k }; kind = a.x.0; hashed = b.x.0; content = d.x.0 }, d.x.1) in
    sym (ap (λ (p : ClearItem × List ℕ). p.0.content) (ok_is {F = FieldFault} made (x, rest) d.then_is)) ∙ content-plain b.x.1 d.x.0 d.x.1 d.was

items-plain : (bytes : List ℕ) (items : List ClearItem) (rest : List ℕ) → clear_items_at 0 bytes ≡ Ok (items, rest) → AllByRecursion IsPlain items
unfolding clear_items_at so_many_items_at
items-plain bytes items rest e =
    let a = bind_ok (id_at bytes) (λ n. so_many_items_at 0 n.0 n.1) (items, rest) e in
    keyed-all id_at nat_eq clear_fault.DuplicateId (item_behind 0) IsPlain (λ k bs x r h. item-plain k bs x r (field_ok (clear_item_at 0 k bs) (x, r) h)) a.x.0 [] a.x.1 items rest a.then_is

-- what the type of a clear part guarantees
pub of_version : (minor : ℕ) (bytes : List ℕ) (items : List ClearItem) (rest : List ℕ) → minor ≤ 1 → clear_items_at minor bytes ≡ Ok (items, rest) → IsOfVersion minor items
of_version minor bytes items rest known e = record { known = known; plain = λ z. items-plain bytes items rest (subst (λ m. clear_items_at m bytes ≡ Ok (items, rest)) z e) }
