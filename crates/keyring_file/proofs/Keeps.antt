-- What is read after a key has that key.
use Rattle.std.proofs.Common.{◌≡◌, ℕ, nat_eq, List, Result, Ok, Err, sym, ap, ◌∙◌, inl, inr, arith}
use Rattle.std.specs.Cmp.{nat_cmp_is}
use Rattle.std.specs.Ordering.{nat_cmp, is_eq}
use Rattle.std.specs.declared.cmp.Ordering.TheVariants.{Less, Equal, Greater}
use Rattle.std.proofs.lemmas.Bool.{cases_lt, eq-eqb, ne_eqb}
use Rattle.kr_base.specs.declared.attributes.AttrValue.{AttrValue}
use Rattle.kr_base.specs.declared.hashed.HashedPair.{HashedPair}
use Rattle.keyring_text.specs.declared.fault.FieldFault.{FieldFault}
use Rattle.keyring_text.specs.FieldReading.{◌>>=◌, number_at}
use Rattle.keyring_text.proofs.Laws.{bind_ok, ok_is}
use Rattle.keyring_file.specs.declared.clear.ClearItem.{ClearItem}
use Rattle.keyring_file.specs.FileReading.{hashed_at, pair_at, value_at, attribute_at, pairs_at, content_at, clear_item_at, in_clear, item_behind}

pub pair-keeps : (k bytes : List ℕ) (x : HashedPair) (rest : List ℕ) → pair_at k bytes ≡ Ok (x, rest) → x.name ≡ k
unfolding pair_at
pair-keeps k bytes x rest e =
    let b = bind_ok (hashed_at bytes) (λ found. Ok (record { name = k; value = found.0 }, found.1)) (x, rest) e in
    sym (ap (λ (p : HashedPair × List ℕ). p.0.name) (ok_is {F = FieldFault} (record { name = k; value = b.x.0 }, b.x.1) (x, rest) b.then_is))

pub attribute-keeps : (k bytes : List ℕ) (x : List ℕ × AttrValue) (rest : List ℕ) → attribute_at k bytes ≡ Ok (x, rest) → x.0 ≡ k
unfolding attribute_at
attribute-keeps k bytes x rest e =
    let b = bind_ok (value_at bytes) (λ found. Ok ((k, found.0), found.1)) (x, rest) e in
    sym (ap (λ (p : (List ℕ × AttrValue) × List ℕ). p.0.0) (ok_is {F = FieldFault} ((k, b.x.0), b.x.1) (x, rest) b.then_is))

item-keeps : (minor k : ℕ) (bytes : List ℕ) (x : ClearItem) (rest : List ℕ) → clear_item_at minor k bytes ≡ Ok (x, rest) → x.id.0 ≡ k
unfolding clear_item_at
item-keeps minor k bytes x rest e =
    let a = bind_ok (number_at bytes) (λ kind. pairs_at kind.1 >>= λ hashed. content_at minor hashed.1 >>= λ content. Ok (record { id = record { 0 = k }; kind = kind.0; hashed = hashed.0; content = content.0 }, content.1)) (x, rest) e in
    let b = bind_ok (pairs_at a.x.1) (λ hashed. content_at minor hashed.1 >>= λ content. Ok (record { id = record { 0 = k }; kind = a.x.0; hashed = hashed.0; content = content.0 }, content.1)) (x, rest) a.then_is in
    let d = bind_ok (content_at minor b.x.1) (λ content. Ok (record { id = record { 0 = k }; kind = a.x.0; hashed = b.x.0; content = content.0 }, content.1)) (x, rest) b.then_is in
    let made : ClearItem × List ℕ = (record { id = record { 0 = k }; kind = a.x.0; hashed = b.x.0; content = d.x.0 }, d.x.1) in
    sym (ap (λ (p : ClearItem × List ℕ). p.0.id.0) (ok_is {F = FieldFault} made (x, rest) d.then_is))

was_ok : {A : Type 0} (r : Result A FieldFault) (x : A) → in_clear r ≡ Ok x → r ≡ Ok x
was_ok (Ok y) x e = cc
was_ok (Err f) x e = absurd cc

pub behind-keeps : (minor k : ℕ) (bytes : List ℕ) (x : ClearItem) (rest : List ℕ) → item_behind minor k bytes ≡ Ok (x, rest) → x.id.0 ≡ k
behind-keeps minor k bytes x rest e = item-keeps minor k bytes x rest (was_ok (clear_item_at minor k bytes) (x, rest) e)

-- numbers that compare as equal are those that the test finds equal
pub cmp-eq : (x y : ℕ) → is_eq (nat_cmp x y) ≡ nat_eq x y
cmp-eq x y =
    elim (cases_lt x y) [
      | inl lt ↦ ap is_eq (sym (nat_cmp_is x y Less lt)) ∙ sym (ne_eqb x y (λ e. omega arith))
      | inr le ↦
          elim (cases_lt y x) [
            | inl gt ↦ ap is_eq (sym (nat_cmp_is x y Greater gt)) ∙ sym (ne_eqb x y (λ e. omega arith))
            | inr ge ↦ let e : x ≡ y = omega arith in ap is_eq (sym (nat_cmp_is x y Equal e)) ∙ sym (eq-eqb x y e)
          ]
    ]
