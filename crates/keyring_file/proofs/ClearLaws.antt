-- The clear part: its text spells what is read from it, what a text spells is read, and a proper
-- prefix is Short.
use Rattle.std.proofs.Common.{◌≡◌, ℕ, ◌<◌, Bool, true, false, cond, nat_eq, eqb, List, [], ◌++◌, length, take, Result, Ok, Err, refl, sym, ap, ◌∙◌, arith}
use Rattle.std.specs.Cmp.Lexicographic.{nat_list_cmp_total}
use Rattle.std.proofs.lemmas.Bool.{eqb-true, eqb-false}
use Rattle.std.proofs.lemmas.Cmp.{eq_by_cmp_equiv, nat_eq_equiv}
use Rattle.kr_base.specs.Attributes.{is_name}
use Rattle.kr_base.specs.declared.hashed.HashedPair.{HashedPair}
use Rattle.kr_base.specs.declared.hashed.HashedValue.{HashedValue}
use Rattle.kr_base.specs.declared.hashed.HashedValue.TheVariants as hash
use Rattle.keyring_text.specs.declared.fault.FieldFault.{FieldFault}
use Rattle.keyring_text.specs.declared.fault.FieldFault.TheVariants as field_fault
use Rattle.keyring_text.specs.Fields.{IsBytes, number, SpellsNumber, SpellsString}
use Rattle.keyring_text.specs.Forms.{Joined}
use Rattle.keyring_text.specs.FieldReading.{text_at}
use Rattle.keyring_text.proofs.Laws.{Taken, ReadsIf, Always, Reads, Parted, step, field, last, made, ok_is}
use Rattle.keyring_text.proofs.ListLaws.{found, ByKind, zeroth, first, kinds_law, keyed_list_law}
use Rattle.keyring_text.proofs.FieldLaws.{number_law, string_law, text_law}
use Rattle.keyring_file.specs.declared.clear.ClearItem.{ClearItem}
use Rattle.keyring_file.specs.declared.fault.ClearFault.TheVariants as clear_fault
use Rattle.keyring_file.specs.Clear.{plain_content}
use Rattle.keyring_file.specs.ClearText.{SpellsHashed, SpellsPairs, SpellsContent, left_out, told, SpellsClearItems}
use Rattle.keyring_file.specs.FileReading.{hashed_at, pair_at, so_many_pairs_at, pairs_at, content_at, clear_item_at, in_clear, so_many_items_at, clear_items_at}

-- ---- in the clear part

was_ok : {A : Type 0} (r : Result A FieldFault) (x : A) → in_clear r ≡ Ok x → r ≡ Ok x
was_ok (Ok y) x e = cc
was_ok (Err f) x e = absurd cc

-- a reader of a field, in the clear part
pub in_clear_law : {A : Type 0} {holds : A → Type 0} {P : A → List ℕ → Type 0} {r : List ℕ → Result (A × List ℕ) FieldFault} → ReadsIf field_fault.Short holds P r → ReadsIf clear_fault.Short holds P (λ bytes. in_clear (r bytes))
in_clear_law {r = r} each =
    record {
      takes = λ bytes x rest fits e. each.takes bytes x rest fits (was_ok (r bytes) (x, rest) e);
      again = λ x text rest h p. ap (λ w. in_clear w) (each.again x text rest h p);
      cut = λ x text n h p lt. ap (λ w. in_clear w) (each.cut x text n h p lt);
    }

-- ---- hashed values

abbrev OfText : HashedValue → List ℕ → Type 0
OfText (hash.Text s) text = SpellsString s text
OfText (hash.Number n) text = ⊥

abbrev OfNumber : HashedValue → List ℕ → Type 0
OfNumber (hash.Text s) text = ⊥
OfNumber (hash.Number n) text = SpellsNumber n text

text-down : (v : HashedValue) (text : List ℕ) → OfText v text → (s : List ℕ) × (hash.Text s ≡ v) × SpellsString s text
text-down (hash.Text s) text p = (s, refl, p)
text-down (hash.Number n) text p = absurd p

number-down : (v : HashedValue) (text : List ℕ) → OfNumber v text → (n : ℕ) × (hash.Number n ≡ v) × SpellsNumber n text
number-down (hash.Text s) text p = absurd p
number-down (hash.Number n) text p = (n, refl, p)

hashed-up : (kind : ℕ) (v : HashedValue) (front back : List ℕ) → SpellsNumber kind front → ByKind OfText OfNumber kind v back → SpellsHashed v (front ++ back)
hashed-up kind (hash.Text s) front back k (zeroth e z) = record { front = front; back = back; parts = refl; is_first = k.is ∙ ap number e; is_second = z }
hashed-up kind (hash.Text s) front back k (first e n) = absurd n
hashed-up kind (hash.Number m) front back k (zeroth e z) = absurd z
hashed-up kind (hash.Number m) front back k (first e n) = record { front = front; back = back; parts = refl; is_first = k.is ∙ ap number e; is_second = n }

hashed-down : (v : HashedValue) (text : List ℕ) → SpellsHashed v text → Parted SpellsNumber (λ k (x : HashedValue). Always x) (ByKind OfText OfNumber) v text
hashed-down (hash.Text s) text j = record { x = 0; front = j.front; back = j.back; parts = j.parts; is_first = record { fits = omega arith; is = j.is_first }; kept = tt; is_second = zeroth refl j.is_second }
hashed-down (hash.Number n) text j = record { x = 1; front = j.front; back = j.back; parts = j.parts; is_first = record { fits = omega arith; is = j.is_first }; kept = tt; is_second = first refl j.is_second }

hashed_law : Reads field_fault.Short SpellsHashed hashed_at
unfolding hashed_at
hashed_law =
    step number_law
    (λ kind.
    kinds_law field_fault.BadKind (made string_law (λ s. hash.Text s) OfText (λ s text p. p) text-down) (made number_law (λ n. hash.Number n) OfNumber (λ n text p. p) number-down) kind)
    (λ kind v front back k h b. record { kept = tt; is = hashed-up kind v front back k b })
    (λ v text h is. hashed-down v text is)

-- ---- hashed attributes

pair_law : (name : List ℕ) → ReadsIf field_fault.Short (λ (p : HashedPair). p.name ≡ name) (λ p. SpellsHashed p.value) (λ bytes. pair_at name bytes)
unfolding pair_at
pair_law name =
    last {holds = λ (p : HashedPair). p.name ≡ name} (λ p. p.value) hashed_law (λ v. record { name = name; value = v }) (λ v. (refl, refl)) (λ b e i. record { name = sym e i; value = b.value })

pub is_name-symm : (x y : List ℕ) → is_name x y ≡ is_name y x
is_name-symm x y = (eq_by_cmp_equiv nat_list_cmp_total).symm x y

pairs_law : Reads field_fault.Short SpellsPairs pairs_at
unfolding pairs_at so_many_pairs_at
pairs_law = keyed_list_law (λ (p : HashedPair). p.name) is_name is_name-symm field_fault.DuplicateName number_law text_law pair_law

-- ---- content types

content-takes : (minor : ℕ) (b : Bool) → eqb minor 0 ≡ b → (bytes x rest : List ℕ) → IsBytes bytes → cond b (found plain_content bytes) (text_at bytes) ≡ Ok (x, rest) → Taken Always (SpellsContent minor) bytes x rest
content-takes minor true p bytes x rest fits e =
    let q = ok_is {F = FieldFault} (plain_content, bytes) (x, rest) e in
    record { text = []; parts = ap (λ (w : List ℕ × List ℕ). w.1) q; kept = tt; is = left_out (eqb-true minor 0 p) (sym (ap (λ (w : List ℕ × List ℕ). w.0) q)) refl }
content-takes minor false p bytes x rest fits e =
    let t = text_law.takes bytes x rest fits e in
    let some : 0 < minor = omega (arith, eqb-false minor 0 p) in
    record { text = t.text; parts = t.parts; kept = tt; is = told some t.is }

content-again : (minor : ℕ) (b : Bool) → eqb minor 0 ≡ b → (x text rest : List ℕ) → SpellsContent minor x text → cond b (found plain_content (text ++ rest)) (text_at (text ++ rest)) ≡ Ok (x, rest)
content-again minor true p x text rest (left_out e x-is text-is) = ap (λ w. found {F = FieldFault} plain_content (w ++ rest)) text-is ∙ ap (λ w. found w rest) (sym x-is)
content-again minor true p x text rest (told lt t) = absurd (omega (arith, eqb-true minor 0 p))
content-again minor false p x text rest (left_out e x-is text-is) = absurd (eqb-false minor 0 p e)
content-again minor false p x text rest (told lt t) = text_law.again x text rest tt t

content-cut : (minor : ℕ) (b : Bool) → eqb minor 0 ≡ b → (x text : List ℕ) (n : ℕ) → SpellsContent minor x text → n < length text → cond b (found plain_content (take n text)) (text_at (take n text)) ≡ Err field_fault.Short
content-cut minor b p x text n (left_out e x-is text-is) lt = absurd (omega (arith, ap length text-is))
content-cut minor true p x text n (told some t) lt = absurd (omega (arith, eqb-true minor 0 p))
content-cut minor false p x text n (told some t) lt = text_law.cut x text n tt t lt

content_law : (minor : ℕ) → Reads field_fault.Short (SpellsContent minor) (λ bytes. content_at minor bytes)
unfolding content_at
content_law minor =
    record {
      takes = content-takes minor (eqb minor 0) refl;
      again = λ x text rest h s. content-again minor (eqb minor 0) refl x text rest s;
      cut = λ x text n h s lt. content-cut minor (eqb minor 0) refl x text n s lt;
    }

-- ---- items

abbrev BehindId : ℕ → ClearItem → List ℕ → Type 0
BehindId minor item = Joined (SpellsNumber item.kind) (Joined (SpellsPairs item.hashed) (SpellsContent minor item.content))

clear_item_law : (minor id : ℕ) → ReadsIf field_fault.Short (λ (x : ClearItem). x.id.0 ≡ id) (BehindId minor) (λ bytes. clear_item_at minor id bytes)
unfolding clear_item_at
clear_item_law minor id =
    field (λ x. x.kind) number_law
    (λ kind.
    field (λ x. x.hashed) pairs_law
    (λ hashed.
    last {holds = λ (x : ClearItem). ((x.id.0 ≡ id) × (x.kind ≡ kind)) × (x.hashed ≡ hashed)} (λ x. x.content) (content_law minor) (λ content. record { id = record { 0 = id }; kind = kind; hashed = hashed; content = content })
    (λ a. (((refl, refl), refl), refl)) (λ b h i. record { id = record { 0 = sym h.0.0 i }; kind = sym h.0.1 i; hashed = sym h.1 i; content = b.content })))

pub clear_items_law : (minor : ℕ) → Reads clear_fault.Short (SpellsClearItems minor) (λ bytes. clear_items_at minor bytes)
unfolding clear_items_at so_many_items_at
clear_items_law minor =
    keyed_list_law (λ (x : ClearItem). x.id.0) nat_eq nat_eq_equiv.symm clear_fault.DuplicateId (in_clear_law number_law) (in_clear_law number_law) (λ id. in_clear_law (clear_item_law minor id))
