-- The area: it spells what is read from it, and what it spells is read.
use Rattle.std.proofs.Common.{◌≡◌, ℕ, ◌<◌, Bool, true, false, cond, nat_eq, List, ◌++◌, length, take, drop, Result, Ok, Err, refl, sym, ap, subst, ◌∙◌, arith}
use Rattle.std.specs.Cmp.{unsigned_Decides}
use Rattle.std.specs.Cmp.Lexicographic.{pointwise, pointwise_decides}
use Rattle.std.proofs.lemmas.List.{take-append-drop, take_at, drop_at, length-take}
use Rattle.md5.specs.Md5.{md5}
use Rattle.md5.proofs.StandardFacts.{length-md5}
use Rattle.kr_base.specs.Attributes.{is_name}
use Rattle.kr_base.specs.declared.attributes.AttrValue.{AttrValue}
use Rattle.kr_base.specs.declared.attributes.AttrValue.TheVariants as value
use Rattle.kr_base.proofs.AttributeLemmas.{one_gathered}
use Rattle.keyring_text.specs.declared.fault.FieldFault.{FieldFault}
use Rattle.keyring_text.specs.declared.fault.FieldFault.TheVariants as field_fault
use Rattle.keyring_text.specs.Fields.{IsBytes, number, SpellsNumber, SpellsString, SpellsText, IsSpan}
use Rattle.keyring_text.specs.Forms.{Joined, SpellsList, SpellsKeyed}
use Rattle.keyring_text.specs.declared.fault.ReadRefused.{ReadRefused}
use Rattle.keyring_text.specs.FieldReading.{Fails, all_at}
use Rattle.keyring_text.proofs.Laws.{ReadsIf, Always, Reads, Parted, bind_ok, ok_is, step, field, skip, skip_last, last, made, IsBytes-behind}
use Rattle.keyring_text.proofs.ListLaws.{ByKind, zeroth, first, kinds_law, all_law, list_law, keyed_list_law}
use Rattle.keyring_text.proofs.FieldLaws.{number_law, time_law, string_law, text_law, span_law, IsSpelled}
use Rattle.keyring_file.specs.declared.area.Access.{Access}
use Rattle.keyring_file.specs.declared.area.FullItem.{FullItem}
use Rattle.keyring_file.specs.declared.fault.AreaFault.TheVariants as area_fault
use Rattle.keyring_file.specs.AreaText.{SpellsValue, SpellsAttribute, SpellsAttributes, IsReservedString, SpellsAccess, SpellsItem, AreaText}
use Rattle.keyring_file.specs.Gathered.{gathered}
use Rattle.keyring_file.specs.FileReading.{in_area, area_refused, value_at, attribute_at, so_many_attributes_at, listed_attributes_at, attributes_at, reserved_after, access_at, so_many_accesses_at, accesses_at, lists_at, lists_after, item_at, items_read, is_checked, area_read}
use Rattle.keyring_file.proofs.ClearLaws.{is_name-symm}
use Rattle.keyring_file.proofs.GatheredLemmas.{gathers}
use Rattle.keyring_file.proofs.Refusals.{fails-area}

-- ---- values

abbrev OfText : AttrValue → List ℕ → Type 0
OfText (value.Text s) text = SpellsText s text
OfText (value.Number n) text = ⊥

abbrev OfNumber : AttrValue → List ℕ → Type 0
OfNumber (value.Text s) text = ⊥
OfNumber (value.Number n) text = SpellsNumber n text

text-down : (v : AttrValue) (text : List ℕ) → OfText v text → (s : List ℕ) × (value.Text s ≡ v) × SpellsText s text
text-down (value.Text s) text p = (s, refl, p)
text-down (value.Number n) text p = absurd p

number-down : (v : AttrValue) (text : List ℕ) → OfNumber v text → (n : ℕ) × (value.Number n ≡ v) × SpellsNumber n text
number-down (value.Text s) text p = absurd p
number-down (value.Number n) text p = (n, refl, p)

value-up : (kind : ℕ) (v : AttrValue) (front back : List ℕ) → SpellsNumber kind front → ByKind OfText OfNumber kind v back → SpellsValue v (front ++ back)
value-up kind (value.Text s) front back k (zeroth e z) = record { front = front; back = back; parts = refl; is_first = k.is ∙ ap number e; is_second = z }
value-up kind (value.Text s) front back k (first e n) = absurd n
value-up kind (value.Number m) front back k (zeroth e z) = absurd z
value-up kind (value.Number m) front back k (first e n) = record { front = front; back = back; parts = refl; is_first = k.is ∙ ap number e; is_second = n }

value-down : (v : AttrValue) (text : List ℕ) → SpellsValue v text → Parted SpellsNumber (λ k (x : AttrValue). Always x) (ByKind OfText OfNumber) v text
value-down (value.Text s) text j = record { x = 0; front = j.front; back = j.back; parts = j.parts; is_first = record { fits = omega arith; is = j.is_first }; kept = tt; is_second = zeroth refl j.is_second }
value-down (value.Number n) text j = record { x = 1; front = j.front; back = j.back; parts = j.parts; is_first = record { fits = omega arith; is = j.is_first }; kept = tt; is_second = first refl j.is_second }

value_law : Reads field_fault.Short SpellsValue value_at
unfolding value_at
value_law =
    step number_law
    (λ kind.
    kinds_law field_fault.BadKind (made text_law (λ s. value.Text s) OfText (λ s text p. p) text-down) (made number_law (λ n. value.Number n) OfNumber (λ n text p. p) number-down) kind)
    (λ kind v front back k h b. record { kept = tt; is = value-up kind v front back k b })
    (λ v text h is. value-down v text is)

-- ---- attributes

attribute_law : (name : List ℕ) → ReadsIf field_fault.Short (λ (p : List ℕ × AttrValue). p.0 ≡ name) (λ p. SpellsValue p.1) (λ bytes. attribute_at name bytes)
unfolding attribute_at
attribute_law name = last {holds = λ (p : List ℕ × AttrValue). p.0 ≡ name} (λ p. p.1) value_law (λ v. (name, v)) (λ v. (refl, refl)) (λ b e i. (sym e i, b.1))

listed_law : Reads field_fault.Short (SpellsKeyed (λ (p : List ℕ × AttrValue). p.0) is_name SpellsAttribute) listed_attributes_at
unfolding listed_attributes_at so_many_attributes_at
listed_law = keyed_list_law (λ (p : List ℕ × AttrValue). p.0) is_name is_name-symm field_fault.DuplicateName number_law text_law attribute_law

attributes_law : Reads field_fault.Short SpellsAttributes attributes_at
unfolding attributes_at
attributes_law =
    made listed_law gathered SpellsAttributes (λ pairs text k. record { pairs = pairs; gathers = gathers pairs; keyed = k }) (λ attributes text s. (s.pairs, one_gathered s.pairs (gathered s.pairs) attributes (gathers s.pairs) s.gathers, s.keyed))

-- ---- access entries

string-up : (a text : List ℕ) → SpellsString a text → IsReservedString text
string-up a text s = record { s = a; string = s }

string-down : (text : List ℕ) → IsReservedString text → (a : List ℕ) × SpellsString a text
string-down text r = (r.s, r.string)

span-up : (n : ℕ) (a text : List ℕ) → IsSpelled n a text → IsSpan n text
span-up n a text s = record { len = ap length s.is ∙ s.len }

span-down : (n : ℕ) (text : List ℕ) → IsSpan n text → (a : List ℕ) × IsSpelled n a text
span-down n text s = (text, record { is = refl; len = s.len })

access_law : Reads field_fault.Short SpellsAccess access_at
unfolding access_at reserved_after
access_law =
    field (λ (a : Access). a.allowed) number_law
    (λ allowed.
    field (λ a. a.display) text_law
    (λ display.
    field (λ a. a.path) text_law
    (λ path.
    skip string_law string-up string-down
    (skip_last {holds = λ (a : Access). ((Always a × (a.allowed ≡ allowed)) × (a.display ≡ display)) × (a.path ≡ path)} (span_law 4) (span-up 4) (span-down 4) (record { allowed = allowed; display = display; path = path }) (((tt, refl), refl), refl)
    (λ b h i. record { allowed = sym h.0.0.1 i; display = sym h.0.1 i; path = sym h.1 i })))))

accesses_law : Reads field_fault.Short (SpellsList SpellsAccess) accesses_at
unfolding accesses_at so_many_accesses_at
accesses_law = list_law number_law access_law

-- ---- items

-- an item's attributes and its access entries
abbrev Lists : Type 0
Lists = List (List ℕ × AttrValue) × List Access

abbrev ListsText : Lists → List ℕ → Type 0
ListsText x = Joined (SpellsAttributes x.0) (SpellsList SpellsAccess x.1)

lists_law : Reads field_fault.Short ListsText lists_at
unfolding lists_at
lists_law =
    field (λ (x : Lists). x.0) attributes_law (λ attributes. last {holds = λ (x : Lists). Always x × (x.0 ≡ attributes)} (λ x. x.1) accesses_law (λ access. (attributes, access)) (λ a. ((tt, refl), refl)) (λ b h i. (sym h.1 i, b.1)))

item_law : Reads field_fault.Short SpellsItem item_at
unfolding item_at lists_after
item_law =
    field (λ (x : FullItem). x.label) text_law
    (λ label.
    field (λ x. x.value) string_law
    (λ secret.
    field (λ x. x.created) time_law
    (λ created.
    field (λ x. x.modified) time_law
    (λ modified.
    skip string_law string-up string-down
    (skip (span_law 16) (span-up 16) (span-down 16)
    (last {holds = λ (x : FullItem). (((Always x × (x.label ≡ label)) × (x.value ≡ secret)) × (x.created ≡ created)) × (x.modified ≡ modified)} (λ x. (x.attributes, x.access)) lists_law
    (λ lists. record { label = label; value = secret; created = created; modified = modified; attributes = lists.0; access = lists.1 }) (λ a. (((((tt, refl), refl), refl), refl), refl))
    (λ b h i. record { label = sym h.0.0.0.1 i; value = sym h.0.0.1 i; created = sym h.0.1 i; modified = sym h.1 i; attributes = b.attributes; access = b.access })))))))

-- ---- the whole area

abbrev these : {F : Type 0} → List FullItem → Result (List FullItem) F
these items = Ok items

in_area_ok : {A : Type 0} (r : Result A FieldFault) (x : A) → in_area r ≡ Ok x → r ≡ Ok x
in_area_ok (Ok y) x e = cc
in_area_ok (Err f) x e = absurd cc

-- what was found if the check agreed
pub record Checked (b : Bool) (r : Result (List FullItem) FieldFault) (items : List FullItem) : Type 0 where
  pub same : b ≡ true
  pub was : r ≡ Ok items

area-tested : (b : Bool) (r : Result (List FullItem) FieldFault) (items : List FullItem) → cond b (in_area r) (Err area_fault.CheckDiffers) ≡ these items → Checked b r items
area-tested true r items e = record { same = refl; was = in_area_ok r items e }
area-tested false r items e = absurd cc

pub area_found : (area : List ℕ) (n : ℕ) (items : List FullItem) → IsBytes area → area_read n area ≡ Ok items → AreaText area items × (length items ≡ n)
unfolding area_read is_checked items_read
area_found area n items fits e =
    let t = area-tested (is_checked area) (items_read n (drop 16 area)) items e in
    let b = bind_ok (all_at item_at n (drop 16 area)) (λ xs. these xs.0) items t.was in
    let split : take 16 area ++ drop 16 area ≡ area = take-append-drop 16 area in
    let front : take 16 area ≡ md5 (drop 16 area) = (pointwise_decides unsigned_Decides (take 16 area) (md5 (drop 16 area))).0 t.same in
    let k = (all_law item_law n).takes (drop 16 area) b.x.0 b.x.1 (IsBytes-behind (take 16 area) (drop 16 area) (subst IsBytes (sym split) fits)) b.was in
    let is : b.x.0 ≡ items = ok_is {F = FieldFault} b.x.0 items b.then_is in
    let text : AreaText area b.x.0 = record {
      rest = drop 16 area;
      check = record { front = take 16 area; back = drop 16 area; parts = sym split; is_first = front; is_second = refl };
      text = record { front = k.text; back = b.x.1; parts = k.parts; is_first = k.is; is_second = record { any = tt } };
    } in
    subst (λ xs. AreaText area xs × (length xs ≡ n)) is (text, k.kept)

pub area_again : (area : List ℕ) (items : List FullItem) → AreaText area items → area_read (length items) area ≡ Ok items
unfolding area_read is_checked items_read
area_again area items t =
    let j = t.check in
    let whole : area ≡ md5 t.rest ++ t.rest = j.parts ∙ ap (λ w. w ++ j.back) j.is_first ∙ ap (λ w. md5 t.rest ++ w) j.is_second in
    let front : take 16 area ≡ md5 t.rest = ap (λ w. take 16 w) whole ∙ take_at (md5 t.rest) t.rest 16 (length-md5 t.rest) in
    let back : drop 16 area ≡ t.rest = ap (λ w. drop 16 w) whole ∙ drop_at (md5 t.rest) t.rest 16 (length-md5 t.rest) in
    let same : pointwise nat_eq (take 16 area) (md5 (drop 16 area)) ≡ true = (pointwise_decides unsigned_Decides (take 16 area) (md5 (drop 16 area))).1 (front ∙ ap md5 (sym back)) in
    let read : all_at item_at (length items) (drop 16 area) ≡ Ok (items, t.text.back) = ap (λ w. all_at item_at (length items) w) (back ∙ t.text.parts) ∙ (all_law item_law (length items)).again items t.text.front t.text.back refl t.text.is_first in
    rw (same, read) refl

-- ---- what the code tests

false_of : (b : Bool) → ((b ≡ true) → ⊥) → false ≡ b
false_of true h = absurd (h refl)
false_of false h = refl

-- fewer than 16 bytes have no check
pub short-unchecked : (area : List ℕ) → length area < 16 → false ≡ is_checked area
unfolding is_checked
short-unchecked area lt =
    false_of _
    (λ e.
    let same : take 16 area ≡ md5 (drop 16 area) = (pointwise_decides unsigned_Decides (take 16 area) (md5 (drop 16 area))).0 e in
    omega (arith, length-take 16 area, ap length same, length-md5 (drop 16 area)))

-- a refusal after the check
pub area_fails : (e : ReadRefused FieldFault) (area : List ℕ) (n : ℕ) (rest : List ℕ) → rest ≡ drop 16 area → is_checked area ≡ true → Fails e (items_read n rest) → Fails (area_refused e) (area_read n area)
unfolding area_read
area_fails e area n rest rest-is on h =
    let at : Fails e (items_read n (drop 16 area)) = subst (λ w. Fails e (items_read n w)) rest-is h in
    rw on (fails-area e (items_read n (drop 16 area)) at)
