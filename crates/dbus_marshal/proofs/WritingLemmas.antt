-- What the writers leave after the bytes that they found.
use Rattle.std.proofs.Common.{Box, Some, None, ◌≡◌, ℕ, zero, suc, ◌+◌, ◌-◌, ◌%◌, ◌<◌, ◌≤◌, ◌&&◌, Bool, true, false, List, [], ◌∷◌, ◌++◌, length, take, drop, get_or, replicate, Result, Ok, Err, refl, sym, ap, subst, ◌∙◌, arith, append_assoc, append-nil, length-append, length-drop, Vec, Global}
use Rattle.std.specs.Prelude.{nat_le}
use Rattle.std.specs.Int.{w8, w32}
use Rattle.std.proofs.Math.Seq.{drop-cons}
use Rattle.std.proofs.lemmas.Bool.{le-leb, lt-leb}
use Rattle.std.proofs.Math.ListN.{drop_of_length-le}
use Rattle.std.proofs.Math.Numerals.{add-one}
use Rattle.std.proofs.lemmas.List.{take_at, drop_at, length-replicate}
use Rattle.dbus_types.specs.declared.complete_type.BasicType.TheVariants as basics
use Rattle.dbus_types.specs.declared.endian.Endian.{Endian}
use Rattle.dbus_types.specs.declared.endian.Endian.TheVariants.{Little, Big}
use Rattle.dbus_types.specs.declared.value.Value.{Value, Array, InnerArray, Struct}
use Rattle.dbus_types.specs.declared.value.TypedArray.{TypedArray}
use Rattle.dbus_types.specs.Known.{wrapping, is_variant, is_array, fields_in}
use Rattle.dbus_types.specs.declared.complete_type.CompleteType.{CompleteType}
use Rattle.dbus_types.proofs.ValueViews.{inner_holds, array_holds}
use Rattle.dbus_types.specs.Types.{Ty, Tys}
use Rattle.dbus_types.specs.Values.{Val, Vals}
use Rattle.dbus_types.specs.Views.{type_of}
use Rattle.dbus_types.specs.ValueViews.{value_as, core_as, each_as, all_as, core_of, wrapped, element_of, fields_of, struct_fields, typed_array, in_variant, nothing}
use Rattle.dbus_marshal.specs.Limits.{array_limit}
use Rattle.dbus_marshal.specs.declared.refused.MarshalFault.{MarshalFault}
use Rattle.dbus_marshal.specs.declared.refused.MarshalFault.TheVariants.{TooLong, OutOfMemory}
use Rattle.dbus_marshal.specs.Wire.{alignment_of, padding, behind, start_of, zeros, number_bytes}
use Rattle.dbus_marshal.specs.Spelling.{aligned, text_spelled, array_spelled, first_at, spelled, all_spelled, is_short, are_short}
use Rattle.dbus_marshal.specs.Writing.{Writes}
use Rattle.dbus_marshal.proofs.Taking.{IsBytes, wide32}
use Rattle.dbus_marshal.proofs.AgainBasics.{behind_twice}

-- the position of the bytes after others
pub behind_both : (phase : ℕ) (xs ys : List ℕ) → behind phase (length (xs ++ ys)) ≡ behind (behind phase (length xs)) (length ys)
behind_both phase xs ys = ap (behind phase) (length-append xs ys) ∙ sym (behind_twice phase (length xs) (length ys))

-- a fault of a part is a fault of the whole
pub writes_fault : (e : MarshalFault) (x y : List ℕ) (short whole : Bool) (a b c d : List ℕ) → (short ≡ false → whole ≡ false)
    → Writes {X = Unit {0}} (Err e) x short a b → Writes {X = Unit {0}} (Err e) y whole c d
writes_fault TooLong x y short whole a b c d part w = part w
writes_fault OutOfMemory x y short whole a b c d part w = tt

pub false_front : (a b : Bool) → a ≡ false → (a && b) ≡ false
false_front false b e = refl
false_front true b e = absurd cc

pub false_behind : (a b : Bool) → b ≡ false → (a && b) ≡ false
false_behind false b e = refl
false_behind true b e = e

pub true_both : (a b : Bool) → a ≡ true → b ≡ true → (a && b) ≡ true
true_both true b e f = f
true_both false b e f = absurd cc

-- what is written after what was written before
pub writes_behind : {X : Type 0} (result : Result X MarshalFault) (front bytes : List ℕ) (short : Bool) (old mid new : List ℕ) → mid ≡ old ++ front
    → Writes result bytes short mid new → Writes result (front ++ bytes) short old new
writes_behind (Ok x) front bytes short old mid new is w = (w.0 ∙ ap (λ (m : List ℕ). m ++ bytes) is ∙ append_assoc old front bytes, w.1)
writes_behind (Err TooLong) front bytes short old mid new is w = w
writes_behind (Err OutOfMemory) front bytes short old mid new is w = tt

-- and it starts where the first part ends
pub writes_at : {X : Type 0} (result : Result X MarshalFault) (phase : ℕ) (bytes : ℕ → List ℕ) (short : ℕ → Bool) (front old mid new : List ℕ) → mid ≡ old ++ front
    → Writes result (bytes (behind phase (length mid))) (short (behind phase (length mid))) mid new
    → Writes result (front ++ bytes (behind (behind phase (length old)) (length front))) (short (behind (behind phase (length old)) (length front))) old new
writes_at result phase bytes short front old mid new is w =
    let there : behind phase (length mid) ≡ behind (behind phase (length old)) (length front) = ap (λ (m : List ℕ). behind phase (length m)) is ∙ behind_both phase old front in
    subst (λ (p : ℕ). Writes result (front ++ bytes p) (short p) old new) there
    (writes_behind result front (bytes (behind phase (length mid))) (short (behind phase (length mid))) old mid new is w)

-- two parts, of which the first was written
pub writes_both : {X : Type 0} (result : Result X MarshalFault) (phase : ℕ) (front : List ℕ) (first : Bool) (bytes : ℕ → List ℕ) (short : ℕ → Bool) (old mid new : List ℕ) → mid ≡ old ++ front → first ≡ true
    → Writes result (bytes (behind phase (length mid))) (short (behind phase (length mid))) mid new
    → Writes result (front ++ bytes (behind (behind phase (length old)) (length front))) (first && short (behind (behind phase (length old)) (length front))) old new
writes_both result phase front first bytes short old mid new is fine w =
    subst (λ (b : Bool). Writes result (front ++ bytes (behind (behind phase (length old)) (length front))) (b && short (behind (behind phase (length old)) (length front))) old new) (sym fine)
    (writes_at result phase bytes short front old mid new is w)

-- ---- padding

pub zeros_front : (n : ℕ) → n < 8 → take n (replicate 8 0) ≡ zeros n
zeros_front zero lt = refl
zeros_front (suc zero) lt = refl
zeros_front (suc (suc zero)) lt = refl
zeros_front (suc (suc (suc zero))) lt = refl
zeros_front (suc (suc (suc (suc zero)))) lt = refl
zeros_front (suc (suc (suc (suc (suc zero))))) lt = refl
zeros_front (suc (suc (suc (suc (suc (suc zero)))))) lt = refl
zeros_front (suc (suc (suc (suc (suc (suc (suc zero))))))) lt = refl
zeros_front (suc (suc (suc (suc (suc (suc (suc (suc n)))))))) lt = absurd (omega arith)

pub zeros_long : (n : ℕ) → length (zeros n) ≡ n
zeros_long n = length-replicate {A = ℕ} n 0

-- the position of the padded bytes
pub start_is : (phase alignment : ℕ) (old mid : List ℕ) → mid ≡ old ++ zeros (padding alignment (behind phase (length old))) → behind phase (length mid) ≡ start_of alignment (behind phase (length old))
start_is phase alignment old mid is =
    ap (λ (m : List ℕ). behind phase (length m)) is ∙ behind_both phase old (zeros (padding alignment (behind phase (length old))))
    ∙ ap (behind (behind phase (length old))) (zeros_long (padding alignment (behind phase (length old))))

-- padding, and what is written after it
pub writes_padded : {X : Type 0} (result : Result X MarshalFault) (phase alignment : ℕ) (bytes : ℕ → List ℕ) (short : ℕ → Bool) (old mid new : List ℕ) → mid ≡ old ++ zeros (padding alignment (behind phase (length old)))
    → Writes result (bytes (behind phase (length mid))) (short (behind phase (length mid))) mid new
    → Writes result (aligned alignment (behind phase (length old)) (bytes (start_of alignment (behind phase (length old))))) (short (start_of alignment (behind phase (length old)))) old new
writes_padded result phase alignment bytes short old mid new is w =
    subst (λ (p : ℕ). Writes result (zeros (padding alignment (behind phase (length old))) ++ bytes p) (short p) old new) (start_is phase alignment old mid is)
    (writes_behind result (zeros (padding alignment (behind phase (length old)))) (bytes (behind phase (length mid))) (short (behind phase (length mid))) old mid new is w)

-- ---- texts with a length in one byte

pub text_bare : (endian : Endian) (text : List ℕ) (place : ℕ) → text_spelled endian basics.Signature text place ≡ number_bytes endian w8 (length text) ++ (text ++ 0 ∷ [])
text_bare endian text place =
    let none : padding 1 place ≡ 0 = omega arith in
    ap (λ (n : ℕ). zeros n ++ (number_bytes endian w8 (length text) ++ (text ++ 0 ∷ []))) none

-- the text comes after the byte of its length
pub signature_wrote : (endian : Endian) (old one two new text : List ℕ) (mark place : ℕ) → mark ≡ length old → one ≡ old ++ 0 ∷ [] → two ≡ one ++ text
    → new ≡ take mark two ++ (number_bytes endian w8 (length (drop (mark + 1) two)) ++ (drop (mark + 1) two ++ 0 ∷ [])) → new ≡ old ++ text_spelled endian basics.Signature text place
signature_wrote endian old one two new text mark place at is_one is_two is =
    let parts : two ≡ old ++ 0 ∷ text = is_two ∙ ap (λ (l : List ℕ). l ++ text) is_one ∙ append_assoc old (0 ∷ []) text in
    let parts_one : two ≡ (old ++ 0 ∷ []) ++ text = is_two ∙ ap (λ (l : List ℕ). l ++ text) is_one in
    let front : take mark two ≡ old = ap (take mark) parts ∙ take_at old (0 ∷ text) mark (sym at) in
    let long : length (old ++ 0 ∷ []) ≡ mark + 1 = omega (arith, length-append old (0 ∷ []), at) in
    let rest : drop (mark + 1) two ≡ text = ap (drop (mark + 1)) parts_one ∙ drop_at (old ++ 0 ∷ []) text (mark + 1) long in
    is ∙ ap (λ (f : List ℕ). f ++ (number_bytes endian w8 (length (drop (mark + 1) two)) ++ (drop (mark + 1) two ++ 0 ∷ []))) front
    ∙ ap (λ (r : List ℕ). old ++ (number_bytes endian w8 (length r) ++ (r ++ 0 ∷ []))) rest ∙ ap (λ (r : List ℕ). old ++ r) (sym (text_bare endian text place))

-- ---- arrays

pub array_wrote : (endian : Endian) (old opened done new zs ys elements : List ℕ) (mark count : ℕ) → opened ≡ old ++ (zs ++ (number_bytes endian w32 0 ++ ys)) → mark ≡ length old + length zs
    → done ≡ opened ++ elements → new ≡ take mark done ++ (number_bytes endian w32 count ++ drop (mark + 4) done)
    → new ≡ old ++ (zs ++ (number_bytes endian w32 count ++ (ys ++ elements)))
array_wrote endian old opened done new zs ys elements mark count opens at is_done is =
    let four = number_bytes endian w32 0 in
    let long : length four ≡ 4 = wide32.len endian 0 in
    let A = old ++ zs in
    let front_long : length A ≡ mark = omega (arith, length-append old zs, at) in
    let parts : done ≡ A ++ (four ++ (ys ++ elements)) =
    is_done ∙ ap (λ (l : List ℕ). l ++ elements) opens ∙ append_assoc old (zs ++ (four ++ ys)) elements
    ∙ ap (λ (l : List ℕ). old ++ l) (append_assoc zs (four ++ ys) elements ∙ ap (λ (l : List ℕ). zs ++ l) (append_assoc four ys elements))
    ∙ sym (append_assoc old zs (four ++ (ys ++ elements))) in
    let front : take mark done ≡ A = ap (take mark) parts ∙ take_at A (four ++ (ys ++ elements)) mark front_long in
    let parts_four : done ≡ (A ++ four) ++ (ys ++ elements) = parts ∙ sym (append_assoc A four (ys ++ elements)) in
    let four_long : length (A ++ four) ≡ mark + 4 = omega (arith, length-append A four, front_long, long) in
    let rest : drop (mark + 4) done ≡ ys ++ elements = ap (drop (mark + 4)) parts_four ∙ drop_at (A ++ four) (ys ++ elements) (mark + 4) four_long in
    is ∙ ap (λ (f : List ℕ). f ++ (number_bytes endian w32 count ++ drop (mark + 4) done)) front ∙ ap (λ (r : List ℕ). A ++ (number_bytes endian w32 count ++ r)) rest
    ∙ append_assoc old zs (number_bytes endian w32 count ++ (ys ++ elements))

-- ---- an array of bytes

pub bytes_array : (endian : Endian) (bytes : List ℕ) (place : ℕ) → spelled endian (Val.bytes bytes) place ≡ aligned 4 place (number_bytes endian w32 (length bytes)) ++ bytes
bytes_array endian bytes place =
    let none : padding 1 (behind (start_of 4 place) 4) ≡ 0 = omega arith in
    ap (λ (n : ℕ). aligned 4 place (number_bytes endian w32 (length bytes) ++ (zeros n ++ bytes))) none
    ∙ sym (append_assoc (zeros (padding 4 place)) (number_bytes endian w32 (length bytes)) bytes)

-- ---- numbers of which the lower bits are written

four : {a b c d e f g h : ℕ} → a ≡ e → b ≡ f → c ≡ g → d ≡ h → a ∷ b ∷ c ∷ d ∷ [] ≡ e ∷ f ∷ g ∷ h ∷ []
four {a} {b} {c} {d} {e} {f} {g} {h} p q r s = rw (p, q, r, s) refl

pub number_mod8 : (endian : Endian) (n : ℕ) → number_bytes endian w8 (n % 256) ≡ number_bytes endian w8 n
unfolding number_bytes
number_mod8 Little n = let same : n % 256 % 256 ≡ n % 256 = omega arith in ap (λ (k : ℕ). k ∷ []) same
number_mod8 Big n = let same : n % 256 % 256 ≡ n % 256 = omega arith in ap (λ (k : ℕ). k ∷ []) same

pub number_mod32 : (endian : Endian) (n : ℕ) → number_bytes endian w32 (n % 4294967296) ≡ number_bytes endian w32 n
unfolding number_bytes
number_mod32 Little n = four (omega arith) (omega arith) (omega arith) (omega arith)
number_mod32 Big n = four (omega arith) (omega arith) (omega arith) (omega arith)

pub signature_ended : (endian : Endian) (old put new : List ℕ) (mark count : ℕ) → put ≡ take mark old ++ (number_bytes endian w8 (count % 256) ++ drop (mark + 1) old) → count ≡ length old - mark - 1
    → new ≡ put ++ 0 ∷ [] → new ≡ take mark old ++ (number_bytes endian w8 (length (drop (mark + 1) old)) ++ (drop (mark + 1) old ++ 0 ∷ []))
signature_ended endian old put new mark count is_put counted is =
    let A = take mark old in
    let D = drop (mark + 1) old in
    let N = number_bytes endian w8 (count % 256) in
    let long : count ≡ length D = omega (arith, length-drop (mark + 1) old, counted) in
    is ∙ ap (λ (l : List ℕ). l ++ 0 ∷ []) is_put ∙ append_assoc A (N ++ D) (0 ∷ []) ∙ ap (λ (r : List ℕ). A ++ r) (append_assoc N D (0 ∷ []))
    ∙ ap (λ (r : List ℕ). A ++ (r ++ (D ++ 0 ∷ []))) (number_mod8 endian count) ∙ ap (λ (k : ℕ). A ++ (number_bytes endian w8 k ++ (D ++ 0 ∷ []))) long

pub text_wrote : (endian : Endian) (old one two new text : List ℕ) (place : ℕ) → one ≡ old ++ aligned 4 place (number_bytes endian w32 (length text % 4294967296)) → two ≡ one ++ text → new ≡ two ++ 0 ∷ []
    → new ≡ old ++ text_spelled endian basics.String text place
text_wrote endian old one two new text place is_one is_two is =
    let Z = zeros (padding 4 place) in
    let N = number_bytes endian w32 (length text % 4294967296) in
    is ∙ ap (λ (l : List ℕ). l ++ 0 ∷ []) is_two ∙ append_assoc one text (0 ∷ []) ∙ ap (λ (l : List ℕ). l ++ (text ++ 0 ∷ [])) is_one
    ∙ append_assoc old (Z ++ N) (text ++ 0 ∷ []) ∙ ap (λ (r : List ℕ). old ++ r) (append_assoc Z N (text ++ 0 ∷ []))
    ∙ ap (λ (r : List ℕ). old ++ (Z ++ (r ++ (text ++ 0 ∷ [])))) (number_mod32 endian (length text))

pub array_opened : (endian : Endian) (phase alignment : ℕ) (old one two three : List ℕ) (mark : ℕ) → one ≡ old ++ zeros (padding 4 (behind phase (length old))) → two ≡ one ++ number_bytes endian w32 0
    → three ≡ two ++ zeros (padding alignment (behind phase (length two))) → mark ≡ length one
    → three ≡ old ++ (zeros (padding 4 (behind phase (length old))) ++ (number_bytes endian w32 0 ++ zeros (padding alignment (behind phase (mark + 4)))))
array_opened endian phase alignment old one two three mark is_one is_two is at =
    let Z = zeros (padding 4 (behind phase (length old))) in
    let N = number_bytes endian w32 0 in
    let long : length N ≡ 4 = wide32.len endian 0 in
    let there : length two ≡ mark + 4 = ap length is_two ∙ omega (arith, length-append one N, long, at) in
    let Y = zeros (padding alignment (behind phase (mark + 4))) in
    is ∙ ap (λ (k : ℕ). two ++ zeros (padding alignment (behind phase k))) there ∙ ap (λ (l : List ℕ). l ++ Y) is_two ∙ ap (λ (l : List ℕ). (l ++ N) ++ Y) is_one
    ∙ append_assoc (old ++ Z) N Y ∙ append_assoc old Z (N ++ Y)

-- codes around the texts of a struct's fields
pub struct_text : (old one two three text : List ℕ) → one ≡ old ++ 40 ∷ [] → two ≡ one ++ text → three ≡ two ++ 41 ∷ [] → three ≡ old ++ 40 ∷ (text ++ 41 ∷ [])
struct_text old one two three text is_one is_two is =
    is ∙ ap (λ (l : List ℕ). l ++ 41 ∷ []) is_two ∙ append_assoc one text (41 ∷ []) ∙ ap (λ (l : List ℕ). l ++ (text ++ 41 ∷ [])) is_one ∙ append_assoc old (40 ∷ []) (text ++ 41 ∷ [])

-- ---- the arms of a value

-- what is written for a tree is written for a value that has this tree
pub writes_tree : {X : Type 0} (result : Result X MarshalFault) (endian : Endian) (v w : Val) (place : ℕ) (old new : List ℕ) → v ≡ w → Writes result (spelled endian w place) (is_short endian w place) old new
    → Writes result (spelled endian v place) (is_short endian v place) old new
writes_tree result endian v w place old new same written = subst (λ (u : Val). Writes result (spelled endian u place) (is_short endian u place) old new) (sym same) written

pub writes_array : {X : Type 0} (result : Result X MarshalFault) (endian : Endian) (t : Ty) (vs : Vals) (place alignment : ℕ) (old new : List ℕ) → alignment ≡ alignment_of t
    → Writes result (array_spelled endian alignment place (all_spelled endian vs (first_at alignment place)))
    (are_short endian vs (first_at alignment place) && nat_le (length (all_spelled endian vs (first_at alignment place))) array_limit) old new
    → Writes result (spelled endian (Val.array t vs) place) (is_short endian (Val.array t vs) place) old new
writes_array result endian t vs place alignment old new same written =
    subst (λ (a : ℕ). Writes result (array_spelled endian a place (all_spelled endian vs (first_at a place)))
    (are_short endian vs (first_at a place) && nat_le (length (all_spelled endian vs (first_at a place))) array_limit) old new) same written

pub array_tree : (value : Value) (known : Ty) (array : Box TypedArray Global) → value ≡ Array array
    → core_as known value ≡ typed_array known (type_of array.value.element) (each_as (type_of array.value.element) array.value.values.items)
array_tree value known array is = ap (core_as known) is ∙ array_holds known array

pub inner_tree : (value : Value) (known t : Ty) (values : Box (Vec Value Global) Global) (slice : List Value) → value ≡ InnerArray values → slice ≡ values.value.items → t ≡ element_of known → core_as known value ≡ Val.array t (each_as t slice)
inner_tree value known t values slice is same of_known =
    ap (core_as known) is ∙ inner_holds known values ∙ ap (λ (l : List Value). Val.array (element_of known) (each_as (element_of known) l)) (sym same)
    ∙ ap (λ (u : Ty). Val.array u (each_as u slice)) (sym of_known)

-- ---- a value in a place where it can't be

pub writes_nothing : (endian : Endian) (v : Val) (place : ℕ) (old new : List ℕ) → v ≡ nothing → new ≡ old ++ zeros (padding 8 place) → Writes {X = Unit {0}} (Ok tt) (spelled endian v place) (is_short endian v place) old new
writes_nothing endian v place old new same is =
    subst (λ (w : Val). Writes {X = Unit {0}} (Ok tt) (spelled endian w place) (is_short endian w place) old new) (sym same)
    (is ∙ ap (λ (r : List ℕ). old ++ r) (sym (append-nil (zeros (padding 8 place)))), refl)

pub variant_no : (known : Ty) (v : Val) → is_variant known ≡ false → in_variant known v ≡ nothing
variant_no (Ty.basic b) v e = refl
variant_no Ty.variant v e = absurd cc
variant_no (Ty.array t) v e = refl
variant_no (Ty.struct ts) v e = refl
variant_no (Ty.entry key t) v e = refl

pub variant_yes : (known : Ty) → is_variant known ≡ true → known ≡ Ty.variant
variant_yes (Ty.basic b) e = absurd cc
variant_yes Ty.variant e = refl
variant_yes (Ty.array t) e = absurd cc
variant_yes (Ty.struct ts) e = absurd cc
variant_yes (Ty.entry key t) e = absurd cc

pub typed_no : (known t : Ty) (vs : Vals) → is_array known ≡ true → typed_array known t vs ≡ nothing
typed_no (Ty.basic b) t vs e = absurd cc
typed_no Ty.variant t vs e = absurd cc
typed_no (Ty.array u) t vs e = refl
typed_no (Ty.struct ts) t vs e = absurd cc
typed_no (Ty.entry key u) t vs e = absurd cc

pub typed_yes : (known t : Ty) (vs : Vals) → is_array known ≡ false → typed_array known t vs ≡ Val.array t vs
typed_yes (Ty.basic b) t vs e = refl
typed_yes Ty.variant t vs e = refl
typed_yes (Ty.array u) t vs e = absurd cc
typed_yes (Ty.struct ts) t vs e = refl
typed_yes (Ty.entry key u) t vs e = refl

pub struct_yes : (known : Ty) (ts : Tys) → Some ts ≡ fields_in known → known ≡ Ty.struct ts
struct_yes (Ty.struct us) ts e = let same : us ≡ ts = cc in ap Ty.struct same
struct_yes (Ty.basic b) ts e = absurd cc
struct_yes Ty.variant ts e = absurd cc
struct_yes (Ty.array t) ts e = absurd cc
struct_yes (Ty.entry key t) ts e = absurd cc

pub struct_no : (known : Ty) (all each : Vals) → None ≡ fields_in known → struct_fields known all each ≡ each
struct_no (Ty.struct us) all each e = absurd cc
struct_no (Ty.basic b) all each e = refl
struct_no Ty.variant all each e = refl
struct_no (Ty.array t) all each e = refl
struct_no (Ty.entry key t) all each e = refl

-- ---- structs of one field around a value

wrapped_at_0 : (endian : Endian) (t : Ty) (w : Val) → spelled endian (wrapped t w) 0 ≡ spelled endian w 0
wrapped_at_0 endian (Ty.struct (Tys.more t Tys.end)) w = append-nil (spelled endian (wrapped t w) 0) ∙ wrapped_at_0 endian t w
wrapped_at_0 endian (Ty.struct (Tys.more t (Tys.more u ts))) w = refl
wrapped_at_0 endian (Ty.struct Tys.end) w = refl
wrapped_at_0 endian (Ty.basic b) w = refl
wrapped_at_0 endian Ty.variant w = refl
wrapped_at_0 endian (Ty.array t) w = refl
wrapped_at_0 endian (Ty.entry key t) w = refl

and_true : (b : Bool) → (b && true) ≡ b
and_true true = refl
and_true false = refl

wrapped_short_at_0 : (endian : Endian) (t : Ty) (w : Val) → is_short endian (wrapped t w) 0 ≡ is_short endian w 0
wrapped_short_at_0 endian (Ty.struct (Tys.more t Tys.end)) w = and_true (is_short endian (wrapped t w) 0) ∙ wrapped_short_at_0 endian t w
wrapped_short_at_0 endian (Ty.struct (Tys.more t (Tys.more u ts))) w = refl
wrapped_short_at_0 endian (Ty.struct Tys.end) w = refl
wrapped_short_at_0 endian (Ty.basic b) w = refl
wrapped_short_at_0 endian Ty.variant w = refl
wrapped_short_at_0 endian (Ty.array t) w = refl
wrapped_short_at_0 endian (Ty.entry key t) w = refl

unwrapped : (endian : Endian) (w : Val) (place : ℕ) → place < 8 → spelled endian w place ≡ aligned 1 place (spelled endian w (start_of 1 place))
unwrapped endian w place below =
    let none : padding 1 place ≡ 0 = omega arith in
    let same : place ≡ behind place 0 = omega arith in
    rw none (ap (spelled endian w) same)

unwrapped_short : (endian : Endian) (w : Val) (place : ℕ) → place < 8 → is_short endian w place ≡ is_short endian w (start_of 1 place)
unwrapped_short endian w place below =
    let same : place ≡ start_of 1 place = omega arith in
    ap (is_short endian w) same

wrapped_spelled : (endian : Endian) (t : Ty) (w : Val) (place : ℕ) → place < 8 → spelled endian (wrapped t w) place ≡ aligned (wrapping t) place (spelled endian w (start_of (wrapping t) place))
wrapped_spelled endian (Ty.struct (Tys.more t Tys.end)) w place below =
    let first : start_of 8 place ≡ 0 = omega arith in
    ap (λ (bs : List ℕ). aligned 8 place bs)
    (append-nil (spelled endian (wrapped t w) (start_of 8 place)) ∙ ap (spelled endian (wrapped t w)) first ∙ wrapped_at_0 endian t w ∙ ap (spelled endian w) (sym first))
wrapped_spelled endian (Ty.struct (Tys.more t (Tys.more u ts))) w place below = unwrapped endian w place below
wrapped_spelled endian (Ty.struct Tys.end) w place below = unwrapped endian w place below
wrapped_spelled endian (Ty.basic b) w place below = unwrapped endian w place below
wrapped_spelled endian Ty.variant w place below = unwrapped endian w place below
wrapped_spelled endian (Ty.array t) w place below = unwrapped endian w place below
wrapped_spelled endian (Ty.entry key t) w place below = unwrapped endian w place below

wrapped_short : (endian : Endian) (t : Ty) (w : Val) (place : ℕ) → place < 8 → is_short endian (wrapped t w) place ≡ is_short endian w (start_of (wrapping t) place)
wrapped_short endian (Ty.struct (Tys.more t Tys.end)) w place below =
    let first : start_of 8 place ≡ 0 = omega arith in
    and_true (is_short endian (wrapped t w) (start_of 8 place)) ∙ ap (is_short endian (wrapped t w)) first ∙ wrapped_short_at_0 endian t w ∙ ap (is_short endian w) (sym first)
wrapped_short endian (Ty.struct (Tys.more t (Tys.more u ts))) w place below = unwrapped_short endian w place below
wrapped_short endian (Ty.struct Tys.end) w place below = unwrapped_short endian w place below
wrapped_short endian (Ty.basic b) w place below = unwrapped_short endian w place below
wrapped_short endian Ty.variant w place below = unwrapped_short endian w place below
wrapped_short endian (Ty.array t) w place below = unwrapped_short endian w place below
wrapped_short endian (Ty.entry key t) w place below = unwrapped_short endian w place below

-- bytes that are padded for the structs are the whole
pub wrapped_value : (endian : Endian) (t core : Ty) (value : Value) (place alignment start : ℕ) (inner slice made : List ℕ) → place < 8 → alignment ≡ wrapping t → core ≡ core_of t → start ≡ start_of alignment place
    → inner ≡ spelled endian (core_as core value) start → slice ≡ inner → made ≡ aligned alignment place slice → made ≡ spelled endian (value_as t value) place
wrapped_value endian t core value place alignment start inner slice made below is_alignment is_core is_start is_inner is_slice is =
    let w = core_as (core_of t) value in
    is ∙ ap (aligned alignment place) (is_slice ∙ is_inner ∙ ap (λ (u : Ty). spelled endian (core_as u value) start) is_core ∙ ap (spelled endian w) is_start)
    ∙ ap (λ (a : ℕ). aligned a place (spelled endian w (start_of a place))) is_alignment ∙ sym (wrapped_spelled endian t w place below)

-- what is written after the padding of the structs is the whole
pub writes_wrapped : {X : Type 0} (result : Result X MarshalFault) (endian : Endian) (phase : ℕ) (t core : Ty) (value : Value) (alignment : ℕ) (old mid new : List ℕ) → alignment ≡ wrapping t → core ≡ core_of t
    → mid ≡ old ++ zeros (padding alignment (behind phase (length old)))
    → Writes result (spelled endian (core_as core value) (behind phase (length mid))) (is_short endian (core_as core value) (behind phase (length mid))) mid new
    → Writes result (spelled endian (value_as t value) (behind phase (length old))) (is_short endian (value_as t value) (behind phase (length old))) old new
writes_wrapped result endian phase t core value alignment old mid new is_alignment is_core padded written =
    let place = behind phase (length old) in
    let below : place < 8 = omega arith in
    let w = core_as (core_of t) value in
    let inner : Writes result (spelled endian w (behind phase (length mid))) (is_short endian w (behind phase (length mid))) mid new =
    subst (λ (u : Ty). Writes result (spelled endian (core_as u value) (behind phase (length mid))) (is_short endian (core_as u value) (behind phase (length mid))) mid new) is_core written in
    let there = subst (λ (k : ℕ). mid ≡ old ++ zeros (padding k place)) is_alignment padded in
    let whole = writes_padded result phase (wrapping t) (spelled endian w) (is_short endian w) old mid new there inner in
    subst (λ (b : Bool). Writes result (spelled endian (value_as t value) place) b old new) (sym (wrapped_short endian t w place below))
    (subst (λ (bs : List ℕ). Writes result bs (is_short endian w (start_of (wrapping t) place)) old new) (sym (wrapped_spelled endian t w place below)) whole)

-- ---- the elements of an array

-- the position of the elements
elements_at : (endian : Endian) (phase alignment mark : ℕ) (old opened : List ℕ)
    → opened ≡ old ++ (zeros (padding 4 (behind phase (length old))) ++ (number_bytes endian w32 0 ++ zeros (padding alignment (behind phase (mark + 4)))))
    → mark ≡ length old + length (zeros (padding 4 (behind phase (length old)))) → behind phase (length opened) ≡ first_at alignment (behind phase (length old))
elements_at endian phase alignment mark old opened opens at =
    let place = behind phase (length old) in
    let Z = zeros (padding 4 place) in
    let N = number_bytes endian w32 0 in
    let Y = zeros (padding alignment (behind phase (mark + 4))) in
    let long : length N ≡ 4 = wide32.len endian 0 in
    let four_at : behind phase (mark + 4) ≡ behind (start_of 4 place) 4 =
    ap (λ (k : ℕ). behind phase (k + 4)) (at ∙ ap (λ (k : ℕ). length old + k) (zeros_long (padding 4 place))) ∙ omega arith in
    let whole : length opened ≡ (mark + 4) + padding alignment (behind phase (mark + 4)) =
    ap length opens ∙ omega (arith, length-append old (Z ++ (N ++ Y)), length-append Z (N ++ Y), length-append N Y, long, at, zeros_long (padding alignment (behind phase (mark + 4)))) in
    ap (behind phase) whole ∙ sym (behind_twice phase (mark + 4) (padding alignment (behind phase (mark + 4)))) ∙ ap (start_of alignment) four_at

-- the spelling and the test of an array, by the position of its elements
pub array_fault : (e : MarshalFault) (endian : Endian) (phase alignment mark : ℕ) (vs : Vals) (old opened done : List ℕ)
    → opened ≡ old ++ (zeros (padding 4 (behind phase (length old))) ++ (number_bytes endian w32 0 ++ zeros (padding alignment (behind phase (mark + 4)))))
    → mark ≡ length old + length (zeros (padding 4 (behind phase (length old))))
    → Writes {X = Unit {0}} (Err e) (all_spelled endian vs (behind phase (length opened))) (are_short endian vs (behind phase (length opened))) opened done
    → Writes {X = Unit {0}} (Err e) (array_spelled endian alignment (behind phase (length old)) (all_spelled endian vs (first_at alignment (behind phase (length old)))))
    (are_short endian vs (first_at alignment (behind phase (length old))) && nat_le (length (all_spelled endian vs (first_at alignment (behind phase (length old))))) array_limit) old done
array_fault e endian phase alignment mark vs old opened done opens at w =
    let there = elements_at endian phase alignment mark old opened opens at in
    writes_fault e (all_spelled endian vs (behind phase (length opened))) (array_spelled endian alignment (behind phase (length old)) (all_spelled endian vs (first_at alignment (behind phase (length old)))))
    (are_short endian vs (behind phase (length opened))) _ opened done old done
    (λ no. false_front _ _ (subst (λ (p : ℕ). are_short endian vs p ≡ false) there no)) w

-- the number of bytes of the elements that were written
elements_long : (endian : Endian) (phase alignment mark : ℕ) (vs : Vals) (old opened done : List ℕ) (start end : ℕ)
    → opened ≡ old ++ (zeros (padding 4 (behind phase (length old))) ++ (number_bytes endian w32 0 ++ zeros (padding alignment (behind phase (mark + 4)))))
    → mark ≡ length old + length (zeros (padding 4 (behind phase (length old)))) → done ≡ opened ++ all_spelled endian vs (behind phase (length opened)) → start ≡ length opened → end ≡ length done
    → end - start ≡ length (all_spelled endian vs (first_at alignment (behind phase (length old))))
elements_long endian phase alignment mark vs old opened done start end opens at is from to =
    let there = elements_at endian phase alignment mark old opened opens at in
    let E = all_spelled endian vs (behind phase (length opened)) in
    let long : end - start ≡ length E = omega (arith, from, to ∙ ap length is, length-append opened E) in
    long ∙ ap (λ (p : ℕ). length (all_spelled endian vs p)) there

pub array_long : (endian : Endian) (phase alignment mark : ℕ) (vs : Vals) (old opened done : List ℕ) (start end : ℕ)
    → opened ≡ old ++ (zeros (padding 4 (behind phase (length old))) ++ (number_bytes endian w32 0 ++ zeros (padding alignment (behind phase (mark + 4)))))
    → mark ≡ length old + length (zeros (padding 4 (behind phase (length old)))) → done ≡ opened ++ all_spelled endian vs (behind phase (length opened)) → start ≡ length opened → end ≡ length done
    → array_limit < end - start
    → (are_short endian vs (first_at alignment (behind phase (length old))) && nat_le (length (all_spelled endian vs (first_at alignment (behind phase (length old))))) array_limit) ≡ false
array_long endian phase alignment mark vs old opened done start end opens at is from to over =
    let long = elements_long endian phase alignment mark vs old opened done start end opens at is from to in
    false_behind _ _ (lt-leb _ _ (subst (λ (k : ℕ). array_limit < k) long over))

pub array_room : (endian : Endian) (phase alignment mark : ℕ) (vs : Vals) (old opened done : List ℕ)
    → opened ≡ old ++ (zeros (padding 4 (behind phase (length old))) ++ (number_bytes endian w32 0 ++ zeros (padding alignment (behind phase (mark + 4)))))
    → mark ≡ length old + length (zeros (padding 4 (behind phase (length old)))) → done ≡ opened ++ all_spelled endian vs (behind phase (length opened)) → mark + 4 ≤ length done
array_room endian phase alignment mark vs old opened done opens at is =
    let Z = zeros (padding 4 (behind phase (length old))) in
    let N = number_bytes endian w32 0 in
    let Y = zeros (padding alignment (behind phase (mark + 4))) in
    let long : length N ≡ 4 = wide32.len endian 0 in
    let whole : length done ≡ length opened + length (all_spelled endian vs (behind phase (length opened))) = ap length is ∙ length-append opened _ in
    let front : length opened ≡ length (old ++ (Z ++ (N ++ Y))) = ap length opens in
    omega (arith, whole, front, length-append old (Z ++ (N ++ Y)), length-append Z (N ++ Y), length-append N Y, long, at)

pub array_done : (endian : Endian) (phase alignment mark : ℕ) (vs : Vals) (old opened done new : List ℕ) (start end : ℕ)
    → opened ≡ old ++ (zeros (padding 4 (behind phase (length old))) ++ (number_bytes endian w32 0 ++ zeros (padding alignment (behind phase (mark + 4)))))
    → mark ≡ length old + length (zeros (padding 4 (behind phase (length old)))) → done ≡ opened ++ all_spelled endian vs (behind phase (length opened))
    → are_short endian vs (behind phase (length opened)) ≡ true → start ≡ length opened → end ≡ length done → end - start ≤ array_limit
    → new ≡ take mark done ++ (number_bytes endian w32 (end - start) ++ drop (mark + 4) done)
    → (new ≡ old ++ array_spelled endian alignment (behind phase (length old)) (all_spelled endian vs (first_at alignment (behind phase (length old)))))
    × ((are_short endian vs (first_at alignment (behind phase (length old))) && nat_le (length (all_spelled endian vs (first_at alignment (behind phase (length old))))) array_limit) ≡ true)
array_done endian phase alignment mark vs old opened done new start end opens at is short from to fits closed =
    let place = behind phase (length old) in
    let there = elements_at endian phase alignment mark old opened opens at in
    let long = elements_long endian phase alignment mark vs old opened done start end opens at is from to in
    let Z = zeros (padding 4 place) in
    let E = all_spelled endian vs (first_at alignment place) in
    let is_done : done ≡ opened ++ E = is ∙ ap (λ (p : ℕ). opened ++ all_spelled endian vs p) there in
    let four_at : behind phase (mark + 4) ≡ behind (start_of 4 place) 4 =
    ap (λ (k : ℕ). behind phase (k + 4)) (at ∙ ap (λ (k : ℕ). length old + k) (zeros_long (padding 4 place))) ∙ omega arith in (
      array_wrote endian old opened done new Z (zeros (padding alignment (behind phase (mark + 4)))) E mark (end - start) opens at is_done closed
          ∙ ap (λ (k : ℕ). old ++ (Z ++ (number_bytes endian w32 k ++ (zeros (padding alignment (behind phase (mark + 4))) ++ E)))) long
          ∙ ap (λ (p : ℕ). old ++ (Z ++ (number_bytes endian w32 (length E) ++ (zeros (padding alignment p) ++ E)))) four_at,
      true_both _ _ (subst (λ (p : ℕ). are_short endian vs p ≡ true) there short) (le-leb _ _ (subst (λ (k : ℕ). k ≤ array_limit) long fits)),
    )

-- ---- values one after the other

pub each_left : (t : Ty) (values : List Value) (i : ℕ) (each : Value) → i < length values → each ≡ get_or values i each → each_as t (drop i values) ≡ Vals.more (value_as t each) (each_as t (drop (i + 1) values))
each_left t values i each lt is =
    ap (each_as t) (drop-cons values i each lt) ∙ ap (λ (x : Value). each_as t (x ∷ drop (suc i) values)) (sym is) ∙ ap (λ (k : ℕ). Vals.more (value_as t each) (each_as t (drop k values))) (sym (add-one i))

pub all_left : (left : Tys) (first : Ty) (others : Tys) (values : List Value) (i : ℕ) (each : Value) → i < length values → each ≡ get_or values i each → left ≡ Tys.more first others
    → all_as left (drop i values) ≡ Vals.more (value_as first each) (all_as others (drop (i + 1) values))
all_left left first others values i each lt is parts =
    ap (λ (us : Tys). all_as us (drop i values)) parts ∙ ap (all_as (Tys.more first others)) (drop-cons values i each lt) ∙ ap (λ (x : Value). all_as (Tys.more first others) (x ∷ drop (suc i) values)) (sym is)
    ∙ ap (λ (k : ℕ). Vals.more (value_as first each) (all_as others (drop k values))) (sym (add-one i))

pub all_past : (left : Tys) (values : List Value) (i : ℕ) (each : Value) → i < length values → each ≡ get_or values i each → left ≡ Tys.end
    → all_as left (drop i values) ≡ Vals.more nothing (all_as left (drop (i + 1) values))
all_past left values i each lt is none =
    ap (λ (us : Tys). all_as us (drop i values)) none ∙ ap (all_as Tys.end) (drop-cons values i each lt)
    ∙ ap (λ (k : ℕ). Vals.more nothing (all_as Tys.end (drop k values))) (sym (add-one i)) ∙ ap (λ (us : Tys). Vals.more nothing (all_as us (drop (i + 1) values))) (sym none)

pub each_none : (t : Ty) (values : List Value) (i : ℕ) → length values ≤ i → each_as t (drop i values) ≡ Vals.end
each_none t values i le = ap (each_as t) (drop_of_length-le values le)

pub all_none : (ts : Tys) (values : List Value) (i : ℕ) → length values ≤ i → all_as ts (drop i values) ≡ Vals.end
all_none ts values i le = ap (all_as ts) (drop_of_length-le values le)

pub next_step : (endian : Endian) (phase : ℕ) (out new total : List ℕ) (test : Bool) (vs rest : Vals) (w : Val) → vs ≡ Vals.more w rest
    → new ≡ out ++ spelled endian w (behind phase (length out)) → is_short endian w (behind phase (length out)) ≡ true
    → (out ++ all_spelled endian vs (behind phase (length out)) ≡ total) × (are_short endian vs (behind phase (length out)) ≡ test)
    → (new ++ all_spelled endian rest (behind phase (length new)) ≡ total) × (are_short endian rest (behind phase (length new)) ≡ test)
next_step endian phase out new total test vs rest w parts written short before =
    let here = behind phase (length out) in
    let S = spelled endian w here in
    let there : behind phase (length new) ≡ behind here (length S) = ap (λ (l : List ℕ). behind phase (length l)) written ∙ behind_both phase out S in (
      ap (λ (p : ℕ). new ++ all_spelled endian rest p) there ∙ ap (λ (l : List ℕ). l ++ all_spelled endian rest (behind here (length S))) written ∙ append_assoc out S (all_spelled endian rest (behind here (length S)))
          ∙ ap (λ (us : Vals). out ++ all_spelled endian us here) (sym parts) ∙ before.0,
      ap (are_short endian rest) there ∙ ap (λ (b : Bool). b && are_short endian rest (behind here (length S))) (sym short) ∙ ap (λ (us : Vals). are_short endian us here) (sym parts) ∙ before.1,
    )

pub next_over : (endian : Endian) (phase : ℕ) (out total : List ℕ) (test : Bool) (vs : Vals) → vs ≡ Vals.end
    → (out ++ all_spelled endian vs (behind phase (length out)) ≡ total) × (are_short endian vs (behind phase (length out)) ≡ test) → (out ≡ total) × (test ≡ true)
next_over endian phase out total test vs none before = (
  sym (append-nil out) ∙ ap (λ (us : Vals). out ++ all_spelled endian us (behind phase (length out))) (sym none) ∙ before.0,
  sym before.1 ∙ ap (λ (us : Vals). are_short endian us (behind phase (length out))) none,
)
