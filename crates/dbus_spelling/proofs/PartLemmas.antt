-- What is made from parts.
use Rattle.std.proofs.Common.{◌≡◌, ℕ, ◌%◌, ◌<◌, true, append_assoc, List, [], ◌∷◌, ◌++◌, length, refl, sym, ap, ◌∙◌, arith}
use Rattle.std.specs.Int.{w8, w32}
use Rattle.dbus_types.specs.declared.complete_type.BasicType.TheVariants as basics
use Rattle.dbus_types.specs.declared.endian.Endian.{Endian}
use Rattle.dbus_types.specs.declared.endian.Endian.TheVariants.{Little, Big}
use Rattle.std.proofs.Common.{Result, Ok, Err, Vec, Global}
use Rattle.std.specs.Prelude.{IfOk}
use Rattle.std.specs.declared.alloc.AllocError.{AllocError}
use Rattle.dbus_types.specs.declared.value.Value.{Value}
use Rattle.dbus_types.specs.Types.{Ty, text_of}
use Rattle.dbus_types.specs.ValueViews.{value_of, value_as, in_variant}
use Rattle.dbus_types.specs.Known.{is_variant}
use Rattle.dbus_types.specs.Values.{Val, Vals, ty_of}
use Rattle.dbus_marshal.proofs.WritingLemmas.{behind_both, variant_yes}
use Rattle.dbus_marshal.specs.Spelling.{spelled, all_spelled}
use Rattle.dbus_marshal.specs.Wire.{alignment_of, behind, start_of, number_bytes}
use Rattle.dbus_marshal.specs.Spelling.{aligned, text_spelled, array_spelled}

four : {a b c d e f g h : ℕ} → a ≡ e → b ≡ f → c ≡ g → d ≡ h → a ∷ b ∷ c ∷ d ∷ [] ≡ e ∷ f ∷ g ∷ h ∷ []
four {a} {b} {c} {d} {e} {f} {g} {h} p q r s = rw (p, q, r, s) refl

number_mod8 : (endian : Endian) (n : ℕ) → number_bytes endian w8 (n % 256) ≡ number_bytes endian w8 n
unfolding number_bytes
number_mod8 Little n = let same : n % 256 % 256 ≡ n % 256 = omega arith in ap (λ (k : ℕ). k ∷ []) same
number_mod8 Big n = let same : n % 256 % 256 ≡ n % 256 = omega arith in ap (λ (k : ℕ). k ∷ []) same

number_mod32 : (endian : Endian) (n : ℕ) → number_bytes endian w32 (n % 4294967296) ≡ number_bytes endian w32 n
unfolding number_bytes
number_mod32 Little n = four (omega arith) (omega arith) (omega arith) (omega arith)
number_mod32 Big n = four (omega arith) (omega arith) (omega arith) (omega arith)

pub text_made : (endian : Endian) (bytes count ended whole made sc se sw : List ℕ) (place : ℕ) → count ≡ number_bytes endian w32 (length bytes % 4294967296) → ended ≡ bytes ++ 0 ∷ [] → sc ≡ count → se ≡ ended
    → whole ≡ sc ++ se → sw ≡ whole → made ≡ aligned 4 place sw → made ≡ text_spelled endian basics.String bytes place
text_made endian bytes count ended whole made sc se sw place is_count is_ended is_sc is_se is_whole is_sw is =
    is ∙ ap (aligned 4 place) (is_sw ∙ is_whole ∙ ap (λ (l : List ℕ). l ++ se) (is_sc ∙ is_count ∙ number_mod32 endian (length bytes)) ∙ ap (λ (l : List ℕ). number_bytes endian w32 (length bytes) ++ l) (is_se ∙ is_ended))

pub signature_made : (endian : Endian) (bytes count ended whole made sc se sw : List ℕ) (place : ℕ) → count ≡ number_bytes endian w8 (length bytes % 256) → ended ≡ bytes ++ 0 ∷ [] → sc ≡ count → se ≡ ended
    → whole ≡ sc ++ se → sw ≡ whole → made ≡ aligned 1 place sw → made ≡ text_spelled endian basics.Signature bytes place
signature_made endian bytes count ended whole made sc se sw place is_count is_ended is_sc is_se is_whole is_sw is =
    is ∙ ap (aligned 1 place) (is_sw ∙ is_whole ∙ ap (λ (l : List ℕ). l ++ se) (is_sc ∙ is_count ∙ number_mod8 endian (length bytes)) ∙ ap (λ (l : List ℕ). number_bytes endian w8 (length bytes) ++ l) (is_se ∙ is_ended))

pub array_made : (endian : Endian) (alignment place first start : ℕ) (elements inner count whole made sc si sw : List ℕ) → start ≡ start_of 4 place → first ≡ behind start 4
    → inner ≡ aligned alignment first elements → count ≡ number_bytes endian w32 (length elements % 4294967296) → sc ≡ count → si ≡ inner → whole ≡ sc ++ si → sw ≡ whole
    → made ≡ aligned 4 place sw → made ≡ array_spelled endian alignment place elements
array_made endian alignment place first start elements inner count whole made sc si sw is_start is_first is_inner is_count is_sc is_si is_whole is_sw is =
    is ∙ ap (aligned 4 place) (is_sw ∙ is_whole ∙ ap (λ (l : List ℕ). l ++ si) (is_sc ∙ is_count ∙ number_mod32 endian (length elements))
    ∙ ap (λ (l : List ℕ). number_bytes endian w32 (length elements) ++ l) (is_si ∙ is_inner ∙ ap (λ (p : ℕ). aligned alignment p elements) (is_first ∙ ap (λ (p : ℕ). behind p 4) is_start)))

-- a result that is passed on
pub handed : (result : Result (Vec ℕ Global) AllocError) (xs ys : List ℕ) → xs ≡ ys → IfOk result (λ made. made.items ≡ xs) → IfOk result (λ made. made.items ≡ ys)
handed (Ok made) xs ys same is = is ∙ same
handed (Err e) xs ys same is = tt

pub array_value : (endian : Endian) (place : ℕ) (t : Ty) (vs : Vals) (around four first start : ℕ) (elements slice : List ℕ) → around ≡ alignment_of t → start ≡ start_of 4 place → four ≡ behind start 4 → first ≡ start_of around four
    → elements ≡ all_spelled endian vs first → slice ≡ elements → array_spelled endian around place slice ≡ spelled endian (Val.array t vs) place
array_value endian place t vs around four first start elements slice is_around is_start is_four is_first is_elements is_slice =
    ap (λ (n : ℕ). array_spelled endian n place slice) is_around
    ∙ ap (array_spelled endian (alignment_of t) place)
    (is_slice ∙ is_elements ∙ ap (all_spelled endian vs) (is_first ∙ ap (λ (n : ℕ). start_of n four) is_around ∙ ap (start_of (alignment_of t)) (is_four ∙ ap (λ (p : ℕ). behind p 4) is_start)))

pub struct_value : (endian : Endian) (place : ℕ) (vs : Vals) (start : ℕ) (inner slice made : List ℕ) → start ≡ start_of 8 place → inner ≡ all_spelled endian vs start → slice ≡ inner → made ≡ aligned 8 place slice
    → made ≡ spelled endian (Val.struct vs) place
struct_value endian place vs start inner slice made is_start is_inner is_slice is = is ∙ ap (aligned 8 place) (is_slice ∙ is_inner ∙ ap (all_spelled endian vs) is_start)

pub variant_value : (endian : Endian) (place : ℕ) (known : Ty) (value : Value) (types listed front fronts rest rests made : List ℕ) (n at : ℕ) → is_variant known ≡ true → types ≡ text_of (ty_of (value_of value)) → listed ≡ types
    → front ≡ text_spelled endian basics.Signature listed place → n ≡ length front → at ≡ behind place n → rest ≡ spelled endian (value_as known value) at → fronts ≡ front → rests ≡ rest → made ≡ fronts ++ rests
    → made ≡ spelled endian (in_variant known (value_of value)) place
variant_value endian place known value types listed front fronts rest rests made n at known_variant is_types is_listed is_front is_n is_at is_rest is_fronts is_rests is =
    let same = variant_yes known known_variant in
    let F = text_spelled endian basics.Signature (text_of (ty_of (value_of value))) place in
    let front_is : front ≡ F = is_front ∙ ap (λ (l : List ℕ). text_spelled endian basics.Signature l place) (is_listed ∙ is_types) in
    let rest_is : rest ≡ spelled endian (value_of value) (behind place (length F)) =
    is_rest ∙ ap (λ (k : Ty). spelled endian (value_as k value) at) same ∙ ap (spelled endian (value_of value)) (is_at ∙ ap (behind place) (is_n ∙ ap length front_is)) in
    is ∙ ap (λ (l : List ℕ). l ++ rests) (is_fronts ∙ front_is) ∙ ap (λ (l : List ℕ). F ++ l) (is_rests ∙ rest_is) ∙ ap (λ (k : Ty). spelled endian (in_variant k (value_of value)) place) (sym same)

pub entry_value : (endian : Endian) (place : ℕ) (key value : Val) (held known : Ty) (start n at : ℕ) (k ks rest rests inner inners made : List ℕ) (x : Value) → value ≡ value_as known x → held ≡ known → start ≡ start_of 8 place → k ≡ spelled endian key start
    → n ≡ length k → at ≡ behind start n → rest ≡ spelled endian (value_as held x) at → ks ≡ k → rests ≡ rest → inner ≡ ks ++ rests → inners ≡ inner → made ≡ aligned 8 place inners → made ≡ spelled endian (Val.entry key value) place
entry_value endian place key value held known start n at k ks rest rests inner inners made x is_value is_held is_start is_k is_n is_at is_rest is_ks is_rests is_inner is_inners is =
    let K = spelled endian key (start_of 8 place) in
    let k_is : k ≡ K = is_k ∙ ap (spelled endian key) is_start in
    let at_is : at ≡ behind (start_of 8 place) (length K) = is_at ∙ ap (λ (p : ℕ). behind p n) is_start ∙ ap (behind (start_of 8 place)) (is_n ∙ ap length k_is) in
    let rest_is : rest ≡ spelled endian value (behind (start_of 8 place) (length K)) =
    is_rest ∙ ap (λ (t : Ty). spelled endian (value_as t x) at) is_held ∙ ap (λ (v : Val). spelled endian v at) (sym is_value) ∙ ap (spelled endian value) at_is in
    is ∙ ap (aligned 8 place) (is_inners ∙ is_inner ∙ ap (λ (l : List ℕ). l ++ rests) (is_ks ∙ k_is) ∙ ap (λ (l : List ℕ). K ++ l) (is_rests ∙ rest_is))

-- values after others
pub next_made : (endian : Endian) (place : ℕ) (made next slice new total : List ℕ) (n at : ℕ) (w : Val) (vs rest : Vals) → place < 8 → vs ≡ Vals.more w rest → n ≡ length made → at ≡ behind place n → next ≡ spelled endian w at → slice ≡ next → new ≡ made ++ slice
    → made ++ all_spelled endian vs (behind place (length made)) ≡ total → new ++ all_spelled endian rest (behind place (length new)) ≡ total
next_made endian place made next slice new total n at w vs rest below parts is_n is_at is_next is_slice is before =
    let here = behind place (length made) in
    let S = spelled endian w here in
    let written : new ≡ made ++ S = is ∙ ap (λ (l : List ℕ). made ++ l) (is_slice ∙ is_next ∙ ap (spelled endian w) (is_at ∙ ap (behind place) is_n)) in
    let there : behind place (length new) ≡ behind here (length S) = ap (λ (l : List ℕ). behind place (length l)) written ∙ behind_both place made S in
    ap (λ (p : ℕ). new ++ all_spelled endian rest p) there ∙ ap (λ (l : List ℕ). l ++ all_spelled endian rest (behind here (length S))) written ∙ append_assoc made S (all_spelled endian rest (behind here (length S)))
    ∙ ap (λ (us : Vals). made ++ all_spelled endian us here) (sym parts) ∙ before

-- codes around the texts of a struct's fields
pub struct_text : (text inner ended made si se : List ℕ) → inner ≡ text → si ≡ inner → ended ≡ si ++ 41 ∷ [] → se ≡ ended → made ≡ (40 ∷ []) ++ se → made ≡ 40 ∷ (text ++ 41 ∷ [])
struct_text text inner ended made si se is_inner is_si is_ended is_se is = is ∙ ap (λ (l : List ℕ). 40 ∷ l) (is_se ∙ is_ended ∙ ap (λ (l : List ℕ). l ++ 41 ∷ []) (is_si ∙ is_inner))
