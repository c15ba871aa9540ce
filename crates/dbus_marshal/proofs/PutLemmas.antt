-- Values that are put one after the other are spelled.
use Rattle.std.proofs.Common.{◌≡◌, ℕ, ◌+◌, ◌%◌, ◌<◌, List, [], ◌∷◌, ◌++◌, length, replicate, refl, sym, ◌∙◌, ap, arith, length-append, append_assoc, append-nil}
use Rattle.std.specs.Int.{w32, w64}
use Rattle.dbus_types.specs.declared.complete_type.BasicType.TheVariants as basics
use Rattle.dbus_types.specs.declared.endian.Endian.TheVariants.{Little}
use Rattle.dbus_types.specs.Types.{Ty, text_of}
use Rattle.dbus_types.specs.Values.{Val, Vals, ty_of}
use Rattle.dbus_marshal.specs.Wire.{alignment_of, padding, behind, start_of, zeros, number_bytes}
use Rattle.dbus_marshal.specs.Spelling.{aligned, text_spelled, first_at, spelled, all_spelled}
use Rattle.dbus_marshal.specs.Putting.{padded, put, puts, signed, opened, elements_long}
use Rattle.dbus_marshal.proofs.Taking.{wide32}
use Rattle.dbus_marshal.proofs.WritingLemmas.{zeros_long, text_bare, text_wrote, number_mod32, bytes_array}

-- ---- positions

-- the position after more bytes
pub place-append : (before more : List ℕ) → length (before ++ more) % 8 ≡ behind (length before % 8) (length more)
place-append before more = ap (λ n. n % 8) (length-append before more) ∙ omega arith

pub place-padded : (alignment : ℕ) (before : List ℕ) → length (padded alignment before) % 8 ≡ start_of alignment (length before % 8)
place-padded alignment before =
    place-append before (zeros (padding alignment (length before % 8))) ∙ ap (behind (length before % 8)) (zeros_long (padding alignment (length before % 8)))

pub place-opened : (alignment count : ℕ) (before : List ℕ) → length (opened alignment count before) % 8 ≡ first_at alignment (length before % 8)
unfolding opened
place-opened alignment count before =
    let N = number_bytes Little w32 count in
    place-padded alignment (padded 4 before ++ N)
    ∙ ap (start_of alignment) (place-append (padded 4 before) N ∙ ap (behind (length (padded 4 before) % 8)) (wide32.len Little count) ∙ ap (λ p. behind p 4) (place-padded 4 before))

-- ---- values

pub puts_all : (before : List ℕ) (vs : Vals) → puts before vs ≡ before ++ all_spelled Little vs (length before % 8)
unfolding put
puts_all before Vals.end = sym (append-nil before)
puts_all before (Vals.more v vs) =
    let bytes = spelled Little v (length before % 8) in
    puts_all (before ++ bytes) vs
    ∙ ap (λ p. (before ++ bytes) ++ all_spelled Little vs p) (place-append before bytes)
    ∙ append_assoc before bytes (all_spelled Little vs (behind (length before % 8) (length bytes)))

-- values at a known position
pub puts_at : (before : List ℕ) (vs : Vals) (place : ℕ) → length before % 8 ≡ place → puts before vs ≡ before ++ all_spelled Little vs place
puts_at before vs place is = puts_all before vs ∙ ap (λ p. before ++ all_spelled Little vs p) is

pub byte_put : (before : List ℕ) (n : ℕ) → n < 256 → before ++ n ∷ [] ≡ put before (Val.number basics.Byte n)
unfolding put number_bytes
byte_put before n small =
    let none : padding 1 (length before % 8) ≡ 0 = omega arith in
    let same : n ≡ n % 256 = omega (arith, small) in
    ap (λ k. before ++ k ∷ []) same ∙ ap (λ k. before ++ (zeros k ++ n % 256 ∷ [])) (sym none)

pub word_put : (before : List ℕ) (n : ℕ) → padded 4 before ++ number_bytes Little w32 n ≡ put before (Val.number basics.Uint32 n)
unfolding put
word_put before n = append_assoc before (zeros (padding 4 (length before % 8))) (number_bytes Little w32 n)

pub long_put : (before : List ℕ) (n : ℕ) → padded 8 before ++ number_bytes Little w64 n ≡ put before (Val.number basics.Uint64 n)
unfolding put
long_put before n = append_assoc before (zeros (padding 8 (length before % 8))) (number_bytes Little w64 n)

-- the lower bits of a length are written
length_put : (before text : List ℕ) → put before (Val.number basics.Uint32 (length text % 4294967296)) ≡ before ++ aligned 4 (length before % 8) (number_bytes Little w32 (length text % 4294967296))
unfolding put
length_put before text = refl

pub text_put : (before text : List ℕ) → (put before (Val.number basics.Uint32 (length text % 4294967296)) ++ text) ++ 0 ∷ [] ≡ put before (Val.text basics.String text)
unfolding put
text_put before text =
    let one = put before (Val.number basics.Uint32 (length text % 4294967296)) in
    text_wrote Little before one (one ++ text) ((one ++ text) ++ 0 ∷ []) text (length before % 8) (length_put before text) refl refl

pub path_put : (before text : List ℕ) → (put before (Val.number basics.Uint32 (length text % 4294967296)) ++ text) ++ 0 ∷ [] ≡ put before (Val.text basics.ObjectPath text)
unfolding put
path_put before text = text_put before text

pub long_path_put : (before front back : List ℕ)
    → ((put before (Val.number basics.Uint32 ((length front + length back) % 4294967296)) ++ front) ++ back) ++ 0 ∷ [] ≡ put before (Val.text basics.ObjectPath (front ++ back))
long_path_put before front back =
    let after : ℕ → List ℕ = λ n. put before (Val.number basics.Uint32 (n % 4294967296)) in
    ap (λ n. ((after n ++ front) ++ back) ++ 0 ∷ []) (sym (length-append front back))
    ∙ ap (λ (x : List ℕ). x ++ 0 ∷ []) (append_assoc (after (length (front ++ back))) front back)
    ∙ path_put before (front ++ back)

pub bytes_put : (before bytes : List ℕ) → put before (Val.number basics.Uint32 (length bytes % 4294967296)) ++ bytes ≡ put before (Val.bytes bytes)
unfolding put
bytes_put before bytes =
    let Z = zeros (padding 4 (length before % 8)) in
    ap (λ (n : List ℕ). (before ++ (Z ++ n)) ++ bytes) (number_mod32 Little (length bytes))
    ∙ append_assoc before (Z ++ number_bytes Little w32 (length bytes)) bytes
    ∙ ap (λ (x : List ℕ). before ++ x) (sym (bytes_array Little bytes (length before % 8)))

pub signature_put : (before text : List ℕ) → ((before ++ length text % 256 ∷ []) ++ text) ++ 0 ∷ [] ≡ signed text before
unfolding signed number_bytes
signature_put before text =
    append_assoc (before ++ length text % 256 ∷ []) text (0 ∷ []) ∙ append_assoc before (length text % 256 ∷ []) (text ++ 0 ∷ [])
    ∙ ap (λ (x : List ℕ). before ++ x) (sym (text_bare Little text (length before % 8)))

pub signature_value : (before text : List ℕ) → signed text before ≡ put before (Val.text basics.Signature text)
unfolding signed put
signature_value before text = refl

pub variant_put : (before : List ℕ) (v : Val) → put (signed (text_of (ty_of v)) before) v ≡ put before (Val.variant v)
unfolding signed put
variant_put before v =
    let S = text_spelled Little basics.Signature (text_of (ty_of v)) (length before % 8) in
    ap (λ p. (before ++ S) ++ spelled Little v p) (place-append before S)
    ∙ append_assoc before S (spelled Little v (behind (length before % 8) (length S)))

pub struct_put : (before : List ℕ) (vs : Vals) → puts (padded 8 before) vs ≡ put before (Val.struct vs)
unfolding put
struct_put before vs =
    let Z = zeros (padding 8 (length before % 8)) in
    puts_at (padded 8 before) vs (start_of 8 (length before % 8)) (place-padded 8 before)
    ∙ append_assoc before Z (all_spelled Little vs (start_of 8 (length before % 8)))

pub struct_of_2 : (before : List ℕ) (a b : Val) → put (put (padded 8 before) a) b ≡ put before (Val.struct (Vals.more a (Vals.more b Vals.end)))
struct_of_2 before a b = struct_put before (Vals.more a (Vals.more b Vals.end))

pub struct_of_3 : (before : List ℕ) (a b c : Val) → put (put (put (padded 8 before) a) b) c ≡ put before (Val.struct (Vals.more a (Vals.more b (Vals.more c Vals.end))))
struct_of_3 before a b c = struct_put before (Vals.more a (Vals.more b (Vals.more c Vals.end)))

pub struct_of_4 : (before : List ℕ) (a b c d : Val) → put (put (put (put (padded 8 before) a) b) c) d ≡ put before (Val.struct (Vals.more a (Vals.more b (Vals.more c (Vals.more d Vals.end)))))
struct_of_4 before a b c d = struct_put before (Vals.more a (Vals.more b (Vals.more c (Vals.more d Vals.end))))

pub entry_put : (before : List ℕ) (key v : Val) → put (put (padded 8 before) key) v ≡ put before (Val.entry key v)
unfolding put
entry_put before key v =
    let P = start_of 8 (length before % 8) in
    let K = spelled Little key P in
    let V = spelled Little v (behind P (length K)) in
    struct_of_2 before key v
    ∙ ap (λ (x : List ℕ). before ++ (zeros (padding 8 (length before % 8)) ++ (K ++ x))) (append-nil V)

-- ---- arrays

-- the lower bits of a length are written
pub opened_put : (alignment count long : ℕ) (before : List ℕ) → count ≡ long % 4294967296 → padded alignment (put before (Val.number basics.Uint32 count)) ≡ opened alignment long before
unfolding put opened
opened_put alignment count long before is =
    let Z = zeros (padding 4 (length before % 8)) in
    ap (λ n. padded alignment (before ++ (Z ++ number_bytes Little w32 n))) is
    ∙ ap (λ (n : List ℕ). padded alignment (before ++ (Z ++ n))) (number_mod32 Little long)
    ∙ ap (padded alignment) (sym (append_assoc before Z (number_bytes Little w32 long)))

-- values put into a counter as if it were at a position
pub puts_from : (first place : ℕ) (vs : Vals) → first < 8 → first ≡ place → puts (replicate first 0) vs ≡ replicate first 0 ++ all_spelled Little vs place
puts_from first place vs below is =
    puts_at (replicate first 0) vs place (ap (λ n. n % 8) (zeros_long first) ∙ omega (arith, below, is))

pub array_put : (before : List ℕ) (t : Ty) (vs : Vals) → puts (opened (alignment_of t) (elements_long (alignment_of t) before vs) before) vs ≡ put before (Val.array t vs)
unfolding put opened
array_put before t vs =
    let A = alignment_of t in
    let p = length before % 8 in
    let count = elements_long A before vs in
    let Z = zeros (padding 4 p) in
    let N = number_bytes Little w32 count in
    let there : length (padded 4 before ++ N) % 8 ≡ behind (start_of 4 p) 4 =
    place-append (padded 4 before) N ∙ ap (behind (length (padded 4 before) % 8)) (wide32.len Little count) ∙ ap (λ q. behind q 4) (place-padded 4 before) in
    let Y = zeros (padding A (behind (start_of 4 p) 4)) in
    let E = all_spelled Little vs (first_at A p) in
    puts_at (opened A count before) vs (first_at A p) (place-opened A count before)
    ∙ ap (λ q. ((padded 4 before ++ N) ++ zeros (padding A q)) ++ E) there
    ∙ append_assoc (padded 4 before ++ N) Y E ∙ append_assoc (before ++ Z) N (Y ++ E) ∙ append_assoc before Z (N ++ (Y ++ E))

-- the same if the alignment is a number of the program
pub array_put_at : (alignment : ℕ) (t : Ty) (vs : Vals) (before : List ℕ) → alignment ≡ alignment_of t
    → puts (opened alignment (elements_long alignment before vs) before) vs ≡ put before (Val.array t vs)
array_put_at alignment t vs before is = rw is (array_put before t vs)
