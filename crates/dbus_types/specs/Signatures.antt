-- D-Bus Specification, "Type System", "Valid Signatures": how a signature is read, and its first fault from the left.
use Rattle.std.specs.Prelude.{ℕ, zero, suc, ◌==◌, nat_lt, List, [], ◌∷◌, length, Result, Ok, Err, ◌≡◌, if◌then◌else◌}
use Rattle.dbus_types.specs.declared.complete_type.BasicType.{BasicType}
use Rattle.dbus_types.specs.declared.complete_type.BasicType.TheVariants as basics
use Rattle.dbus_types.specs.declared.signature_reading.Lead.{Lead}
use Rattle.dbus_types.specs.declared.signature_reading.Lead.TheVariants as leads
use Rattle.dbus_types.specs.declared.signature.SignatureFault.{SignatureFault}
use Rattle.dbus_types.specs.declared.signature.SignatureFault.TheVariants.{BadType, TooDeep, TooLong, OutOfMemory}
use Rattle.dbus_types.specs.Types.{Ty, Tys, basic, variant, array, struct, entry, end, more, nesting_limit, signature_limit}

infixl 10 ◌>>=◌
-- the result of the next step, or the fault that came before it
abbrev pub ◌>>=◌ : {A B E : Type 0} → Result A E → (A → Result B E) → Result B E
(Ok x) >>= f = f x
(Err e) >>= f = Err e

-- the fault is the result of reading, unless memory ran out
abbrev pub Refuses : {Y : Type 0} → SignatureFault → Result Y SignatureFault → Type 0
Refuses BadType read = read ≡ Err BadType
Refuses TooDeep read = read ≡ Err TooDeep
Refuses TooLong read = read ≡ Err TooLong
Refuses OutOfMemory read = Unit {0}

-- what a function returned, seen by the view, is the result of reading, unless memory ran out
abbrev pub Reads : {X Y : Type 0} → (X → Y) → Result X SignatureFault → Result Y SignatureFault → Type 0
Reads view (Ok x) read = read ≡ Ok (view x)
Reads view (Err e) read = Refuses e read

-- what a type code begins
abbrev pub lead_of : ℕ → Lead
lead_of code =
    if code == 121 then leads.Basic basics.Byte else
    if code == 98 then leads.Basic basics.Boolean else
    if code == 110 then leads.Basic basics.Int16 else
    if code == 113 then leads.Basic basics.Uint16 else
    if code == 105 then leads.Basic basics.Int32 else
    if code == 117 then leads.Basic basics.Uint32 else
    if code == 120 then leads.Basic basics.Int64 else
    if code == 116 then leads.Basic basics.Uint64 else
    if code == 100 then leads.Basic basics.Double else
    if code == 104 then leads.Basic basics.UnixFd else
    if code == 115 then leads.Basic basics.String else
    if code == 111 then leads.Basic basics.ObjectPath else
    if code == 103 then leads.Basic basics.Signature else
    if code == 118 then leads.Variant else
    if code == 97 then leads.Array else
    if code == 40 then leads.Struct else leads.Other

-- a reader of types: what it read, and the codes after it
abbrev pub Reader : Type 0
Reader = List ℕ → Result (Ty × List ℕ) SignatureFault

-- an array or struct would be one too many here
abbrev pub too_deep : Reader
too_deep codes = Err TooDeep

-- a dict entry ends with its brace
unfoldable pub closed_by : BasicType → Ty → Reader
closed_by key t [] = Err BadType
closed_by key t (code ∷ codes) = if code == 125 then Ok (entry key t, codes) else Err BadType

-- a dict entry's key is a basic type
abbrev pub keyed_by : Reader → Lead → Reader
keyed_by read (leads.Basic key) codes = read codes >>= λ t. closed_by key t.0 t.1
keyed_by read leads.Variant codes = Err BadType
keyed_by read leads.Array codes = Err BadType
keyed_by read leads.Struct codes = Err BadType
keyed_by read leads.Other codes = Err BadType

-- a dict entry, after its opening brace
unfoldable pub entry_by : Reader → Reader
entry_by read [] = Err BadType
entry_by read (code ∷ codes) = keyed_by read (lead_of code) codes

-- the type of an array's elements
unfoldable pub element_by : Reader → Reader
element_by read [] = read []
element_by read (code ∷ codes) = if code == 123 then entry_by read codes else read (code ∷ codes)

-- an array, after its code
unfoldable pub array_by : Reader → Reader
array_by read codes = element_by read codes >>= λ t. Ok (array t.0, t.1)

-- The further fields of a struct, and its closing parenthesis. There are at most as many fields as codes.
unfoldable pub fields_by : Reader → ℕ → List ℕ → Result (Tys × List ℕ) SignatureFault
fields_by read zero codes = Err BadType
fields_by read (suc n) [] = Err BadType
fields_by read (suc n) (code ∷ codes) =
    if code == 41 then Ok (end, codes) else (read (code ∷ codes) >>= λ t. fields_by read n t.1 >>= λ ts. Ok (more t.0 ts.0, ts.1))

-- types after others
abbrev pub types_then : Tys → Tys → Tys
types_then end us = us
types_then (more t ts) us = more t (types_then ts us)

-- what is read after types that were read before
abbrev pub with_front : Tys → Result (Tys × List ℕ) SignatureFault → Result (Tys × List ℕ) SignatureFault
with_front front read = read >>= λ ts. Ok (types_then front ts.0, ts.1)

-- a struct, after its opening parenthesis: at least one field
unfoldable pub struct_by : Reader → Reader
struct_by read codes = read codes >>= λ t. fields_by read (length t.1) t.1 >>= λ ts. Ok (struct (more t.0 ts.0), ts.1)

-- a type, by what its first code begins
abbrev pub led_by : Reader → Reader → Lead → Reader
led_by of_array of_struct (leads.Basic b) codes = Ok (basic b, codes)
led_by of_array of_struct leads.Variant codes = Ok (variant, codes)
led_by of_array of_struct leads.Array codes = of_array codes
led_by of_array of_struct leads.Struct codes = of_struct codes
led_by of_array of_struct leads.Other codes = Err BadType

-- a type, by the readers of what is inside it
abbrev pub type_by : Reader → Reader → Reader
type_by of_array of_struct [] = Err BadType
type_by of_array of_struct (code ∷ codes) = led_by of_array of_struct (lead_of code) codes

-- a type in which at most this many structs are open at once
abbrev pub nested_by : (ℕ → Reader) → ℕ → Reader
nested_by of_array zero codes = type_by (of_array zero) too_deep codes
nested_by of_array (suc structs) codes = type_by (of_array (suc structs)) (struct_by (nested_by of_array structs)) codes

-- a type in which at most this many arrays, and this many structs, are open at once
unfoldable pub type_at : ℕ → ℕ → Reader
type_at zero structs codes = nested_by (λ s. too_deep) structs codes
type_at (suc arrays) structs codes = nested_by (λ s. array_by (type_at arrays s)) structs codes

-- types up to the end of the codes, at most as many as there are codes
unfoldable pub types_by : Reader → ℕ → List ℕ → Result Tys SignatureFault
types_by read n [] = Ok end
types_by read zero (code ∷ codes) = Err BadType
types_by read (suc n) (code ∷ codes) = read (code ∷ codes) >>= λ t. types_by read n t.1 >>= λ ts. Ok (more t.0 ts)

-- what is read after types that were read before
abbrev pub types_behind : Tys → Result Tys SignatureFault → Result Tys SignatureFault
types_behind front read = read >>= λ ts. Ok (types_then front ts)

-- The types that a signature lists. TooLong comes first, then the first fault from the left.
unfoldable pub signature_at : List ℕ → Result Tys SignatureFault
signature_at codes = if nat_lt signature_limit (length codes) then Err TooLong else types_by (type_at nesting_limit nesting_limit) (length codes) codes
