-- What comes after prefixes, and after the texts of types.
use Rattle.std.proofs.Common.{◌≡◌, ℕ, suc, arith, rules, ◌+◌, ◌<◌, ◌==◌, Bool, true, false, List, [], ◌∷◌, ◌++◌, Option, Some, None, option_and_then, length, drop, get_or, refl, ap, ◌∙◌, sym, ◌&&◌, if◌then◌else◌}
use Rattle.std.specs.Str.{bytes_eq}
use Rattle.std.proofs.Math.Seq.{drop-cons}
use Rattle.dbus_types.specs.declared.complete_type.CompleteType.{CompleteType}
use Rattle.dbus_types.specs.Types.{text_of, texts_of}
use Rattle.dbus_types.specs.Views.{type_of, types_of}
use Rattle.call_arguments.specs.Fronts.{behind}

-- what follows a choice can be moved into its cases
chosen : {A B : Type 0} (test : Bool) (some : Option A) (go : A → Option B) → option_and_then go (if test then some else None) ≡ (if test then option_and_then go some else None)
chosen true some go = refl
chosen false some go = refl

-- a prefix of two parts
pub behind-append : (front more text : List ℕ) → behind (front ++ more) text ≡ option_and_then (behind more) (behind front text)
behind-append [] more text = refl
behind-append (code ∷ front) more [] = refl
behind-append (code ∷ front) more (first ∷ text) =
    ap (λ (rest : Option (List ℕ)). if code == first then rest else None) (behind-append front more text)
    ∙ sym (chosen (code == first) (behind front text) (behind more))

-- the text begins with the first part of a prefix
pub goes_on : (front more text rest : List ℕ) → Some rest ≡ behind front text → behind (front ++ more) text ≡ behind more rest
goes_on front more text rest is = behind-append front more text ∙ ap (option_and_then (behind more)) (sym is)

-- the text doesn't begin with the first part of a prefix
pub stops : (front more text : List ℕ) → None ≡ behind front text → behind (front ++ more) text ≡ None
stops front more text is = behind-append front more text ∙ ap (option_and_then (behind more)) (sym is)

-- there is nothing after the prefix
abbrev ends : Option (List ℕ) → Bool
ends None = false
ends (Some rest) = length rest == 0

ends-chosen : (test : Bool) (rest : Option (List ℕ)) → ends (if test then rest else None) ≡ (test && ends rest)
ends-chosen true rest = refl
ends-chosen false rest = refl

-- a text equals a prefix exactly if nothing comes after it
pub ends-behind : (front text : List ℕ) → ends (behind front text) ≡ bytes_eq front text
ends-behind [] [] = refl
ends-behind [] (first ∷ text) = search rules
ends-behind (code ∷ front) [] = refl
ends-behind (code ∷ front) (first ∷ text) =
    ends-chosen (code == first) (behind front text) ∙ ap (λ (same : Bool). (code == first) && same) (ends-behind front text)

pub whole : (front text rest : List ℕ) (is_empty : Bool) → is_empty ≡ (length rest == 0) → Some rest ≡ behind front text → is_empty ≡ bytes_eq front text
whole front text rest is_empty empty is = empty ∙ ap ends is ∙ ends-behind front text

pub none : (front text : List ℕ) → None ≡ behind front text → false ≡ bytes_eq front text
none front text is = ap ends is ∙ ends-behind front text

-- the types from one on are this type and those after it
pub types-from : (types : List CompleteType) (i : ℕ) (each : CompleteType) → i < length types → each ≡ get_or types i each
    → texts_of (types_of (drop i types)) ≡ text_of (type_of each) ++ texts_of (types_of (drop (i + 1) types))
types-from types i each within is =
    let next : suc i ≡ i + 1 = omega arith in
    ap (λ ts. texts_of (types_of ts)) (drop-cons types i each within ∙ ap (λ (t : CompleteType). t ∷ drop (suc i) types) (sym is) ∙ ap (λ k. each ∷ drop k types) next)
