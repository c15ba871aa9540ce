-- What the types of a call's arguments guarantee: the facts have one proof at most, and say what the types of items say.
use Rattle.std.proofs.Common.{◌≡◌, ℕ, Bool, true, List, [], ◌∷◌}
use Rattle.std.proofs.Props.{props}
use Rattle.std.specs.Coded.{le_prop, →_prop}
use Rattle.std.specs.List.{AllByRecursion, AllByRecursion-prop}
use Rattle.std.specs.Cmp.Lexicographic.{slice_cmp}
use Rattle.std.specs.Map.{keys_of}
use Rattle.std.specs.Ordering.{nat_cmp}
use Rattle.std.specs.Str.{is_utf8}
use Rattle.std.proofs.lemmas.Map.Keys.{IsStrictlySortedBy-prop}
use Rattle.std.proofs.lemmas.Str.{IsUtf8-from_is_utf8, is_utf8-from_IsUtf8}
use Rattle.kr_base.specs.Text.{IsText}
use Rattle.kr_base.specs.declared.attributes.AttrValue.{AttrValue}
use Rattle.kr_base.specs.declared.attributes.AttrValue.TheVariants as value
use Rattle.kr_names.specs.Naming.{is_alias}
use Rattle.keyring_text.specs.Fields.{IsBytes}
use Rattle.keyring_file.specs.Known.{IsKnownPair, IsKnownValue}
use Rattle.service_tables.specs.Sound.{AreAttributeTypes, AreItemTypes, AreSecretTypes, IsTypedAlias, IsTypedPair, IsTypedText, IsTypedValue}

-- ---- to the types of items, and from them

pub text-known : (bytes : List ℕ) → IsTypedText bytes → IsText bytes
text-known bytes typed = record { utf8 = IsUtf8-from_is_utf8 bytes typed.utf8; no_zero = typed.no_zero }

pub text-typed : (bytes : List ℕ) → IsText bytes → IsTypedText bytes
text-typed bytes known = record { utf8 = is_utf8-from_IsUtf8 bytes known.utf8; no_zero = known.no_zero }

value-known : (v : AttrValue) → IsTypedValue v → IsKnownValue v
value-known (value.Text text) typed = text-known text typed
value-known (value.Number n) typed = typed

value-typed : (v : AttrValue) → IsKnownValue v → IsTypedValue v
value-typed (value.Text text) known = text-typed text known
value-typed (value.Number n) known = known

pub pairs-known : (pairs : List (List ℕ × AttrValue)) → AllByRecursion IsTypedPair pairs → AllByRecursion IsKnownPair pairs
pairs-known [] all = tt
pairs-known (pair ∷ pairs) all = (record { name = text-known pair.0 all.0.name; value = value-known pair.1 all.0.value }, pairs-known pairs all.1)

pub pairs-typed : (pairs : List (List ℕ × AttrValue)) → AllByRecursion IsKnownPair pairs → AllByRecursion IsTypedPair pairs
pairs-typed [] all = tt
pairs-typed (pair ∷ pairs) all = (record { name = text-typed pair.0 all.0.name; value = value-typed pair.1 all.0.value }, pairs-typed pairs all.1)

-- ---- one proof at most

bool-prop : (b : Bool) → IsProp (b ≡ true)
bool-prop b = Prim.hlevel props

pub text-prop : (bytes : List ℕ) → IsProp (IsTypedText bytes)
text-prop bytes one other = λ i. record { utf8 = bool-prop (is_utf8 bytes) one.utf8 other.utf8 i; no_zero = →_prop (λ e. absurd e) one.no_zero other.no_zero i }

value-prop : (v : AttrValue) → IsProp (IsTypedValue v)
value-prop (value.Text text) = text-prop text
value-prop (value.Number n) = λ one other. le_prop one other

pair-prop : (pair : List ℕ × AttrValue) → IsProp (IsTypedPair pair)
pair-prop pair one other = λ i. record { name = text-prop pair.0 one.name other.name i; value = value-prop pair.1 one.value other.value i }

pub alias-prop : (alias : List ℕ) → IsProp (IsTypedAlias alias)
alias-prop alias = bool-prop (is_alias alias)

pub item-prop : (label : List ℕ) (attributes : List (List ℕ × AttrValue)) → IsProp (AreItemTypes label attributes)
item-prop label attributes one other = λ i. record {
  label = text-prop label one.label other.label i;
  ordered = IsStrictlySortedBy-prop (slice_cmp nat_cmp) (keys_of attributes) one.ordered other.ordered i;
  attributes = AllByRecursion-prop IsTypedPair pair-prop attributes one.attributes other.attributes i;
}

pub attributes-prop : (attributes : List (List ℕ × AttrValue)) → IsProp (AreAttributeTypes attributes)
attributes-prop attributes one other = λ i. record {
  ordered = IsStrictlySortedBy-prop (slice_cmp nat_cmp) (keys_of attributes) one.ordered other.ordered i;
  attributes = AllByRecursion-prop IsTypedPair pair-prop attributes one.attributes other.attributes i;
}

bytes-prop : (bytes : List ℕ) → IsProp (IsBytes bytes)
bytes-prop bytes one other = λ i n. le_prop (one n) (other n) i

pub secret-prop : (given content : List ℕ) → IsProp (AreSecretTypes given content)
secret-prop given content one other = λ i. record {
  value = bytes-prop given one.value other.value i;
  content = text-prop content one.content other.content i;
}
