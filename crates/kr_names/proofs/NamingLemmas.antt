-- Names: the tests decide the facts, and `name_of_path` returns the name with this path.
use Rattle.std.proofs.Common.{◌≡◌, ℕ, ◌^◌, ◌≤◌, ◌<◌, ◌&&◌, nat_eq, nat_le, Bool, true, false, IsTrue, List, length, Option, Some, None, if◌then◌else◌, refl, sym, ◌∙◌, ap, arith}
use Rattle.std.specs.Bool.{Decides}
use Rattle.std.specs.Cmp.{nat_eq_equiv}
use Rattle.std.specs.Cmp.Lexicographic.{bytes_decides}
use Rattle.std.specs.List.{Contains, list_all, list_any}
use Rattle.std.specs.Str.{bytes_eq}
use Rattle.std.proofs.lemmas.Bool.{eqb-true}
use Rattle.std.proofs.lemmas.Bool.Decides.{nat_tests, Decides-like, Decides-not, Decides-and, Decides-ltb, Decides-by_and}
use Rattle.std.proofs.lemmas.Map.Views.{Contains-from_any, list_any-from_Contains}
use Rattle.std.proofs.lemmas.Str.{IsUtf8-from_is_utf8, is_utf8-from_IsUtf8}
use Rattle.kr_base.specs.Stem.{stem_limit, IsStem}
use Rattle.kr_names.specs.declared.object_name.ObjectName.{ObjectName}
use Rattle.kr_names.specs.declared.object_name.ObjectName.TheVariants.{Nothing, Service, Agent, Collection, Item, Alias, Session, Prompt}
use Rattle.kr_names.specs.Escape.{is_path_byte}
use Rattle.kr_names.specs.Path.{alias_limit, path_text, IsAliasName, IsName, IsPathOf}
use Rattle.kr_names.specs.Naming.{is_stem, is_alias, is_number, is_name, name_at, name_of_path}
use Rattle.kr_names.specs.Reads.{Reads}
use Rattle.kr_names.proofs.NameLemmas.{name_back}

le_Decides : (a b : ℕ) → Decides (nat_le a b) (a ≤ b)
le_Decides a b = (λ e. grind (arith, nat_tests), λ le. grind (arith, nat_tests))

has_Decides : (byte : ℕ) (bytes : List ℕ) → Decides (list_any (nat_eq byte) bytes) (Contains bytes byte)
has_Decides byte bytes = (Contains-from_any (λ x y same. eqb-true x y same) byte bytes, list_any-from_Contains nat_eq_equiv byte bytes)

stem_Decides : (bytes : List ℕ) → Decides (is_stem bytes) (IsStem bytes)
stem_Decides bytes =
    Decides-like (is_stem bytes)
    (λ h. record { text = record { utf8 = h.0; no_zero = h.1.0 }; some = h.1.1.0; fits = h.1.1.1.0; no_slash = h.1.1.1.1 })
    (λ is. (is.text.utf8, (is.text.no_zero, (is.some, (is.fits, is.no_slash)))))
    (Decides-and _ _ (λ e. IsUtf8-from_is_utf8 bytes e, λ is. is_utf8-from_IsUtf8 bytes is)
    (Decides-and _ _ (Decides-not _ (has_Decides 0 bytes))
    (Decides-and _ _ (Decides-ltb 0 (length bytes)) (Decides-and _ _ (le_Decides (length bytes) stem_limit) (Decides-not _ (has_Decides 47 bytes))))))

alias_Decides : (bytes : List ℕ) → Decides (is_alias bytes) (IsAliasName bytes)
alias_Decides bytes =
    Decides-like (is_alias bytes)
    (λ h. record { some = h.0; fits = h.1.0; bytes = h.1.1 })
    (λ is. (is.some, (is.fits, is.bytes)))
    (Decides-and _ _ (Decides-ltb 0 (length bytes))
    (Decides-and _ _ (le_Decides (length bytes) alias_limit)
    (Decides-by_and is_path_byte (λ byte. IsTrue (is_path_byte byte)) (list_all is_path_byte) (λ byte. (λ e. e, λ e. e)) refl (λ x xs. refl) bytes)))

number_Decides : (n : ℕ) → Decides (is_number n) ((0 < n) × (n < 2 ^ 64))
number_Decides n = Decides-and _ _ (Decides-ltb 0 n) (Decides-ltb n (2 ^ 64))

name_Decides : (name : ObjectName) → Decides (is_name name) (IsName name)
name_Decides Nothing = (λ _. tt, λ _. refl)
name_Decides Service = (λ _. tt, λ _. refl)
name_Decides Agent = (λ _. tt, λ _. refl)
name_Decides (Collection stem) = stem_Decides stem
name_Decides (Item stem item) = Decides-and _ _ (stem_Decides stem) (Decides-ltb item.0 (2 ^ 32))
name_Decides (Alias alias) = alias_Decides alias
name_Decides (Session session) = number_Decides session.0
name_Decides (Prompt prompt) = number_Decides prompt.0

chosen : (named spelled : Bool) (at name : ObjectName) → (if named && spelled then Some at else None) ≡ Some name → (named ≡ true) × (spelled ≡ true) × (at ≡ name)
chosen true true at name e = (refl, refl, cc)
chosen true false at name e = absurd cc
chosen false spelled at name e = absurd cc

-- a path has the name whose path it is
pub named : (path : List ℕ) (name : ObjectName) → IsPathOf name path → name_of_path path ≡ Some name
unfolding name_of_path
named path name is =
    let at : name_at path ≡ name = ap name_at is.spelled ∙ name_back name is.named in
    let right : is_name (name_at path) ≡ true = ap is_name at ∙ (name_Decides name).1 is.named in
    let spelled : bytes_eq (path_text (name_at path)) path ≡ true = (bytes_decides (path_text (name_at path)) path).1 (ap path_text at ∙ sym is.spelled) in
    rw (right, spelled) (ap Some at)

-- and that name alone
pub is_named : (path : List ℕ) (name : ObjectName) → name_of_path path ≡ Some name → IsPathOf name path
unfolding name_of_path
is_named path name e =
    let found = chosen (is_name (name_at path)) (bytes_eq (path_text (name_at path)) path) (name_at path) name e in
    rw (sym found.2) record {
      named = (name_Decides (name_at path)).0 found.0;
      spelled = sym ((bytes_decides (path_text (name_at path)) path).0 found.1);
    }

none : (path : List ℕ) (found : Option ObjectName) → name_of_path path ≡ found → ((name : ObjectName) → IsPathOf name path → ⊥) → None ≡ found
none path None e never = refl
none path (Some name) e never = absurd (never name (is_named path name e))

-- what was read from a path is its name
pub reads_name : (path : List ℕ) (answer : Option ObjectName) → Reads (λ name. IsPathOf name path) answer → answer ≡ name_of_path path
reads_name path None never = none path (name_of_path path) refl never
reads_name path (Some name) is = sym (named path name is)
