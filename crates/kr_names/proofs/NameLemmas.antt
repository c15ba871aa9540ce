-- Names: a path belongs to one name at most.
use Rattle.std.proofs.Common.{◌≡◌, ◌≢◌, ℕ, ◌^◌, ◌<◌, true, false, eqb, List, [], ◌∷◌, ◌++◌, get_or, Some, None, nat_lt, refl, sym, ◌∙◌, ap, subst, arith}
use Rattle.std.specs.Prelude.{decimal}
use Rattle.std.specs.List.{All, list_all}
use Rattle.std.specs.Str.Parse.{digits_value}
use Rattle.std.proofs.lemmas.Bool.Decides.{nat_tests}
use Rattle.std.proofs.lemmas.Fmt.{decimal_is_IsNumeral}
use Rattle.std.proofs.lemmas.Str.Parse.{digit_at}
use Rattle.std.proofs.lemmas.List.Sums.{AllPass-from_list_all}
use Rattle.std.proofs.lemmas.List.Elements.{All-head, All-tail, All-cons, All-append, All-contains, All-from_get_or}
use Rattle.kr_names.specs.Escape.{escaped, unescaped}
use Rattle.kr_base.specs.Text.{HasZero}
use Rattle.kr_base.specs.Stem.{IsStem}
use Rattle.kr_names.specs.Naming.{halves, stored, name_at}
use Rattle.kr_names.specs.Path.{service, agent, collections, aliases, sessions, prompts, path_text, IsName, IsPathOf, IsNumbered, IsNoWhole}
use Rattle.kr_base.specs.declared.ids.ItemId.{ItemId}
use Rattle.kr_names.specs.declared.object_name.ObjectName.{ObjectName}
use Rattle.kr_names.specs.declared.object_name.ObjectName.TheVariants.{Nothing, Service, Agent, Collection, Item, Alias, Session, Prompt}
use Rattle.kr_names.proofs.TextLemmas.{bytes_fit}
use Rattle.kr_names.proofs.EscapeLemmas.{IsPathByte, unescaped_escaped, escaped_spelled, path_bytes_plain, path_byte_no_slash}

halves-none : (xs : List ℕ) → All (λ byte. byte ≢ 47) xs → halves xs ≡ None
halves-none [] none = refl
halves-none (c ∷ cs) none =
    let rest = halves-none cs (All-tail (λ byte. byte ≢ 47) c cs none) in
    let other : eqb c 47 ≡ false = (let off = All-head (λ byte. byte ≢ 47) c cs none in grind (arith, nat_tests)) in
    rw (other, rest) refl

halves-append : (xs ys : List ℕ) → All (λ byte. byte ≢ 47) xs → halves (xs ++ 47 ∷ ys) ≡ Some (xs, ys)
halves-append [] ys none = refl
halves-append (c ∷ cs) ys none =
    let rest = halves-append cs ys (All-tail (λ byte. byte ≢ 47) c cs none) in
    let other : eqb c 47 ≡ false = (let off = All-head (λ byte. byte ≢ 47) c cs none in grind (arith, nat_tests)) in
    rw (other, rest) refl

no_slash : (stem : List ℕ) → IsStem stem → All (λ byte. byte ≢ 47) (escaped stem)
no_slash stem is = λ k d lt. path_byte_no_slash (get_or (escaped stem) k d) (escaped_spelled stem (bytes_fit stem is.text.utf8) k d lt)

stem_back : (stem : List ℕ) → IsStem stem → unescaped (escaped stem) ≡ stem
stem_back stem is = unescaped_escaped stem (bytes_fit stem is.text.utf8)

pub name_back : (name : ObjectName) → IsName name → name_at (path_text name) ≡ name
unfolding service agent collections aliases sessions prompts
name_back Nothing is = refl
name_back Service is = refl
name_back Agent is = refl
name_back (Collection stem) is =
    ap (stored (escaped stem)) (halves-none (escaped stem) (no_slash stem is)) ∙ ap Collection (stem_back stem is)
name_back (Item stem item) is =
    ap (stored (escaped stem ++ 47 ∷ decimal item.0)) (halves-append (escaped stem) (decimal item.0) (no_slash stem is.0))
    ∙ ap (λ s. Item s (record { 0 = digits_value 10 (decimal item.0) })) (stem_back stem is.0)
    ∙ ap (λ n. Item stem (record { 0 = n })) (decimal_is_IsNumeral item.0 (omega (arith, is.1))).1
name_back (Alias name) is = refl
name_back (Session id) is = ap (λ n. Session (record { 0 = n })) (decimal_is_IsNumeral id.0 is.1).1
name_back (Prompt id) is = ap (λ n. Prompt (record { 0 = n })) (decimal_is_IsNumeral id.0 is.1).1

-- two names with one path are one name
pub one_name : (one other : ObjectName) (path : List ℕ) → IsPathOf one path → IsPathOf other path → one ≡ other
one_name one other path p q = sym (name_back one p.named) ∙ ap name_at (sym p.spelled ∙ q.spelled) ∙ name_back other q.named

-- a path that has none of the forms
pub record IsNoName (path : List ℕ) : Type 0 where
  pub no_whole : IsNoWhole path
  pub no_session : (n : ℕ) → IsNumbered sessions path n → ⊥
  pub no_prompt : (n : ℕ) → IsNumbered prompts path n → ⊥
  pub no_alias : (alias : List ℕ) → IsPathOf (Alias alias) path → ⊥
  pub no_item : (it : List ℕ × ItemId) → IsPathOf (Item it.0 it.1) path → ⊥
  pub no_collection : (stem : List ℕ) → IsPathOf (Collection stem) path → ⊥

pub no_name : (path : List ℕ) → IsNoName path → (name : ObjectName) → IsPathOf name path → ⊥
no_name path none Nothing is = none.no_whole.not_nothing is.spelled
no_name path none Service is = none.no_whole.not_service is.spelled
no_name path none Agent is = none.no_whole.not_agent is.spelled
no_name path none (Collection stem) is = none.no_collection stem is
no_name path none (Item stem item) is = none.no_item (stem, item) is
no_name path none (Alias alias) is = none.no_alias alias is
no_name path none (Session id) is = none.no_session id.0 (record { some = is.named.0; fits = is.named.1; spelled = is.spelled })
no_name path none (Prompt id) is = none.no_prompt id.0 (record { some = is.named.0; fits = is.named.1; spelled = is.spelled })

pub session_read : (path : List ℕ) (n : ℕ) → IsNumbered sessions path n → IsPathOf (Session (record { 0 = n })) path
session_read path n is = record { named = (is.some, is.fits); spelled = is.spelled }

pub prompt_read : (path : List ℕ) (n : ℕ) → IsNumbered prompts path n → IsPathOf (Prompt (record { 0 = n })) path
prompt_read path n is = record { named = (is.some, is.fits); spelled = is.spelled }

-- a path contains no zero byte
abbrev IsSome8 : ℕ → Type 0
IsSome8 byte = 0 < byte

decimal_some : (n : ℕ) → n < 2 ^ 64 → All IsSome8 (decimal n)
decimal_some n fits = All-from_get_or IsSome8 (decimal n) 0 (λ i lt. (let digit = digit_at (decimal n) i (decimal_is_IsNumeral n fits).0.1 lt in omega (arith, digit.0)))

spelled_some : (bytes : List ℕ) → All IsPathByte bytes → All IsSome8 bytes
spelled_some bytes all = λ k d lt. (path_bytes_plain bytes all k d lt).0

stem_some : (stem : List ℕ) → IsStem stem → All IsSome8 (escaped stem)
stem_some stem is = spelled_some (escaped stem) (escaped_spelled stem (bytes_fit stem is.text.utf8))

literal_some : (bytes : List ℕ) → list_all (λ byte. nat_lt 0 byte) bytes ≡ true → All IsSome8 bytes
literal_some bytes test = λ k d lt. (let passed = AllPass-from_list_all (λ byte. nat_lt 0 byte) bytes test k d lt in grind (arith, nat_tests))

path_some : (name : ObjectName) → IsName name → All IsSome8 (path_text name)
unfolding service agent collections aliases sessions prompts
path_some Nothing is = literal_some (47 ∷ []) refl
path_some Service is = literal_some service refl
path_some Agent is = literal_some agent refl
path_some (Collection stem) is = All-append IsSome8 collections (escaped stem) (literal_some collections refl) (stem_some stem is)
path_some (Item stem item) is =
    All-append IsSome8 collections (escaped stem ++ 47 ∷ decimal item.0) (literal_some collections refl)
    (All-append IsSome8 (escaped stem) (47 ∷ decimal item.0) (stem_some stem is.0) (All-cons IsSome8 47 (decimal item.0) (omega arith) (decimal_some item.0 (omega (arith, is.1)))))
path_some (Alias name) is = All-append IsSome8 aliases name (literal_some aliases refl) (spelled_some name is.bytes)
path_some (Session id) is = All-append IsSome8 sessions (decimal id.0) (literal_some sessions refl) (decimal_some id.0 is.1)
path_some (Prompt id) is = All-append IsSome8 prompts (decimal id.0) (literal_some prompts refl) (decimal_some id.0 is.1)

pub path_no_zero : (path : List ℕ) (name : ObjectName) → IsPathOf name path → HasZero path → ⊥
path_no_zero path name is zero = omega (arith, All-contains IsSome8 (path_text name) 0 (path_some name is.named) (subst HasZero is.spelled zero))
